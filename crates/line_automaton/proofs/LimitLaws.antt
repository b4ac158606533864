-- What an automaton with limits says of the one without.
use Rattle.std.proofs.Common.{◌≡◌, ℕ, zero, suc, ◌+◌, ◌≤◌, ◌<◌, Bool, true, false, cond, [], ◌∷◌, ◌++◌, Option, Some, None, Result, Ok, Err, refl, sym, ◌∙◌, ap, subst, arith, eqb-true}
use Rattle.plain_model.specs.Paths.{Bytes}
use Rattle.plain_model.specs.Parts.{is_lf}
use Rattle.line_automaton.specs.Machine.{Next, Automaton, Mode, Machine, Outcome, number_past, answered, compared, moved, feed, run, begun, outcome, all, first_lines}
use Rattle.line_automaton.specs.Machine.Mode.{InLine, InBlock, After, InDelimited, Ended}
use Rattle.line_automaton.specs.Machine.Machine.{At, Stopped}
use Rattle.line_automaton.specs.Machine.Outcome.{Reads, Refuses, Misses}
use Rattle.line_automaton.specs.Limits.{Cause, within, limited_step, limited, ExceedsLimit}
use Rattle.line_automaton.specs.Limits.Cause.{Defect, Exceeds}
use Rattle.line_automaton.proofs.Runs.{run_append, stays}
use Rattle.line_automaton.proofs.FirstLines.{through_more}
use Rattle.line_automaton.proofs.Numbers.{AtMost, AtLeast, run_least}
use Rattle.line_automaton.proofs.Refusals.{first_lines_most, refused_outcome, outcome_refused}
use Rattle.line_automaton.proofs.InStep.{IsInStep, run_in_step, reads_alike, misses_alike}

-- ---- the line at which a machine stops

module _ {State Why : Type 0} (a : Automaton State Why) where
  -- A machine stops at the LF of a line whose step refuses it.
  pub record StopsAt (j : ℕ → Bool) (m : Machine State Why) (xs : Bytes) (n : ℕ) (why : Why) : Type 0 where
    pub before : Bytes
    pub line : Bytes
    pub after : Bytes
    pub state : State
    pub is_there : xs ≡ before ++ 10 ∷ after
    pub reached : run a j m before ≡ At n (InLine line) state
    pub refused : a.step (j n) state line ≡ Err why

  byte_before : (j : ℕ → Bool) (m : Machine State Why) (x : ℕ) (xs : Bytes) (n : ℕ) (why : Why) → StopsAt j (feed a j m x) xs n why → StopsAt j m (x ∷ xs) n why
  byte_before j m x xs n why s = record {
    before = x ∷ s.before;
    line = s.line;
    after = s.after;
    state = s.state;
    is_there = ap (λ (l : Bytes). x ∷ l) s.is_there;
    reached = s.reached;
    refused = s.refused;
  }

  -- the byte that stops it
  stopped_here : (j : ℕ → Bool) (k : ℕ) (mode : Mode) (s : State) (x : ℕ) (xs : Bytes) (n : ℕ) (why : Why)
      → feed a j (At k mode s) x ≡ Stopped n why → StopsAt j (At k mode s) (x ∷ xs) n why
  stopped_here j k (InLine text) s x xs n why e = go (is_lf x) refl (a.step (j k) s text) refl e
    where
      go : (t : Bool) → is_lf x ≡ t → (r : Result (State × Next) Why) → a.step (j k) s text ≡ r
          → moved a k (cond t (k + 1) k) (cond t (answered a k text r) (Ok (InLine (text ++ x ∷ []), s))) ≡ Stopped n why
          → StopsAt j (At k (InLine text) s) (x ∷ xs) n why
      go true lf (Ok made) f e = absurd cc
      go true lf (Err w) f e =
          let number : k ≡ n = cc in
          let cause : w ≡ why = cc in
          record {
            before = [];
            line = text;
            after = xs;
            state = s;
            is_there = ap (λ c. c ∷ xs) (eqb-true x 10 lf);
            reached = ap (λ l. At l (InLine text) s) number;
            refused = ap (λ l. a.step (j l) s text) (sym number) ∙ f ∙ ap (λ w. Err w) cause;
          }
      go false lf r f e = absurd cc
  stopped_here j k (InBlock from zero bytes) s x xs n why e = absurd cc
  stopped_here j k (InBlock from (suc l) bytes) s x xs n why e = absurd cc
  stopped_here j k (After inside) s x xs n why e = absurd cc
  stopped_here j k (InDelimited from d bytes text) s x xs n why e = absurd (go (is_lf x) e)
    where
      go : (t : Bool) → moved a k (number_past k x) (cond t (Ok (compared a from d bytes text s)) (Ok (InDelimited from d bytes (text ++ x ∷ []), s))) ≡ Stopped n why → ⊥
      go true e = absurd cc
      go false e = absurd cc
  stopped_here j k Ended s x xs n why e = absurd cc

  pub stops_at : (j : ℕ → Bool) (k : ℕ) (mode : Mode) (s : State) (xs : Bytes) (n : ℕ) (why : Why)
      → run a j (At k mode s) xs ≡ Stopped n why → StopsAt j (At k mode s) xs n why
  stops_at j k mode s [] n why e = absurd cc
  stops_at j k mode s (x ∷ xs) n why e = go (feed a j (At k mode s) x) refl e (λ l other t. stops_at j l other t xs n why)
    where
      go : (m : Machine State Why) → feed a j (At k mode s) x ≡ m → run a j m xs ≡ Stopped n why
          → ((l : ℕ) (other : Mode) (t : State) → run a j (At l other t) xs ≡ Stopped n why → StopsAt j (At l other t) xs n why)
          → StopsAt j (At k mode s) (x ∷ xs) n why
      go (Stopped l w) f e more = stopped_here j k mode s x xs n why (f ∙ sym (stays a j l w xs) ∙ e)
      go (At l other t) f e more = byte_before j (At k mode s) x xs n why (subst (λ m. StopsAt j m xs n why) (sym f) (more l other t e))

  -- what the bytes after a line do is up to its step
  pub run_line : (j : ℕ → Bool) (before line after : Bytes) (n : ℕ) (s : State) → run a j (begun a) before ≡ At n (InLine line) s
      → run a j (begun a) (before ++ 10 ∷ after) ≡ run a j (moved a n (n + 1) (answered a n line (a.step (j n) s line))) after
  run_line j before line after n s e =
      run_append a j (begun a) before (10 ∷ after) ∙ ap (λ m. run a j m (10 ∷ after)) e

-- ---- limits

module _ {State Why Limit : Type 0} (a : Automaton State Why) (passed : Bytes → State → Option Limit) where
  -- ---- steps

  made_or : State × Next → Result (State × Next) (Cause Why Limit) → State × Next
  made_or other (Ok made) = made
  made_or other (Err cause) = other

  -- what is made within the limits is made without
  step_made : (line : Bytes) (new : State) (next : Next) (r : Result (State × Next) Why) → limited_step a passed line r ≡ Ok (new, next) → r ≡ Ok (new, next)
  unfolding made_or
  step_made line new next (Err why) e = absurd cc
  step_made line new next (Ok made) e = go (passed line made.0) e
    where
      go : (o : Option Limit) → within a passed made o ≡ Ok (new, next) → ◌≡◌ {A = Result (State × Next) Why} (Ok made) (Ok (new, next))
      go None e = ap (λ m. Ok m) (ap (made_or made) e)
      go (Some limit) e = absurd cc

  -- a defect is one without limits
  step_refused : (line : Bytes) (why : Why) (r : Result (State × Next) Why) → limited_step a passed line r ≡ Err (Defect why) → r ≡ Err why
  step_refused line why (Err w) e = let same : w ≡ why = cc in ap (λ w. Err w) same
  step_refused line why (Ok made) e = absurd (go (passed line made.0) e)
    where
      go : (o : Option Limit) → within a passed made o ≡ Err (Defect why) → ⊥
      go None e = absurd cc
      go (Some limit) e = absurd cc

  -- a limit is passed by a step that is made without
  step_passed : (line : Bytes) (limit : Limit) (r : Result (State × Next) Why) → limited_step a passed line r ≡ Err (Exceeds limit)
      → (new : State) × (next : Next) × (r ≡ Ok (new, next)) × (passed line new ≡ Some limit)
  step_passed line limit (Err w) e = absurd cc
  step_passed line limit (Ok made) e = (made.0, made.1, refl, go (passed line made.0) e)
    where
      go : (o : Option Limit) → within a passed made o ≡ Err (Exceeds limit) → o ≡ Some limit
      go None e = absurd cc
      go (Some l) e = let same : l ≡ limit = cc in ap (λ l. Some l) same

  twin_step : (j : ℕ → Bool) (n : ℕ) (s t : State) (line : Bytes) (new : State) (next : Next) → s ≡ t
      → limited_step a passed line (a.step (j n) s line) ≡ Ok (new, next) → (other : State) × (a.step (j n) t line ≡ Ok (other, next)) × (new ≡ other)
  twin_step j n s t line new next same e =
      (new, ap (λ q. a.step (j n) q line) (sym same) ∙ step_made line new next (a.step (j n) s line) e, refl)

  -- ---- texts

  -- both are in one state
  abbrev Same : ℕ → State → State → Type 0
  Same n s t = s ≡ t

  arrived_alike : (n : ℕ) (s t : State) (bytes : Bytes) → s ≡ t → a.arrived s bytes ≡ a.arrived t bytes
  arrived_alike n s t bytes e = ap (λ q. a.arrived q bytes) e

  expected_alike : (n : ℕ) (s t : State) → s ≡ t → a.is_expected s ≡ a.is_expected t
  expected_alike n s t e = ap a.is_expected e

  same_later : (n : ℕ) (s t : State) → s ≡ t → s ≡ t
  same_later n s t e = e

  abbrev within_limits : Automaton State (Cause Why Limit)
  within_limits = limited a passed

  -- what is read within the limits is read without
  pub limited_reads : (j : ℕ → Bool) (x : Bytes) (s : State) → outcome within_limits j x ≡ Reads s → outcome a j x ≡ Reads s
  limited_reads j x s h =
      let r = reads_alike within_limits a j j Same refl (twin_step j) arrived_alike expected_alike same_later x s h in
      r.2 ∙ ap (λ q. Reads q) (sym r.3)

  -- what it misses it misses without limits
  pub limited_misses : (j : ℕ → Bool) (x : Bytes) (n : ℕ) → outcome within_limits j x ≡ Misses n → outcome a j x ≡ Misses n
  limited_misses j x n h = misses_alike within_limits a j j Same refl (twin_step j) arrived_alike expected_alike same_later x n h

  -- the run without limits is where the run within them does
  pub run_within : (j : ℕ → Bool) (xs : Bytes) (n : ℕ) (mode : Mode) (s : State) → run within_limits j (begun within_limits) xs ≡ At n mode s
      → run a j (begun a) xs ≡ At n mode s
  run_within j xs n mode s h =
      let in_step = run_in_step within_limits a j j Same refl (twin_step j) arrived_alike expected_alike same_later
      (begun within_limits) (begun a) xs (a.start, refl, refl) in
      let here = subst (λ m. IsInStep Same m (run a j (begun a) xs)) h in_step in
      here.1 ∙ ap (λ q. At n mode q) (sym here.2)

  -- a line that doesn't hold is refused without limits
  pub limited_defect : (j : ℕ → Bool) (x : Bytes) (n : ℕ) (why : Why) → outcome within_limits j x ≡ Refuses n (Defect why) → outcome a j x ≡ Refuses n why
  limited_defect j x n why h =
      let s = stops_at within_limits j 1 (InLine []) a.start (first_lines n x) n (Defect why) (outcome_refused within_limits j x n (Defect why) h) in
      let refused = step_refused s.line why (a.step (j n) s.state s.line) s.refused in
      let stops : run a j (begun a) (first_lines n x) ≡ Stopped n why =
      ap (run a j (begun a)) s.is_there
      ∙ run_line a j s.before s.line s.after n s.state (run_within j s.before n (InLine s.line) s.state s.reached)
      ∙ ap (λ r. run a j (moved a n (n + 1) (answered a n s.line r)) s.after) refused
      ∙ stays a j n why s.after in
      refused_outcome a j x n n why stops

  -- a line that passes a limit is read on without limits
  pub limited_passes : (x : Bytes) (n : ℕ) (limit : Limit) → outcome within_limits all x ≡ Refuses n (Exceeds limit) → ExceedsLimit a passed x n limit
  limited_passes x n limit h =
      let s = stops_at within_limits all 1 (InLine []) a.start (first_lines n x) n (Exceeds limit) (outcome_refused within_limits all x n (Exceeds limit) h) in
      let p = step_passed s.line limit (a.step true s.state s.line) s.refused in
      let reached = run_within all s.before n (InLine s.line) s.state s.reached in
      record {
        is_read = λ k why. read_on k why s.before s.line s.after s.state p.0 p.1 s.is_there reached p.2;
        before = s.before;
        line = s.line;
        after = s.after;
        old = s.state;
        new = p.0;
        next = p.1;
        is_there = s.is_there;
        reached = reached;
        made = p.2;
        passes = p.3;
      }
    where
      first : Machine State Why
      first = run a all (begun a) (first_lines n x)

      -- after line n no line through n is refused
      read_on : (k : ℕ) (why : Why) (before line after : Bytes) (old new : State) (next : Next) → first_lines n x ≡ before ++ 10 ∷ after
          → run a all (begun a) before ≡ At n (InLine line) old → a.step true old line ≡ Ok (new, next) → first ≡ Stopped k why → ⊥
      read_on k why before line after old new next is_there reached made stop =
          let m : Machine State Why = moved a n (n + 1) (answered a n line (Ok (new, next))) in
          let here : first ≡ run a all m after =
          ap (run a all (begun a)) is_there ∙ run_line a all before line after n old reached
          ∙ ap (λ r. run a all (moved a n (n + 1) (answered a n line r)) after) made in
          let late : AtLeast (n + 1) first = subst (λ q. AtLeast (n + 1) q) (sym here) (run_least a all (n + 1) m after (omega arith)) in
          let least : n + 1 ≤ k = subst (λ (q : Machine State Why). AtLeast (n + 1) q) stop late in
          let most : k < 1 + n = subst (λ (q : Machine State Why). AtMost (1 + n) q) stop (first_lines_most a all false n 1 (begun a) x (omega arith)) in
          absurd (omega arith)

  -- ---- the other way round

  -- no line below n passes a limit
  abbrev pub NoneBelow : Bytes → ℕ → Type 0
  NoneBelow x n = (k : ℕ) (limit : Limit) → ExceedsLimit a passed x k limit → n ≤ k

  -- where the lines through one are read, no line before it is refused
  not_refused : (x : Bytes) (n k : ℕ) (why : Why) (limit : Limit) → outcome a all x ≡ Refuses n why → n ≤ k → ExceedsLimit a passed x k limit → ⊥
  not_refused x n k why limit e low p =
      let more = through_more false n k x low in
      p.is_read n why
      (ap (run a all (begun a)) more.1 ∙ run_append a all (begun a) (first_lines n x) more.0
      ∙ ap (λ m. run a all m more.0) (outcome_refused a all x n why e) ∙ stays a all n why more.0)

  -- a line that is refused without limits is so within them, if none before it passes a limit
  pub defect_first : (x : Bytes) (n : ℕ) (why : Why) → outcome a all x ≡ Refuses n why → NoneBelow x n → outcome within_limits all x ≡ Refuses n (Defect why)
  defect_first x n why e none = go (outcome within_limits all x) refl
    where
      go : (o : Outcome State (Cause Why Limit)) → outcome within_limits all x ≡ o → outcome within_limits all x ≡ Refuses n (Defect why)
      go (Reads s) is = absurd (let same = sym (limited_reads all x s is) ∙ e in cc)
      go (Misses k) is = absurd (let same = sym (limited_misses all x k is) ∙ e in cc)
      go (Refuses k (Defect w)) is =
          let same = sym (limited_defect all x k w is) ∙ e in
          let line : k ≡ n = cc in
          let kind : w ≡ why = cc in
          is ∙ (λ i. Refuses (line i) (Defect (kind i)))
      go (Refuses k (Exceeds limit)) is =
          let p = limited_passes x k limit is in
          absurd (not_refused x n k why limit e (none k limit p) p)

  -- what a text misses it misses within limits, if no line passes one
  pub missing_first : (x : Bytes) (n : ℕ) → outcome a all x ≡ Misses n → ((k : ℕ) (limit : Limit) → ExceedsLimit a passed x k limit → ⊥) → outcome within_limits all x ≡ Misses n
  missing_first x n e none = go (outcome within_limits all x) refl
    where
      go : (o : Outcome State (Cause Why Limit)) → outcome within_limits all x ≡ o → outcome within_limits all x ≡ Misses n
      go (Reads s) is = absurd (let same = sym (limited_reads all x s is) ∙ e in cc)
      go (Refuses k (Defect w)) is = absurd (let same = sym (limited_defect all x k w is) ∙ e in cc)
      go (Refuses k (Exceeds limit)) is = absurd (none k limit (limited_passes x k limit is))
      go (Misses k) is =
          let same = sym (limited_misses all x k is) ∙ e in
          let line : k ≡ n = cc in
          is ∙ ap (λ l. Misses l) line

  -- what is read without limits is read within them, if no line passes one
  pub read_first : (x : Bytes) (s : State) → outcome a all x ≡ Reads s → ((k : ℕ) (limit : Limit) → ExceedsLimit a passed x k limit → ⊥) → outcome within_limits all x ≡ Reads s
  read_first x s e none = go (outcome within_limits all x) refl
    where
      go : (o : Outcome State (Cause Why Limit)) → outcome within_limits all x ≡ o → outcome within_limits all x ≡ Reads s
      go (Misses k) is = absurd (let same = sym (limited_misses all x k is) ∙ e in cc)
      go (Refuses k (Defect w)) is = absurd (let same = sym (limited_defect all x k w is) ∙ e in cc)
      go (Refuses k (Exceeds limit)) is = absurd (none k limit (limited_passes x k limit is))
      go (Reads t) is =
          let same = sym (limited_reads all x t is) ∙ e in
          let state : t ≡ s = cc in
          is ∙ ap (λ q. Reads q) state

  -- a refused step, by the limit that it passes
  step_passes : (line : Bytes) (new : State) (next : Next) (limit : Limit) (r : Result (State × Next) Why) → r ≡ Ok (new, next) → passed line new ≡ Some limit
      → limited_step a passed line r ≡ Err (Exceeds limit)
  step_passes line new next limit r made p = ap (limited_step a passed line) made ∙ ap (within a passed (new, next)) p

  -- the first line that passes a limit is refused for it
  pub limit_first : (x : Bytes) (n : ℕ) (limit : Limit) → ExceedsLimit a passed x n limit → NoneBelow x n → outcome within_limits all x ≡ Refuses n (Exceeds limit)
  limit_first x n limit p none = go (run within_limits all (begun within_limits) p.before) refl
    where
      whole : Machine State (Cause Why Limit)
      whole = run within_limits all (begun within_limits) (first_lines n x)

      -- no machine stops before line n
      earlier : (k : ℕ) (cause : Cause Why Limit) → run within_limits all (begun within_limits) p.before ≡ Stopped k cause → ⊥
      earlier k cause e = by_cause cause s.refused out
        where
          s : StopsAt within_limits all (begun within_limits) p.before k cause
          s = stops_at within_limits all 1 (InLine []) a.start p.before k cause e

          out : outcome within_limits all x ≡ Refuses k cause
          out = refused_outcome within_limits all x n k cause
              (ap (run within_limits all (begun within_limits)) p.is_there ∙ run_append within_limits all (begun within_limits) p.before (10 ∷ p.after)
              ∙ ap (λ m. run within_limits all m (10 ∷ p.after)) e ∙ stays within_limits all k cause (10 ∷ p.after))

          -- the run without limits after the line
          on : (r : Result (State × Next) Why) → a.step true s.state s.line ≡ r → run a all (moved a k (k + 1) (answered a k s.line r)) s.after ≡ At n (InLine p.line) p.old
          on r is =
              sym (ap (run a all (begun a)) s.is_there
              ∙ run_line a all s.before s.line s.after k s.state (run_within all s.before k (InLine s.line) s.state s.reached)
              ∙ ap (λ q. run a all (moved a k (k + 1) (answered a k s.line q)) s.after) is)
              ∙ p.reached

          by_cause : (c : Cause Why Limit) → limited_step a passed s.line (a.step true s.state s.line) ≡ Err c → outcome within_limits all x ≡ Refuses k c → ⊥
          by_cause (Defect w) refused found =
              let stopped : Stopped k w ≡ At n (InLine p.line) p.old = sym (stays a all k w s.after) ∙ on (Err w) (step_refused s.line w (a.step true s.state s.line) refused) in
              absurd cc
          by_cause (Exceeds l) refused found =
              let made = step_passed s.line l (a.step true s.state s.line) refused in
              let m : Machine State Why = moved a k (k + 1) (answered a k s.line (Ok (made.0, made.1))) in
              let late : AtLeast (k + 1) (run a all m s.after) = run_least a all (k + 1) m s.after (omega arith) in
              let least : k + 1 ≤ n = subst (λ (q : Machine State Why). AtLeast (k + 1) q) (on (Ok (made.0, made.1)) made.2) late in
              let none_lower = none k l (limited_passes x k l found) in
              absurd (omega arith)

      stop : (k : ℕ) (mode : Mode) (s : State) → run within_limits all (begun within_limits) p.before ≡ At k mode s → outcome within_limits all x ≡ Refuses n (Exceeds limit)
      stop k mode s e =
          let same = sym (run_within all p.before k mode s e) ∙ p.reached in
          let there : run within_limits all (begun within_limits) p.before ≡ At n (InLine p.line) p.old = e ∙ (let is : At k mode s ≡ At n (InLine p.line) p.old = here k mode s same in is) in
          refused_outcome within_limits all x n n (Exceeds limit)
          (ap (run within_limits all (begun within_limits)) p.is_there
          ∙ run_line within_limits all p.before p.line p.after n p.old there
          ∙ ap (λ r. run within_limits all (moved within_limits n (n + 1) (answered within_limits n p.line r)) p.after)
          (step_passes p.line p.new p.next limit (a.step true p.old p.line) p.made p.passes)
          ∙ stays within_limits all n (Exceeds limit) p.after)
        where
          here : (k : ℕ) (mode : Mode) (s : State) → ◌≡◌ {A = Machine State Why} (At k mode s) (At n (InLine p.line) p.old)
              → ◌≡◌ {A = Machine State (Cause Why Limit)} (At k mode s) (At n (InLine p.line) p.old)
          here k mode s e =
              let number : k ≡ n = cc in
              let place : mode ≡ InLine p.line = cc in
              let state : s ≡ p.old = cc in
              λ i. At (number i) (place i) (state i)

      go : (m : Machine State (Cause Why Limit)) → run within_limits all (begun within_limits) p.before ≡ m → outcome within_limits all x ≡ Refuses n (Exceeds limit)
      go (Stopped k cause) e = absurd (earlier k cause e)
      go (At k mode s) e = stop k mode s e
