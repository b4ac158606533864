-- A text is refused exactly where its first lines are.
use Rattle.std.proofs.Common.{◌≡◌, ℕ, zero, suc, ◌+◌, ◌≤◌, ◌<◌, Bool, true, false, cond, not, [], ◌∷◌, refl, sym, ◌∙◌, ap, subst, inl, inr, ◌⊎◌, arith, add-zero, le-leb}
use Rattle.std.proofs.lemmas.Bool.{cond_both}
use Rattle.plain_model.specs.Paths.{Bytes}
use Rattle.plain_model.specs.Parts.{is_lf}
use Rattle.line_automaton.specs.Machine.{Automaton, Machine, feed, run, closed, verdict, begun, outcome_from, outcome, all, up_to, through, HaveSameLines, IsCleanThrough, Refused}
use Rattle.line_automaton.specs.Machine.Mode.{InLine, InBlock, After, InDelimited, Ended}
use Rattle.line_automaton.specs.Machine.Machine.{At, Stopped}
use Rattle.line_automaton.specs.Machine.Outcome.{Reads, Refuses, Misses}
use Rattle.line_automaton.proofs.Runs.{MayBeInside, MayBeBetween, HasFlag, run_append, stays, feed_inside, feed_between, closed_between, put_after}
use Rattle.line_automaton.proofs.Numbers.{AtMost, AtLeast, IsStopped, feed_least, run_least, closed_least, feed_lf_most, feed_lf_least, feed_most, alike_below}
use Rattle.line_automaton.proofs.FirstLines.{has_lines, inside_after, in_parts, first_lines_end}

module _ {State Why : Type 0} (a : Automaton State Why) where
  -- ---- after the first lines

  -- the flag tells whether a line has begun
  pub run_flag : (j : ℕ → Bool) (inside : Bool) (m : Machine State Why) (xs : Bytes) → HasFlag inside m → HasFlag (inside_after inside xs) (run a j m xs)
  run_flag j inside m [] h = h
  run_flag j inside m (x ∷ xs) h = run_flag j (not (is_lf x)) (feed a j m x) xs (go (is_lf x) refl)
    where
      go : (t : Bool) → is_lf x ≡ t → HasFlag (not t) (feed a j m x)
      go true e = feed_between a j m x e
      go false e = feed_inside a j m x e

  pub run_ended : (j : ℕ → Bool) (inside : Bool) (m : Machine State Why) (xs : Bytes) → HasFlag inside m → inside_after inside xs ≡ false → MayBeBetween (run a j m xs)
  run_ended j inside m xs h e = subst (λ t. HasFlag t (run a j m xs)) e (run_flag j inside m xs h)

  run_begun : (j : ℕ → Bool) (inside : Bool) (m : Machine State Why) (xs : Bytes) → HasFlag inside m → inside_after inside xs ≡ true → MayBeInside (run a j m xs)
  run_begun j inside m xs h e = subst (λ t. HasFlag t (run a j m xs)) e (run_flag j inside m xs h)

  pub first_lines_between : (j : ℕ → Bool) (n : ℕ) (xs : Bytes) → MayBeBetween (run a j (begun a) (through false n xs))
  first_lines_between j n xs = run_ended j false (begun a) (through false n xs) tt (first_lines_end false n xs (λ e. absurd cc))

  -- so many lines more at most
  pub first_lines_most : (j : ℕ → Bool) (inside : Bool) (n k : ℕ) (m : Machine State Why) (xs : Bytes) → AtMost k m → AtMost (k + n) (run a j m (through inside n xs))
  first_lines_most j inside zero k m xs h = rw add-zero h
  first_lines_most j false (suc n) k m [] h = later k (k + suc n) m (omega arith) h
    where
      later : (k l : ℕ) (m : Machine State Why) → k ≤ l → AtMost k m → AtMost l m
      later k l (At n mode s) h g = omega arith
      later k l (Stopped n why) h g = omega arith
  first_lines_most j true (suc n) k m [] h = later (suc k) (k + suc n) (feed a j m 10) (omega arith) (feed_lf_most a j k m 10 refl h)
    where
      later : (k l : ℕ) (m : Machine State Why) → k ≤ l → AtMost k m → AtMost l m
      later k l (At n mode s) h g = omega arith
      later k l (Stopped n why) h g = omega arith
  first_lines_most j inside (suc n) k m (x ∷ xs) h =
      let fed = feed a j m x in
      let one_more : suc k + n ≡ k + suc n = omega arith in
      cond_both (is_lf x) (through false n xs) (through true (suc n) xs) (λ (ys : Bytes). AtMost (k + suc n) (run a j fed ys))
      (λ e. subst (λ i. AtMost i (run a j fed (through false n xs))) one_more (first_lines_most j false n (suc k) fed xs (feed_lf_most a j k m x e h)))
      (λ e. first_lines_most j true (suc n) k fed xs (feed_most a j k m x e h))

  -- so many lines more, where the text has them
  pub first_lines_least : (j : ℕ → Bool) (inside : Bool) (n k : ℕ) (m : Machine State Why) (xs : Bytes) → has_lines inside n xs ≡ true → AtLeast k m
      → AtLeast (k + n) (run a j m (through inside n xs)) ⊎ IsStopped (run a j m (through inside n xs))
  first_lines_least j inside zero k m xs h g = inl (rw add-zero g)
  first_lines_least j false (suc n) k m [] h g = absurd cc
  first_lines_least j true (suc zero) k m [] h g =
      let e : suc k ≡ k + suc zero = omega arith in
      subst (λ i. AtLeast i (feed a j m 10) ⊎ IsStopped (feed a j m 10)) e (feed_lf_least a j k m 10 refl g)
  first_lines_least j true (suc (suc n)) k m [] h g = absurd cc
  first_lines_least j inside (suc n) k m (x ∷ xs) h g =
      go (is_lf x) refl h
      (λ e i. after (feed_lf_least a j k m x e g) (λ l. first_lines_least j false n (suc k) fed xs i l))
      (λ e i. first_lines_least j true (suc n) k fed xs i (feed_least a j k m x g))
    where
      fed : Machine State Why
      fed = feed a j m x

      Late : Bytes → Type 0
      Late ys = AtLeast (k + suc n) (run a j fed ys) ⊎ IsStopped (run a j fed ys)

      after : AtLeast (suc k) fed ⊎ IsStopped fed
          → (AtLeast (suc k) fed → AtLeast (suc k + n) (run a j fed (through false n xs)) ⊎ IsStopped (run a j fed (through false n xs)))
          → Late (through false n xs)
      after (inl p) f = let e : suc k + n ≡ k + suc n = omega arith in subst (λ i. AtLeast i (run a j fed (through false n xs)) ⊎ IsStopped (run a j fed (through false n xs))) e (f p)
      after (inr p) f = inr (p.0, p.1, ap (λ q. run a j q (through false n xs)) p.2 ∙ stays a j p.0 p.1 (through false n xs))

      go : (t : Bool) → is_lf x ≡ t → cond t (has_lines false n xs) (has_lines true (suc n) xs) ≡ true
          → (is_lf x ≡ true → has_lines false n xs ≡ true → Late (through false n xs))
          → (is_lf x ≡ false → has_lines true (suc n) xs ≡ true → Late (through true (suc n) xs))
          → Late (cond t (through false n xs) (through true (suc n) xs))
      go true e h p q = p e h
      go false e h p q = q e h

  -- ---- refusals

  -- only a machine that has stopped refuses
  pub verdict_refuses : (m : Machine State Why) (n : ℕ) (why : Why) → verdict a m ≡ Refuses n why → m ≡ Stopped n why
  verdict_refuses (Stopped k w) n why h = cc
  verdict_refuses (At k (InLine text) s) n why h = absurd (reads_or_misses k s (a.is_expected s) n why h)
    where
      reads_or_misses : (k : ℕ) (s : State) (t : Bool) (n : ℕ) (why : Why) → cond t (Misses k) (Reads s) ≡ Refuses n why → ⊥
      reads_or_misses k s true n why h = absurd cc
      reads_or_misses k s false n why h = absurd cc
  verdict_refuses (At k (InBlock from l bytes) s) n why h = absurd cc
  verdict_refuses (At k (After inside) s) n why h = absurd (reads_or_misses (cond inside (k + 1) k) s (a.is_expected s) n why h)
    where
      reads_or_misses : (k : ℕ) (s : State) (t : Bool) (n : ℕ) (why : Why) → cond t (Misses k) (Reads s) ≡ Refuses n why → ⊥
      reads_or_misses k s true n why h = absurd cc
      reads_or_misses k s false n why h = absurd cc
  verdict_refuses (At k (InDelimited from d bytes text) s) n why h = absurd cc
  verdict_refuses (At k Ended s) n why h = absurd cc

  -- What the first lines refuse the text refuses.
  pub refused_outcome : (j : ℕ → Bool) (x : Bytes) (n k : ℕ) (why : Why) → run a j (begun a) (through false n x) ≡ Stopped k why → outcome a j x ≡ Refuses k why
  refused_outcome j x n k why h = elim (in_parts false n x) [
    | inl short ↦ answers (ap (run a j (begun a)) (sym short.0) ∙ h)
    | inr (inl there) ↦ answers (
        ap (run a j (begun a)) there.1 ∙ run_append a j (begun a) (through false n x) there.0
        ∙ ap (λ m. run a j m there.0) h ∙ stays a j k why there.0)
    | inr (inr misses) ↦ with_lf (put_after a j (run a j (begun a) x) (run_begun j false (begun a) x tt misses.1))
        (sym (run_append a j (begun a) x (10 ∷ [])) ∙ ap (run a j (begun a)) (sym misses.0) ∙ h)
  ]
    where
      answers : run a j (begun a) x ≡ Stopped k why → outcome a j x ≡ Refuses k why
      answers e = ap (λ m. verdict a (closed a j m)) e

      with_lf : (let m = run a j (begun a) x in
          ((outcome_from a j m [] ≡ outcome_from a j m (10 ∷ []))
          ⊎ ((from : ℕ) × (outcome_from a j m [] ≡ Misses from) × ((n : ℕ) (why : Why) → feed a j m 10 ≡ Stopped n why → ⊥))))
          → feed a j (run a j (begun a) x) 10 ≡ Stopped k why → outcome a j x ≡ Refuses k why
      with_lf (inl same) e = same ∙ ap (λ m. verdict a (closed a j m)) e
      with_lf (inr block) e = absurd (block.2 k why e)

  -- A line that the text refuses is refused by the lines through it.
  pub outcome_refused : (j : ℕ → Bool) (x : Bytes) (n : ℕ) (why : Why) → outcome a j x ≡ Refuses n why → run a j (begun a) (through false n x) ≡ Stopped n why
  outcome_refused j x n why h = elim (in_parts false n x) [
    | inl short ↦ ended (ap (run a j (begun a)) short.0 ∙ sym (closed_between a j (run a j (begun a) x) (run_ended j false (begun a) x tt short.1))) h
    | inr (inl there) ↦ through_it there.0
        (ap (run a j (begun a)) there.1 ∙ run_append a j (begun a) (through false n x) there.0)
        (first_lines_least j false n 1 (begun a) x there.2 (omega arith))
    | inr (inr misses) ↦ with_lf (put_after a j (run a j (begun a) x) (run_begun j false (begun a) x tt misses.1))
        (ap (run a j (begun a)) misses.0 ∙ run_append a j (begun a) x (10 ∷ []))
  ]
    where
      first : Machine State Why
      first = run a j (begun a) (through false n x)

      ended : first ≡ closed a j (run a j (begun a) x) → outcome a j x ≡ Refuses n why → first ≡ Stopped n why
      ended e f = e ∙ verdict_refuses (closed a j (run a j (begun a) x)) n why f

      through_it : (rest : Bytes) → run a j (begun a) x ≡ run a j first rest → AtLeast (1 + n) first ⊎ IsStopped first → first ≡ Stopped n why
      through_it rest e (inl late) =
          let m = closed a j (run a j first rest) in
          let stop : m ≡ Stopped n why = verdict_refuses m n why (ap (λ q. verdict a (closed a j q)) (sym e) ∙ h) in
          let far : AtLeast (1 + n) m = closed_least a j (1 + n) (run a j first rest) (run_least a j (1 + n) first rest late) in
          let no : 1 + n ≤ n = subst (AtLeast (1 + n)) stop far in
          absurd (omega arith)
      through_it rest e (inr stop) =
          let same : Refuses stop.0 stop.1 ≡ Refuses n why = sym (refused_outcome j x n stop.0 stop.1 stop.2) ∙ h in
          stop.2 ∙ verdict_refuses (Stopped stop.0 stop.1) n why same

      with_lf : (let m = run a j (begun a) x in
          ((outcome_from a j m [] ≡ outcome_from a j m (10 ∷ []))
          ⊎ ((from : ℕ) × (outcome_from a j m [] ≡ Misses from) × ((n : ℕ) (why : Why) → feed a j m 10 ≡ Stopped n why → ⊥))))
          → first ≡ feed a j (run a j (begun a) x) 10 → first ≡ Stopped n why
      with_lf (inl same) e =
          let m = feed a j (run a j (begun a) x) 10 in
          let is_closed : closed a j m ≡ m = closed_between a j m (feed_between a j (run a j (begun a) x) 10 refl) in
          e ∙ sym is_closed ∙ verdict_refuses (closed a j m) n why (sym same ∙ h)
      with_lf (inr block) e = absurd (let no : Misses block.0 ≡ Refuses n why = sym block.1 ∙ h in cc)

  -- ---- texts with the same lines

  up_to_below : (n k : ℕ) → k < suc n → up_to n k ≡ true
  up_to_below n k h = le-leb k n (omega arith)

  -- the lines through n are judged alike
  pub judged_through : (n : ℕ) (x : Bytes) → run a (up_to n) (begun a) (through false n x) ≡ run a all (begun a) (through false n x)
  judged_through n x = alike_below a (up_to n) all (suc n) (up_to_below n) false n 1 (begun a) x (omega arith) (omega arith)

  -- Where line n is refused, no text with the same lines through n is clean through n.
  pub none_is_clean : (x y : Bytes) (n : ℕ) (why : Why) → Refused a x n why → HaveSameLines n x y → IsCleanThrough a n y → ⊥
  none_is_clean x y n why h e clean =
      let there : run a (up_to n) (begun a) (through false n y) ≡ Stopped n why = judged_through n y ∙ ap (run a all (begun a)) (sym e) ∙ h in
      let no : Refuses n why ≡ Reads clean.0 = sym (refused_outcome (up_to n) y n n why there) ∙ clean.1 in
      absurd cc
