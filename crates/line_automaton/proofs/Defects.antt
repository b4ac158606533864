-- The first refusal of a text is its first defect; a text that misses something ends early.
use Rattle.std.proofs.Common.{◌≡◌, ℕ, zero, suc, pred, ◌+◌, ◌≤◌, ◌<◌, Bool, true, false, cond, [], ◌∷◌, ◌++◌, Result, Ok, Err, refl, sym, ◌∙◌, ap, subst, inl, inr, arith}
use Rattle.std.specs.Prelude.{bytes_eq, ◌↔◌}
use Rattle.std.proofs.lemmas.Bool.{cases_Bool}
use Rattle.plain_model.specs.Paths.{Bytes}
use Rattle.plain_model.specs.Parts.{is_lf}
use Rattle.line_automaton.specs.Machine.{Next, Automaton, Machine, Outcome, number_past, answered, moved, feed, run, verdict, begun, outcome_from, outcome, all, through, Stops, EndsEarly, Completes}
use Rattle.line_automaton.specs.Machine.Next.{More, Block, Until, Over}
use Rattle.line_automaton.specs.Machine.Mode.{InLine, InBlock, After, InDelimited, Ended}
use Rattle.line_automaton.specs.Machine.Machine.{At, Stopped}
use Rattle.line_automaton.specs.Machine.Outcome.{Reads, Refuses, Misses}
use Rattle.line_automaton.proofs.Runs.{MayBeBetween, HasFlag, feed_inside, feed_between, closed_between}
use Rattle.line_automaton.proofs.Numbers.{AtMost, IsStopped, number_past_least, feed_lf_most, feed_most}
use Rattle.line_automaton.proofs.FirstLines.{has_lines, no_line_more}
use Rattle.line_automaton.proofs.Refusals.{first_lines_most, verdict_refuses, refused_outcome, outcome_refused, none_is_clean}
use Rattle.line_automaton.proofs.Completion.{completed_through}

module _ {State Why : Type 0} (a : Automaton State Why) where
  -- ---- refusals

  -- a refusal of line n is after the lines before it
  before_refusal : (x : Bytes) (n : ℕ) (why : Why) → outcome a all x ≡ Refuses (suc n) why → IsStopped (run a all (begun a) (through false n x)) → ⊥
  before_refusal x n why h (l, w, e) =
      let same : Refuses l w ≡ Refuses (suc n) why = sym (refused_outcome a all x n l w e) ∙ h in
      let stop : Stopped l w ≡ Stopped (suc n) why = verdict_refuses a (Stopped l w) (suc n) why same in
      let no : suc n < 1 + n = subst (λ (q : Machine State Why). AtMost (1 + n) q) (e ∙ stop) (first_lines_most a all false n 1 (begun a) x (omega arith)) in
      absurd (omega arith)

  -- The first refusal is the defect.
  pub stops_from : (ends : Completes a) (x : Bytes) (n : ℕ) (why : Why) → outcome a all x ≡ Refuses n why → Stops a x n why
  stops_from ends x zero why h = absurd (let e : begun a ≡ Stopped zero why = outcome_refused a all x zero why h in cc)
  stops_from ends x (suc n) why h =
      let entry = outcome_refused a all x (suc n) why h in
      let alive = before_refusal x n why h in
      let full : has_lines false n x ≡ true = elim (cases_Bool (has_lines false n x)) [
        | inl full ↦ full
        | inr few ↦ absurd (alive (suc n, why, ap (run a all (begun a)) (sym (no_line_more false n x few)) ∙ entry))
      ] in
      record {
        before = completed_through a ends x n full alive;
        here = λ other same clean. none_is_clean a x other (suc n) why entry same clean;
        entry = entry;
      }

  -- The defect is the first refusal.
  pub stops_to : (x : Bytes) (n : ℕ) (why : Why) → Stops a x n why → outcome a all x ≡ Refuses n why
  stops_to x n why h = refused_outcome a all x n n why h.entry

  pub stops_where_refused : (ends : Completes a) (x : Bytes) (n : ℕ) (why : Why) → Stops a x n why ↔ (outcome a all x ≡ Refuses n why)
  stops_where_refused ends x n why = (stops_to x n why, stops_from ends x n why)

  -- ---- texts that end too early

  -- the line after which a block began is no later one
  abbrev IsFromBefore : Machine State Why → Type 0
  IsFromBefore (At n (InBlock from k bytes) s) = from ≤ n
  IsFromBefore (At n (InDelimited from d bytes text) s) = from ≤ n
  IsFromBefore (At n (InLine text) s) = Unit {0}
  IsFromBefore (At n (After inside) s) = Unit {0}
  IsFromBefore (At n Ended s) = Unit {0}
  IsFromBefore (Stopped n why) = Unit {0}

  feed_from : (j : ℕ → Bool) (m : Machine State Why) (b : ℕ) → IsFromBefore m → IsFromBefore (feed a j m b)
  feed_from j (Stopped n why) b h = tt
  feed_from j (At n (InLine text) s) b h = go (is_lf b) (a.step (j n) s text)
    where
      go : (t : Bool) (r : Result (State × Next) Why) → IsFromBefore (moved a n (number_past n b) (cond t (answered a n text r) (Ok (InLine (text ++ b ∷ []), s))))
      go true (Err why) = tt
      go true (Ok (new, More)) = tt
      go true (Ok (new, Block zero)) = tt
      go true (Ok (new, Block (suc k))) = number_past_least n b
      go true (Ok (new, Until k)) = number_past_least n b
      go true (Ok (new, Over)) = tt
      go false r = tt
  feed_from j (At n (InBlock from zero bytes) s) b h = tt
  feed_from j (At n (InBlock from (suc k) bytes) s) b h = let p = number_past_least n b in omega arith
  feed_from j (At n (After inside) s) b h = tt
  feed_from j (At n (InDelimited from d bytes text) s) b h = go (is_lf b) (bytes_eq text d)
    where
      go : (t u : Bool) → IsFromBefore (moved a n (number_past n b)
          (cond t (Ok (cond u (After false, a.arrived s bytes) (InDelimited from d (bytes ++ text ++ 10 ∷ []) [], s)))
          (Ok (InDelimited from d bytes (text ++ b ∷ []), s))))
      go true true = tt
      go true false = let p = number_past_least n b in omega arith
      go false u = let p = number_past_least n b in omega arith
  feed_from j (At n Ended s) b h = tt

  -- the number where something is expected
  or_defect_number : (n l : ℕ) (s : State) (t : Bool) → ◌≡◌ {A = Outcome State Why} (cond t (Misses n) (Reads s)) (Misses l) → n ≡ l
  or_defect_number n l s true e = cc
  or_defect_number n l s false e = absurd cc

  verdict_misses : (k l : ℕ) (m : Machine State Why) → MayBeBetween m → AtMost k m → IsFromBefore m → verdict a m ≡ Misses l → l ≤ k
  verdict_misses k l (Stopped n why) f h g e = absurd cc
  verdict_misses k l (At n (InLine text) s) f h g e = let is = or_defect_number n l s (a.is_expected s) e in omega arith
  verdict_misses k l (At n (InBlock from i bytes) s) f h g e = let is : from ≡ l = cc in omega arith
  verdict_misses k l (At n (After true) s) f h g e = absurd f
  verdict_misses k l (At n (After false) s) f h g e = let is = or_defect_number n l s (a.is_expected s) e in omega arith
  verdict_misses k l (At n (InDelimited from d bytes text) s) f h g e = let is : from ≡ l = cc in omega arith
  verdict_misses k l (At n Ended s) f h g e = absurd cc

  -- where a line may have begun, its end is one line later
  closed_misses : (j : ℕ → Bool) (k l : ℕ) (m : Machine State Why) → AtMost k m → IsFromBefore m → outcome_from a j m [] ≡ Misses l → l ≤ suc k
  closed_misses j k l (Stopped n why) h g e = absurd cc
  closed_misses j k l (At n (InLine []) s) h g e = let r = verdict_misses k l (At n (InLine []) s) tt h g e in omega arith
  closed_misses j k l (At n (InLine (x ∷ xs)) s) h g e =
      let m : Machine State Why = At n (InLine (x ∷ xs)) s in
      verdict_misses (suc k) l (feed a j m 10) (feed_between a j m 10 refl) (feed_lf_most a j k m 10 refl h) (feed_from j m 10 g) e
  closed_misses j k l (At n (InBlock from i bytes) s) h g e = let is : from ≡ l = cc in omega arith
  closed_misses j k l (At n (After true) s) h g e = let is = or_defect_number (n + 1) l s (a.is_expected s) e in omega arith
  closed_misses j k l (At n (After false) s) h g e = let is = or_defect_number n l s (a.is_expected s) e in omega arith
  closed_misses j k l (At n (InDelimited from d bytes []) s) h g e = let is : from ≡ l = cc in omega arith
  closed_misses j k l (At n (InDelimited from d bytes (x ∷ xs)) s) h g e =
      let m : Machine State Why = At n (InDelimited from d bytes (x ∷ xs)) s in
      verdict_misses (suc k) l (feed a j m 10) (feed_between a j m 10 refl) (feed_lf_most a j k m 10 refl h) (feed_from j m 10 g) e
  closed_misses j k l (At n Ended s) h g e = absurd cc

  -- a text of fewer than n lines misses one of them
  misses_early : (j : ℕ → Bool) (inside : Bool) (n k l : ℕ) (m : Machine State Why) (xs : Bytes) → has_lines inside n xs ≡ false
      → HasFlag inside m → AtMost k m → IsFromBefore m → outcome_from a j m xs ≡ Misses l → l < k + n
  misses_early j inside zero k l m xs h f most from e = absurd cc
  misses_early j false (suc n) k l m [] h f most from e =
      let r = verdict_misses k l m f most from (ap (verdict a) (sym (closed_between a j m f)) ∙ e) in omega arith
  misses_early j true (suc zero) k l m [] h f most from e = absurd cc
  misses_early j true (suc (suc n)) k l m [] h f most from e = let r = closed_misses j k l m most from e in omega arith
  misses_early j inside (suc n) k l m (x ∷ xs) h f most from e =
      go (is_lf x) refl h
      (λ u i. let r = misses_early j false n (suc k) l (feed a j m x) xs i (feed_between a j m x u) (feed_lf_most a j k m x u most) (feed_from j m x from) e in omega arith)
      (λ u i. misses_early j true (suc n) k l (feed a j m x) xs i (feed_inside a j m x u) (feed_most a j k m x u most) (feed_from j m x from) e)
    where
      go : (t : Bool) → is_lf x ≡ t → cond t (has_lines false n xs) (has_lines true (suc n) xs) ≡ false
          → (is_lf x ≡ true → has_lines false n xs ≡ false → l < k + suc n)
          → (is_lf x ≡ false → has_lines true (suc n) xs ≡ false → l < k + suc n) → l < k + suc n
      go true u h p q = p u h
      go false u h p q = q u h

  has_lines_before : (x : Bytes) (n : ℕ) → outcome a all x ≡ Misses n → has_lines false (pred n) x ≡ true
  has_lines_before x zero h = refl
  has_lines_before x (suc p) h = elim (cases_Bool (has_lines false p x)) [
    | inl enough ↦ enough
    | inr few ↦ let no : suc p < 1 + p = misses_early all false p 1 (suc p) (begun a) x few tt (omega arith) tt h in absurd (omega arith)
  ]

  -- What is before an early end can be completed.
  pub ends_from : (ends : Completes a) (x : Bytes) (n : ℕ) → outcome a all x ≡ Misses n → EndsEarly a x n
  ends_from ends x n h = record {
    before = completed_through a ends x (pred n) (has_lines_before x n h) alive;
    entry = h;
  }
    where
      alive : IsStopped (run a all (begun a) (through false (pred n) x)) → ⊥
      alive (l, w, e) = let no : Refuses l w ≡ Misses n = sym (refused_outcome a all x (pred n) l w e) ∙ h in absurd cc
