-- Fewer lines are judged: this refuses less, and changes nothing else.
use Rattle.std.proofs.Common.{◌≡◌, ℕ, pred, ◌≤◌, ◌<◌, Bool, false, inl, inr, ◌⊎◌, Ok, refl, sym, ◌∙◌, ap, arith}
use Rattle.std.proofs.lemmas.Bool.{cases_lt, cases_order, le-leb, lt-leb}
use Rattle.plain_model.specs.Paths.{Bytes}
use Rattle.line_automaton.specs.Machine.{Next, Automaton, outcome, none, up_to, IsCleanThrough, IsCleanBefore, NoneIsClean}
use Rattle.line_automaton.specs.Machine.Outcome.{Reads}
use Rattle.line_automaton.proofs.FirstLines.{same_fewer_lines}
use Rattle.line_automaton.proofs.InStep.{reads_alike}

-- states that are spelled alike, whatever was judged
module _ {State Why : Type 0} (a : Automaton State Why) (AreSpelledAlike : State → State → Type 0)
    (alike_itself : (s : State) → AreSpelledAlike s s)
    (alike_step : (judge : Bool) (s t : State) (line : Bytes) (new : State) (next : Next) → AreSpelledAlike s t → a.step judge s line ≡ Ok (new, next)
    → (other : State) × (a.step false t line ≡ Ok (other, next)) × AreSpelledAlike new other)
    (alike_arrived : (s t : State) (bytes : Bytes) → AreSpelledAlike s t → AreSpelledAlike (a.arrived s bytes) (a.arrived t bytes))
    (alike_expected : (s t : State) → AreSpelledAlike s t → a.is_expected s ≡ a.is_expected t) where
  -- What is read, whichever lines are judged, is read where none is.
  pub is_spelled : (j : ℕ → Bool) (x : Bytes) (s : State) → outcome a j x ≡ Reads s → (t : State) × (outcome a none x ≡ Reads t) × AreSpelledAlike s t
  is_spelled j x s h =
      let r = reads_alike a a j none (λ n. AreSpelledAlike) (alike_itself a.start) (λ n. alike_step (j n)) (λ n. alike_arrived) (λ n. alike_expected) (λ n s t e. e) x s h in
      (r.1, r.2, r.3)

  -- ---- the lines through k are judged, and of a text that is read only those through n, before k

  module _ (k n : ℕ) (fewer : n ≤ k) where
    -- the states are one as long as both judge
    abbrev AreOne : ℕ → State → State → Type 0
    AreOne at s t = (at ≤ n → s ≡ t) × AreSpelledAlike s t

    one_step : (at : ℕ) (s t : State) (line : Bytes) (new : State) (next : Next) → AreOne at s t → a.step (up_to k at) s line ≡ Ok (new, next)
        → (other : State) × (a.step (up_to n at) t line ≡ Ok (other, next)) × AreOne at new other
    one_step at s t line new next h e = go (cases_lt n at)
      where
        go : (n < at) ⊎ (at ≤ n) → (other : State) × (a.step (up_to n at) t line ≡ Ok (other, next)) × AreOne at new other
        go (inl late) =
            let r = alike_step (up_to k at) s t line new next h.1 e in
            (r.0, ap (λ judge. a.step judge t line) (lt-leb at n late) ∙ r.1, ((λ early. absurd (omega arith)), r.2))
        go (inr early) =
            let judged : up_to n at ≡ up_to k at = le-leb at n early ∙ sym (le-leb at k (omega arith)) in
            (new, ap (λ judge. a.step judge t line) judged ∙ ap (λ q. a.step (up_to k at) q line) (sym (h.0 early)) ∙ e, ((λ _. refl), alike_itself new))

    pub fewer_judged : (x : Bytes) → IsCleanThrough a k x → IsCleanThrough a n x
    fewer_judged x clean =
        let r = reads_alike a a (up_to k) (up_to n) AreOne ((λ _. refl), alike_itself a.start) one_step
        (λ at s t bytes h. ((λ early. ap (λ q. a.arrived q bytes) (h.0 early)), alike_arrived s t bytes h.1))
        (λ at s t h. alike_expected s t h.1)
        (λ at s t h. ((λ early. h.0 (omega arith)), h.1)) x clean.0 clean.1 in
        (r.1, r.2)

  -- A text has no second line that is its first defect.
  none_later : (x : Bytes) (n m : ℕ) → NoneIsClean a x n → IsCleanBefore a x m → n < m → ⊥
  none_later x n m none before later =
      let within : n ≤ pred m = omega arith in
      none before.0 (same_fewer_lines n (pred m) x before.0 within before.1) (fewer_judged (pred m) n within before.0 before.2)

  -- The texts alone fix the line of the first defect.
  pub one_first_defect : (x : Bytes) (n m : ℕ) → IsCleanBefore a x n → NoneIsClean a x n → IsCleanBefore a x m → NoneIsClean a x m → n ≡ m
  one_first_defect x n m before_n none_n before_m none_m = elim (cases_order n m) [
    | inl same ↦ same
    | inr (inl later) ↦ absurd (none_later x n m none_n before_m later)
    | inr (inr later) ↦ absurd (none_later x m n none_m before_n later)
  ]
