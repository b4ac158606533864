-- The commits of a sound history can be numbered by their places.
use Rattle.std.proofs.Common.{◌≡◌, ℕ, suc, ◌≤◌, ◌<◌, true, false, cond, List, [], ◌∷◌, length, refl, sym, ap, subst, arith, eq-eqb, IsTrue}
use Rattle.std.specs.Prelude.{◌||◌, ◌==◌, if◌then◌else◌}
use Rattle.std.specs.List.{AllByRecursion}
use Rattle.std.proofs.lemmas.Bool.{cond-true, cond-false}
use Rattle.std.proofs.lemmas.List.{reverse-reverse}
use Rattle.plain_model.specs.declared.event.PlainEvent.{PlainEvent}
use Rattle.plain_model.specs.Histories.{Node, Past, past, nodes, knows, IsLinkedPast}
use Rattle.plain_model.specs.Soundness.{IsSound}
use Rattle.edit_laws.specs.Parts.{CanBeNumbered, IsAbove}
use Rattle.ancestry_laws.proofs.Pasts.{linked_past}
use Rattle.edit_laws.proofs.Trees.{known_later, not_fresh}
use Rattle.history_laws.proofs.Lists.{all_reverse}

-- how many commits there are up to one
abbrev pub height : Past → ℕ → ℕ
height [] c = 0
height (n ∷ older) c = if n.id == c then suc (length older) else height older c

height_other : (n : Node) (older : Past) (c : ℕ) → (n.id == c) ≡ false → height (n ∷ older) c ≡ height older c
height_other n older c other = cond-false (n.id == c) (suc (length older)) (height older c) other

height_own : (n : Node) (older : Past) → height (n ∷ older) n.id ≡ suc (length older)
height_own n older = cond-true (n.id == n.id) (suc (length older)) (height older n.id) (eq-eqb n.id n.id refl)

low : (older : Past) (c : ℕ) → height older c ≤ length older
low [] c = omega arith
low (n ∷ older) c =
    let rest = low older c in
    elim (n.id == c) as (λ b. cond b (suc (length older)) (height older c) ≤ suc (length older)) [ true ↦ omega arith | false ↦ omega arith ]

pub above : (a : Past) → IsLinkedPast a → AllByRecursion (IsAbove (height a)) a
above [] s = tt
above (n ∷ older) s =
    let further : (p : ℕ) → knows older p ≡ true → height (n ∷ older) p ≡ height older p = λ p k. height_other n older p (not_fresh n older p s.0 k) in
    (own n.parents s.1 further, each older (above older s.2) s.2 further)
  where
    own : (ps : List ℕ) → AllByRecursion (λ p. IsTrue (knows older p)) ps →
        ((p : ℕ) → knows older p ≡ true → height (n ∷ older) p ≡ height older p) →
        AllByRecursion (λ p. height (n ∷ older) p < height (n ∷ older) n.id) ps
    own [] k further = tt
    own (p ∷ ps) k further =
        let same = further p k.0 in
        let its = height_own n older in
        let below = low older p in
        (subst (λ h. h < height (n ∷ older) n.id) (sym same) (subst (λ h. height older p < h) (sym its) (omega arith)), own ps k.1 further)

    moved : (ms : Past) (m : Node) → ((p : ℕ) → knows ms p ≡ true → height (n ∷ older) p ≡ height older p) →
        height (n ∷ older) m.id ≡ height older m.id → (ps : List ℕ) → AllByRecursion (λ p. IsTrue (knows ms p)) ps →
        AllByRecursion (λ p. height older p < height older m.id) ps
        → AllByRecursion (λ p. height (n ∷ older) p < height (n ∷ older) m.id) ps
    moved ms m further same [] k a = tt
    moved ms m further same (p ∷ ps) k a =
        (subst (λ h. h < height (n ∷ older) m.id) (sym (further p k.0)) (subst (λ h. height older p < h) (sym same) a.0), moved ms m further same ps k.1 a.1)

    each : (ms : Past) → AllByRecursion (IsAbove (height older)) ms → IsLinkedPast ms →
        ((p : ℕ) → knows ms p ≡ true → height (n ∷ older) p ≡ height older p) →
        AllByRecursion (IsAbove (height (n ∷ older))) ms
    each [] a t further = tt
    each (m ∷ ms) a t further = (
      moved ms m (λ p x. further p (known_later m ms p x)) (further m.id (ap (λ b. b || knows ms m.id) (eq-eqb m.id m.id refl))) m.parents t.1 a.0,
      each ms a.1 t.2 (λ p x. further p (known_later m ms p x)),
    )

pub sound_numbered : (events : List PlainEvent) → IsSound events → CanBeNumbered events
sound_numbered events h = (
  height (past events),
  subst (AllByRecursion (IsAbove (height (past events)))) (reverse-reverse (nodes events))
      (all_reverse (IsAbove (height (past events))) (past events) (above (past events) (linked_past events h))),
)
