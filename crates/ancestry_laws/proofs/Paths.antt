-- Descent and paths of parents.
use Rattle.std.proofs.Common.{◌≡◌, ◌∙◌, ℕ, true, false, ◌&&◌, inl, inr, List, [], ◌∷◌, refl, sym, ap, subst, eqb}
use Rattle.std.proofs.Math.Bool.{or-true}
use Rattle.std.proofs.lemmas.Bool.{and_parts, cases_Bool, eqb-true, or_cases, true≢false}
use Rattle.std.specs.List.{list_any}
use Rattle.std.specs.Prelude.{IsTrue, ◌↔◌}
use Rattle.plain_model.specs.declared.event.PlainEvent.{PlainEvent}
use Rattle.plain_model.specs.Histories.{IsLinkedPast, Node, Past, knows, past}
use Rattle.plain_model.specs.Soundness.{IsCommitOf, IsSound}
use Rattle.ancestry_laws.specs.Ancestry.{IsPathOfParents, descends, descends_in, is_one_of, is_parent_in}
use Rattle.ancestry_laws.specs.Ancestry.IsPathOfParents.{itself, through}
use Rattle.ancestry_laws.proofs.Descent.{all_here, any_here, any_some, child_known, from_itself, single}
use Rattle.ancestry_laws.proofs.Pasts.{known_past, linked_past}

-- a parent is known
parent_known : (older : Past) → IsLinkedPast older → (parent child : ℕ) → is_parent_in older parent child ≡ true →
    knows older parent ≡ true
parent_known [] linked parent child h = absurd (true≢false (sym h))
parent_known (n ∷ older) linked parent child h = elim (or_cases (eqb n.id child && is_one_of n.parents parent) (is_parent_in older parent child) h) [
  | inl own ↦ rw (all_here (λ p. knows older p ≡ true) n.parents parent linked.1 (and_parts (eqb n.id child) (is_one_of n.parents parent) own).1) (or-true (eqb n.id parent))
  | inr later ↦ rw (parent_known older linked.2 parent child later) (or-true (eqb n.id parent))
]

-- what is known from before isn't the newest
not_newest : (n : Node) (older : Past) (c : ℕ) → knows older n.id ≡ false → knows older c ≡ true → eqb n.id c ≡ false
not_newest n older c new known = elim (cases_Bool (eqb n.id c)) [
  | inl it ↦ absurd (true≢false (sym known ∙ ap (knows older) (sym (eqb-true n.id c it)) ∙ new))
  | inr no_it ↦ no_it
]

-- a child of what descends descends too
child_descends : (set : List ℕ) (older : Past) → IsLinkedPast older → (parent c : ℕ) →
    is_parent_in older parent c ≡ true → descends_in set older parent ≡ true → descends_in set older c ≡ true
child_descends set [] linked parent c link h = absurd (true≢false (sym link))
child_descends set (n ∷ older) linked parent c link h = elim (or_cases (eqb n.id c && is_one_of n.parents parent) (is_parent_in older parent c) link) [
  | inl own ↦
      let both = and_parts (eqb n.id c) (is_one_of n.parents parent) own in
      let known = all_here (λ p. knows older p ≡ true) n.parents parent linked.1 both.1 in
      let below : descends_in set older parent ≡ true = rw (not_newest n older parent linked.0 known) at h in
      rw (both.0, any_here (descends_in set older) n.parents parent both.1 below) (or-true (is_one_of set n.id))
  | inr later ↦
      let known = parent_known older linked.2 parent c later in
      let below : descends_in set older parent ≡ true = rw (not_newest n older parent linked.0 known) at h in
      rw (not_newest n older c linked.0 (child_known older parent c later)) (child_descends set older linked.2 parent c later below)
]

-- ---- from descent to a path, and back

to_path : (events : List PlainEvent) (older : Past) (low high : ℕ) →
    ((p c : ℕ) → is_parent_in older p c ≡ true → is_parent_in (past events) p c ≡ true) →
    descends_in (low ∷ []) older high ≡ true → IsPathOfParents events low high
to_path events [] low high within h = absurd (true≢false (sym h))
to_path events (n ∷ older) low high within h = elim (cases_Bool (eqb n.id high)) [
  | inl it ↦ elim (or_cases (is_one_of (low ∷ []) n.id) (list_any (descends_in (low ∷ []) older) n.parents) (rw it at h)) [
    | inl own ↦ subst (IsPathOfParents events low) (eqb-true low n.id (sym (single low n.id) ∙ own) ∙ eqb-true n.id high it) itself
    | inr later ↦
        let p = any_some (descends_in (low ∷ []) older) n.parents later in
        through p.0 high (within p.0 high (rw (it, p.2) refl)) (to_path events older low p.0 (λ q c t. within q c (rw t (or-true (eqb n.id c && is_one_of n.parents q)))) p.1)
  ]
  | inr no_it ↦ to_path events older low high (λ q c t. within q c (rw t (or-true (eqb n.id c && is_one_of n.parents q)))) (rw no_it at h)
]

from_path : (events : List PlainEvent) → IsSound events → (low high : ℕ) → knows (past events) high ≡ true →
    IsPathOfParents events low high → descends_in (low ∷ []) (past events) high ≡ true
from_path events sound low _ known itself = from_itself (past events) low known
from_path events sound low _ known (through parent high link path) =
    let linked = linked_past events sound in
    child_descends (low ∷ []) (past events) linked parent high link (from_path events sound low parent (parent_known (past events) linked parent high link) path)

pub descent_path : (events : List PlainEvent) (low high : ℕ) → IsSound events → IsCommitOf events high →
    IsTrue (descends events (low ∷ []) high) ↔ IsPathOfParents events low high
descent_path events low high sound there =
    (to_path events (past events) low high (λ p c t. t), from_path events sound low high (known_past events high ∙ there))
