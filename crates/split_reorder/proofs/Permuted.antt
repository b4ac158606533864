-- Two lists of ids that have each id equally often are one list in two orders.
use Rattle.std.proofs.Common.{◌≡◌, ◌∙◌, ℕ, ◌+◌, ◌≤◌, inl, inr, List, [], ◌∷◌, ◌++◌, map, refl, sym, ap, subst, arith}
use Rattle.std.specs.List.Sorted.{IsPermutation}
use Rattle.std.proofs.lemmas.Bool.{cases_Bool}
use Rattle.std.proofs.lemmas.List.Sorted.{IsPermutation-cons, IsPermutation-middle, IsPermutation-refl, IsPermutation-sym, IsPermutation-trans}
use Rattle.plain_model.specs.declared.id.AnyId.{AnyId}
use Rattle.plain_model.specs.declared.event.PlainEvent.{PlainEvent}
use Rattle.plain_model.specs.Lookups.{id_of, same_id}
use Rattle.history_laws.proofs.Ids.{same_id_refl, same_id_true}
use Rattle.edit_laws.specs.Parts.{of_id, one_if, tally}
use Rattle.edit_laws.proofs.Lists.{own_id}

-- how often the id is among them
abbrev pub times : AnyId → List AnyId → ℕ
times id [] = 0
times id (x ∷ xs) = one_if (same_id id x) + times id xs

times_append : (id : AnyId) (xs ys : List AnyId) → times id (xs ++ ys) ≡ times id xs + times id ys
times_append id [] ys = let none : times id ys ≡ 0 + times id ys = omega arith in none
times_append id (x ∷ xs) ys = let rest = times_append id xs ys in omega arith

-- an id that is among them has some before it and some after it
record IsIn (x : AnyId) (ys : List AnyId) : Type 0 where
  front : List AnyId
  back : List AnyId
  is : ys ≡ front ++ x ∷ back

found : (x : AnyId) (ys : List AnyId) → 1 ≤ times x ys → IsIn x ys
found x [] h = absurd (omega arith)
found x (y ∷ ys) h = elim (cases_Bool (same_id x y)) [
  | inl it ↦ record { front = []; back = ys; is = ap (λ (z : AnyId). z ∷ ys) (sym (same_id_true x y it)) }
  | inr other ↦
      let none : one_if (same_id x y) ≡ 0 = ap one_if other in
      let rest = found x ys (omega arith) in
      record { front = y ∷ rest.front; back = rest.back; is = ap (λ (zs : List AnyId). y ∷ zs) rest.is }
]

pub permuted : (xs ys : List AnyId) → ((id : AnyId) → times id xs ≡ times id ys) → IsPermutation xs ys
permuted [] [] same = IsPermutation-refl []
permuted [] (y ∷ ys) same =
    let own : one_if (same_id y y) ≡ 1 = ap one_if (same_id_refl y) in
    let both = same y in
    absurd (omega arith)
permuted (x ∷ xs) ys same =
    let own : one_if (same_id x x) ≡ 1 = ap one_if (same_id_refl x) in
    let both = same x in
    let there = found x ys (omega arith) in
    let rest = permuted xs (there.front ++ there.back) (λ id.
    let all = same id ∙ ap (times id) there.is ∙ times_append id there.front (x ∷ there.back) in
    let parts = times_append id there.front there.back in
    omega arith) in
    IsPermutation-trans (x ∷ xs) (x ∷ (there.front ++ there.back)) ys (IsPermutation-cons x xs (there.front ++ there.back) rest)
    (subst (IsPermutation (x ∷ (there.front ++ there.back))) (sym there.is)
    (IsPermutation-sym (there.front ++ x ∷ there.back) (x ∷ (there.front ++ there.back)) (IsPermutation-middle there.front x there.back)))

-- the events with an id are as many as times it is among their ids
pub tally_times : (id : AnyId) (es : List PlainEvent) → tally (of_id id) es ≡ times id (map id_of es)
tally_times id [] = refl
tally_times id (e ∷ es) = λ i. one_if (own_id e id i) + tally_times id es i
