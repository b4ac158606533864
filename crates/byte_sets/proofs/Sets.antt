-- What is in a set of lent texts is what is in the list of them.
use Rattle.std.proofs.Common.{◌≡◌, ◌∙◌, Bool, true, false, cond, inl, inr, List, [], ◌∷◌, map, refl, sym, ap, true≢false}
use Rattle.std.proofs.lemmas.Bool.{cases_Bool, false_from_ne_true}
use Rattle.std.proofs.lemmas.Slice.Eq.{bytes_eq-Decides}
use Rattle.std.specs.List.{list_any}
use Rattle.std.specs.Prelude.{◌||◌, bytes_eq}
use Rattle.plain_model.specs.Paths.{Bytes}

pub any_mapped : {X Y : Type 0} (f : X → Y) (test : Y → Bool) (xs : List X) → list_any test (map f xs) ≡ list_any (λ x. test (f x)) xs
any_mapped f test [] = refl
any_mapped f test (x ∷ xs) = ap (λ b. test (f x) || b) (any_mapped f test xs)

pub turned : (p q : Bytes) → bytes_eq p q ≡ bytes_eq q p
turned p q = elim (cases_Bool (bytes_eq p q)) [
  | inl is ↦ is ∙ sym ((bytes_eq-Decides q p).1 (sym ((bytes_eq-Decides p q).0 is)))
  | inr other ↦ other ∙ sym (false_from_ne_true (bytes_eq q p) (λ is. true≢false (sym ((bytes_eq-Decides p q).1 (sym ((bytes_eq-Decides q p).0 is))) ∙ other)))
]

pub or_cond : (a b : Bool) → cond a true b ≡ a || b
or_cond true b = refl
or_cond false b = refl
