-- Texts: one is equal to itself, and one may begin with a word.
use Rattle.std.proofs.Common.{◌≡◌, true, [], ◌∷◌, ◌++◌, length, take, refl, sym, ap, nat_eq, eqb-true}
use Rattle.std.specs.Prelude.{◌==◌, ◌&&◌, bytes_eq}
use Rattle.std.specs.Cmp.Lexicographic.{pointwise}
use Rattle.std.proofs.lemmas.Bool.{and_parts}
use Rattle.std.proofs.lemmas.Slice.Eq.{bytes_eq-Decides}
use Rattle.plain_model.specs.Parts.{begins}
use Rattle.plain_model.specs.Paths.{Bytes}

pub bytes_eq_same : (text : Bytes) → bytes_eq text text ≡ true
bytes_eq_same text = (bytes_eq-Decides text text).1 refl

-- as `starts_with` of a slice has it
pub pointwise_begins : (word text : Bytes) → pointwise nat_eq word (take (length word) text) ≡ begins word text
pointwise_begins [] text = refl
pointwise_begins (w ∷ word) [] = refl
pointwise_begins (w ∷ word) (b ∷ text) = ap (λ t. (w == b) && t) (pointwise_begins word text)

-- what begins with a word is that word and a rest
pub begins_rest : (word text : Bytes) → begins word text ≡ true → (rest : Bytes) × (text ≡ word ++ rest)
begins_rest [] text h = (text, refl)
begins_rest (w ∷ word) [] h = absurd cc
begins_rest (w ∷ word) (b ∷ text) h =
    let parts = and_parts (w == b) (begins word text) h in
    let more = begins_rest word text parts.1 in
    (more.0, λ i. sym (eqb-true w b parts.0) i ∷ more.1 i)
