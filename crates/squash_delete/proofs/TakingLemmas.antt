-- Operations and comments that are taken over, and how a plan goes on while they are.
use Rattle.std.proofs.Common.{◌≡◌, ◌∙◌, List, [], ◌∷◌, ◌++◌, refl, sym, ap, append_assoc}
use Rattle.plain_model.specs.Paths.{Bytes}
use Rattle.squash_laws.specs.Comments.{joined, joined_two}

-- ---- comments

joined_nil : (a : Bytes) → joined_two a [] ≡ a
joined_nil [] = refl
joined_nil (x ∷ a) = refl

joined_three : (a b c : Bytes) → joined_two a (joined_two b c) ≡ joined_two (joined_two a b) c
joined_three [] b c = refl
joined_three (x ∷ a) [] c = refl
joined_three (x ∷ a) (y ∷ b) [] = refl
joined_three (x ∷ a) (y ∷ b) (z ∷ c) = ap (λ l. x ∷ l) (sym (append_assoc a (10 ∷ y ∷ b) (10 ∷ z ∷ c)))

-- one comment more
pub joined_push : (xs : List Bytes) (c : Bytes) → joined (xs ++ c ∷ []) ≡ joined_two (joined xs) c
joined_push [] c = joined_nil c
joined_push (x ∷ xs) c = ap (joined_two x) (joined_push xs c) ∙ joined_three x (joined xs) c

-- and some more
pub joined_more : (xs ys : List Bytes) → joined (joined xs ∷ ys) ≡ joined (xs ++ ys)
joined_more [] ys = refl
joined_more (x ∷ xs) ys = sym (joined_three x (joined xs) (joined ys)) ∙ ap (joined_two x) (joined_more xs ys)

-- a comment more after a text
pub joined_step : (text : Bytes) (xs : List Bytes) (c : Bytes) → joined_two (joined_two text (joined xs)) c ≡ joined_two text (joined (xs ++ c ∷ []))
joined_step text xs c = sym (joined_three text (joined xs) c) ∙ ap (joined_two text) (sym (joined_push xs c))

-- those before, its own and those after
pub joined_all : (before : List Bytes) (own : Bytes) (after : List Bytes) →
    joined (joined_two (joined before) own ∷ after) ≡ joined (before ++ own ∷ after)
joined_all before own after =
    ap (λ x. joined (x ∷ after)) (sym (joined_push before own)) ∙ joined_more (before ++ own ∷ []) after
    ∙ ap joined (append_assoc before (own ∷ []) after)
