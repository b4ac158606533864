-- A commit's first line and its mark, where the end of the line goes with the word after it.
use Rattle.std.proofs.Common.{◌≡◌, ℕ, [], ◌∷◌, ◌++◌, ap, sym, ◌∙◌, append_assoc}
use Rattle.std.specs.Prelude.{codes, decimal}
use Rattle.plain_model.specs.Paths.{Bytes}
use Rattle.plain_model.specs.Text.{line, marked}

pub head_is : (old branch : Bytes) (mark : ℕ) → ((old ++ codes "commit ") ++ branch) ++ line (codes "\nmark :" ++ decimal mark) ≡ old ++ (line (codes "commit " ++ branch) ++ line (codes "mark " ++ marked mark))
head_is old branch mark =
    append_assoc (old ++ codes "commit ") branch (line (codes "\nmark :" ++ decimal mark))
    ∙ append_assoc old (codes "commit ") (branch ++ line (codes "\nmark :" ++ decimal mark))
    ∙ ap (λ (l : Bytes). old ++ (codes "commit " ++ l)) (sym (append_assoc branch (10 ∷ []) (line (codes "mark " ++ marked mark))))

-- two more texts after one that is put at the end
pub two_more : (old head third fourth : Bytes) → ((old ++ head) ++ third) ++ fourth ≡ old ++ ((head ++ third) ++ fourth)
two_more old head third fourth = ap (λ (l : Bytes). l ++ fourth) (append_assoc old head third) ∙ append_assoc old (head ++ third) fourth
