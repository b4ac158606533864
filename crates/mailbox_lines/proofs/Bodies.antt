-- Comments of so many lines.
use Rattle.std.proofs.Common.{◌≡◌, ℕ, zero, suc, ◌-◌, ◌<◌, ◌≤◌, List, [], ◌∷◌, ◌++◌, length, take, refl, sym, ap, ◌∙◌, append_assoc, arith}
use Rattle.plain_model.specs.Paths.{Bytes}
use Rattle.mailbox_laws.specs.Boxes.{comment_in, unquoted}

-- with a line more
more : (l : Bytes) (ls : List Bytes) (n : ℕ) → 0 < n → n ≤ length ls → comment_in (l ∷ take n ls) ≡ unquoted l ++ 10 ∷ comment_in (take n ls)
more l ls zero some within = absurd (omega arith)
more l [] (suc n) some within = absurd (omega arith)
more l (x ∷ xs) (suc n) some within = refl

-- one line off so many
one_off : (n : ℕ) (l : Bytes) (ls : List Bytes) → 0 < n → take n (l ∷ ls) ≡ l ∷ take (n - 1) ls
one_off n l ls some = let same : n ≡ suc (n - 1) = omega arith in ap (λ k. take k (l ∷ ls)) same

pub on_with : (lines : List Bytes) (l : Bytes) (ls : List Bytes) (n : ℕ) (whole text one two : Bytes) → lines ≡ l ∷ ls → 0 < n - 1 → n ≤ length lines
    → text ++ comment_in (take n lines) ≡ whole → one ≡ text ++ unquoted l → two ≡ one ++ 10 ∷ []
    → two ++ comment_in (take (n - 1) ls) ≡ whole
on_with lines l ls n whole text one two is some within before put ended =
    let rest = comment_in (take (n - 1) ls) in
    let size : n ≤ suc (length ls) = (let same = ap length is in omega arith) in
    ap (λ now. now ++ rest) (ended ∙ ap (λ now. now ++ 10 ∷ []) put)
    ∙ append_assoc (text ++ unquoted l) (10 ∷ []) rest
    ∙ append_assoc text (unquoted l) (10 ∷ rest)
    ∙ ap (λ now. text ++ now) (sym (more l ls (n - 1) some (omega arith)))
    ∙ ap (λ now. text ++ comment_in now) (sym (one_off n l ls (omega arith)))
    ∙ ap (λ now. text ++ comment_in (take n now)) (sym is)
    ∙ before

pub fewer : (lines : List Bytes) (l : Bytes) (ls : List Bytes) (n : ℕ) → lines ≡ l ∷ ls → 0 < n → n ≤ length lines → n - 1 ≤ length ls
fewer lines l ls n is some within = (let same = ap length is in omega arith)
