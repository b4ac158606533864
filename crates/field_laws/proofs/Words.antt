-- The first word of a text is what is before its first space.
use Rattle.std.proofs.Common.{◌≡◌, ◌≤◌, length, arith, Bool, true, false, cond, not, [], ◌∷◌, ◌++◌, Some, None, refl, ap, ◌∙◌}
use Rattle.std.specs.Prelude.{◌==◌}
use Rattle.std.specs.List.{list_all}
use Rattle.std.proofs.lemmas.Bool.{and_parts, cond-false, not-true}
use Rattle.plain_model.specs.Paths.{Bytes}
use Rattle.plain_model.specs.Parts.{cut_at}
use Rattle.plain_model.specs.Fields.{first_word, after_space}
use Rattle.field_laws.proofs.Lines.{cut_is, cut_none}

abbrev pub has_no_space : Bytes → Bool
has_no_space text = list_all (λ b. not (b == 32)) text

-- a word before a space
pub first_word_space : (word rest : Bytes) → has_no_space word ≡ true → first_word (word ++ 32 ∷ rest) ≡ word
first_word_space [] rest h = refl
first_word_space (b ∷ word) rest h =
    let p = and_parts (not (b == 32)) (has_no_space word) h in
    cond-false (b == 32) [] (b ∷ first_word (word ++ 32 ∷ rest)) (not-true (b == 32) p.0) ∙ ap (λ (w : Bytes). b ∷ w) (first_word_space word rest p.1)

pub after_space_space : (word rest : Bytes) → has_no_space word ≡ true → after_space (word ++ 32 ∷ rest) ≡ Some rest
after_space_space [] rest h = refl
after_space_space (b ∷ word) rest h =
    let p = and_parts (not (b == 32)) (has_no_space word) h in
    cond-false (b == 32) (Some (word ++ 32 ∷ rest)) (after_space (word ++ 32 ∷ rest)) (not-true (b == 32) p.0) ∙ after_space_space word rest p.1

-- a text of one word
pub first_word_whole : (word : Bytes) → has_no_space word ≡ true → first_word word ≡ word
first_word_whole [] h = refl
first_word_whole (b ∷ word) h =
    let p = and_parts (not (b == 32)) (has_no_space word) h in
    cond-false (b == 32) [] (b ∷ first_word word) (not-true (b == 32) p.0) ∙ ap (λ (w : Bytes). b ∷ w) (first_word_whole word p.1)

pub after_space_whole : (word : Bytes) → has_no_space word ≡ true → after_space word ≡ None
after_space_whole [] h = refl
after_space_whole (b ∷ word) h =
    let p = and_parts (not (b == 32)) (has_no_space word) h in
    cond-false (b == 32) (Some word) (after_space word) (not-true (b == 32) p.0) ∙ after_space_whole word p.1

-- where a text is cut at a space
pub word_cut : (text word rest : Bytes) → cut_at 32 text ≡ Some (word, rest) → (first_word text ≡ word) × (after_space text ≡ Some rest)
word_cut text word rest e =
    let c = cut_is 32 text word rest e in
    (ap first_word c.1 ∙ first_word_space word rest c.0, ap after_space c.1 ∙ after_space_space word rest c.0)

-- where it isn't
pub word_whole : (text : Bytes) → cut_at 32 text ≡ None → (first_word text ≡ text) × (after_space text ≡ None)
word_whole text e = let h = cut_none 32 text e in (first_word_whole text h, after_space_whole text h)

pub first_word_within : (text : Bytes) → length (first_word text) ≤ length text
first_word_within [] = omega arith
first_word_within (b ∷ bs) = go (b == 32) (first_word_within bs)
  where
    go : (t : Bool) → length (first_word bs) ≤ length bs → length (cond t [] (b ∷ first_word bs)) ≤ length (b ∷ bs)
    go true h = omega arith
    go false h = omega arith
