-- Words that are written with blanks between them are found again.
use Rattle.std.proofs.Common.{◌≡◌, zero, suc, ◌==◌, true, false, List, [], ◌∷◌, ◌++◌, refl, ap, ◌∙◌, append_assoc, arith}
use Rattle.std.specs.Prelude.{not}
use Rattle.std.specs.List.{list_all}
use Rattle.std.proofs.lemmas.Bool.{and_parts, both_ways, eq-eqb, not-true}
use Rattle.plain_model.specs.Paths.{Bytes}
use Rattle.plain_model.specs.Blanks.{is_blank}
use Rattle.script_lines.specs.declared.word.Word.{Word}
use Rattle.script_lines.specs.declared.word.Word.TheVariants.{Plain, Quoted, Broken}
use Rattle.script_lines.specs.Words.{head_of, after_head, words_of, begins_plain}
use Rattle.script_lines.specs.Written.{written, is_whole, line_of}
use Rattle.script_lines.proofs.WordSteps.{NoQuote, plain_first, quoted_first}

head_is : (text rest : Bytes) → list_all (λ b. not (is_blank b)) text ≡ true → (head_of (text ++ 32 ∷ rest) ≡ text) × (after_head (text ++ 32 ∷ rest) ≡ 32 ∷ rest)
head_is [] rest h = (refl, refl)
head_is (b ∷ text) rest h =
    let parts = and_parts (not (is_blank b)) (list_all (λ c. not (is_blank c)) text) h in
    let other : is_blank b ≡ false = not-true (is_blank b) parts.0 in
    let ih = head_is text rest parts.1 in
    (rw other (ap (λ head. b ∷ head) ih.0), rw other ih.1)

still_plain : (text rest : Bytes) → begins_plain text ≡ true → begins_plain (text ++ rest) ≡ true
still_plain [] rest h = cc
still_plain (b ∷ text) rest h = h

no_quote : (text : Bytes) → list_all (λ b. not (b == 34)) text ≡ true → NoQuote text
no_quote [] h k l is = omega arith
no_quote (b ∷ text) h zero l is = both_ways (b == 34) (not-true (b == 34) (and_parts (not (b == 34)) (list_all (λ c. not (c == 34)) text) h).0) (eq-eqb b 34 is)
no_quote (b ∷ text) h (suc k) l is = no_quote text (and_parts (not (b == 34)) (list_all (λ c. not (c == 34)) text) h).1 k (omega arith) is

after_space : (rest : Bytes) → words_of (32 ∷ rest) ≡ words_of rest
unfolding words_of
after_space rest = refl

one_word : (word : Word) (rest : Bytes) → is_whole word ≡ true → words_of (written word ++ 32 ∷ rest) ≡ word ∷ words_of rest
one_word (Plain text) rest h =
    let parts = and_parts (begins_plain text) (list_all (λ b. not (is_blank b)) text) h in
    let cut = head_is text rest parts.1 in
    plain_first (text ++ 32 ∷ rest) (still_plain text (32 ∷ rest) parts.0) ∙ rw (cut.0, cut.1, after_space rest) refl
one_word (Quoted text) rest h =
    ap (λ line. words_of (34 ∷ line)) (append_assoc text (34 ∷ []) (32 ∷ rest))
    ∙ quoted_first (text ++ 34 ∷ 32 ∷ rest) text (32 ∷ rest) refl (no_quote text h) refl ∙ ap (λ words. Quoted text ∷ words) (after_space rest)
one_word (Broken text) rest h = cc

no_words : words_of [] ≡ []
unfolding words_of
no_words = refl

pub found_again : (words : List Word) → list_all is_whole words ≡ true → words_of (line_of words) ≡ words
found_again [] h = no_words
found_again (word ∷ words) h =
    let parts = and_parts (is_whole word) (list_all is_whole words) h in
    one_word word (line_of words) parts.0 ∙ ap (λ more. word ∷ more) (found_again words parts.1)
