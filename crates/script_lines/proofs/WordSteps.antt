-- Words, as they are taken off the front of a text.
use Rattle.std.proofs.Common.{◌≡◌, ◌≢◌, ℕ, zero, suc, ◌<◌, ◌≤◌, ◌==◌, true, false, List, [], ◌∷◌, ◌++◌, length, get_or, refl, sym, ap, ◌∙◌, append-nil, append_assoc, arith, inl, inr}
use Rattle.std.specs.Prelude.{not}
use Rattle.std.proofs.lemmas.Bool.{and_parts, cases_Bool, eqb-true, not-true, false_from_ne_true}
use Rattle.script_lines.specs.declared.word.Word.{Word}
use Rattle.script_lines.specs.declared.word.Word.TheVariants.{Plain, Quoted, Broken}
use Rattle.script_lines.specs.Words.{head_of, after_head, words_from, words_of, ends_word, begins_word, begins_plain}
use Rattle.script_lines.specs.Words.Spot.{Between, InWord, InQuotes, Closed}
use Rattle.plain_model.specs.Blanks.{is_blank}

-- a word that is put after others, and what is left
pub taken : (before words rest whole : List Word) (word : Word) → words ≡ before ++ word ∷ [] → whole ≡ word ∷ rest
    → words ++ rest ≡ before ++ whole
taken before words rest whole word is cut = rw (is, cut) (append_assoc before (word ∷ []) rest)

-- after the last word
pub all_taken : (words : List Word) (rest : List ℕ) → rest ≡ [] → words ++ words_of rest ≡ words
unfolding words_of
all_taken words rest is = rw is (append-nil words)

-- ---- a word without quotes

in_word : (came bytes : List ℕ)
    → words_from (InWord came) bytes ≡ Plain (came ++ head_of bytes) ∷ words_from Between (after_head bytes)
in_word came [] = ap (λ text. Plain text ∷ []) (sym (append-nil came))
in_word came (b ∷ bs) =
    let with : List ℕ → List ℕ → List Word = λ text rest. Plain text ∷ words_from Between rest in
    elim (cases_Bool (is_blank b)) [
      | inl blank ↦ rw (blank, blank) (ap (λ text. with text bs) (sym (append-nil came)))
      | inr other ↦ rw other (in_word (came ++ b ∷ []) bs ∙ ap (λ text. with text (after_head bs)) (append_assoc came (b ∷ []) (head_of bs)))
    ]

pub plain_first : (bytes : List ℕ) → begins_plain bytes ≡ true → words_of bytes ≡ Plain (head_of bytes) ∷ words_of (after_head bytes)
unfolding words_of
plain_first [] h = cc
plain_first (b ∷ bs) h =
    let parts = and_parts (not (is_blank b)) (not (b == 34)) h in
    let other : is_blank b ≡ false = not-true (is_blank b) parts.0 in
    let plain : (b == 34) ≡ false = not-true (b == 34) parts.1 in
    rw (other, plain) (in_word (b ∷ []) bs)

no_longer : (bytes : List ℕ) → length (after_head bytes) ≤ length bytes
no_longer [] = omega arith
no_longer (b ∷ bs) =
    let ih = no_longer bs in
    elim (cases_Bool (is_blank b)) [ inl blank ↦ rw blank (omega arith) | inr other ↦ rw other (omega arith) ]

pub shorter : (bytes : List ℕ) → begins_plain bytes ≡ true → length (after_head bytes) < length bytes
shorter [] h = absurd cc
shorter (b ∷ bs) h =
    let other : is_blank b ≡ false = not-true (is_blank b) (and_parts (not (is_blank b)) (not (b == 34)) h).0 in
    let ih = no_longer bs in
    rw other (omega arith)

-- a word that doesn't begin with a quote is such a word
pub plain_from : (bytes : List ℕ) → begins_word bytes ≡ true → ((rest : List ℕ) → bytes ≢ 34 ∷ rest) → begins_plain bytes ≡ true
plain_from [] h none = h
plain_from (b ∷ bs) h none =
    let plain : (b == 34) ≡ false = false_from_ne_true (b == 34) (λ is. none bs (ap (λ c. c ∷ bs) (eqb-true b 34 is))) in
    rw plain (grind (arith, h))

-- ---- a word in quotes

-- no quote is there
abbrev pub NoQuote : List ℕ → Type 0
NoQuote bytes = (k : ℕ) → k < length bytes → get_or bytes k 0 ≢ 34

first_other : (b : ℕ) (bs : List ℕ) → NoQuote (b ∷ bs) → (b == 34) ≡ false
first_other b bs none = false_from_ne_true (b == 34) (λ is. none zero (omega arith) (eqb-true b 34 is))

to_quote : (whole came inside rest : List ℕ) → NoQuote inside
    → words_from (InQuotes whole came) (inside ++ 34 ∷ rest) ≡ words_from (Closed whole (came ++ inside)) rest
to_quote whole came [] rest none = ap (λ text. words_from (Closed whole text) rest) (sym (append-nil came))
to_quote whole came (b ∷ bs) rest none =
    let other = first_other b bs none in
    rw other (to_quote whole (came ++ b ∷ []) bs rest (λ k l. none (suc k) (omega arith))
    ∙ ap (λ text. words_from (Closed whole text) rest) (append_assoc came (b ∷ []) bs))

to_end : (whole came inside : List ℕ) → NoQuote inside → words_from (InQuotes whole came) inside ≡ Broken whole ∷ []
to_end whole came [] none = refl
to_end whole came (b ∷ bs) none =
    let other = first_other b bs none in
    rw other (to_end whole (came ++ b ∷ []) bs (λ k l. none (suc k) (omega arith)))

closed_well : (whole inside rest : List ℕ) → ends_word rest ≡ true
    → words_from (Closed whole inside) rest ≡ Quoted inside ∷ words_from Between rest
closed_well whole inside [] h = refl
closed_well whole inside (b ∷ bs) h = rw h refl

closed_badly : (whole inside rest : List ℕ) → ends_word rest ≡ false → words_from (Closed whole inside) rest ≡ Broken whole ∷ []
closed_badly whole inside [] h = cc
closed_badly whole inside (b ∷ bs) h = rw h refl

module _ (after inside rest : List ℕ) (is : after ≡ inside ++ 34 ∷ rest) (none : NoQuote inside) where
  -- what is after the opening quote up to the closing one
  whole : List ℕ
  whole = 34 ∷ (inside ++ 34 ∷ rest)

  pub quoted_first : ends_word rest ≡ true → words_of (34 ∷ after) ≡ Quoted inside ∷ words_of rest
  unfolding words_of whole
  quoted_first ends = rw is (to_quote whole [] inside rest none ∙ closed_well whole inside rest ends)

  pub broken_after : ends_word rest ≡ false → words_of (34 ∷ after) ≡ Broken (34 ∷ after) ∷ words_of []
  unfolding words_of whole
  broken_after ends = rw is (to_quote whole [] inside rest none ∙ closed_badly whole inside rest ends)

pub broken_open : (after : List ℕ) → NoQuote after → words_of (34 ∷ after) ≡ Broken (34 ∷ after) ∷ words_of []
unfolding words_of
broken_open after none = to_end (34 ∷ after) [] after none
