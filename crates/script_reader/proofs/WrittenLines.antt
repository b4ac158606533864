-- A line is cut where it was put together.
use Rattle.std.proofs.Common.{◌≡◌, ℕ, ◌==◌, true, false, not, List, [], ◌∷◌, ◌++◌, length, Option, Some, None, Result, Ok, Err, refl, sym, ap, subst, ◌∙◌, append_assoc, append-nil, length-append, arith}
use Rattle.std.specs.Prelude.{◌&&◌}
use Rattle.std.specs.List.{list_all}
use Rattle.std.proofs.lemmas.Bool.{and_parts, not-true}
use Rattle.std.proofs.Math.Seq.{take-length, take-append_seam, drop-append_seam}
use Rattle.plain_model.specs.Paths.{Bytes}
use Rattle.plain_model.specs.declared.fault.Fault.{Fault}
use Rattle.selection_parser.specs.Plain.{PlainSelection}
use Rattle.selection_parser.specs.Reading.{IsRightAnswer, selection_at}
use Rattle.selection_parser.specs.Spelling.{IsSelection, Spells, ends_here}
use Rattle.plain_model.specs.Blanks.{is_blank}
use Rattle.script_lines.specs.Words.{after_head, begins_plain, head_of, words_from, words_of, without_blanks}
use Rattle.script_lines.specs.Words.Spot.{Between, InWord, InQuotes, Closed}
use Rattle.script_lines.specs.Written.{is_whole, written}
use Rattle.script_lines.specs.declared.word.Word.{Word}
use Rattle.script_lines.specs.declared.word.Word.TheVariants.{Plain, Quoted, Broken}
use Rattle.script_reader.specs.Selecting.{Front, begins_with_letter, front_of}
use Rattle.script_reader.specs.Written.{IsSelectionText, spaced, with_front}

-- ---- words

in_word : (came text rest : Bytes) → list_all (λ b. not (is_blank b)) text ≡ true
    → words_from (InWord came) (text ++ rest) ≡ words_from (InWord (came ++ text)) rest
in_word came [] rest h = ap (λ (t : Bytes). words_from (InWord t) rest) (sym (append-nil came))
in_word came (b ∷ text) rest h =
    let parts = and_parts (not (is_blank b)) (list_all (λ c. not (is_blank c)) text) h in
    let other : is_blank b ≡ false = not-true (is_blank b) parts.0 in
    rw other (in_word (came ++ b ∷ []) text rest parts.1 ∙ ap (λ (t : Bytes). words_from (InWord t) rest) (append_assoc came (b ∷ []) text))

in_quotes : (whole came text rest : Bytes) → list_all (λ b. not (b == 34)) text ≡ true
    → words_from (InQuotes whole came) (text ++ 34 ∷ rest) ≡ words_from (Closed whole (came ++ text)) rest
in_quotes whole came [] rest h = ap (λ (t : Bytes). words_from (Closed whole t) rest) (sym (append-nil came))
in_quotes whole came (b ∷ text) rest h =
    let parts = and_parts (not (b == 34)) (list_all (λ c. not (c == 34)) text) h in
    let other : (b == 34) ≡ false = not-true (b == 34) parts.0 in
    rw other (in_quotes whole (came ++ b ∷ []) text rest parts.1 ∙ ap (λ (t : Bytes). words_from (Closed whole t) rest) (append_assoc came (b ∷ []) text))

plain_ends : (text : Bytes) (words : List Word) → words_from (InWord text) (spaced words) ≡ Plain text ∷ words_from Between (spaced words)
plain_ends text [] = refl
plain_ends text (word ∷ words) = refl

quoted_ends : (whole text : Bytes) (words : List Word) → words_from (Closed whole text) (spaced words) ≡ Quoted text ∷ words_from Between (spaced words)
quoted_ends whole text [] = refl
quoted_ends whole text (word ∷ words) = refl

one_word : (word : Word) (words : List Word) → is_whole word ≡ true → words_from Between (written word ++ spaced words) ≡ word ∷ words_from Between (spaced words)
one_word (Plain []) words h = absurd cc
one_word (Plain (b ∷ text)) words h =
    let all = and_parts (begins_plain (b ∷ text)) (list_all (λ c. not (is_blank c)) (b ∷ text)) h in
    let first = and_parts (not (is_blank b)) (not (b == 34)) all.0 in
    let other : is_blank b ≡ false = not-true (is_blank b) first.0 in
    let unquoted : (b == 34) ≡ false = not-true (b == 34) first.1 in
    rw (other, unquoted) (in_word (b ∷ []) text (spaced words) (and_parts (not (is_blank b)) (list_all (λ c. not (is_blank c)) text) all.1).1
    ∙ plain_ends (b ∷ text) words)
one_word (Quoted text) words h =
    subst (λ (rest : Bytes). words_from Between (34 ∷ rest) ≡ Quoted text ∷ words_from Between (spaced words)) (sym (append_assoc text (34 ∷ []) (spaced words)))
    (in_quotes (34 ∷ (text ++ 34 ∷ spaced words)) [] text (spaced words) h ∙ quoted_ends (34 ∷ (text ++ 34 ∷ spaced words)) text words)
one_word (Broken rest) words h = absurd cc

between_again : (words : List Word) → list_all is_whole words ≡ true → words_from Between (spaced words) ≡ words
between_again [] h = refl
between_again (word ∷ words) h =
    let parts = and_parts (is_whole word) (list_all is_whole words) h in
    one_word word words parts.0 ∙ ap (λ more. word ∷ more) (between_again words parts.1)

-- words with a space before each are found again
pub words_again : (words : List Word) → list_all is_whole words ≡ true → words_of (spaced words) ≡ words
unfolding words_of
words_again words h = between_again words h

-- ---- the command word

-- a letter is first, and no blank is there
abbrev pub IsWordText : Bytes → Type 0
IsWordText text = (begins_with_letter text && list_all (λ b. not (is_blank b)) text) ≡ true

spaced_head : (words : List Word) → (head_of (spaced words) ≡ []) × (after_head (spaced words) ≡ spaced words)
spaced_head [] = (refl, refl)
spaced_head (word ∷ words) = (refl, refl)

cut_again : (text : Bytes) (words : List Word) → list_all (λ b. not (is_blank b)) text ≡ true
    → (head_of (text ++ spaced words) ≡ text) × (after_head (text ++ spaced words) ≡ spaced words)
cut_again [] words h = spaced_head words
cut_again (b ∷ text) words h =
    let parts = and_parts (not (is_blank b)) (list_all (λ c. not (is_blank c)) text) h in
    let other : is_blank b ≡ false = not-true (is_blank b) parts.0 in
    let rest = cut_again text words parts.1 in
    (rw other (ap (λ head. b ∷ head) rest.0), rw other rest.1)

pub head_again : (text : Bytes) (words : List Word) → IsWordText text
    → (head_of (text ++ spaced words) ≡ text) × (after_head (text ++ spaced words) ≡ spaced words)
head_again text words h = cut_again text words (and_parts (begins_with_letter text) (list_all (λ b. not (is_blank b)) text) h).1

letter_first : (text rest : Bytes) → IsWordText text → begins_with_letter (text ++ rest) ≡ true
letter_first [] rest h = absurd cc
letter_first (b ∷ text) rest h = (and_parts (begins_with_letter (b ∷ text)) (list_all (λ c. not (is_blank c)) (b ∷ text)) h).0

no_blank_first : (text rest : Bytes) → IsWordText text → without_blanks (text ++ rest) ≡ text ++ rest
no_blank_first [] rest h = absurd cc
no_blank_first (b ∷ text) rest h =
    let all = (and_parts (begins_with_letter (b ∷ text)) (list_all (λ c. not (is_blank c)) (b ∷ text)) h).1 in
    let other : is_blank b ≡ false = not-true (is_blank b) (and_parts (not (is_blank b)) (list_all (λ c. not (is_blank c)) text) all).0 in
    rw other refl

-- ---- the selection

-- a selection that a space follows is read as it is alone
selection_before : ((text : Bytes) → IsRightAnswer text (selection_at text)) → (text rest : Bytes) (x : PlainSelection) → selection_at text ≡ Ok (x, length text)
    → selection_at (text ++ 32 ∷ rest) ≡ Ok (x, length text)
selection_before right text rest x is = go (selection_at line) (right line)
  where
    line : Bytes
    line = text ++ 32 ∷ rest

    alone : IsSelection text (length text) x
    alone = (subst (IsRightAnswer text) is (right text)).there

    here : IsSelection line (length text) x
    here = record {
      within = omega (arith, length-append text (32 ∷ rest));
      spelled = subst (λ (t : Bytes). Spells t x) (take-length text ∙ sym (take-append_seam text (32 ∷ rest))) alone.spelled;
      ends = subst (λ (t : Bytes). ends_here t ≡ true) (sym (drop-append_seam text (32 ∷ rest))) refl;
    }

    go : (r : Result (PlainSelection × ℕ) ℕ) → IsRightAnswer line r → r ≡ Ok (x, length text)
    go (Ok read) found = let only = found.only (length text) x here in λ i. Ok (sym only.1 i, sym only.0 i)
    go (Err column) refused = absurd (refused.none (length text) x here)

letterless : (text rest : Bytes) → begins_with_letter text ≡ false → begins_with_letter (text ++ 32 ∷ rest) ≡ false
letterless [] rest h = refl
letterless (b ∷ text) rest h = h

-- a line falls into its selection and the rest
pub front_again : ((text : Bytes) → IsRightAnswer text (selection_at text)) → (selection : Option Bytes) (text rest : Bytes) → IsSelectionText selection
    → IsWordText text
    → front_of (with_front selection (text ++ rest)) ≡ Ok (record { selection = selection; rest = text ++ rest })
unfolding front_of
front_again right None text rest h k = rw (letter_first text rest k) refl
front_again right (Some s) text rest (x, is, other) k =
    let cut : Front → Result Front Fault = λ (front : Front). Ok front in
    rw (letterless s (text ++ rest) other, selection_before right s (text ++ rest) x is)
    (λ i. Ok (record {
      selection = Some (take-append_seam s (32 ∷ (text ++ rest)) i);
      rest = (ap without_blanks (drop-append_seam s (32 ∷ (text ++ rest)))
          ∙ no_blank_first text rest k) i;
    }))
