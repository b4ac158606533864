-- Words as texts, one after another.
use Rattle.std.proofs.Common.{◌≡◌, List, [], ◌∷◌, ◌++◌, Result, Ok, Err, refl, sym, ap, ◌∙◌, append_assoc}
use Rattle.plain_model.specs.Paths.{Bytes}
use Rattle.plain_model.specs.declared.fault.Fault.{Fault}
use Rattle.script_lines.specs.Answering.{◌>>=◌}
use Rattle.script_lines.specs.Texts.{or_at_fault, text_before, texts_in}
use Rattle.script_lines.specs.declared.word.Word.{Word}

abbrev Texts : Type 0
Texts = Result (List Bytes) Fault

abbrev pub after_texts : List Bytes → Texts → Texts
after_texts texts rest = rest >>= λ more. Ok (texts ++ more)

one_more : (texts : List Bytes) (text : Bytes) (rest : Texts) → after_texts texts (rest >>= λ more. Ok (text ∷ more)) ≡ after_texts (texts ++ text ∷ []) rest
one_more texts text (Ok more) = ap Ok (sym (append_assoc texts (text ∷ []) more))
one_more texts text (Err why) = refl

pub text_on : (word : Word) (rest : List Word) (texts now : List Bytes) (text : Bytes) (words : List Word) (whole : Texts)
    → words ≡ word ∷ rest → or_at_fault word (text_before rest word) ≡ Ok text → now ≡ texts ++ text ∷ []
    → after_texts texts (texts_in words) ≡ whole → after_texts now (texts_in rest) ≡ whole
text_on word rest texts now text words whole cut is more so_far =
    rw more (sym (one_more texts text (texts_in rest)) ∙ sym (ap (after_texts texts) (rw (cut, is) refl)) ∙ so_far)

pub text_stops : (word : Word) (rest : List Word) (texts : List Bytes) (why : Fault) (words : List Word) (whole : Texts)
    → words ≡ word ∷ rest → or_at_fault word (text_before rest word) ≡ Err why → after_texts texts (texts_in words) ≡ whole → whole ≡ Err why
text_stops word rest texts why words whole cut is so_far = sym so_far ∙ rw (cut, is) refl
