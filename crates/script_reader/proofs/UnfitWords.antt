-- The first word of an operation that doesn't fit is named.
use Rattle.std.proofs.Common.{◌≡◌, ◌≢◌, ◌⊎◌, inl, inr, Bool, true, false, cond, List, [], ◌∷◌, ◌++◌, map, codes, decimal, Option, Some, None, Result, Ok, Err, refl, sym, ap, subst, ◌∙◌, append_assoc, append-nil, arith}
use Rattle.std.specs.Prelude.{option_and_then}
use Rattle.plain_model.specs.declared.fault.Fault.{Fault}
use Rattle.plain_model.specs.declared.fault.Fault.TheVariants as fault
use Rattle.plain_model.specs.declared.operation.Mode.{Mode}
use Rattle.plain_model.specs.declared.operation.Mode.TheVariants.{Plain, Executable, Link, Gitlink}
use Rattle.plain_model.specs.declared.raw.RawContent.TheVariants.{Marked, Object, Inline}
use Rattle.plain_model.specs.declared.raw.RawOp.{RawOp}
use Rattle.plain_model.specs.declared.raw.RawOp.TheVariants as raw
use Rattle.plain_model.specs.Fields.{mode_in}
use Rattle.plain_model.specs.Marks.{IsMark}
use Rattle.plain_model.specs.Paths.{Bytes, IsPath}
use Rattle.plain_model.specs.Text.{mode_text}
use Rattle.field_laws.proofs.Numerals.{mark_read}
use Rattle.field_laws.proofs.Written.{mark_numeral}
use Rattle.script_lines.specs.Answering.{◌>>=◌}
use Rattle.script_lines.specs.Redirections.{begins_with_sign}
use Rattle.script_lines.specs.Texts.{or_at_fault, text_before, whole_in}
use Rattle.script_lines.specs.Words.{text_of}
use Rattle.script_lines.specs.declared.word.Word.{Word}
use Rattle.script_lines.specs.declared.word.Word.TheVariants as written
use Rattle.script_reader.specs.Edits.{add_words, added, op_by}
use Rattle.script_reader.specs.Forms.{AreTooFew, IsFirstUnfit}
use Rattle.script_reader.specs.Spelled.{BeginsOp, SaysOp, op_more, whole_op}
use Rattle.script_reader.specs.declared.spelled.SaidOp.{SaidOp}
use Rattle.script_reader.specs.declared.spelled.SaidOp.TheVariants as said
use Rattle.script_reader.proofs.OpWords.{SaidBy, mode_again, said_told, told, told_by, told_said}

-- ---- an operation goes on

some_path : Bytes
some_path = codes "a"

is_path : IsPath some_path
unfolding some_path
is_path = refl

some_mark : Bytes
some_mark = decimal 1

an_object : Bytes
an_object = codes "1111111111111111111111111111111111111111"

marks : (mode : Mode) (texts : List Bytes) (m : Bytes) → texts ≡ codes "M" ∷ m ∷ [] → mode_in m ≡ Ok mode → mode ≢ Gitlink → BeginsOp texts
marks mode texts m is named other =
    let one : IsMark 1 = (omega arith, omega arith) in (
      (58 ∷ decimal 1) ∷ some_path ∷ [],
      raw.Modify mode (Marked 1) some_path,
      (m, decimal 1, ap (λ (ts : List Bytes). ts ++ (58 ∷ decimal 1) ∷ some_path ∷ []) is, named, mark_read (decimal 1) 1 (mark_numeral 1 one) one, other, is_path),
    )

objects : (texts : List Bytes) (m : Bytes) → texts ≡ codes "M" ∷ m ∷ [] → mode_in m ≡ Ok Gitlink → BeginsOp texts
unfolding an_object
objects texts m is named = (
  an_object ∷ some_path ∷ [],
  raw.Modify Gitlink (Object an_object) some_path,
  (
    m,
    ap
        (λ (ts : List Bytes). ts ++ an_object ∷ some_path ∷ []) is,
    named,
    refl,
    is_path,
  ),
)

puts : (mode : Mode) (texts : List Bytes) (m : Bytes) → texts ≡ codes "M" ∷ m ∷ [] → mode_in m ≡ Ok mode → BeginsOp texts
puts Gitlink texts m is named = objects texts m is named
puts Plain texts m is named = marks Plain texts m is named (λ e. absurd cc)
puts Executable texts m is named = marks Executable texts m is named (λ e. absurd cc)
puts Link texts m is named = marks Link texts m is named (λ e. absurd cc)

-- with one text more
longer : (texts : List Bytes) (text : Bytes) → BeginsOp (texts ++ text ∷ []) → BeginsOp texts
longer texts text (more, op, says) = (text ∷ more, op, subst (λ ts. SaysOp ts op) (append_assoc texts (text ∷ []) more) says)

-- whatever is said so far, texts can complete it
begins_op : (so_far : SaidOp) (texts : List Bytes) → SaidBy so_far texts → BeginsOp texts
begins_op said.Nothing texts is = (codes "deleteall" ∷ [], raw.DeleteAll, ap (λ (ts : List Bytes). ts ++ codes "deleteall" ∷ []) is)
begins_op said.Modify texts is = longer texts (mode_text Plain) (puts Plain (texts ++ mode_text Plain ∷ []) (mode_text Plain)
    (ap (λ (ts : List Bytes). ts ++ mode_text Plain ∷ []) is) (mode_again Plain))
begins_op (said.ModifyAs mode) texts (m, is, named) = puts mode texts m is named
begins_op (said.ModifyTo mode (Marked mark)) texts (m, text, is, named, (digits, from, marks, other)) = (
  some_path ∷ [],
  raw.Modify mode (Marked mark) some_path,
  (m, digits, ap (λ (ts : List Bytes). ts ++ some_path ∷ []) is ∙ (λ i. codes "M" ∷ m ∷ from i ∷ some_path ∷ []), named, marks, other, is_path),
)
begins_op (said.ModifyTo mode (Object id)) texts (m, text, is, named, (from, fine)) = (
  some_path ∷ [],
  raw.Modify mode (Object id) some_path,
  (
    m,
    ap (λ (ts : List Bytes). ts ++ some_path ∷ []) is
        ∙ (λ i. codes "M" ∷ m ∷ from i ∷ some_path ∷ []),
    named,
    fine,
    is_path,
  ),
)
begins_op (said.ModifyTo mode Inline) texts (m, text, is, named, none) = absurd none
begins_op said.Delete texts is = (some_path ∷ [], raw.Delete some_path, (ap (λ (ts : List Bytes). ts ++ some_path ∷ []) is, is_path))
begins_op said.Copy texts is =
    (some_path ∷ some_path ∷ [], raw.Copy some_path some_path, (ap (λ (ts : List Bytes). ts ++ some_path ∷ some_path ∷ []) is, is_path, is_path))
begins_op (said.CopyOf source) texts (is, fits) = (some_path ∷ [], raw.Copy source some_path, (ap (λ (ts : List Bytes). ts ++ some_path ∷ []) is, fits, is_path))
begins_op said.Rename texts is =
    (some_path ∷ some_path ∷ [], raw.Rename some_path some_path, (ap (λ (ts : List Bytes). ts ++ some_path ∷ some_path ∷ []) is, is_path, is_path))
begins_op (said.RenameOf source) texts (is, fits) = (some_path ∷ [], raw.Rename source some_path, (ap (λ (ts : List Bytes). ts ++ some_path ∷ []) is, fits, is_path))
begins_op (said.Whole op) texts says = ([], op, subst (λ ts. SaysOp ts op) (sym (append-nil texts)) says)

told_begins : (texts : List Bytes) (now : SaidOp) → told said.Nothing texts ≡ Some now → BeginsOp texts
told_begins texts now e = begins_op now texts (told_said said.Nothing [] texts now refl e)

-- ---- one text after another

told_append : (before : SaidOp) (front rest : List Bytes) → told before (front ++ rest) ≡ option_and_then (λ now. told now rest) (told before front)
told_append before [] rest = refl
told_append before (text ∷ front) rest = go (λ more. told_append more front rest) (op_more before text)
  where
    go : ((more : SaidOp) → told more (front ++ rest) ≡ option_and_then (λ now. told now rest) (told more front)) → (o : Option SaidOp)
        → option_and_then (λ more. told more (front ++ rest)) o ≡ option_and_then (λ now. told now rest) (option_and_then (λ more. told more front) o)
    go later (Some more) = later more
    go later None = refl

-- what is said with a text more
told_more : (texts : List Bytes) (now : SaidOp) (text : Bytes) → told said.Nothing texts ≡ Some now
    → told said.Nothing (texts ++ text ∷ []) ≡ option_and_then (λ more. Some more) (op_more now text)
told_more texts now text e = told_append said.Nothing texts (text ∷ []) ∙ ap (option_and_then (λ now. told now (text ∷ []))) e

-- where a text doesn't go on, nothing begins with it
no_more : (texts : List Bytes) (now : SaidOp) (text : Bytes) → told said.Nothing texts ≡ Some now → op_more now text ≡ None → BeginsOp (texts ++ text ∷ []) → ⊥
no_more texts now text e none (more, op, says) =
    let whole = said_told ((texts ++ text ∷ []) ++ more) op says in
    let cut : told said.Nothing ((texts ++ text ∷ []) ++ more) ≡ None =
    ap (told said.Nothing) (append_assoc texts (text ∷ []) more) ∙ told_append said.Nothing texts (text ∷ more) ∙ ap (option_and_then (λ now. told now (text ∷ more))) e
    ∙ ap (option_and_then (λ it. told it more)) none in
    let both : ◌≡◌ {A = Option SaidOp} (Some (said.Whole op)) None = sym whole ∙ cut in absurd cc

-- ---- the first word that doesn't fit

pub whole_too : (words : List Word) (word : Word) (text : Bytes) → text_before words word ≡ Some text → whole_in word ≡ Some text
whole_too (next ∷ words) word text h = h
whole_too [] (written.Plain own) text h = go (begins_with_sign own) h
  where
    go : (b : Bool) → ◌≡◌ {A = Option Bytes} (cond b None (Some own)) (Some text) → ◌≡◌ {A = Option Bytes} (Some own) (Some text)
    go true h = absurd cc
    go false h = h
whole_too [] (written.Quoted own) text h = h
whole_too [] (written.Broken rest) text h = absurd cc

-- what is named after some texts
record UnfitAfter (texts : List Bytes) (words : List Word) (why : Fault) : Type 0 where
  front : List Word
  word : Word
  rest : List Word
  more : List Bytes
  now : SaidOp
  cut : words ≡ front ++ word ∷ rest
  named : why ≡ fault.BadWords (text_of word)
  read : map whole_in front ≡ map Some more
  so_far : told said.Nothing (texts ++ more) ≡ Some now
  unfit : (text : Bytes) → text_before rest word ≡ Some text → op_more now text ≡ None

unfit_after : (before : SaidOp) (texts : List Bytes) (words : List Word) (why : Fault) → told said.Nothing texts ≡ Some before → op_by before words ≡ Err why
    → UnfitAfter texts words why
unfit_after before texts [] why h e = absurd cc
unfit_after before texts (word ∷ words) why h e = go (λ more text h e. unfit_after more (texts ++ text ∷ []) words why h e) (text_before words word) refl e
  where
    Later : Type 0
    Later = (more : SaidOp) (text : Bytes) → told said.Nothing (texts ++ text ∷ []) ≡ Some more → op_by more words ≡ Err why → UnfitAfter (texts ++ text ∷ []) words why

    here : fault.BadWords (text_of word) ≡ why → ((text : Bytes) → text_before words word ≡ Some text → op_more before text ≡ None)
        → UnfitAfter texts (word ∷ words) why
    here is unfit = record {
      front = [];
      word = word;
      rest = words;
      more = [];
      now = before;
      cut = refl;
      named = sym is;
      read = refl;
      so_far = ap (told said.Nothing) (append-nil texts) ∙ h;
      unfit = unfit;
    }

    next : Later → (text : Bytes) → text_before words word ≡ Some text → (more : Option SaidOp) → op_more before text ≡ more
        → ((or_at_fault word more) >>= (λ more. op_by more words)) ≡ Err why → UnfitAfter texts (word ∷ words) why
    next later text is (Some more) goes e =
        let after = later more text (told_more texts before text h ∙ ap (option_and_then (λ it. Some it)) goes) e in record {
          front = word ∷ after.front;
          word = after.word;
          rest = after.rest;
          more = text ∷ after.more;
          now = after.now;
          cut = ap (λ (ws : List Word). word ∷ ws) after.cut;
          named = after.named;
          read = (λ i. whole_too words word text is i ∷ after.read i);
          so_far = ap (told said.Nothing) (sym (append_assoc texts (text ∷ []) after.more)) ∙ after.so_far;
          unfit = after.unfit;
        }
    next later text is None stops e =
        let named : fault.BadWords (text_of word) ≡ why = cc in here named (λ other same. let one : text ≡ other = cc in subst (λ t. op_more before t ≡ None) one stops)

    go : Later → (text : Option Bytes) → text_before words word ≡ text
        → ((or_at_fault word (option_and_then (op_more before) text)) >>= (λ more. op_by more words)) ≡ Err why
        → UnfitAfter texts (word ∷ words) why
    go later (Some text) is e = next later text is (op_more before text) refl e
    go later None is e = let named : fault.BadWords (text_of word) ≡ why = cc in here named (λ other same. absurd cc)

-- what the words after `add` are refused for
pub add_refused : (words : List Word) (why : Fault) → add_words words ≡ Err why
    → (named : Bytes) × (why ≡ fault.BadWords named) × (IsFirstUnfit BeginsOp words named ⊎ (AreTooFew BeginsOp words × (named ≡ codes "add")))
unfolding add_words
add_refused words why e = go (op_by said.Nothing words) refl e
  where
    Goal : Type 0
    Goal = (named : Bytes) × (why ≡ fault.BadWords named) × (IsFirstUnfit BeginsOp words named ⊎ (AreTooFew BeginsOp words × (named ≡ codes "add")))

    few : (last : SaidOp) → op_by said.Nothing words ≡ Ok last → (o : Option RawOp) → added o ≡ Err why → Goal
    few last is (Some op) e = absurd cc
    few last is None e =
        let by = told_by said.Nothing words last is in
        let named : fault.BadWords (codes "add") ≡ why = cc in
        (codes "add", sym named, inr (record { texts = by.0; read = by.1; fits = told_begins by.0 last by.2 }, refl))

    go : (r : Result SaidOp Fault) → op_by said.Nothing words ≡ r → (r >>= λ last. added (whole_op last)) ≡ Err why → Goal
    go (Ok last) is e = few last is (whole_op last) e
    go (Err other) is e =
        let same : other ≡ why = cc in
        let u = unfit_after said.Nothing [] words why refl (is ∙ ap (λ (f : Fault). Err f) same) in (
          text_of u.word,
          u.named,
          inl (record {
            front = u.front;
            word = u.word;
            rest = u.rest;
            texts = u.more;
            cut = u.cut;
            name = refl;
            read = u.read;
            fits = told_begins u.more u.now u.so_far;
            unfit = (λ text there. no_more u.more u.now text u.so_far (u.unfit text there));
          }),
        )
