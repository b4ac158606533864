-- The words of an operation are read as the operation that they say.
use Rattle.std.proofs.Common.{◌≡◌, ◌≢◌, ℕ, Bool, true, false, cond, List, [], ◌∷◌, ◌++◌, codes, decimal, Option, Some, None, Result, Ok, Err, refl, sym, ap, subst, ◌∙◌, append_assoc, append-nil, eqb-true}
use Rattle.std.specs.Prelude.{◌==◌, option_and_then, option_map, bytes_eq}
use Rattle.std.specs.Result.{result_ok}
use Rattle.std.proofs.lemmas.Option.{cond_some}
use Rattle.std.proofs.lemmas.Slice.Eq.{bytes_eq-Decides}
use Rattle.plain_model.specs.declared.fault.Fault.{Fault}
use Rattle.plain_model.specs.declared.fault.Why.{Why}
use Rattle.plain_model.specs.declared.fault.Why.TheVariants.{BadMark, LeftOut}
use Rattle.plain_model.specs.declared.operation.Mode.{Mode}
use Rattle.plain_model.specs.declared.operation.Mode.TheVariants.{Plain, Executable, Link, Gitlink}
use Rattle.plain_model.specs.declared.raw.RawContent.{RawContent}
use Rattle.plain_model.specs.declared.raw.RawContent.TheVariants.{Marked, Object, Inline}
use Rattle.plain_model.specs.declared.raw.RawOp.{RawOp}
use Rattle.plain_model.specs.declared.raw.RawOp.TheVariants as raw
use Rattle.plain_model.specs.Fields.{◌>>=◌ as ◌then_field◌, HasItsContent, content_in, inline_content, is_left_out_id, mark_in, marked_content, mode_in, or_defect}
use Rattle.plain_model.specs.Objects.{as_object, is_object}
use Rattle.plain_model.specs.Parts.{begins, mark_of}
use Rattle.plain_model.specs.Paths.{Bytes, IsPath, path_fault}
use Rattle.field_laws.proofs.FieldSteps.{bind_ok, or_defect_is}
use Rattle.field_laws.proofs.FieldsAgain.{content_again}
use Rattle.field_laws.proofs.Numerals.{mark_read}
use Rattle.field_laws.proofs.Written.{mark_numeral}
use Rattle.plain_model.specs.Text.{mode_text}
use Rattle.script_lines.specs.Answering.{◌>>=◌}
use Rattle.script_lines.specs.Texts.{or_at_fault, text_before, texts_in}
use Rattle.script_lines.specs.declared.word.Word.{Word}
use Rattle.script_reader.specs.Edits.{add_words, added, op_by}
use Rattle.script_reader.specs.Spelled.{IsSpelled, SaysOp, content_of, kind_of, mode_of, op_more, op_texts, path_of, unless_inline, whole_op}
use Rattle.script_reader.specs.declared.edit.Edit.TheVariants as edit
use Rattle.script_reader.specs.declared.spelled.SaidOp.{SaidOp}
use Rattle.script_reader.specs.declared.spelled.SaidOp.TheVariants as said

-- ---- one text after another

-- what texts say that follow some
abbrev pub told : SaidOp → List Bytes → Option SaidOp
told before [] = Some before
told before (text ∷ texts) = option_and_then (λ more. told more texts) (op_more before text)

-- words that are read are texts that are told
pub told_by : (before : SaidOp) (words : List Word) (last : SaidOp) → op_by before words ≡ Ok last
    → (texts : List Bytes) × (texts_in words ≡ Ok texts) × (told before texts ≡ Some last)
told_by before [] last e = ([], refl, cc)
told_by before (word ∷ words) last e = go (λ more e. told_by more words last e) (text_before words word) refl e
  where
    Later : Type 0
    Later = (more : SaidOp) → op_by more words ≡ Ok last → (texts : List Bytes) × (texts_in words ≡ Ok texts) × (told more texts ≡ Some last)

    next : Later → (text : Bytes) → text_before words word ≡ Some text → (more : Option SaidOp) → op_more before text ≡ more
        → ((or_at_fault word more) >>= (λ more. op_by more words)) ≡ Ok last
        → (texts : List Bytes) × (texts_in (word ∷ words) ≡ Ok texts) × (told before texts ≡ Some last)
    next later text is (Some more) said e = let rest = later more e in (text ∷ rest.0, rw (is, rest.1) refl, rw said rest.2)
    next later text is None said e = absurd cc

    go : Later → (text : Option Bytes) → text_before words word ≡ text
        → ((or_at_fault word (option_and_then (op_more before) text)) >>= (λ more. op_by more words)) ≡ Ok last
        → (texts : List Bytes) × (texts_in (word ∷ words) ≡ Ok texts) × (told before texts ≡ Some last)
    go later (Some text) is e = next later text is (op_more before text) refl e
    go later None is e = absurd cc

-- and the other way round
pub by_told : (before : SaidOp) (words : List Word) (texts : List Bytes) (last : SaidOp) → texts_in words ≡ Ok texts → told before texts ≡ Some last
    → op_by before words ≡ Ok last
by_told before [] texts last h e = let none : [] ≡ texts = cc in let same : Some before ≡ Some last = subst (λ ts. told before ts ≡ Some last) (sym none) e in cc
by_told before (word ∷ words) texts last h e = go (λ now more rest e. by_told now words more last rest e) (text_before words word) refl h
  where
    Goal : Type 0
    Goal = op_by before (word ∷ words) ≡ Ok last

    Later : Type 0
    Later = (now : SaidOp) (more : List Bytes) → texts_in words ≡ Ok more → told now more ≡ Some last → op_by now words ≡ Ok last

    step : Later → (text : Bytes) → text_before words word ≡ Some text → (more : List Bytes) → texts_in words ≡ Ok more → (now : Option SaidOp)
        → op_more before text ≡ now
        → option_and_then (λ it. told it more) now ≡ Some last → Goal
    step later text is more rest (Some now) said e = rw (is, said) (later now more rest e)
    step later text is more rest None said e = absurd cc

    next : Later → (text : Bytes) → text_before words word ≡ Some text → (more : Result (List Bytes) Fault) → texts_in words ≡ more
        → (more >>= (λ texts. Ok (text ∷ texts))) ≡ Ok texts → Goal
    next later text is (Ok more) rest h =
        let same : text ∷ more ≡ texts = cc in step later text is more rest (op_more before text) refl (subst (λ ts. told before ts ≡ Some last) (sym same) e)
    next later text is (Err why) rest h = absurd cc

    go : Later → (text : Option Bytes) → text_before words word ≡ text
        → ((or_at_fault word text) >>= (λ text. texts_in words >>= λ texts. Ok (text ∷ texts))) ≡ Ok texts → Goal
    go later (Some text) is h = next later text is (texts_in words) refl h
    go later None is h = absurd cc

-- ---- what a word puts at a path

-- a text that says a content under a mode
abbrev pub SaysContent : Mode → RawContent → Bytes → Type 0
SaysContent mode (Marked mark) text = (digits : Bytes) × (text ≡ 58 ∷ digits) × (mark_of digits ≡ Some mark) × (mode ≢ Gitlink)
SaysContent mode (Object id) text = (text ≡ id) × (is_object id ≡ true)
SaysContent mode Inline text = ⊥

mark_said : (text : Bytes) (mark : ℕ) → mark_in text ≡ Ok mark → (digits : Bytes) × (text ≡ 58 ∷ digits) × (mark_of digits ≡ Some mark)
unfolding mark_in
mark_said [] mark e = absurd cc
mark_said (c ∷ digits) mark e = go (c == 58) refl e
  where
    go : (t : Bool) → (c == 58) ≡ t → cond t (or_defect BadMark (mark_of digits)) (Err BadMark) ≡ Ok mark
        → (ds : Bytes) × (c ∷ digits ≡ 58 ∷ ds) × (mark_of ds ≡ Some mark)
    go true is e = (digits, ap (λ d. d ∷ digits) (eqb-true c 58 is), or_defect_is BadMark (mark_of digits) mark e)
    go false is e = absurd cc

no_link : (mode : Mode) (mark : ℕ) (it : RawContent) → marked_content mode mark ≡ Ok it → (Marked mark ≡ it) × (mode ≢ Gitlink)
no_link Gitlink mark it e = absurd cc
no_link Plain mark it e = (cc, λ other. absurd cc)
no_link Executable mark it e = (cc, λ other. absurd cc)
no_link Link mark it e = (cc, λ other. absurd cc)

-- what is read of a text is nothing that follows, or the text says it
abbrev ReadBy : Mode → RawContent → Bytes → Type 0
ReadBy mode Inline text = Unit {0}
ReadBy mode it text = SaysContent mode it text

inline_read : (mode : Mode) (it : RawContent) (text : Bytes) → inline_content mode ≡ Ok it → ReadBy mode it text
inline_read Gitlink it text e = absurd cc
inline_read Plain it text e = let is : Inline ≡ it = cc in subst (λ it. ReadBy Plain it text) is tt
inline_read Executable it text e = let is : Inline ≡ it = cc in subst (λ it. ReadBy Executable it text) is tt
inline_read Link it text e = let is : Inline ≡ it = cc in subst (λ it. ReadBy Link it text) is tt

content_read : (mode : Mode) (text : Bytes) (it : RawContent) → content_in mode text ≡ Ok it → ReadBy mode it text
unfolding content_in
content_read mode text it e = go (begins (codes ":") text) (bytes_eq text (codes "inline")) (is_left_out_id text) e
  where
    object : Bytes → Result RawContent Why
    object digits = Ok (Object digits)

    go : (a b c : Bool)
        → cond a (mark_in text then_field λ mark. marked_content mode mark) (cond b (inline_content mode) (cond c (Err LeftOut) (or_defect BadMark (as_object text) then_field λ digits. Ok (Object digits)))) ≡ Ok it
        → ReadBy mode it text
    go true b c e =
        let m = bind_ok (mark_in text) (λ mark. marked_content mode mark) it e in
        let is = no_link mode m.0 it m.2 in
        let s = mark_said text m.0 m.1 in
        subst (λ it. ReadBy mode it text) is.0 (s.0, s.1, s.2, is.1)
    go false true c e = inline_read mode it text e
    go false false true e = absurd cc
    go false false false e =
        let o = bind_ok (or_defect BadMark (as_object text)) object it e in
        let d = cond_some (is_object text) text o.0 (or_defect_is BadMark (as_object text) o.0 o.1) in
        let is : Object o.0 ≡ it = cc in
        subst (λ it. ReadBy mode it text) is (d.1, subst (λ t. is_object t ≡ true) d.1 d.0)

content_said : (mode : Mode) (text : Bytes) (it : RawContent) → content_of mode text ≡ Some it → SaysContent mode it text
content_said mode text it e = go (content_in mode text) refl e
  where
    kept : (read : RawContent) → ReadBy mode read text → unless_inline read ≡ Some it → SaysContent mode it text
    kept (Marked mark) h e = let is : Marked mark ≡ it = cc in subst (λ it. SaysContent mode it text) is h
    kept (Object digits) h e = let is : Object digits ≡ it = cc in subst (λ it. SaysContent mode it text) is h
    kept Inline h e = absurd cc

    go : (r : Result RawContent Why) → content_in mode text ≡ r → option_and_then unless_inline (result_ok r) ≡ Some it → SaysContent mode it text
    go (Ok read) is e = kept read (content_read mode text read is) e
    go (Err why) is e = absurd cc

said_marked : (mode : Mode) (digits : Bytes) (mark : ℕ) → mark_of digits ≡ Some mark → mode ≢ Gitlink → content_of mode (58 ∷ digits) ≡ Some (Marked mark)
unfolding content_in mark_in
said_marked Gitlink digits mark h other = absurd (other refl)
said_marked Plain digits mark h other = rw h refl
said_marked Executable digits mark h other = rw h refl
said_marked Link digits mark h other = rw h refl

said_object : (mode : Mode) (id : Bytes) → is_object id ≡ true → content_of mode id ≡ Some (Object id)
said_object mode id h = ap (λ r. option_and_then unless_inline (result_ok r)) (content_again mode (Object id) [] (has mode) h)
  where
    has : (mode : Mode) → HasItsContent (raw.Modify mode (Object id) [])
    has Gitlink = tt
    has Plain = tt
    has Executable = tt
    has Link = tt

-- ---- what texts say

-- what is said so far, by the texts
abbrev pub SaidBy : SaidOp → List Bytes → Type 0
SaidBy said.Nothing texts = texts ≡ []
SaidBy said.Modify texts = texts ≡ codes "M" ∷ []
SaidBy (said.ModifyAs mode) texts = (m : Bytes) × (texts ≡ codes "M" ∷ m ∷ []) × (mode_in m ≡ Ok mode)
SaidBy (said.ModifyTo mode content) texts = (m : Bytes) × (text : Bytes) × (texts ≡ codes "M" ∷ m ∷ text ∷ []) × (mode_in m ≡ Ok mode) × SaysContent mode content text
SaidBy said.Delete texts = texts ≡ codes "D" ∷ []
SaidBy said.Copy texts = texts ≡ codes "C" ∷ []
SaidBy (said.CopyOf source) texts = (texts ≡ codes "C" ∷ source ∷ []) × IsPath source
SaidBy said.Rename texts = texts ≡ codes "R" ∷ []
SaidBy (said.RenameOf source) texts = (texts ≡ codes "R" ∷ source ∷ []) × IsPath source
SaidBy (said.Whole op) texts = SaysOp texts op

-- what is made of a value that a text says
made : {A : Type 0} (texts : List Bytes) (f : A → SaidOp) (o : Option A) (more : SaidOp) → option_map f o ≡ Some more
    → ((x : A) → o ≡ Some x → SaidBy (f x) texts) → SaidBy more texts
made texts f (Some x) more e h = let is : f x ≡ more = cc in subst (λ s. SaidBy s texts) is (h x refl)
made texts f None more e h = absurd cc

one_more : (texts front : List Bytes) (text : Bytes) → texts ≡ front → texts ++ text ∷ [] ≡ front ++ text ∷ []
one_more texts front text is = ap (λ (ts : List Bytes). ts ++ text ∷ []) is

path_said : (text path : Bytes) → path_of text ≡ Some path → (text ≡ path) × IsPath path
path_said text path e = go (path_fault text) refl e
  where
    go : (fault : Option _) → path_fault text ≡ fault → ◌≡◌ {A = Option Bytes} (elim fault [ None ↦ Some text | Some why ↦ None ]) (Some path)
        → (text ≡ path) × IsPath path
    go None is e = let same : text ≡ path = cc in (same, subst IsPath same is)
    go (Some why) is e = absurd cc

mode_said : (text : Bytes) (mode : Mode) → mode_of text ≡ Some mode → mode_in text ≡ Ok mode
mode_said text mode e = go (mode_in text) refl e
  where
    go : (r : Result Mode Why) → mode_in text ≡ r → result_ok r ≡ Some mode → mode_in text ≡ Ok mode
    go (Ok it) is e = let same : it ≡ mode = cc in is ∙ ap (λ m. Ok m) same
    go (Err why) is e = absurd cc

kind_said : (text : Bytes) (more : SaidOp) → kind_of text ≡ Some more → SaidBy more (text ∷ [])
kind_said text more e =
    go (bytes_eq text (codes "M")) (bytes_eq text (codes "D")) (bytes_eq text (codes "C")) (bytes_eq text (codes "R")) (bytes_eq text (codes "deleteall"))
    (λ h. alone (codes "M") h) (λ h. alone (codes "D") h) (λ h. alone (codes "C") h) (λ h. alone (codes "R") h) (λ h. alone (codes "deleteall") h) e
  where
    alone : (word : Bytes) → bytes_eq text word ≡ true → text ∷ [] ≡ word ∷ []
    alone word h = ap (λ (t : Bytes). t ∷ []) ((bytes_eq-Decides text word).0 h)

    is : (kind : SaidOp) → SaidBy kind (text ∷ []) → ◌≡◌ {A = Option SaidOp} (Some kind) (Some more) → SaidBy more (text ∷ [])
    is kind h e = let same : kind ≡ more = cc in subst (λ s. SaidBy s (text ∷ [])) same h

    Is : Bool → Bytes → Type 0
    Is t word = t ≡ true → text ∷ [] ≡ word ∷ []

    go : (m d c r all : Bool) → Is m (codes "M") → Is d (codes "D") → Is c (codes "C") → Is r (codes "R") → Is all (codes "deleteall")
        → cond m (Some said.Modify) (cond d (Some said.Delete) (cond c (Some said.Copy) (cond r (Some said.Rename) (cond all (Some (said.Whole raw.DeleteAll)) None)))) ≡ Some more
        → SaidBy more (text ∷ [])
    go true d c r all hm hd hc hr ha e = is said.Modify (hm refl) e
    go false true c r all hm hd hc hr ha e = is said.Delete (hd refl) e
    go false false true r all hm hd hc hr ha e = is said.Copy (hc refl) e
    go false false false true all hm hd hc hr ha e = is said.Rename (hr refl) e
    go false false false false true hm hd hc hr ha e = is (said.Whole raw.DeleteAll) (ha refl) e
    go false false false false false hm hd hc hr ha e = absurd cc

put_said : (mode : Mode) (content : RawContent) (texts : List Bytes) (text path : Bytes) → SaidBy (said.ModifyTo mode content) texts → text ≡ path → IsPath path
    → SaysOp (texts ++ text ∷ []) (raw.Modify mode content path)
put_said mode (Marked mark) texts text path (m, c, is, named, (digits, from, marks, other)) same fits =
    (m, digits, one_more texts _ text is ∙ (λ i. codes "M" ∷ m ∷ from i ∷ same i ∷ []), named, marks, other, fits)
put_said mode (Object id) texts text path (m, c, is, named, (from, fine)) same fits =
    (m, one_more texts _ text is ∙ (λ i. codes "M" ∷ m ∷ from i ∷ same i ∷ []), named, fine, fits)
put_said mode Inline texts text path (m, c, is, named, none) same fits = absurd none

more_said : (before : SaidOp) (texts : List Bytes) (text : Bytes) (more : SaidOp) → SaidBy before texts → op_more before text ≡ Some more
    → SaidBy more (texts ++ text ∷ [])
more_said said.Nothing texts text more h e = subst (λ ts. SaidBy more (ts ++ text ∷ [])) (sym h) (kind_said text more e)
more_said said.Modify texts text more h e =
    made (texts ++ text ∷ []) said.ModifyAs (mode_of text) more e (λ mode is. (text, one_more texts _ text h, mode_said text mode is))
more_said (said.ModifyAs mode) texts text more (m, is, named) e =
    made (texts ++ text ∷ []) (said.ModifyTo mode) (content_of mode text) more e (λ it says. (m, text, one_more texts _ text is, named, content_said mode text it says))
more_said (said.ModifyTo mode content) texts text more h e =
    made (texts ++ text ∷ []) (λ path. said.Whole (raw.Modify mode content path)) (path_of text) more e
    (λ path is. let p = path_said text path is in put_said mode content texts text path h p.0 p.1)
more_said said.Delete texts text more h e =
    made (texts ++ text ∷ []) (λ path. said.Whole (raw.Delete path)) (path_of text) more e
    (λ path is. let p = path_said text path is in (one_more texts _ text h ∙ (λ i. codes "D" ∷ p.0 i ∷ []), p.1))
more_said said.Copy texts text more h e =
    made (texts ++ text ∷ []) said.CopyOf (path_of text) more e
    (λ path is. let p = path_said text path is in (one_more texts _ text h ∙ (λ i. codes "C" ∷ p.0 i ∷ []), p.1))
more_said (said.CopyOf source) texts text more (is, fits) e =
    made (texts ++ text ∷ []) (λ target. said.Whole (raw.Copy source target)) (path_of text) more e
    (λ path it. let p = path_said text path it in (one_more texts _ text is ∙ (λ i. codes "C" ∷ source ∷ p.0 i ∷ []), fits, p.1))
more_said said.Rename texts text more h e =
    made (texts ++ text ∷ []) said.RenameOf (path_of text) more e
    (λ path is. let p = path_said text path is in (one_more texts _ text h ∙ (λ i. codes "R" ∷ p.0 i ∷ []), p.1))
more_said (said.RenameOf source) texts text more (is, fits) e =
    made (texts ++ text ∷ []) (λ target. said.Whole (raw.Rename source target)) (path_of text) more e
    (λ path it. let p = path_said text path it in (one_more texts _ text is ∙ (λ i. codes "R" ∷ source ∷ p.0 i ∷ []), fits, p.1))
more_said (said.Whole op) texts text more h e = absurd cc

-- texts that are told say what they are told as
pub told_said : (before : SaidOp) (front texts : List Bytes) (last : SaidOp) → SaidBy before front → told before texts ≡ Some last → SaidBy last (front ++ texts)
told_said before front [] last h e = let is : before ≡ last = cc in subst (λ s. SaidBy s (front ++ [])) is (subst (SaidBy before) (sym (append-nil front)) h)
told_said before front (text ∷ texts) last h e = go (λ more h e. told_said more (front ++ text ∷ []) texts last h e) (op_more before text) refl e
  where
    Later : Type 0
    Later = (more : SaidOp) → SaidBy more (front ++ text ∷ []) → told more texts ≡ Some last → SaidBy last ((front ++ text ∷ []) ++ texts)

    go : Later → (o : Option SaidOp) → op_more before text ≡ o → option_and_then (λ more. told more texts) o ≡ Some last → SaidBy last (front ++ text ∷ texts)
    go later (Some more) is e = subst (SaidBy last) (append_assoc front (text ∷ []) texts) (later more (more_said before front text more h is) e)
    go later None is e = absurd cc

-- one text is told after those before it
told_next : (before more : SaidOp) (text : Bytes) (texts : List Bytes) → op_more before text ≡ Some more → told before (text ∷ texts) ≡ told more texts
told_next before more text texts is = ap (option_and_then (λ it. told it texts)) is

mode_told : (text : Bytes) (mode : Mode) (texts : List Bytes) → mode_in text ≡ Ok mode → told said.Modify (text ∷ texts) ≡ told (said.ModifyAs mode) texts
mode_told text mode texts is = told_next said.Modify (said.ModifyAs mode) text texts (ap (λ r. option_map said.ModifyAs (result_ok r)) is)

path_told : (path : Bytes) → IsPath path → path_of path ≡ Some path
path_told path fits = ap (λ why. elim why [ None ↦ Some path | Some it ↦ None ]) fits

put_told : (mode : Mode) (content : RawContent) (text path : Bytes) → content_of mode text ≡ Some content → IsPath path
    → told (said.ModifyAs mode) (text ∷ path ∷ []) ≡ Some (said.Whole (raw.Modify mode content path))
put_told mode content text path is fits = told_next (said.ModifyAs mode) (said.ModifyTo mode content) text (path ∷ []) (ap (option_map (said.ModifyTo mode)) is)
    ∙ told_next (said.ModifyTo mode content) (said.Whole (raw.Modify mode content path)) path []
    (ap (option_map (λ path. said.Whole (raw.Modify mode content path))) (path_told path fits))

-- texts that say an operation are told as it
pub said_told : (texts : List Bytes) (op : RawOp) → SaysOp texts op → told said.Nothing texts ≡ Some (said.Whole op)
said_told texts (raw.Modify mode (Marked mark) path) (m, digits, is, named, marks, other, fits) =
    ap (told said.Nothing) is ∙ mode_told m mode ((58 ∷ digits) ∷ path ∷ []) named
    ∙ put_told mode (Marked mark) (58 ∷ digits) path (said_marked mode digits mark marks other) fits
said_told texts (raw.Modify mode (Object id) path) (m, is, named, fine, fits) =
    ap (told said.Nothing) is ∙ mode_told m mode (id ∷ path ∷ []) named ∙ put_told mode (Object id) id path (said_object mode id fine) fits
said_told texts (raw.Modify mode Inline path) none = absurd none
said_told texts (raw.Delete path) (is, fits) =
    ap (told said.Nothing) is ∙ told_next said.Delete (said.Whole (raw.Delete path)) path []
    (ap (option_map (λ path. said.Whole (raw.Delete path))) (path_told path fits))
said_told texts (raw.Copy source target) (is, from, to) =
    ap (told said.Nothing) is ∙ told_next said.Copy (said.CopyOf source) source (target ∷ []) (ap (option_map said.CopyOf) (path_told source from))
    ∙ told_next (said.CopyOf source) (said.Whole (raw.Copy source target)) target []
    (ap (option_map (λ target. said.Whole (raw.Copy source target))) (path_told target to))
said_told texts (raw.Rename source target) (is, from, to) =
    ap (told said.Nothing) is ∙ told_next said.Rename (said.RenameOf source) source (target ∷ []) (ap (option_map said.RenameOf) (path_told source from))
    ∙ told_next (said.RenameOf source) (said.Whole (raw.Rename source target)) target []
    (ap (option_map (λ target. said.Whole (raw.Rename source target))) (path_told target to))
said_told texts raw.DeleteAll is = ap (told said.Nothing) is

-- ---- the words after `add`

whole_is : (last : SaidOp) (op : RawOp) → added (whole_op last) ≡ Ok (edit.Add op) → last ≡ said.Whole op
whole_is (said.Whole it) op e = let same : edit.Add it ≡ edit.Add op = cc in let is : it ≡ op = cc in ap said.Whole is
whole_is said.Nothing op e = absurd cc
whole_is said.Modify op e = absurd cc
whole_is (said.ModifyAs mode) op e = absurd cc
whole_is (said.ModifyTo mode content) op e = absurd cc
whole_is said.Delete op e = absurd cc
whole_is said.Copy op e = absurd cc
whole_is (said.CopyOf source) op e = absurd cc
whole_is said.Rename op e = absurd cc
whole_is (said.RenameOf source) op e = absurd cc

-- the words say an operation exactly where their texts do
pub add_says : (words : List Word) (op : RawOp) → add_words words ≡ Ok (edit.Add op) → (texts : List Bytes) × (texts_in words ≡ Ok texts) × SaysOp texts op
unfolding add_words
add_says words op e = go (op_by said.Nothing words) refl e
  where
    go : (r : Result SaidOp Fault) → op_by said.Nothing words ≡ r → (r >>= λ last. added (whole_op last)) ≡ Ok (edit.Add op)
        → (texts : List Bytes) × (texts_in words ≡ Ok texts) × SaysOp texts op
    go (Ok last) is e =
        let whole = whole_is last op e in
        let by = told_by said.Nothing words (said.Whole op) (is ∙ ap (λ s. Ok s) whole) in
        (by.0, by.1, told_said said.Nothing [] by.0 (said.Whole op) refl by.2)
    go (Err why) is e = absurd cc

pub says_add : (words : List Word) (op : RawOp) → ((texts : List Bytes) × (texts_in words ≡ Ok texts) × SaysOp texts op) → add_words words ≡ Ok (edit.Add op)
unfolding add_words
says_add words op (texts, are, says) = rw (by_told said.Nothing words texts (said.Whole op) are (said_told texts op says)) refl

-- ---- an operation as it is written

pub mode_again : (mode : Mode) → mode_in (mode_text mode) ≡ Ok mode
unfolding mode_in
mode_again Plain = refl
mode_again Executable = refl
mode_again Link = refl
mode_again Gitlink = refl

pub texts_say : (op : RawOp) → IsSpelled op → SaysOp (op_texts op) op
texts_say (raw.Modify mode (Marked mark) path) h =
    (mode_text mode, decimal mark, refl, mode_again mode, mark_read (decimal mark) mark (mark_numeral mark h.fits.0) h.fits.0, other mode h.content, h.fits.1)
  where
    other : (mode : Mode) → HasItsContent (raw.Modify mode (Marked mark) path) → mode ≢ Gitlink
    other Gitlink has is = has
    other Plain has is = absurd cc
    other Executable has is = absurd cc
    other Link has is = absurd cc
texts_say (raw.Modify mode (Object id) path) h = (mode_text mode, refl, mode_again mode, h.fits.0, h.fits.1)
texts_say (raw.Modify mode Inline path) h = h.data_free
texts_say (raw.Delete path) h = (refl, h.fits)
texts_say (raw.Copy source target) h = (refl, h.fits.0, h.fits.1)
texts_say (raw.Rename source target) h = (refl, h.fits.0, h.fits.1)
texts_say raw.DeleteAll h = refl
