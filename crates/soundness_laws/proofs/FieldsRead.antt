-- What the fields are like that are read from a line without LF.
use Rattle.std.proofs.Common.{◌≡◌, ℕ, ◌-◌, ◌≤◌, Bool, true, false, cond, not, [], ◌∷◌, ◌++◌, length, drop, codes, Option, Some, None, Result, Ok, Err, refl, sym, ap, subst, ◌∙◌, inl, inr}
use Rattle.std.specs.Prelude.{◌==◌, ◌&&◌, bytes_eq}
use Rattle.std.proofs.lemmas.Bool.{and_parts}
use Rattle.std.proofs.lemmas.Option.{cond_some}
use Rattle.plain_model.specs.declared.fault.Why.{Why}
use Rattle.plain_model.specs.declared.fault.Why.TheVariants.{BadMark, BadName, BadPath, LeftOut}
use Rattle.plain_model.specs.declared.operation.Mode.{Mode}
use Rattle.plain_model.specs.declared.operation.Mode.TheVariants.{Plain, Executable, Link, Gitlink}
use Rattle.plain_model.specs.declared.path.PathFault.{PathFault}
use Rattle.plain_model.specs.declared.path.PathFault.TheVariants.{Empty}
use Rattle.plain_model.specs.declared.person.Signed.{Signed}
use Rattle.plain_model.specs.declared.raw.Place.{Place}
use Rattle.plain_model.specs.declared.raw.Place.TheVariants.{Last}
use Rattle.plain_model.specs.declared.raw.RawContent.{RawContent}
use Rattle.plain_model.specs.declared.raw.RawContent.TheVariants.{Marked, Object, Inline}
use Rattle.plain_model.specs.Fields.{◌>>=◌, or_defect, after_space, mark_in, name_in, person_in, path_in, path_by, quoted_path, judged_path, unquoted, may_follow, plain_path, last_path_in, content_in, marked_content, inline_content, is_left_out_id}
use Rattle.plain_model.specs.Fields.Quoting.{Between}
use Rattle.plain_model.specs.Names.{is_name}
use Rattle.plain_model.specs.Objects.{is_object, as_object}
use Rattle.plain_model.specs.Parts.{begins, has_no_lf}
use Rattle.plain_model.specs.Paths.{Bytes, IsPath, path_fault}
use Rattle.plain_model.specs.People.{is_clean, IsNamePart}
use Rattle.plain_model.specs.Soundness.{IsFormedSigned}
use Rattle.stream_grammar.specs.Lines.{text_of}
use Rattle.field_laws.proofs.FieldSteps.{bind_ok, or_defect_is, same_Ok}
use Rattle.field_laws.proofs.Persons.{person_in_is, four_digits}
use Rattle.field_laws.proofs.Written.{plain_parts}

-- ---- parts of a line

-- what is after the first space
pub plain_text : (line : Bytes) → has_no_lf line ≡ true → has_no_lf (text_of line) ≡ true
plain_text [] h = refl
plain_text (b ∷ bs) h = go (b == 32) (plain_text bs (and_parts (not (b == 10)) (has_no_lf bs) h).1)
  where
    go : (t : Bool) → has_no_lf (text_of bs) ≡ true → has_no_lf (elim (cond t (Some bs) (after_space bs)) [ None ↦ [] | Some text ↦ text ]) ≡ true
    go true more = (and_parts (not (b == 10)) (has_no_lf bs) h).1
    go false more = more

-- ---- marks, names, people

pub name_fits : (text name : Bytes) → name_in text ≡ Ok name → is_name name ≡ true
unfolding name_in
name_fits text name e = go (is_name text) refl e
  where
    go : (t : Bool) → is_name text ≡ t → ◌≡◌ {A = Result Bytes Why} (cond t (Ok text) (Err BadName)) (Ok name) → is_name name ≡ true
    go true is e = subst (λ (n : Bytes). is_name n ≡ true) (same_Ok text name e) is
    go false is e = absurd cc

-- the name is plain where the part before the email is
plain_name : (part name : Bytes) → IsNamePart part name → has_no_lf part ≡ true → has_no_lf name ≡ true
plain_name part name (inl e) h = ap has_no_lf e.1
plain_name part name (inr e) h = (plain_parts name (32 ∷ []) (sym (ap has_no_lf e) ∙ h)).0

pub person_fits : (text : Bytes) (who : Signed) → has_no_lf text ≡ true → person_in text ≡ Ok who → IsFormedSigned who
person_fits text who h e =
    let s = person_in_is text who e in
    let parts = plain_parts s.part (60 ∷ (who.person.email ++ 62 ∷ 32 ∷ (s.digits ++ 32 ∷ s.zone))) (sym (ap has_no_lf s.is) ∙ h) in
    let after = and_parts (not (60 == 10)) (has_no_lf (who.person.email ++ 62 ∷ 32 ∷ (s.digits ++ 32 ∷ s.zone))) parts.1 in
    let email = plain_parts who.person.email (62 ∷ 32 ∷ (s.digits ++ 32 ∷ s.zone)) after.1 in
    let name = plain_name s.part who.person.name s.name parts.0 in
    let offset : who.when.offset ≤ 9999 = subst (λ v. v ≤ 9999) s.offset.numeral.value (four_digits s.offset.digits s.offset.four s.offset.numeral.all) in
    (fields s.clean_name name s.clean_email email.0, s.in_time, offset)
  where
    fields : is_clean who.person.name ≡ true → has_no_lf who.person.name ≡ true → is_clean who.person.email ≡ true → has_no_lf who.person.email ≡ true
        → (is_clean who.person.name && has_no_lf who.person.name && is_clean who.person.email && has_no_lf who.person.email) ≡ true
    fields a b c d = λ i. a i && b i && c i && d i

-- ---- paths

judged_fits : (bytes path : Bytes) (f : Option PathFault) → path_fault bytes ≡ f → judged_path bytes f ≡ Ok path → IsPath path
judged_fits bytes path None is e = subst IsPath (same_Ok bytes path e) is
judged_fits bytes path (Some Empty) is e = absurd cc
judged_fits bytes path (Some _) is e = absurd cc

path_by_fits : (bytes path : Bytes) → path_by bytes ≡ Ok path → IsPath path
unfolding path_by
path_by_fits bytes path e = judged_fits bytes path (path_fault bytes) refl e

-- a path and how much of the text it takes
with_size_fits : (bytes : Bytes) (n : ℕ) (p : Bytes × ℕ) → (path_by bytes >>= λ path. Ok (path, n)) ≡ Ok p → IsPath p.0
with_size_fits bytes n p e =
    let b = bind_ok (path_by bytes) (λ path. Ok (path, n)) p e in
    subst (λ (q : Bytes × ℕ). IsPath q.0) (same_Ok {A = Bytes × ℕ} (b.0, n) p b.2) (path_by_fits bytes b.0 b.1)

quoted_fits : (place : Place) (text : Bytes) (q : Option (Bytes × Bytes)) (p : Bytes × ℕ) → quoted_path place text q ≡ Ok p → IsPath p.0
unfolding quoted_path
quoted_fits place text None p e = absurd cc
quoted_fits place text (Some q) p e = go (may_follow place q.1) e
  where
    go : (t : Bool) → cond t (path_by q.0 >>= λ path. Ok (path, length text - length q.1)) (Err BadPath) ≡ Ok p → IsPath p.0
    go true e = with_size_fits q.0 (length text - length q.1) p e
    go false e = absurd cc

pub path_fits : (place : Place) (text : Bytes) (p : Bytes × ℕ) → path_in place text ≡ Ok p → IsPath p.0
unfolding path_in
path_fits place text p e = go (begins (codes "\"") text) e
  where
    go : (t : Bool) → cond t (quoted_path place text (unquoted Between (drop 1 text))) (path_by (plain_path place text) >>= λ path. Ok (path, length (plain_path place text))) ≡ Ok p → IsPath p.0
    go true e = quoted_fits place text (unquoted Between (drop 1 text)) p e
    go false e = with_size_fits (plain_path place text) (length (plain_path place text)) p e

pub last_path_fits : (text : Option Bytes) (path : Bytes) → last_path_in text ≡ Ok path → IsPath path
unfolding last_path_in
last_path_fits None path e = absurd cc
last_path_fits (Some text) path e =
    let p = bind_ok (path_in Last text) (λ p. Ok p.0) path e in
    subst IsPath (same_Ok p.0.0 path p.2) (path_fits Last text p.0 p.1)

-- ---- contents

-- what a mode has of this text: an object; or, but for a link to another repository, a mark or the bytes that follow
abbrev pub FitsMode : Mode → Bytes → RawContent → Type 0
FitsMode mode text (Object digits) = is_object digits ≡ true
FitsMode Gitlink text (Marked mark) = ⊥
FitsMode Gitlink text Inline = ⊥
FitsMode mode text (Marked mark) = Unit {0}
FitsMode mode text Inline = bytes_eq text (codes "inline") ≡ true

marked_fits : (mode : Mode) (text : Bytes) (mark : ℕ) (raw : RawContent) → marked_content mode mark ≡ Ok raw → FitsMode mode text raw
marked_fits Gitlink text mark raw e = absurd cc
marked_fits Plain text mark raw e = subst (FitsMode Plain text) (same_Ok (Marked mark) raw e) tt
marked_fits Executable text mark raw e = subst (FitsMode Executable text) (same_Ok (Marked mark) raw e) tt
marked_fits Link text mark raw e = subst (FitsMode Link text) (same_Ok (Marked mark) raw e) tt

inline_fits : (mode : Mode) (text : Bytes) (raw : RawContent) → bytes_eq text (codes "inline") ≡ true → inline_content mode ≡ Ok raw → FitsMode mode text raw
inline_fits Gitlink text raw is e = absurd cc
inline_fits Plain text raw is e = subst (FitsMode Plain text) (same_Ok Inline raw e) is
inline_fits Executable text raw is e = subst (FitsMode Executable text) (same_Ok Inline raw e) is
inline_fits Link text raw is e = subst (FitsMode Link text) (same_Ok Inline raw e) is

object_fits : (mode : Mode) (text : Bytes) (raw : RawContent) → (or_defect BadMark (as_object text) >>= λ digits. Ok (Object digits)) ≡ Ok raw → FitsMode mode text raw
object_fits mode text raw e =
    let o = bind_ok (or_defect BadMark (as_object text)) (λ digits. Ok (Object digits)) raw e in
    let d = cond_some (is_object text) text o.0 (or_defect_is BadMark (as_object text) o.0 o.1) in
    subst (FitsMode mode text) (same_Ok (Object o.0) raw o.2) (subst (λ (t : Bytes). is_object t ≡ true) d.1 d.0)

pub content_fits : (mode : Mode) (text : Bytes) (raw : RawContent) → content_in mode text ≡ Ok raw → FitsMode mode text raw
unfolding content_in
content_fits mode text raw e = go (begins (codes ":") text) (bytes_eq text (codes "inline")) (is_left_out_id text) refl e
  where
    go : (a b c : Bool) → bytes_eq text (codes "inline") ≡ b
        → cond a (mark_in text >>= λ mark. marked_content mode mark) (cond b (inline_content mode) (cond c (Err LeftOut) (or_defect BadMark (as_object text) >>= λ digits. Ok (Object digits)))) ≡ Ok raw
        → FitsMode mode text raw
    go true b c is e = let m = bind_ok (mark_in text) (λ mark. marked_content mode mark) raw e in marked_fits mode text m.0 raw m.2
    go false true c is e = inline_fits mode text raw is e
    go false false true is e = absurd cc
    go false false false is e = object_fits mode text raw e
