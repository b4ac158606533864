-- A field that is written is read as the same value.
use Rattle.std.proofs.Common.{◌≡◌, ℕ, true, false, cond, not, [], ◌∷◌, ◌++◌, length, take, drop, Some, None, Result, Ok, Err, refl, sym, ap, subst, ◌∙◌, arith, append_assoc, append-nil, eqb-true, le-leb, ne_eqb, drop_at, take_at, length-append, codes, decimal}
use Rattle.std.specs.Prelude.{◌==◌, ◌&&◌, bytes_eq, nat_le}
use Rattle.std.specs.List.{list_all}
use Rattle.std.proofs.lemmas.Bool.{and_parts, or_from, cond-true, cond-false, not-true}
use Rattle.plain_model.specs.declared.fault.Why.{Why}
use Rattle.plain_model.specs.declared.fault.Why.TheVariants.{BadMark, Truncated, LeftOut}
use Rattle.plain_model.specs.declared.operation.Mode.{Mode}
use Rattle.plain_model.specs.declared.operation.Mode.TheVariants.{Plain, Executable, Link, Gitlink}
use Rattle.plain_model.specs.declared.person.Signed.{Signed}
use Rattle.plain_model.specs.declared.raw.Place.TheVariants.{Last, Source}
use Rattle.plain_model.specs.declared.raw.RawContent.{RawContent}
use Rattle.plain_model.specs.declared.raw.RawContent.TheVariants.{Marked, Object, Inline}
use Rattle.plain_model.specs.declared.raw.RawOp.{RawOp}
use Rattle.plain_model.specs.declared.raw.RawOp.TheVariants.{Modify, Delete, Copy, Rename, DeleteAll}
use Rattle.plain_model.specs.Marks.{IsMark}
use Rattle.field_laws.proofs.Decimals.{numeral_of}
use Rattle.plain_model.specs.Numbers.{decimal_of, is_digit}
use Rattle.plain_model.specs.Objects.{is_hex, is_object, as_object}
use Rattle.plain_model.specs.Paths.{Bytes, IsPath}
use Rattle.plain_model.specs.Parts.{begins, mark_of, skip_lf}
use Rattle.plain_model.specs.Soundness.{IsFormedSigned}
use Rattle.plain_model.specs.People.{is_clean}
use Rattle.plain_model.specs.Parts.{has_no_lf}
use Rattle.plain_model.specs.Text.{marked, person, raw_content_text, raw_op_text, last_path, source_path}
use Rattle.plain_model.specs.Fields.{first_word, after_space, or_defect, mark_in, person_in, path_in, mode_in, content_in, marked_content, inline_content, is_any_hex, is_left_out_id, last_path_in, modify_in, paths_in, op_in, HasItsContent, ContentFits, OpFits, Extent, extent_by, extent_in, data_text, block_at, block_after, block_in}
use Rattle.plain_model.specs.Fields.{◌>>=◌ as ◌then_field◌}
use Rattle.field_laws.proofs.FieldSteps.{ok_then, or_defect_found}
use Rattle.plain_model.proofs.Numbers.{eqb_turned}
use Rattle.field_laws.proofs.Numerals.{mark_read, numeral_read}
use Rattle.field_laws.proofs.Persons.{all_pass, digit_isnt, person_in_read}
use Rattle.field_laws.proofs.Written.{mark_numeral, person_written}
use Rattle.field_laws.proofs.Words.{has_no_space, first_word_space, after_space_space}
use Rattle.field_laws.proofs.PathsAgain.{path_again}

-- ---- marks and people

pub mark_again : (mark : ℕ) → IsMark mark → mark_in (marked mark) ≡ Ok mark
unfolding mark_in
mark_again mark h = or_defect_found BadMark (mark_of (decimal mark)) mark (mark_read (decimal mark) mark (mark_numeral mark h) h)

pub person_again : (who : Signed) → IsFormedSigned who → person_in (person who) ≡ Ok who
person_again who (clean, time, digits) =
    let a = and_parts (is_clean who.person.name && has_no_lf who.person.name && is_clean who.person.email) (has_no_lf who.person.email) clean in
    let b = and_parts (is_clean who.person.name && has_no_lf who.person.name) (is_clean who.person.email) a.0 in
    let c = and_parts (is_clean who.person.name) (has_no_lf who.person.name) b.0 in
    person_in_read (person who) who (person_written who (record { clean_name = c.0; clean_email = b.1; plain_name = c.1; plain_email = a.1; in_time = time; four_digits = digits }))

-- ---- operations

pub last_path_again : (path : Bytes) → IsPath path → last_path_in (Some (last_path path)) ≡ Ok path
unfolding last_path_in
last_path_again path h =
    ok_then (path_in Last (last_path path)) (λ p. path_of p.0) (path, length (last_path path)) (Ok path)
    (ap (path_in Last) (sym (append-nil (last_path path))) ∙ path_again Last path [] h refl) refl
  where
    path_of : Bytes → Result Bytes Why
    path_of p = Ok p

abbrev modify : Mode → RawContent → Bytes → Result RawOp Why
modify mode content path = Ok (Modify mode content path)

abbrev pub both : Bytes → Bytes → Result (Bytes × Bytes) Why
both source target = Ok (source, target)

abbrev deleted : Bytes → Result RawOp Why
deleted path = Ok (Delete path)

abbrev copied : Bytes → Bytes → Result RawOp Why
copied source target = Ok (Copy source target)

abbrev renamed : Bytes → Bytes → Result RawOp Why
renamed source target = Ok (Rename source target)

-- ---- what is put at a path

pub hex_isnt : (d other : ℕ) → is_hex other ≡ false → is_hex d ≡ true → (d == other) ≡ false
hex_isnt d other n h = ne_eqb d other (λ e. absurd (let both : is_hex other ≡ true = subst (λ b. is_hex b ≡ true) e h in cc))

-- the digits of an id
object_again : (mode : Mode) (digits : Bytes) → is_object digits ≡ true → content_in mode digits ≡ Ok (Object digits)
unfolding content_in
object_again mode [] h = absurd (cc)
object_again mode (d ∷ ds) h =
    let digits = d ∷ ds in
    let a = and_parts ((length digits == 40) && list_all is_hex digits) (not (list_all (λ b. b == 48) digits)) h in
    let b = and_parts (length digits == 40) (list_all is_hex digits) a.0 in
    let first = (and_parts (is_hex d) (list_all is_hex ds) b.1).0 in
    let size : length digits ≡ 40 = eqb-true (length digits) 40 b.0 in
    let kept : is_left_out_id digits ≡ false =
    or_from ((length digits == 64) && list_all is_any_hex digits) ((length digits == 40) && list_all (λ b. b == 48) digits)
    (ap (λ t. t && list_all is_any_hex digits) (ne_eqb (length digits) 64 (λ e. absurd (omega (arith, e, size)))))
    ((λ j. b.0 j && not-true (list_all (λ b. b == 48) digits) a.1 j)) in
    let found = or_defect BadMark (as_object digits) then_field λ id. object id in
    let rest = cond (is_left_out_id digits) (Err LeftOut) found in
    cond-false (begins (codes ":") digits) (mark_in digits then_field λ mark. marked_content mode mark) (cond (bytes_eq digits (codes "inline")) (inline_content mode) rest)
    (ap (λ t. t && true) (eqb_turned 58 d ∙ hex_isnt d 58 refl first))
    ∙ cond-false (bytes_eq digits (codes "inline")) (inline_content mode) rest (ap (λ t. t && bytes_eq ds (codes "nline")) (hex_isnt d 105 refl first))
    ∙ cond-false (is_left_out_id digits) (Err LeftOut) found kept
    ∙ ok_then (or_defect BadMark (as_object digits)) (λ id. object id) digits (object digits) (or_defect_found BadMark (as_object digits) digits (cond-true (is_object digits) (Some digits) None h)) refl
  where
    object : Bytes → Result RawContent Why
    object id = Ok (Object id)

marked_again : (mode : Mode) (mark : ℕ) → marked_content mode mark ≡ Ok (Marked mark) → IsMark mark → content_in mode (marked mark) ≡ Ok (Marked mark)
unfolding content_in
marked_again mode mark e h = ok_then (mark_in (marked mark)) (λ m. marked_content mode m) mark (Ok (Marked mark)) (mark_again mark h) e

pub content_again : (mode : Mode) (content : RawContent) (path : Bytes) → HasItsContent (Modify mode content path) → ContentFits content → content_in mode (raw_content_text content) ≡ Ok content
unfolding content_in
content_again mode (Object digits) path i h = object_again mode digits h
content_again Plain (Marked mark) path i h = marked_again Plain mark refl h
content_again Executable (Marked mark) path i h = marked_again Executable mark refl h
content_again Link (Marked mark) path i h = marked_again Link mark refl h
content_again Gitlink (Marked mark) path i h = absurd i
content_again Plain Inline path i h = refl
content_again Executable Inline path i h = refl
content_again Link Inline path i h = refl
content_again Gitlink Inline path i h = absurd i

-- what is put has no space
pub spaceless : (content : RawContent) → ContentFits content → has_no_space (raw_content_text content) ≡ true
spaceless (Marked mark) h = all_pass is_digit (λ b. not (b == 32)) digit_isnt (decimal mark) (mark_numeral mark h).all
spaceless (Object digits) h =
    let a = and_parts ((length digits == 40) && list_all is_hex digits) (not (list_all (λ b. b == 48) digits)) h in
    all_pass is_hex (λ b. not (b == 32)) (λ b e. ap not (hex_isnt b 32 refl e)) digits (and_parts (length digits == 40) (list_all is_hex digits) a.0).1
spaceless Inline h = refl

-- ---- whole operations

-- after its mode
content_and_path : (mode : Mode) (content : RawContent) (path : Bytes) → HasItsContent (Modify mode content path) → ContentFits content → IsPath path
    → (let fields = raw_content_text content ++ codes " " ++ last_path path in
    (content_in mode (first_word fields) then_field λ c. last_path_in (after_space fields) then_field λ p. modify mode c p) ≡ modify mode content path)
content_and_path mode content path i h k =
    let text = raw_content_text content in
    let fields = text ++ codes " " ++ last_path path in
    let whole : fields ≡ text ++ 32 ∷ last_path path = append_assoc text (codes " ") (last_path path) in
    let plain = spaceless content h in
    let word : first_word fields ≡ text = ap first_word whole ∙ first_word_space text (last_path path) plain in
    let after : after_space fields ≡ Some (last_path path) = ap after_space whole ∙ after_space_space text (last_path path) plain in
    ok_then (content_in mode (first_word fields)) (λ c. last_path_in (after_space fields) then_field λ p. modify mode c p) content (modify mode content path)
    (ap (content_in mode) word ∙ content_again mode content path i h)
    (ok_then (last_path_in (after_space fields)) (λ p. modify mode content p) path (modify mode content path) (ap last_path_in after ∙ last_path_again path k) refl)

modify_again : (mode : Mode) (content : RawContent) (path : Bytes) → HasItsContent (Modify mode content path) → ContentFits content → IsPath path → op_in (raw_op_text (Modify mode content path)) ≡ Ok (Modify mode content path)
unfolding op_in modify_in mode_in
modify_again Plain content path i h k = content_and_path Plain content path i h k
modify_again Executable content path i h k = content_and_path Executable content path i h k
modify_again Link content path i h k = content_and_path Link content path i h k
modify_again Gitlink content path i h k = content_and_path Gitlink content path i h k

paths_again : (source target : Bytes) → IsPath source → IsPath target → paths_in (source_path source ++ codes " " ++ last_path target) ≡ both source target
unfolding paths_in
paths_again source target h k =
    let text = source_path source ++ codes " " ++ last_path target in
    let whole : text ≡ source_path source ++ 32 ∷ last_path target = append_assoc (source_path source) (codes " ") (last_path target) in
    let size = length (source_path source) in
    ok_then (path_in Source text) (λ s. last_path_in (after_space (drop s.1 text)) then_field λ t. both s.0 t) (source, size) (both source target)
    (ap (path_in Source) whole ∙ path_again Source source (32 ∷ last_path target) h refl)
    (ok_then (last_path_in (after_space (drop size text))) (λ t. both source t) target (both source target)
    (ap (λ (t : Bytes). last_path_in (after_space t)) (ap (drop size) whole ∙ drop_at (source_path source) (32 ∷ last_path target) size refl) ∙ last_path_again target k)
    refl)

pub op_again : (op : RawOp) → OpFits op → HasItsContent op → op_in (raw_op_text op) ≡ Ok op
unfolding op_in
op_again (Modify mode content path) (h, k) i = modify_again mode content path i h k
op_again (Delete path) h i = ok_then (last_path_in (Some (last_path path))) (λ p. deleted p) path (deleted path) (last_path_again path h) refl
op_again (Copy source target) (h, k) i = ok_then (paths_in (source_path source ++ codes " " ++ last_path target)) (λ p. copied p.0 p.1) (source, target) (copied source target) (paths_again source target h k) refl
op_again (Rename source target) (h, k) i = ok_then (paths_in (source_path source ++ codes " " ++ last_path target)) (λ p. renamed p.0 p.1) (source, target) (renamed source target) (paths_again source target h k) refl
op_again DeleteAll h i = refl

-- ---- data

-- a block, with its line and one LF after it
pub data_again : (bytes rest : Bytes) → block_in (codes "data " ++ decimal_of (length bytes)) (bytes ++ 10 ∷ rest) ≡ Ok (bytes, rest)
unfolding block_in block_after extent_in data_text
data_again bytes rest =
    let n = length bytes in
    let text = bytes ++ 10 ∷ rest in
    let fits : nat_le n (length text) ≡ true = le-leb n (length text) (omega (arith, length-append bytes (10 ∷ rest))) in
    ap (λ o. block_of (extent_by (decimal_of n) o) text) (numeral_read (decimal_of n) n (numeral_of n))
    ∙ ap (λ o. or_defect Truncated o then_field λ x. parts x.0 (skip_lf x.1)) (cond-true (nat_le n (length text)) (Some (take n text, drop n text)) None fits)
    ∙ (λ i. parts (take_at bytes (10 ∷ rest) n refl i) (skip_lf (drop_at bytes (10 ∷ rest) n refl i)))
  where
    parts : Bytes → Bytes → Result (Bytes × Bytes) Why
    parts x y = Ok (x, y)

    block_of : Result Extent Why → Bytes → Result (Bytes × Bytes) Why
    block_of extent text = (extent then_field λ e. or_defect Truncated (block_at e text)) then_field λ x. parts x.0 (skip_lf x.1)
