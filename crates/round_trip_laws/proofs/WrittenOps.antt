-- The line of an operation leads on to that operation.
use Rattle.std.proofs.Common.{◌≡◌, ℕ, Bool, true, false, cond, not, List, [], ◌∷◌, ◌++◌, length, drop, Option, Some, None, Result, Ok, refl, ap, ◌∙◌, codes, flat_map, append_assoc, option_map, drop_at}
use Rattle.std.specs.Prelude.{◌==◌, ◌&&◌, ◌||◌, bytes_eq, IsSome}
use Rattle.std.specs.List.{list_all, list_any}
use Rattle.std.proofs.lemmas.Bool.{and_from, and_parts, or_parts}
use Rattle.plain_model.specs.declared.fault.Why.{Why}
use Rattle.plain_model.specs.declared.fault.Why.TheVariants.{MissingSource, UnknownMark}
use Rattle.plain_model.specs.declared.id.AnyId.TheVariants as any
use Rattle.plain_model.specs.declared.operation.Mode.{Mode}
use Rattle.plain_model.specs.declared.operation.Mode.TheVariants.{Plain, Executable, Link, Gitlink}
use Rattle.plain_model.specs.declared.operation.Content.{Content}
use Rattle.plain_model.specs.declared.operation.Content.TheVariants.{Blob as OfBlob, Object}
use Rattle.plain_model.specs.declared.operation.FileOp.{FileOp}
use Rattle.plain_model.specs.declared.operation.FileOp.TheVariants.{Modify, Delete, Copy, Rename, DeleteAll}
use Rattle.plain_model.specs.declared.raw.Place.TheVariants.{Source}
use Rattle.plain_model.specs.declared.raw.RawContent.{RawContent}
use Rattle.plain_model.specs.declared.raw.RawContent.TheVariants as spelled
use Rattle.plain_model.specs.declared.raw.RawOp.TheVariants as rawop
use Rattle.plain_model.specs.declared.event.PlainEvent.{PlainEvent}
use Rattle.plain_model.specs.Fields.{◌>>=◌, first_word, after_space, path_in, last_path_in, mode_in, content_in, HasItsContent, ContentFits, or_defect}
use Rattle.plain_model.specs.Paths.{Bytes, IsPath}
use Rattle.plain_model.specs.Trees.{Tree, apply_all, subtree, ◌>>=◌ as ◌then_op◌, placed as tree_placed, without}
use Rattle.plain_model.specs.Histories.{folded, if_ok}
use Rattle.plain_model.specs.Soundness.{IsFormedContent, IsFormedOp, RefersBack, has_id}
use Rattle.plain_model.specs.Text.{LF, quoted_byte, quoted, begins_quoted, last_path, source_path, raw_content_text, raw_op_text, raw_content, raw_op}
use Rattle.plain_model.specs.Parts.{has_no_lf}
use Rattle.plain_model.specs.Objects.{is_hex, is_object}
use Rattle.field_laws.proofs.Words.{after_space_space, first_word_space}
use Rattle.field_laws.proofs.FieldSteps.{ok_then}
use Rattle.field_laws.proofs.Persons.{all_pass}
use Rattle.field_laws.proofs.FieldsAgain.{content_again, last_path_again, hex_isnt, spaceless, both}
use Rattle.field_laws.proofs.PathsAgain.{path_again}
use Rattle.field_laws.proofs.Written.{plain_join, plain_mark}
use Rattle.line_automaton.specs.Machine.Next.{More}
use Rattle.stream_grammar.specs.declared.lines.Expected.{Expected}
use Rattle.stream_grammar.specs.declared.lines.Expected.TheVariants as expected
use Rattle.stream_grammar.specs.declared.lines.Follow.TheVariants.{Goes}
use Rattle.stream_grammar.specs.declared.lines.Word.TheVariants as word
use Rattle.stream_grammar.specs.Known.{OpenCommit, op_after, paths_after, placed, has_source, is_empty_list, tree_now, ensure}
use Rattle.stream_grammar.specs.Known.Open.{ACommit}
use Rattle.stream_grammar.specs.Lines.{word_of, follows, gone_on, is_comment}
use Rattle.round_trip_laws.proofs.Points.{Leads, point}
use Rattle.round_trip_laws.proofs.WrittenLines.{may_end}
use Rattle.round_trip_laws.proofs.FoundAgain.{AreFound}

-- ---- no LF in a path that is written

quoted_plain : (p : Bytes) → has_no_lf (flat_map quoted_byte p) ≡ true
quoted_plain [] = refl
quoted_plain (b ∷ p) = plain_join (quoted_byte b) (flat_map quoted_byte p) (go (b == 34) (b == 92) (b == LF) refl) (quoted_plain p)
  where
    go : (s t u : Bool) → (b == LF) ≡ u → has_no_lf (cond s (codes "\\\"") (cond t (codes "\\\\") (cond u (codes "\\n") (b ∷ [])))) ≡ true
    go true t u e = refl
    go false true u e = refl
    go false false true e = refl
    go false false false e = and_from (not (b == 10)) true (ap not e) refl

in_quotes_plain : (p : Bytes) → has_no_lf (quoted p) ≡ true
in_quotes_plain p = plain_join (flat_map quoted_byte p) (codes "\"") (quoted_plain p) refl

no_lf : (p : Bytes) → list_any (λ b. b == LF) p ≡ false → has_no_lf p ≡ true
no_lf [] h = refl
no_lf (b ∷ p) h =
    let parts = or_parts (b == LF) (list_any (λ c. c == LF) p) h in
    and_from (not (b == LF)) (has_no_lf p) (ap not parts.0) (no_lf p parts.1)

no_lf_or_space : (p : Bytes) → list_any (λ b. (b == LF) || (b == 32)) p ≡ false → has_no_lf p ≡ true
no_lf_or_space [] h = refl
no_lf_or_space (b ∷ p) h =
    let parts = or_parts ((b == LF) || (b == 32)) (list_any (λ c. (c == LF) || (c == 32)) p) h in
    and_from (not (b == LF)) (has_no_lf p) (ap not (or_parts (b == LF) (b == 32) parts.0).0) (no_lf_or_space p parts.1)

last_plain : (p : Bytes) → has_no_lf (last_path p) ≡ true
last_plain p = go (begins_quoted p || list_any (λ b. b == LF) p) refl
  where
    go : (t : Bool) → (begins_quoted p || list_any (λ b. b == LF) p) ≡ t → has_no_lf (cond t (quoted p) p) ≡ true
    go true e = in_quotes_plain p
    go false e = no_lf p (or_parts (begins_quoted p) (list_any (λ b. b == LF) p) e).1

source_plain : (p : Bytes) → has_no_lf (source_path p) ≡ true
source_plain p = go (begins_quoted p || list_any (λ b. (b == LF) || (b == 32)) p) refl
  where
    go : (t : Bool) → (begins_quoted p || list_any (λ b. (b == LF) || (b == 32)) p) ≡ t → has_no_lf (cond t (quoted p) p) ≡ true
    go true e = in_quotes_plain p
    go false e = no_lf_or_space p (or_parts (begins_quoted p) (list_any (λ b. (b == LF) || (b == 32)) p) e).1

two_plain : (source target : Bytes) → has_no_lf (source_path source ++ codes " " ++ last_path target) ≡ true
two_plain source target = plain_join (source_path source ++ codes " ") (last_path target) (plain_join (source_path source) (codes " ") (source_plain source) refl) (last_plain target)

-- ---- what is put

digits_of : (digits : Bytes) → is_object digits ≡ true → list_all is_hex digits ≡ true
digits_of digits h =
    let a = and_parts ((length digits == 40) && list_all is_hex digits) (not (list_all (λ b. b == 48) digits)) h in
    (and_parts (length digits == 40) (list_all is_hex digits) a.0).1

content_plain : (content : RawContent) → ContentFits content → has_no_lf (raw_content_text content) ≡ true
content_plain (spelled.Marked mark) h = plain_mark mark h
content_plain (spelled.Object digits) h = all_pass is_hex (λ b. not (b == 10)) (λ b e. ap not (hex_isnt b 10 refl e)) digits (digits_of digits h)
content_plain spelled.Inline h = refl

-- what is before a path isn't the word for data that follow
abbrev IsNoInline : RawContent → Type 0
IsNoInline content = bytes_eq (raw_content_text content) (codes "inline") ≡ false

digits_no_inline : (digits : Bytes) → list_all is_hex digits ≡ true → bytes_eq digits (codes "inline") ≡ false
digits_no_inline [] h = refl
digits_no_inline (d ∷ ds) h = ap (λ t. t && bytes_eq ds (codes "nline")) (hex_isnt d 105 refl (and_parts (is_hex d) (list_all is_hex ds) h).0)

module _ (whole done : List PlainEvent) (found : AreFound whole done) where
  refers_blob : (mode : Mode) (b : ℕ) (path : Bytes) → RefersBack done (Modify mode (OfBlob b) path) → has_id done (any.Blob b) ≡ true
  refers_blob Plain b path h = h
  refers_blob Executable b path h = h
  refers_blob Link b path h = h
  refers_blob Gitlink b path h = absurd h

  has_its : (mode : Mode) (content : Content) (path : Bytes) → RefersBack done (Modify mode content path) → HasItsContent (rawop.Modify mode (raw_content whole content) path)
  has_its Plain content path h = tt
  has_its Executable content path h = tt
  has_its Link content path h = tt
  has_its Gitlink (OfBlob b) path h = absurd h
  has_its Gitlink (Object digits) path h = tt

  content_fits : (mode : Mode) (content : Content) (path : Bytes) → RefersBack done (Modify mode content path) → IsFormedContent content → ContentFits (raw_content whole content)
  content_fits mode (OfBlob b) path h f = (found.blobs b (refers_blob mode b path h)).0
  content_fits mode (Object digits) path h f = f

  placed_again : (mode : Mode) (content : Content) (path : Bytes) → RefersBack done (Modify mode content path) → placed done (raw_content whole content) ≡ Ok content
  placed_again mode (OfBlob b) path h = ap (λ o. or_defect UnknownMark (option_map OfBlob o)) (found.blobs b (refers_blob mode b path h)).1
  placed_again mode (Object digits) path h = refl

  no_inline : (content : Content) → IsFormedContent content → IsNoInline (raw_content whole content)
  no_inline (OfBlob b) h = refl
  no_inline (Object digits) h = digits_no_inline digits (digits_of digits h)

abbrev modified : Mode → Content → Bytes → Result FileOp Why
modified mode content path = Ok (Modify mode content path)

-- the fields after a mode
module _ (done : List PlainEvent) (mode : Mode) (raw : RawContent) (content : Content) (path : Bytes)
    (its : HasItsContent (rawop.Modify mode raw path)) (fits : ContentFits raw) (there : placed done raw ≡ Ok content) (is_path : IsPath path) where
  abbrev fields : Bytes
  fields = raw_content_text raw ++ codes " " ++ last_path path

  fields_are : fields ≡ raw_content_text raw ++ 32 ∷ last_path path
  fields_are = append_assoc (raw_content_text raw) (codes " ") (last_path path)

  pub first_field : first_word fields ≡ raw_content_text raw
  first_field = ap first_word fields_are ∙ first_word_space (raw_content_text raw) (last_path path) (spaceless raw fits)

  fields_again : (content_in mode (first_word fields) >>= λ r. placed done r >>= λ c. last_path_in (after_space fields) >>= λ p. modified mode c p) ≡ modified mode content path
  fields_again =
      let after : after_space fields ≡ Some (last_path path) = ap after_space fields_are ∙ after_space_space (raw_content_text raw) (last_path path) (spaceless raw fits) in
      ok_then (content_in mode (first_word fields)) (λ r. placed done r >>= λ c. last_path_in (after_space fields) >>= λ p. modified mode c p) raw (modified mode content path)
      (ap (content_in mode) first_field ∙ content_again mode raw path its fits)
      (ok_then (placed done raw) (λ c. last_path_in (after_space fields) >>= λ p. modified mode c p) content (modified mode content path) there
      (ok_then (last_path_in (after_space fields)) (λ p. modified mode content p) path (modified mode content path) (ap last_path_in after ∙ last_path_again path is_path) refl))

  fields_plain : has_no_lf fields ≡ true
  fields_plain = plain_join (raw_content_text raw ++ codes " ") (last_path path) (plain_join (raw_content_text raw) (codes " ") (content_plain raw fits) refl) (last_plain path)

modify_again : (done : List PlainEvent) (c : OpenCommit) (mode : Mode) (raw : RawContent) (content : Content) (path : Bytes) → HasItsContent (rawop.Modify mode raw path) → ContentFits raw → placed done raw ≡ Ok content → IsPath path
    → op_after done c (raw_op_text (rawop.Modify mode raw path)) ≡ modified mode content path
unfolding mode_in
modify_again done c Plain raw content path i f t p = fields_again done Plain raw content path i f t p
modify_again done c Executable raw content path i f t p = fields_again done Executable raw content path i f t p
modify_again done c Link raw content path i f t p = fields_again done Link raw content path i f t p
modify_again done c Gitlink raw content path i f t p = fields_again done Gitlink raw content path i f t p

modify_plain : (done : List PlainEvent) (mode : Mode) (raw : RawContent) (content : Content) (path : Bytes) → HasItsContent (rawop.Modify mode raw path) → ContentFits raw → placed done raw ≡ Ok content → IsPath path
    → has_no_lf (raw_op_text (rawop.Modify mode raw path)) ≡ true
modify_plain done Plain raw content path i f t p = fields_plain done Plain raw content path i f t p
modify_plain done Executable raw content path i f t p = fields_plain done Executable raw content path i f t p
modify_plain done Link raw content path i f t p = fields_plain done Link raw content path i f t p
modify_plain done Gitlink raw content path i f t p = fields_plain done Gitlink raw content path i f t p

-- the word of such a line, by its content
word_by_content : (first : Bytes) (raw : RawContent) → first ≡ raw_content_text raw → IsNoInline raw → cond (bytes_eq first (codes "inline")) word.InlineOperation word.Operation ≡ word.Operation
word_by_content first raw e h = ap (λ (t : Bytes). cond (bytes_eq t (codes "inline")) word.InlineOperation word.Operation) e ∙ ap (λ t. cond t word.InlineOperation word.Operation) h

modify_word : (mode : Mode) (raw : RawContent) (path : Bytes) → first_word (raw_content_text raw ++ codes " " ++ last_path path) ≡ raw_content_text raw → IsNoInline raw
    → word_of (raw_op_text (rawop.Modify mode raw path)) ≡ word.Operation
modify_word Plain raw path e h = word_by_content (first_word (raw_content_text raw ++ codes " " ++ last_path path)) raw e h
modify_word Executable raw path e h = word_by_content (first_word (raw_content_text raw ++ codes " " ++ last_path path)) raw e h
modify_word Link raw path e h = word_by_content (first_word (raw_content_text raw ++ codes " " ++ last_path path)) raw e h
modify_word Gitlink raw path e h = word_by_content (first_word (raw_content_text raw ++ codes " " ++ last_path path)) raw e h

-- ---- copies and renames

paths_again : (t : Option Tree) (source target : Bytes) → IsPath source → IsPath target → has_source source t ≡ true
    → paths_after t (source_path source ++ codes " " ++ last_path target) ≡ both source target
paths_again t source target h k there =
    let text = source_path source ++ codes " " ++ last_path target in
    let whole : text ≡ source_path source ++ 32 ∷ last_path target = append_assoc (source_path source) (codes " ") (last_path target) in
    let size = length (source_path source) in
    ok_then (path_in Source text) (λ s. ensure (has_source s.0 t) MissingSource >>= λ yes. last_path_in (after_space (drop s.1 text)) >>= λ p. both s.0 p) (source, size) (both source target)
    (ap (path_in Source) whole ∙ path_again Source source (32 ∷ last_path target) h refl)
    (ok_then (ensure (has_source source t) MissingSource) (λ yes. last_path_in (after_space (drop size text)) >>= λ p. both source p) tt (both source target) (ap (λ b. ensure b MissingSource) there)
    (ok_then (last_path_in (after_space (drop size text))) (λ p. both source p) target (both source target)
    (ap (λ (l : Bytes). last_path_in (after_space l)) (ap (drop size) whole ∙ drop_at (source_path source) (32 ∷ last_path target) size refl) ∙ last_path_again target k) refl))

-- what isn't refused for want of a source has it
copied_source : (source target : Bytes) (ops : List FileOp) (o : Option Tree) → IsSome (folded (Copy source target ∷ ops) o) → has_source source o ≡ true
copied_source source target ops None h = absurd cc
copied_source source target ops (Some t) h = go (subtree source t) h
  where
    go : (taken : Tree) → IsSome (if_ok (tree_placed source target taken t then_op apply_all ops)) → not (is_empty_list taken) ≡ true
    go [] h = absurd cc
    go (e ∷ taken) h = refl

renamed_source : (source target : Bytes) (ops : List FileOp) (o : Option Tree) → IsSome (folded (Rename source target ∷ ops) o) → has_source source o ≡ true
renamed_source source target ops None h = absurd cc
renamed_source source target ops (Some t) h = go (subtree source t) h
  where
    go : (taken : Tree) → IsSome (if_ok (tree_placed source target taken (without source t) then_op apply_all ops)) → not (is_empty_list taken) ≡ true
    go [] h = absurd cc
    go (e ∷ taken) h = refl

-- ---- the line of an operation

goes_operation : (d : Expected) → may_end d ≡ true → follows d word.Operation ≡ Goes expected.CommitOperation
goes_operation expected.CommitFrom h = refl
goes_operation expected.CommitMerge h = refl
goes_operation expected.CommitOperation h = refl
goes_operation _ h = absurd cc

-- what a line of an operation is
record IsOpLine (done : List PlainEvent) (c : OpenCommit) (text : Bytes) (op : FileOp) : Type 0 where
  plain : has_no_lf text ≡ true
  no_comment : is_comment text ≡ false
  word_is : word_of text ≡ word.Operation
  again : op_after done c text ≡ Ok op

module _ (whole done : List PlainEvent) (found : AreFound whole done) (c : OpenCommit) where
  op_line : (op : FileOp) (ops : List FileOp) → RefersBack done op → IsFormedOp op → IsSome (folded (op ∷ ops) (tree_now done c)) → IsOpLine done c (raw_op_text (raw_op whole op)) op
  op_line (Modify mode content path) ops refers (formed, is_path) tree =
      let raw = raw_content whole content in
      let its = has_its whole done found mode content path refers in
      let fits = content_fits whole done found mode content path refers formed in
      let there = placed_again whole done found mode content path refers in
      record {
        plain = modify_plain done mode raw content path its fits there is_path;
        no_comment = refl;
        word_is = modify_word mode raw path (first_field done mode raw content path its fits there is_path) (no_inline whole done found content formed);
        again = modify_again done c mode raw content path its fits there is_path;
      }
  op_line (Delete path) ops refers is_path tree = record {
    plain = last_plain path;
    no_comment = refl;
    word_is = refl;
    again = ok_then (last_path_in (Some (last_path path))) (λ p. Ok (Delete p)) path (Ok (Delete path)) (last_path_again path is_path) refl;
  }
  op_line (Copy source target) ops refers (h, k) tree = record {
    plain = two_plain source target;
    no_comment = refl;
    word_is = refl;
    again = ok_then (paths_after (tree_now done c) (source_path source ++ codes " " ++ last_path target)) (λ p. Ok (Copy p.0 p.1)) (source, target) (Ok (Copy source target))
        (paths_again (tree_now done c) source target h k (copied_source source target ops (tree_now done c) tree)) refl;
  }
  op_line (Rename source target) ops refers (h, k) tree = record {
    plain = two_plain source target;
    no_comment = refl;
    word_is = refl;
    again = ok_then (paths_after (tree_now done c) (source_path source ++ codes " " ++ last_path target)) (λ p. Ok (Rename p.0 p.1)) (source, target) (Ok (Rename source target))
        (paths_again (tree_now done c) source target h k (renamed_source source target ops (tree_now done c) tree)) refl;
  }
  op_line DeleteAll ops refers formed tree = record { plain = refl; no_comment = refl; word_is = refl; again = refl }

  -- the commit with one operation more
  abbrev pub with_op : FileOp → OpenCommit
  with_op op = record c { ops = c.ops ++ op ∷ [] }

  pub op_leads : (aliases : List (ℕ × ℕ)) (d : Expected) → may_end d ≡ true → (wants : Bool) (op : FileOp) (ops : List FileOp) → RefersBack done op → IsFormedOp op → IsSome (folded (op ∷ ops) (tree_now done c))
      → Leads (point d wants done aliases (ACommit c)) (raw_op_text (raw_op whole op)) word.Operation More (point expected.CommitOperation wants done aliases (ACommit (with_op op)))
  op_leads aliases d may wants op ops refers formed tree =
      let l = op_line op ops refers formed tree in
      record {
        plain = l.plain;
        no_comment = l.no_comment;
        word_is = l.word_is;
        stands = ap (gone_on (record { expected = d; wants_done = wants }) word.Operation) (goes_operation d may);
        follows = refl;
        fits = ok_then (op_after done c (raw_op_text (raw_op whole op))) (λ o. Ok (record { events = done; current = ACommit (with_op o); aliases = aliases })) op (Ok (record { events = done; current = ACommit (with_op op); aliases = aliases })) l.again refl;
      }
