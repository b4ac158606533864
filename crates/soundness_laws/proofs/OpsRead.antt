-- What an operation is like that is read, and the tree after it.
use Rattle.std.proofs.Common.{◌≡◌, ◌∙◌, ℕ, Bool, true, false, cond, not, List, [], ◌∷◌, ◌++◌, length, drop, codes, Option, Some, None, Result, Ok, Err, refl, sym, ap, subst}
use Rattle.std.specs.Prelude.{bytes_eq, nat_lt, option_map, is_some}
use Rattle.plain_model.specs.declared.limit.TheConstants.{MAX_PATHS}
use Rattle.plain_model.specs.declared.fault.Why.{Why}
use Rattle.plain_model.specs.declared.fault.Why.TheVariants.{BadMark, BadMode, BadPath, UnknownMark, MissingSource}
use Rattle.plain_model.specs.declared.id.AnyId.TheVariants as any
use Rattle.plain_model.specs.declared.operation.Content.{Content}
use Rattle.plain_model.specs.declared.operation.Content.TheVariants.{Blob as OfBlob, Object as OfObject}
use Rattle.plain_model.specs.declared.operation.FileOp.{FileOp}
use Rattle.plain_model.specs.declared.operation.FileOp.TheVariants.{Modify, Delete, Copy, Rename, DeleteAll}
use Rattle.plain_model.specs.declared.operation.Mode.{Mode}
use Rattle.plain_model.specs.declared.operation.Mode.TheVariants.{Plain, Executable, Link, Gitlink}
use Rattle.plain_model.specs.declared.raw.Place.TheVariants.{Source}
use Rattle.plain_model.specs.declared.raw.RawContent.{RawContent}
use Rattle.plain_model.specs.declared.raw.RawContent.TheVariants.{Marked, Object, Inline}
use Rattle.plain_model.specs.declared.event.PlainEvent.{PlainEvent}
use Rattle.plain_model.specs.Fields.{◌>>=◌, or_defect, first_word, after_space, mode_in, content_in, path_in, last_path_in}
use Rattle.plain_model.specs.Histories.{folded, if_ok}
use Rattle.plain_model.specs.Paths.{Bytes, IsPath}
use Rattle.plain_model.specs.Soundness.{IsFormedOp, RefersBack, has_id}
use Rattle.plain_model.specs.Streams.{blob_marked}
use Rattle.plain_model.specs.Trees.{Tree, Refusal, subtree, without, cleared_for, moved, put, put_all, has_long_path, within_paths, apply, apply_all}
use Rattle.plain_model.specs.Trees.{placed as put_at}
use Rattle.plain_model.specs.Trees.{◌>>=◌ as ◌then_tree◌}
use Rattle.plain_model.specs.Trees.Refusal.{PathBytes as LongPath, Paths as ManyPaths}
use Rattle.stream_grammar.specs.Known.{OpenCommit, next_id, is_empty_list, ensure, placed, tree_now, has_source, modify_after, paths_after, op_after}
use Rattle.history_laws.proofs.LineLaws.{folded_more}
use Rattle.stream_grammar.specs.Limits.{limit_of_tree, limit_on, last_limit}
use Rattle.stream_grammar.proofs.LastOperation.{limit_last}
use Rattle.stream_grammar.specs.Lines.{text_of, is_inline}
use Rattle.field_laws.proofs.FieldSteps.{bind_ok, or_defect_is, same_Ok}
use Rattle.soundness_laws.proofs.FieldsRead.{path_fits, last_path_fits, FitsMode, content_fits}
use Rattle.soundness_laws.proofs.Ids.{blob_found}

-- ---- fields of an operation

-- a copy or a rename has its source in the tree
abbrev pub HasSource : Option Tree → FileOp → Type 0
HasSource t (Copy source target) = has_source source t ≡ true
HasSource t (Rename source target) = has_source source t ≡ true
HasSource t (Modify mode content path) = Unit {0}
HasSource t (Delete path) = Unit {0}
HasSource t DeleteAll = Unit {0}

-- the operation refers to what is seen, its paths are paths, and its source is there
abbrev pub IsOp : List PlainEvent → Option Tree → FileOp → Type 0
IsOp seen t op = RefersBack seen op × IsFormedOp op × HasSource t op

text_is : (line text : Bytes) → after_space line ≡ Some text → text_of line ≡ text
text_is line text e = ap (λ (o : Option Bytes). elim o [ None ↦ [] | Some t ↦ t ]) e

pub ensured : (b : Bool) (why : Why) (u : Unit {0}) → ensure b why ≡ Ok u → b ≡ true
ensured true why u e = refl
ensured false why u e = absurd cc

module _ (events seen : List PlainEvent) (still : (b : ℕ) → has_id events (any.Blob b) ≡ true → has_id seen (any.Blob b) ≡ true) where
  -- a mode with a blob that is seen; a link to another repository has none
  refers_to : (mode : Mode) (text : Bytes) (raw : RawContent) (content : Content) (path : Bytes) → IsPath path → FitsMode mode text raw → placed events raw ≡ Ok content
      → (bytes_eq text (codes "inline") ≡ true → has_id seen (any.Blob (next_id events)) ≡ true) → RefersBack seen (Modify mode content path) × IsFormedOp (Modify mode content path)
  refers_to mode text (Object digits) content path p fits e own = subst (λ (c : Content). RefersBack seen (Modify mode c path) × IsFormedOp (Modify mode c path)) (same_Ok (OfObject digits) content e) (object_refers mode, (fits, p))
    where
      object_refers : (mode : Mode) → RefersBack seen (Modify mode (OfObject digits) path)
      object_refers Plain = tt
      object_refers Executable = tt
      object_refers Link = tt
      object_refers Gitlink = tt
  refers_to mode text (Marked mark) content path p fits e own = go (blob_marked events mark) refl (or_defect_is UnknownMark (option_map OfBlob (blob_marked events mark)) content e)
    where
      blob_refers : (mode : Mode) (b : ℕ) → FitsMode mode text (Marked mark) → has_id seen (any.Blob b) ≡ true → RefersBack seen (Modify mode (OfBlob b) path)
      blob_refers Plain b fits h = h
      blob_refers Executable b fits h = h
      blob_refers Link b fits h = h
      blob_refers Gitlink b fits h = fits

      go : (o : Option ℕ) → blob_marked events mark ≡ o → option_map OfBlob o ≡ Some content → RefersBack seen (Modify mode content path) × IsFormedOp (Modify mode content path)
      go None is e = absurd cc
      go (Some b) is e =
          let same : OfBlob b ≡ content = cc in
          subst (λ (c : Content). RefersBack seen (Modify mode c path) × IsFormedOp (Modify mode c path)) same (blob_refers mode b fits (still b (blob_found events mark b is)), (tt, p))
  refers_to mode text Inline content path p fits e own = subst (λ (c : Content). RefersBack seen (Modify mode c path) × IsFormedOp (Modify mode c path)) (same_Ok (OfBlob (next_id events)) content e) (own_refers mode fits, (tt, p))
    where
      own_refers : (mode : Mode) → FitsMode mode text Inline → RefersBack seen (Modify mode (OfBlob (next_id events)) path)
      own_refers Plain fits = own fits
      own_refers Executable fits = own fits
      own_refers Link fits = own fits
      own_refers Gitlink fits = fits

  -- from the path back to the mode
  path_step : (mode : Mode) (fields : Bytes) (raw : RawContent) (content : Content) (op : FileOp) (t : Option Tree) → FitsMode mode (first_word fields) raw → placed events raw ≡ Ok content
      → (bytes_eq (first_word fields) (codes "inline") ≡ true → has_id seen (any.Blob (next_id events)) ≡ true)
      → (last_path_in (after_space fields) >>= λ path. Ok (Modify mode content path)) ≡ Ok op → IsOp seen t op
  path_step mode fields raw content op t fits is own e =
      let p = bind_ok (last_path_in (after_space fields)) (λ path. Ok (Modify mode content path)) op e in
      let x = refers_to mode (first_word fields) raw content p.0 (last_path_fits (after_space fields) p.0 p.1) fits is own in
      subst (IsOp seen t) (same_Ok (Modify mode content p.0) op p.2) (x.0, x.1, tt)

  content_step : (mode : Mode) (fields : Bytes) (op : FileOp) (t : Option Tree) → (bytes_eq (first_word fields) (codes "inline") ≡ true → has_id seen (any.Blob (next_id events)) ≡ true)
      → (content_in mode (first_word fields) >>= λ raw.
      placed events raw >>= λ content.
      last_path_in (after_space fields) >>= λ path.
      Ok (Modify mode content path)) ≡ Ok op → IsOp seen t op
  content_step mode fields op t own e =
      let r = bind_ok (content_in mode (first_word fields)) (λ raw. placed events raw >>= λ content. last_path_in (after_space fields) >>= λ path. Ok (Modify mode content path)) op e in
      let c = bind_ok (placed events r.0) (λ content. last_path_in (after_space fields) >>= λ path. Ok (Modify mode content path)) op r.2 in
      path_step mode fields r.0 c.0 op t (content_fits mode (first_word fields) r.0 r.1) c.1 own c.2

  modify_fits : (text : Bytes) (op : FileOp) (t : Option Tree) → (bytes_eq (first_word (text_of text)) (codes "inline") ≡ true → has_id seen (any.Blob (next_id events)) ≡ true)
      → modify_after events text ≡ Ok op → IsOp seen t op
  modify_fits text op t own e =
      let m = bind_ok (mode_in (first_word text)) (λ mode.
      or_defect BadMark (after_space text) >>= λ fields.
      content_in mode (first_word fields) >>= λ raw.
      placed events raw >>= λ content.
      last_path_in (after_space fields) >>= λ path.
      Ok (Modify mode content path)) op e in
      let f = bind_ok (or_defect BadMark (after_space text)) (λ fields.
      content_in m.0 (first_word fields) >>= λ raw.
      placed events raw >>= λ content.
      last_path_in (after_space fields) >>= λ path.
      Ok (Modify m.0 content path)) op m.2 in
      let is_text : text_of text ≡ f.0 = text_is text f.0 (or_defect_is BadMark (after_space text) f.0 f.1) in
      content_step m.0 f.0 op t (subst (λ (u : Bytes). bytes_eq (first_word u) (codes "inline") ≡ true → has_id seen (any.Blob (next_id events)) ≡ true) is_text own) f.2

  -- the paths of a copy or a rename
  paths_fit : (text : Bytes) (t : Option Tree) (p : Bytes × Bytes) → paths_after t text ≡ Ok p → IsPath p.0 × IsPath p.1 × (has_source p.0 t ≡ true)
  paths_fit text t p e =
      let s = bind_ok (path_in Source text) (λ source.
      ensure (has_source source.0 t) MissingSource >>= λ there.
      last_path_in (after_space (drop source.1 text)) >>= λ target.
      Ok (source.0, target)) p e in
      let there = bind_ok (ensure (has_source s.0.0 t) MissingSource) (λ there.
      last_path_in (after_space (drop s.0.1 text)) >>= λ target.
      Ok (s.0.0, target)) p s.2 in
      let target = bind_ok (last_path_in (after_space (drop s.0.1 text))) (λ target. Ok (s.0.0, target)) p there.2 in
      subst (λ (q : Bytes × Bytes). IsPath q.0 × IsPath q.1 × (has_source q.0 t ≡ true)) (same_Ok {A = Bytes × Bytes} (s.0.0, target.0) p target.2)
      (path_fits Source text s.0 s.1, last_path_fits (after_space (drop s.0.1 text)) target.0 target.1, ensured (has_source s.0.0 t) MissingSource there.0 there.1)

  -- the line of an operation
  pub op_fits : (c : OpenCommit) (line : Bytes) (op : FileOp) → (bytes_eq (first_word line) (codes "M") ≡ true → is_inline line ≡ true → has_id seen (any.Blob (next_id events)) ≡ true)
      → op_after events c line ≡ Ok op → IsOp seen (tree_now events c) op
  op_fits c line op own e = go (bytes_eq (first_word line) (codes "M")) (bytes_eq (first_word line) (codes "D")) (bytes_eq (first_word line) (codes "C")) (bytes_eq (first_word line) (codes "R")) refl e
    where
      go : (a b d r : Bool) → bytes_eq (first_word line) (codes "M") ≡ a
          → cond a (or_defect BadMode (after_space line) >>= λ text. modify_after events text)
          (cond b (last_path_in (after_space line) >>= λ path. Ok (Delete path))
          (cond d (or_defect BadPath (after_space line) >>= λ text. paths_after (tree_now events c) text >>= λ p. Ok (Copy p.0 p.1))
          (cond r (or_defect BadPath (after_space line) >>= λ text. paths_after (tree_now events c) text >>= λ p. Ok (Rename p.0 p.1)) (Ok DeleteAll)))) ≡ Ok op
          → IsOp seen (tree_now events c) op
      go true b d r is e =
          let x = bind_ok (or_defect BadMode (after_space line)) (λ text. modify_after events text) op e in
          modify_fits x.0 op (tree_now events c) (subst (λ (u : Bytes). bytes_eq (first_word (text_of u)) (codes "inline") ≡ true → has_id seen (any.Blob (next_id events)) ≡ true) (text_is line x.0 (or_defect_is BadMode (after_space line) x.0 x.1)) (own is)) x.2
      go false true d r is e =
          let x = bind_ok (last_path_in (after_space line)) (λ path. Ok (Delete path)) op e in
          subst (IsOp seen (tree_now events c)) (same_Ok (Delete x.0) op x.2) (tt, last_path_fits (after_space line) x.0 x.1, tt)
      go false false true r is e =
          let x = bind_ok (or_defect BadPath (after_space line)) (λ text. paths_after (tree_now events c) text >>= λ p. Ok (Copy p.0 p.1)) op e in
          let p = bind_ok (paths_after (tree_now events c) x.0) (λ p. Ok (Copy p.0 p.1)) op x.2 in
          let fits = paths_fit x.0 (tree_now events c) p.0 p.1 in
          subst (IsOp seen (tree_now events c)) (same_Ok (Copy p.0.0 p.0.1) op p.2) (tt, (fits.0, fits.1), fits.2)
      go false false false true is e =
          let x = bind_ok (or_defect BadPath (after_space line)) (λ text. paths_after (tree_now events c) text >>= λ p. Ok (Rename p.0 p.1)) op e in
          let p = bind_ok (paths_after (tree_now events c) x.0) (λ p. Ok (Rename p.0 p.1)) op x.2 in
          let fits = paths_fit x.0 (tree_now events c) p.0 p.1 in
          subst (IsOp seen (tree_now events c)) (same_Ok (Rename p.0.0 p.0.1) op p.2) (tt, (fits.0, fits.1), fits.2)
      go false false false false is e = subst (IsOp seen (tree_now events c)) (same_Ok DeleteAll op e) (tt, tt, tt)

-- ---- trees

-- a tree, unless a limit was passed
abbrev IsTreeOrLimit : Result Tree Refusal → Type 0
IsTreeOrLimit r = limit_of_tree r ≡ None → is_some (if_ok r) ≡ true

within_or_limit : (t : Tree) → IsTreeOrLimit (within_paths t)
within_or_limit t = go (nat_lt MAX_PATHS (length t))
  where
    go : (b : Bool) → IsTreeOrLimit (cond b (Err ManyPaths) (Ok t))
    go true = λ e. absurd cc
    go false = λ e. refl

-- entries that are there are put, unless a limit is passed
put_or_limit : (source target : Bytes) (taken base : Tree) → not (is_empty_list taken) ≡ true → IsTreeOrLimit (put_at source target taken base)
put_or_limit source target [] base h = absurd cc
put_or_limit source target (e ∷ taken) base h = go (has_long_path (moved source target (e ∷ taken)))
  where
    go : (b : Bool) → IsTreeOrLimit (cond b (Err LongPath) (within_paths (put_all (moved source target (e ∷ taken)) (cleared_for target base))))
    go true = λ e. absurd cc
    go false = within_or_limit (put_all (moved source target (e ∷ taken)) (cleared_for target base))

apply_or_limit : (op : FileOp) (t : Tree) → HasSource (Some t) op → IsTreeOrLimit (apply op t)
apply_or_limit (Modify mode content path) t h = within_or_limit (put path (record { mode = mode; content = content }) (cleared_for path t))
apply_or_limit (Delete path) t h = λ e. refl
apply_or_limit (Copy source target) t h = put_or_limit source target (subtree source t) t h
apply_or_limit (Rename source target) t h = put_or_limit source target (subtree source t) (without source t) h
apply_or_limit DeleteAll t h = λ e. refl

-- one operation alone
one_applied : (r : Result Tree Refusal) → (r then_tree apply_all []) ≡ r
one_applied (Ok t) = refl
one_applied (Err e) = refl

-- one more operation leaves a tree, where its source is there and no limit is passed
pub tree_after : (ops : List FileOp) (op : FileOp) (start : Option Tree) → is_some (folded ops start) ≡ true → HasSource (folded ops start) op → last_limit (ops ++ op ∷ []) start ≡ None
    → is_some (folded (ops ++ op ∷ []) start) ≡ true
tree_after ops op start there h e =
    subst (λ (t : Option Tree). is_some t ≡ true) (sym (folded_more ops (op ∷ []) start)) (go (folded ops start) there h (sym (limit_last ops op start) ∙ e))
  where
    go : (t : Option Tree) → is_some t ≡ true → HasSource t op → limit_on op t ≡ None → is_some (folded (op ∷ []) t) ≡ true
    go None there h e = absurd cc
    go (Some t) there h e = subst (λ (r : Result Tree Refusal). is_some (if_ok r) ≡ true) (sym (one_applied (apply op t))) (apply_or_limit op t h e)
