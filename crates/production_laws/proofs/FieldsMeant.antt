-- A line means what its field does.
use Rattle.std.proofs.Common.{◌≡◌, ℕ, Bool, true, false, cond, not, List, [], ◌∷◌, ◌++◌, drop, codes, Some, None, Result, Ok, Err, refl, sym, ◌∙◌, ap, subst}
use Rattle.std.specs.Prelude.{◌≢◌, bytes_eq}
use Rattle.std.proofs.lemmas.Bool.{true≢false}
use Rattle.plain_model.specs.declared.fault.Why.{Why}
use Rattle.plain_model.specs.declared.fault.Why.TheVariants.{BadMark, BadMode, BadPath, LeftOut, MissingSource, RepeatedMark}
use Rattle.plain_model.specs.declared.event.PlainEvent.{PlainEvent}
use Rattle.plain_model.specs.declared.operation.FileOp.{FileOp}
use Rattle.plain_model.specs.declared.operation.FileOp.TheVariants.{Copy, Delete, DeleteAll, Modify, Rename}
use Rattle.plain_model.specs.declared.raw.Place.TheVariants.{Source}
use Rattle.plain_model.specs.declared.raw.RawOp.{RawOp}
use Rattle.plain_model.specs.declared.raw.RawOp.TheVariants as rawop
use Rattle.plain_model.specs.Fields.{◌>>=◌, after_space, content_in, first_word, last_path_in, mark_in, mode_in, modify_in, name_in, or_defect, path_in, paths_in, person_in}
use Rattle.plain_model.specs.Parts.{begins}
use Rattle.plain_model.specs.Paths.{Bytes, is_empty}
use Rattle.field_laws.proofs.FieldSteps.{bind_ok, same_Ok, ok_then}
use Rattle.stream_grammar.specs.declared.lines.Word.{Word}
use Rattle.stream_grammar.specs.declared.lines.Word.TheVariants as word
use Rattle.stream_grammar.specs.Known.{Known, Open, OpenCommit, ensure, has_source, is_known_mark, is_left_out_ref, modify_after, op_after, paths_after, placed, ref_in, tree_now, with_data, with_parent}
use Rattle.stream_grammar.specs.Known.Open.{ACommit, AReset, ATag}
use Rattle.stream_grammar.specs.Lines.{aliased, begun_with, changed, commit_on, is_left_out_feature, judged, passed, text_of, with_commit, with_from, with_mark, with_operation, with_tagger}
use Rattle.production_laws.specs.Raw.{Ref, ref_spelled, named, Field, field_in, meant, op_spelled, operation_of, with_op}
use Rattle.production_laws.specs.Raw.Ref.{OfMark, OfBranch}
use Rattle.production_laws.specs.Texts.{is_alone}

-- a commit is found by what is spelled
ref_is : (k : Known) (text : Bytes) → ref_in k.events k.aliases text ≡ (ref_spelled text >>= λ ref. named k ref)
unfolding ref_spelled
ref_is k text = go (is_empty text) (is_left_out_ref text) (begins (codes ":") text)
  where
    by_mark : (r : Result ℕ Why) → (r >>= λ mark. named k (OfMark mark)) ≡ ((r >>= λ mark. Ok (OfMark mark)) >>= λ ref. named k ref)
    by_mark (Ok mark) = refl
    by_mark (Err why) = refl

    go : (t u v : Bool)
        → cond t (Err BadMark) (cond u (Err LeftOut) (cond v (mark_in text >>= λ mark. named k (OfMark mark)) (named k (OfBranch text))))
        ≡ (cond t (Err BadMark) (cond u (Err LeftOut) (cond v (mark_in text >>= λ mark. Ok (OfMark mark)) (Ok (OfBranch text)))) >>= λ ref. named k ref)
    go true u v = refl
    go false true v = refl
    go false false true = by_mark (mark_in text)
    go false false false = refl

-- the field of a line and what is known after it
abbrev pub Meaning : (w : Word) → Bytes → Known → Known → Type 0
Meaning w line k new = (x : Field w) × (field_in w line ≡ Ok x) × (meant false w x k ≡ Ok new)

ref_means : (k new : Known) (text : Bytes) (f : ℕ → Known) → (ref_in k.events k.aliases text >>= λ commit. Ok (f commit)) ≡ Ok new
    → (ref : Ref) × (ref_spelled text ≡ Ok ref) × ((named k ref >>= λ commit. Ok (f commit)) ≡ Ok new)
ref_means k new text f e =
    let a = bind_ok (ref_in k.events k.aliases text) (λ commit. Ok (f commit)) new e in
    let b = bind_ok (ref_spelled text) (named k) a.0 (sym (ref_is k text) ∙ a.1) in
    (b.0, b.1, ok_then (named k b.0) (λ commit. Ok (f commit)) a.0 (Ok new) b.2 a.2)

ref_meant : (k new : Known) (text : Bytes) (f : ℕ → Known) (ref : Ref) → ref_spelled text ≡ Ok ref → (named k ref >>= λ commit. Ok (f commit)) ≡ Ok new
    → (ref_in k.events k.aliases text >>= λ commit. Ok (f commit)) ≡ Ok new
ref_meant k new text f ref is e =
    let a = bind_ok (named k ref) (λ commit. Ok (f commit)) new e in
    ok_then (ref_in k.events k.aliases text) (λ commit. Ok (f commit)) a.0 (Ok new) (ref_is k text ∙ ok_then (ref_spelled text) (named k) ref (Ok a.0) is a.1) a.2

-- ---- operations

-- a commit is being read
abbrev pub is_commit : Open → Bool
is_commit (ACommit c) = true
is_commit _ = false

abbrev pub is_op_word : Word → Bool
is_op_word word.Operation = true
is_op_word word.InlineOperation = true
is_op_word _ = false

-- it is read by what is spelled
abbrev OpMeans : List PlainEvent → OpenCommit → Result RawOp Why → FileOp → Type 0
OpMeans events c spelled op = (raw : RawOp) × (spelled ≡ Ok raw) × (operation_of events c raw ≡ Ok op)

module _ (events : List PlainEvent) (c : OpenCommit) where
  modify_means : (text : Bytes) (op : FileOp) → modify_after events text ≡ Ok op → OpMeans events c (modify_in text) op
  unfolding modify_in
  modify_means text op h =
      let a = bind_ok (mode_in (first_word text)) _ op h in
      let b = bind_ok (or_defect BadMark (after_space text)) _ op a.2 in
      let d = bind_ok (content_in a.0 (first_word b.0)) _ op b.2 in
      let e = bind_ok (placed events d.0) _ op d.2 in
      let f = bind_ok (last_path_in (after_space b.0)) _ op e.2 in (
        rawop.Modify a.0 d.0 f.0,
        ok_then _ _ _ _ a.1 (ok_then _ _ _ _ b.1 (ok_then _ _ _ _ d.1 (ok_then _ _ _ _ f.1 refl))),
        ok_then _ _ _ _ e.1 f.2,
      )

  modify_meant : (text : Bytes) (raw : RawOp) (op : FileOp) → modify_in text ≡ Ok raw → operation_of events c raw ≡ Ok op → modify_after events text ≡ Ok op
  unfolding modify_in
  modify_meant text raw op h means =
      let a = bind_ok (mode_in (first_word text)) _ raw h in
      let b = bind_ok (or_defect BadMark (after_space text)) _ raw a.2 in
      let d = bind_ok (content_in a.0 (first_word b.0)) _ raw b.2 in
      let f = bind_ok (last_path_in (after_space b.0)) _ raw d.2 in
      let own : operation_of events c (rawop.Modify a.0 d.0 f.0) ≡ Ok op = ap (operation_of events c) (same_Ok (rawop.Modify a.0 d.0 f.0) raw f.2) ∙ means in
      let e = bind_ok (placed events d.0) (λ content. Ok (Modify a.0 content f.0)) op own in
      ok_then _ _ _ _ a.1 (ok_then _ _ _ _ b.1 (ok_then _ _ _ _ d.1 (ok_then _ _ _ _ e.1 (ok_then _ _ _ _ f.1 e.2))))

  -- with a source and a target
  paths_mean : (text : Bytes) (p : Bytes × Bytes) → paths_after (tree_now events c) text ≡ Ok p
      → (paths_in text ≡ Ok p) × (u : Unit {0}) × (ensure (has_source p.0 (tree_now events c)) MissingSource ≡ Ok u)
  unfolding paths_in
  paths_mean text p h =
      let a = bind_ok (path_in Source text) _ p h in
      let b = bind_ok (ensure (has_source a.0.0 (tree_now events c)) MissingSource) _ p a.2 in
      let d = bind_ok (last_path_in (after_space (drop a.0.1 text))) _ p b.2 in
      let same : ◌≡◌ {A = Bytes × Bytes} (a.0.0, d.0) p = same_Ok {A = Bytes × Bytes} (a.0.0, d.0) p d.2 in
      (ok_then _ _ _ _ a.1 b.2, b.0, ap (λ (q : Bytes × Bytes). ensure (has_source q.0 (tree_now events c)) MissingSource) (sym same) ∙ b.1)

  paths_meant : (text : Bytes) (p : Bytes × Bytes) (u : Unit {0}) → paths_in text ≡ Ok p → ensure (has_source p.0 (tree_now events c)) MissingSource ≡ Ok u
      → paths_after (tree_now events c) text ≡ Ok p
  unfolding paths_in
  paths_meant text p u h source =
      let a = bind_ok (path_in Source text) _ p h in
      let d = bind_ok (last_path_in (after_space (drop a.0.1 text))) _ p a.2 in
      let same : ◌≡◌ {A = Bytes × Bytes} (a.0.0, d.0) p = same_Ok {A = Bytes × Bytes} (a.0.0, d.0) p d.2 in
      let own : ensure (has_source a.0.0 (tree_now events c)) MissingSource ≡ Ok u = ap (λ (q : Bytes × Bytes). ensure (has_source q.0 (tree_now events c)) MissingSource) same ∙ source in
      ok_then _ _ _ _ a.1 (ok_then _ _ _ _ own a.2)

  op_means : (line : Bytes) (op : FileOp) → op_after events c line ≡ Ok op → OpMeans events c (op_spelled line) op
  unfolding op_spelled
  op_means line op h = go (bytes_eq first (codes "M")) (bytes_eq first (codes "D")) (bytes_eq first (codes "C")) (bytes_eq first (codes "R")) h
    where
      first : Bytes
      first = first_word line

      go : (m d e r : Bool)
          → cond m (or_defect BadMode (after_space line) >>= λ text. modify_after events text)
          (cond d (last_path_in (after_space line) >>= λ path. Ok (Delete path))
          (cond e (or_defect BadPath (after_space line) >>= λ text. paths_after (tree_now events c) text >>= λ p. Ok (Copy p.0 p.1))
          (cond r (or_defect BadPath (after_space line) >>= λ text. paths_after (tree_now events c) text >>= λ p. Ok (Rename p.0 p.1)) (Ok DeleteAll)))) ≡ Ok op
          → OpMeans events c (cond m (or_defect BadMode (after_space line) >>= λ text. modify_in text)
          (cond d (last_path_in (after_space line) >>= λ path. Ok (rawop.Delete path))
          (cond e (or_defect BadPath (after_space line) >>= λ text. paths_in text >>= λ p. Ok (rawop.Copy p.0 p.1))
          (cond r (or_defect BadPath (after_space line) >>= λ text. paths_in text >>= λ p. Ok (rawop.Rename p.0 p.1)) (Ok rawop.DeleteAll))))) op
      go true d e r h =
          let a = bind_ok (or_defect BadMode (after_space line)) _ op h in
          let m = modify_means a.0 op a.2 in
          (m.0, ok_then _ _ _ _ a.1 m.1, m.2)
      go false true e r h =
          let a = bind_ok (last_path_in (after_space line)) _ op h in
          (rawop.Delete a.0, ok_then _ _ _ _ a.1 refl, a.2)
      go false false true r h =
          let a = bind_ok (or_defect BadPath (after_space line)) _ op h in
          let b = bind_ok (paths_after (tree_now events c) a.0) _ op a.2 in
          let p = paths_mean a.0 b.0 b.1 in
          (rawop.Copy b.0.0 b.0.1, ok_then _ _ _ _ a.1 (ok_then _ _ _ _ p.0 refl), ok_then _ _ _ _ p.2 b.2)
      go false false false true h =
          let a = bind_ok (or_defect BadPath (after_space line)) _ op h in
          let b = bind_ok (paths_after (tree_now events c) a.0) _ op a.2 in
          let p = paths_mean a.0 b.0 b.1 in
          (rawop.Rename b.0.0 b.0.1, ok_then _ _ _ _ a.1 (ok_then _ _ _ _ p.0 refl), ok_then _ _ _ _ p.2 b.2)
      go false false false false h = (rawop.DeleteAll, refl, h)

  op_meant : (line : Bytes) (raw : RawOp) (op : FileOp) → op_spelled line ≡ Ok raw → operation_of events c raw ≡ Ok op → op_after events c line ≡ Ok op
  unfolding op_spelled
  op_meant line raw op h means = go (bytes_eq first (codes "M")) (bytes_eq first (codes "D")) (bytes_eq first (codes "C")) (bytes_eq first (codes "R")) h
    where
      first : Bytes
      first = first_word line

      go : (m d e r : Bool)
          → cond m (or_defect BadMode (after_space line) >>= λ text. modify_in text)
          (cond d (last_path_in (after_space line) >>= λ path. Ok (rawop.Delete path))
          (cond e (or_defect BadPath (after_space line) >>= λ text. paths_in text >>= λ p. Ok (rawop.Copy p.0 p.1))
          (cond r (or_defect BadPath (after_space line) >>= λ text. paths_in text >>= λ p. Ok (rawop.Rename p.0 p.1)) (Ok rawop.DeleteAll)))) ≡ Ok raw
          → cond m (or_defect BadMode (after_space line) >>= λ text. modify_after events text)
          (cond d (last_path_in (after_space line) >>= λ path. Ok (Delete path))
          (cond e (or_defect BadPath (after_space line) >>= λ text. paths_after (tree_now events c) text >>= λ p. Ok (Copy p.0 p.1))
          (cond r (or_defect BadPath (after_space line) >>= λ text. paths_after (tree_now events c) text >>= λ p. Ok (Rename p.0 p.1)) (Ok DeleteAll)))) ≡ Ok op
      go true d e r h =
          let a = bind_ok (or_defect BadMode (after_space line)) _ raw h in
          ok_then _ _ _ _ a.1 (modify_meant a.0 raw op a.2 means)
      go false true e r h =
          let a = bind_ok (last_path_in (after_space line)) _ raw h in
          ok_then _ _ _ _ a.1 (ap (operation_of events c) (same_Ok (rawop.Delete a.0) raw a.2) ∙ means)
      go false false true r h =
          let a = bind_ok (or_defect BadPath (after_space line)) _ raw h in
          let b = bind_ok (paths_in a.0) _ raw a.2 in
          let own : operation_of events c (rawop.Copy b.0.0 b.0.1) ≡ Ok op = ap (operation_of events c) (same_Ok (rawop.Copy b.0.0 b.0.1) raw b.2) ∙ means in
          let s = bind_ok (ensure (has_source b.0.0 (tree_now events c)) MissingSource) (λ there. Ok (Copy b.0.0 b.0.1)) op own in
          ok_then _ _ _ _ a.1 (ok_then _ _ _ _ (paths_meant a.0 b.0 s.0 b.1 s.1) s.2)
      go false false false true h =
          let a = bind_ok (or_defect BadPath (after_space line)) _ raw h in
          let b = bind_ok (paths_in a.0) _ raw a.2 in
          let own : operation_of events c (rawop.Rename b.0.0 b.0.1) ≡ Ok op = ap (operation_of events c) (same_Ok (rawop.Rename b.0.0 b.0.1) raw b.2) ∙ means in
          let s = bind_ok (ensure (has_source b.0.0 (tree_now events c)) MissingSource) (λ there. Ok (Rename b.0.0 b.0.1)) op own in
          ok_then _ _ _ _ a.1 (ok_then _ _ _ _ (paths_meant a.0 b.0 s.0 b.1 s.1) s.2)
      go false false false false h = ap (operation_of events c) (same_Ok rawop.DeleteAll raw h) ∙ means

abbrev known_of : List PlainEvent → Open → List (ℕ × ℕ) → Known
known_of events current aliases = record { events = events; current = current; aliases = aliases }

-- in a commit a line of an operation has one, which means that
op_line_means : (events : List PlainEvent) (current : Open) (aliases : List (ℕ × ℕ)) (line : Bytes) (new : Known) → is_commit current ≡ true
    → with_operation (known_of events current aliases) line ≡ Ok new
    → (raw : RawOp) × (op_spelled line ≡ Ok raw) × (with_op (known_of events current aliases) raw ≡ Ok new)
op_line_means events (ACommit c) aliases line new h e =
    let a = bind_ok (op_after events c line) (λ op. Ok (known_of events (ACommit (record c { ops = c.ops ++ op ∷ [] })) aliases)) new e in
    let x = op_means events c line a.0 a.1 in
    (x.0, x.1, ok_then (operation_of events c x.0) (λ op. Ok (known_of events (ACommit (record c { ops = c.ops ++ op ∷ [] })) aliases)) a.0 (Ok new) x.2 a.2)
op_line_means events _ aliases line new h e = absurd (true≢false (sym h))

op_line_meant : (events : List PlainEvent) (current : Open) (aliases : List (ℕ × ℕ)) (line : Bytes) (raw : RawOp) (new : Known) → op_spelled line ≡ Ok raw
    → with_op (known_of events current aliases) raw ≡ Ok new → with_operation (known_of events current aliases) line ≡ Ok new
op_line_meant events (ACommit c) aliases line raw new is e =
    let a = bind_ok (operation_of events c raw) (λ op. Ok (known_of events (ACommit (record c { ops = c.ops ++ op ∷ [] })) aliases)) new e in
    ok_then (op_after events c line) (λ op. Ok (known_of events (ACommit (record c { ops = c.ops ++ op ∷ [] })) aliases)) a.0 (Ok new) (op_meant events c line raw a.0 is a.1) a.2
op_line_meant events _ aliases line raw new is e = e

-- ---- any line

-- a line that is judged has a field, which means that
pub line_means : (w : Word) (line : Bytes) (k new : Known) → is_alone w ≡ true → w ≢ word.LeftOut → w ≢ word.Other
    → (is_op_word w ≡ true → is_commit k.current ≡ true) → judged w line k ≡ Ok new → Meaning w line k new
line_means word.Blob line k new h o p q e = (tt, refl, e)
line_means word.Commit line k new h o p q e = bind_ok (name_in (text_of line)) (λ branch. Ok (begun_with k (commit_on k branch))) new e
line_means word.Tag line k new h o p q e = bind_ok (name_in (text_of line)) (λ name. Ok (begun_with k (ATag name 0 None None))) new e
line_means word.Reset line k new h o p q e = bind_ok (name_in (text_of line)) (λ branch. Ok (begun_with k (AReset branch None))) new e
line_means word.Mark line k new h o p q e =
    bind_ok (mark_in (text_of line)) (λ mark. ensure (not (is_known_mark k mark)) RepeatedMark >>= λ fresh. Ok (changed k (with_mark mark))) new e
line_means word.Oid line k new h o p q e = (tt, refl, e)
line_means word.Author line k new h o p q e = bind_ok (person_in (text_of line)) (λ who. Ok (changed k (with_commit (λ c. record c { author = Some who })))) new e
line_means word.Committer line k new h o p q e = bind_ok (person_in (text_of line)) (λ who. Ok (changed k (with_commit (λ c. record c { committer = Some who })))) new e
line_means word.Tagger line k new h o p q e = bind_ok (person_in (text_of line)) (λ who. Ok (changed k (with_tagger who))) new e
line_means word.Encoding line k new h o p q e = (text_of line, refl, e)
line_means word.From line k new h o p q e = ref_means k new (text_of line) (λ commit. changed k (with_from commit)) e
line_means word.Merge line k new h o p q e = ref_means k new (text_of line) (λ commit. changed k (with_commit (with_parent commit))) e
line_means word.Alias line k new h o p q e = (tt, refl, e)
line_means word.To line k new h o p q e = ref_means k new (text_of line) (λ commit. aliased commit k) e
line_means word.Operation line k new h o p q e = op_line_means k.events k.current k.aliases line new (q refl) e
line_means word.InlineOperation line k new h o p q e = op_line_means k.events k.current k.aliases line new (q refl) e
line_means word.Pass line k new h o p q e =
    let a = bind_ok (ensure (not (is_left_out_feature line)) LeftOut) (λ kept. Ok (passed k line)) new e in
    (line, ok_then (ensure (not (is_left_out_feature line)) LeftOut) (λ kept. Ok line) a.0 (Ok line) a.1 refl, a.2)
line_means word.FeatureDone line k new h o p q e = (line, refl, e)
line_means word.Empty line k new h o p q e = (tt, refl, e)
line_means word.Data line k new h o p q e = absurd cc
line_means word.Done line k new h o p q e = absurd cc
line_means word.LeftOut line k new h o p q e = absurd (o refl)
line_means word.Other line k new h o p q e = absurd (p refl)

-- a field that means that is judged so
pub line_meant : (w : Word) (line : Bytes) (k new : Known) (x : Field w) → field_in w line ≡ Ok x → meant false w x k ≡ Ok new → judged w line k ≡ Ok new
line_meant word.Blob line k new x is e = e
line_meant word.Commit line k new x is e = ok_then (name_in (text_of line)) (λ branch. Ok (begun_with k (commit_on k branch))) x (Ok new) is e
line_meant word.Tag line k new x is e = ok_then (name_in (text_of line)) (λ name. Ok (begun_with k (ATag name 0 None None))) x (Ok new) is e
line_meant word.Reset line k new x is e = ok_then (name_in (text_of line)) (λ branch. Ok (begun_with k (AReset branch None))) x (Ok new) is e
line_meant word.Mark line k new x is e =
    ok_then (mark_in (text_of line)) (λ mark. ensure (not (is_known_mark k mark)) RepeatedMark >>= λ fresh. Ok (changed k (with_mark mark))) x (Ok new) is e
line_meant word.Oid line k new x is e = e
line_meant word.Author line k new x is e = ok_then (person_in (text_of line)) (λ who. Ok (changed k (with_commit (λ c. record c { author = Some who })))) x (Ok new) is e
line_meant word.Committer line k new x is e = ok_then (person_in (text_of line)) (λ who. Ok (changed k (with_commit (λ c. record c { committer = Some who })))) x (Ok new) is e
line_meant word.Tagger line k new x is e = ok_then (person_in (text_of line)) (λ who. Ok (changed k (with_tagger who))) x (Ok new) is e
line_meant word.Encoding line k new x is e =
    ap (λ (text : Bytes). Ok (changed k (with_commit (λ c. record c { encoding = Some text })))) (same_Ok {A = Bytes} (text_of line) x is) ∙ e
line_meant word.From line k new x is e = ref_meant k new (text_of line) (λ commit. changed k (with_from commit)) x is e
line_meant word.Merge line k new x is e = ref_meant k new (text_of line) (λ commit. changed k (with_commit (with_parent commit))) x is e
line_meant word.Alias line k new x is e = e
line_meant word.To line k new x is e = ref_meant k new (text_of line) (λ commit. aliased commit k) x is e
line_meant word.Operation line k new x is e = op_line_meant k.events k.current k.aliases line x new is e
line_meant word.InlineOperation line k new x is e = op_line_meant k.events k.current k.aliases line x new is e
line_meant word.Pass line k new x is e =
    let a = bind_ok (ensure (not (is_left_out_feature line)) LeftOut) (λ kept. Ok line) x is in
    ok_then (ensure (not (is_left_out_feature line)) LeftOut) (λ kept. Ok (passed k line)) a.0 (Ok new) a.1
    (ap (λ (l : Bytes). Ok (passed k l)) (same_Ok {A = Bytes} line x a.2) ∙ e)
line_meant word.FeatureDone line k new x is e = ap (λ (l : Bytes). Ok (passed k l)) (same_Ok {A = Bytes} line x is) ∙ e
line_meant word.Empty line k new x is e = e
line_meant word.Data line k new x is e = absurd cc
line_meant word.Done line k new x is e = absurd cc
line_meant word.LeftOut line k new x is e = absurd cc
line_meant word.Other line k new x is e = absurd cc

-- ---- a commit stays one

kept_open : (event : Open) → is_commit event ≡ true → (change : OpenCommit → OpenCommit) → is_commit (with_commit change event) ≡ true
kept_open (ACommit c) h change = refl
kept_open _ h change = absurd (true≢false (sym h))

mark_keeps : (event : Open) (mark : ℕ) → is_commit event ≡ true → is_commit (with_mark mark event) ≡ true
mark_keeps (ACommit c) mark h = refl
mark_keeps _ mark h = absurd (true≢false (sym h))

from_keeps : (event : Open) (commit : ℕ) → is_commit event ≡ true → is_commit (with_from commit event) ≡ true
from_keeps (ACommit c) commit h = refl
from_keeps _ commit h = absurd (true≢false (sym h))

data_keeps_at : (events : List PlainEvent) (event : Open) (aliases : List (ℕ × ℕ)) (inline : Bool) (bytes : Bytes) → is_commit event ≡ true
    → is_commit (Known.current (with_data inline bytes (known_of events event aliases))) ≡ true
data_keeps_at events (ACommit c) aliases true bytes h = refl
data_keeps_at events (ACommit c) aliases false bytes h = refl
data_keeps_at events _ aliases inline bytes h = absurd (true≢false (sym h))

-- bytes that come
pub data_keeps : (k : Known) (inline : Bool) (bytes : Bytes) → is_commit k.current ≡ true → is_commit (Known.current (with_data inline bytes k)) ≡ true
data_keeps k inline bytes h = data_keeps_at k.events k.current k.aliases inline bytes h

abbrev IsCommitIn : Known → Type 0
IsCommitIn k = is_commit k.current ≡ true

in_new : (k new : Known) → ◌≡◌ {A = Result Known Why} (Ok k) (Ok new) → IsCommitIn k → IsCommitIn new
in_new k new e h = subst IsCommitIn (same_Ok k new e) h

op_keeps_at : (events : List PlainEvent) (event : Open) (aliases : List (ℕ × ℕ)) (raw : RawOp) (new : Known) → is_commit event ≡ true
    → with_op (known_of events event aliases) raw ≡ Ok new → IsCommitIn new
op_keeps_at events (ACommit c) aliases raw new h e =
    let a = bind_ok (operation_of events c raw) (λ op. Ok (known_of events (ACommit (record c { ops = c.ops ++ op ∷ [] })) aliases)) new e in
    in_new (known_of events (ACommit (record c { ops = c.ops ++ a.0 ∷ [] })) aliases) new a.2 refl
op_keeps_at events _ aliases raw new h e = absurd (true≢false (sym h))

-- an operation
pub op_keeps : (k new : Known) (raw : RawOp) → IsCommitIn k → with_op k raw ≡ Ok new → IsCommitIn new
op_keeps k new raw h e = op_keeps_at k.events k.current k.aliases raw new h e

-- whether a commit is being read after a line, where it may have been before
abbrev pub keeps : Word → Bool → Bool
keeps word.Commit b = true
keeps word.Mark b = b
keeps word.Oid b = b
keeps word.Author b = b
keeps word.Committer b = b
keeps word.Encoding b = b
keeps word.Data b = b
keeps word.From b = b
keeps word.Merge b = b
keeps _ b = false

pub is_kept : (w : Word) (x : Field w) (k new : Known) (b : Bool) → (b ≡ true → IsCommitIn k) → meant false w x k ≡ Ok new → keeps w b ≡ true → IsCommitIn new
is_kept word.Commit x k new b h e r = in_new (begun_with k (commit_on k x)) new e refl
is_kept word.Mark x k new b h e r =
    let a = bind_ok (ensure (not (is_known_mark k x)) RepeatedMark) (λ fresh. Ok (changed k (with_mark x))) new e in
    in_new (changed k (with_mark x)) new a.2 (mark_keeps k.current x (h r))
is_kept word.Oid x k new b h e r = in_new k new e (h r)
is_kept word.Author x k new b h e r = in_new (changed k (with_commit (λ c. record c { author = Some x }))) new e (kept_open k.current (h r) (λ c. record c { author = Some x }))
is_kept word.Committer x k new b h e r = in_new (changed k (with_commit (λ c. record c { committer = Some x }))) new e (kept_open k.current (h r) (λ c. record c { committer = Some x }))
is_kept word.Encoding x k new b h e r = in_new (changed k (with_commit (λ c. record c { encoding = Some x }))) new e (kept_open k.current (h r) (λ c. record c { encoding = Some x }))
is_kept word.Data x k new b h e r = in_new (with_data false x k) new e (data_keeps k false x (h r))
is_kept word.From x k new b h e r =
    let a = bind_ok (named k x) (λ commit. Ok (changed k (with_from commit))) new e in
    in_new (changed k (with_from a.0)) new a.2 (from_keeps k.current a.0 (h r))
is_kept word.Merge x k new b h e r =
    let a = bind_ok (named k x) (λ commit. Ok (changed k (with_commit (with_parent commit)))) new e in
    in_new (changed k (with_commit (with_parent a.0))) new a.2 (kept_open k.current (h r) (with_parent a.0))
is_kept _ x k new b h e r = absurd (true≢false (sym r))
