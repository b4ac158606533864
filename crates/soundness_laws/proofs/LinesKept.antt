-- What each line keeps, wherever it may be.
use Rattle.std.proofs.Common.{◌≡◌, ℕ, zero, suc, arith, Bool, true, false, cond, List, [], ◌∷◌, codes, Option, Some, None, Result, Ok, Err, refl, ap, subst, ◌∙◌, inl, eq-eqb}
use Rattle.std.specs.Prelude.{◌==◌, ◌||◌, IfSome, bytes_eq}
use Rattle.std.specs.List.{AllByRecursion}
use Rattle.std.specs.Map.{lookup}
use Rattle.std.proofs.lemmas.Bool.{and_from, or_left, or_right}
use Rattle.plain_model.specs.declared.fault.Why.{Why}
use Rattle.plain_model.specs.declared.fault.Why.TheVariants.{BadMark, UnknownMark, UnknownRef, LeftOut}
use Rattle.plain_model.specs.declared.id.AnyId.TheVariants as any
use Rattle.plain_model.specs.declared.operation.FileOp.{FileOp}
use Rattle.plain_model.specs.declared.person.Signed.{Signed}
use Rattle.plain_model.specs.declared.event.PlainEvent.{PlainEvent}
use Rattle.plain_model.specs.declared.event.PlainEvent.TheVariants.{Blob, Pass}
use Rattle.plain_model.specs.Fields.{◌>>=◌, or_defect, first_word, mark_in, name_in, extent_in}
use Rattle.plain_model.specs.Fields.{Extent}
use Rattle.plain_model.specs.Fields.Extent.{Counted, Delimited}
use Rattle.plain_model.specs.Marks.{IsMark}
use Rattle.plain_model.specs.Parts.{begins, has_no_lf}
use Rattle.plain_model.specs.Paths.{Bytes, is_empty}
use Rattle.plain_model.specs.Snapshots.{refs}
use Rattle.plain_model.specs.Soundness.{IsCommitOf, IsFormedSigned, RefersBack, has_id, is_passed_line}
use Rattle.plain_model.specs.Streams.{commit_marked}
use Rattle.plain_model.specs.Trees.{at}
use Rattle.line_automaton.specs.Machine.{Next}
use Rattle.line_automaton.specs.Machine.Next.{More, Block, Until, Over}
use Rattle.stream_grammar.specs.declared.lines.Expected.{Expected}
use Rattle.stream_grammar.specs.declared.lines.Expected.TheVariants as expected
use Rattle.stream_grammar.specs.declared.lines.Follow.{Follow}
use Rattle.stream_grammar.specs.declared.lines.Follow.TheVariants.{Goes, Missing, Finished}
use Rattle.stream_grammar.specs.declared.lines.Standing.{Standing}
use Rattle.stream_grammar.specs.declared.lines.Word.{Word}
use Rattle.stream_grammar.specs.declared.lines.Word.TheVariants as word
use Rattle.stream_grammar.specs.Known.{Known, Open, OpenCommit, closed, commit_with, is_left_out_ref, next_id, op_after, ref_in, tree_now, with_parent}
use Rattle.stream_grammar.specs.Known.Open.{Nothing, ABlob, ACommit, ATag, AReset, AnAlias}
use Rattle.stream_grammar.specs.Limits.{limit_at, op_limit}
use Rattle.stream_grammar.specs.Lines.{text_of, is_inline, word_of, follows, is_required, aliased, begun_with, commit_on, with_mark, with_commit, with_from, with_tagger, with_operation, passed, changed, begun_by, gone_on, next_by, next_of}
use Rattle.field_laws.proofs.FieldSteps.{bind_ok, or_defect_is, same_Ok}
use Rattle.history_laws.proofs.Ids.{has_id_append, has_id_still}
use Rattle.history_laws.proofs.Lists.{all_join}
use Rattle.soundness_laws.proofs.Changes.{commit_begun, commit_changed, mark_kept, authored_commit, committed_commit, encoded_commit, tagger_kept, from_kept, from_target, merge_kept, commit_target, commit_no_ops, mark_target, mark_no_ops, mark_marks, tagger_target, parents_limit, operation_kept}
use Rattle.soundness_laws.proofs.FieldsRead.{plain_text, name_fits}
use Rattle.soundness_laws.proofs.Ids.{commit_found}
use Rattle.soundness_laws.proofs.Kept.{AreKnown, AreSoFar, HasMark, HasNoOps, HasTarget, IsOpenWell, awaited, awaiting, one_more, ready, seen_same}
use Rattle.soundness_laws.proofs.OpsRead.{IsOp, op_fits}
use Rattle.soundness_laws.proofs.SoFar.{AreWell, IsCommitSoFar, have_trees, refers_imply, tip_is_commit}
use Rattle.soundness_laws.proofs.WordsRead.{not_inline}

-- ---- where lines may be

-- the words that begin or end events
abbrev pub starts : Word → Bool
starts word.Blob = true
starts word.Commit = true
starts word.Tag = true
starts word.Reset = true
starts word.Alias = true
starts word.Pass = true
starts word.FeatureDone = true
starts word.Done = true
starts word.Empty = true
starts _ = false

-- where such a word may follow, the event can end
finished : (d : Expected) (w : Word) → follows d w ≡ Finished → is_required d ≡ false
finished expected.Event w e = refl
finished expected.CommitFrom w e = refl
finished expected.CommitMerge w e = refl
finished expected.CommitOperation w e = refl
finished expected.ResetFrom w e = refl
finished expected.ResetEnd w e = refl
finished _ word.Blob e = absurd cc
finished _ _ e = absurd cc

never_goes : (d after : Expected) (w : Word) → starts w ≡ true → follows d w ≡ Goes after → ⊥
never_goes expected.Event after word.Blob st e = absurd cc
never_goes _ after word.Blob st e = absurd cc
never_goes _ after _ st e = absurd cc

-- a word that begins or ends an event is where one can end
pub start_ok : (w : Word) (s new : Standing) → starts w ≡ true → gone_on s w (follows s.expected w) ≡ Ok new → (is_required s.expected ≡ false) × (begun_by s w ≡ Ok new)
start_ok w s new st e = go (follows s.expected w) refl e
  where
    go : (f : Follow) → follows s.expected w ≡ f → gone_on s w f ≡ Ok new → (is_required s.expected ≡ false) × (begun_by s w ≡ Ok new)
    go (Goes after) is e = absurd (never_goes s.expected after w st is)
    go Missing is e = absurd cc
    go Finished is e = (finished s.expected w is, e)

-- P of where the stream is then, if it goes on
abbrev pub GoesWith : (Expected → Type 0) → Follow → Type 0
GoesWith P (Goes after) = P after
GoesWith P Missing = Unit {0}
GoesWith P Finished = Unit {0}

-- any other word goes on
pub goes_ok : (P : Expected → Type 0) (w : Word) (s new : Standing) → ((t : Standing) → begun_by s w ≡ Ok t → ⊥) → gone_on s w (follows s.expected w) ≡ Ok new → GoesWith P (follows s.expected w) → P new.expected
goes_ok P w s new inside e h = go (follows s.expected w) e h
  where
    go : (f : Follow) → gone_on s w f ≡ Ok new → GoesWith P f → P new.expected
    go (Goes after) e h = let is : after ≡ new.expected = ap (λ (r : Result Standing Why). or_defect_or r) e in subst P is h
      where
        or_defect_or : Result Standing Why → Expected
        or_defect_or (Ok t) = t.expected
        or_defect_or (Err why) = after
    go Missing e h = absurd cc
    go Finished e h = absurd (inside new e)

-- ---- what a line refers to

tip_if : (events : List PlainEvent) → AreWell events → (branch : Bytes) (tip : Option ℕ) → at (refs events) branch ≡ tip → IfSome tip (IsCommitOf events)
tip_if events h branch None is = tt
tip_if events h branch (Some c) is = tip_is_commit events h branch c is

-- an alias is of one of the commits
alias_is_commit : (events : List PlainEvent) (aliases : List (ℕ × ℕ)) (mark c : ℕ) → AllByRecursion (λ a. IsMark a.0 × IsCommitOf events a.1) aliases → lookup (λ a. a == mark) aliases ≡ Some c → IsCommitOf events c
alias_is_commit events [] mark c h e = absurd cc
alias_is_commit events (a ∷ aliases) mark c h e = go (a.0 == mark) e (alias_is_commit events aliases mark c h.1)
  where
    go : (t : Bool) → cond t (Some a.1) (lookup (λ b. b == mark) aliases) ≡ Some c → (lookup (λ b. b == mark) aliases ≡ Some c → IsCommitOf events c) → IsCommitOf events c
    go true e more = let same : a.1 ≡ c = cc in subst (IsCommitOf events) same h.0.1
    go false e more = more e

-- what a mark names is a commit, as its own or as an alias
marked_is_commit : (events : List PlainEvent) (aliases : List (ℕ × ℕ)) (mark c : ℕ) → AllByRecursion (λ a. IsMark a.0 × IsCommitOf events a.1) aliases → commit_with events aliases mark ≡ Some c → IsCommitOf events c
marked_is_commit events aliases mark c h e = go (commit_marked events mark) refl e
  where
    go : (o : Option ℕ) → commit_marked events mark ≡ o → elim o [ Some commit ↦ Some commit | None ↦ lookup (λ a. a == mark) aliases ] ≡ Some c → IsCommitOf events c
    go (Some commit) is e = commit_found events mark c (is ∙ e)
    go None is e = alias_is_commit events aliases mark c h e

pub ref_fits : (events : List PlainEvent) (aliases : List (ℕ × ℕ)) → AreSoFar events aliases → (text : Bytes) (c : ℕ) → ref_in events aliases text ≡ Ok c → IsCommitOf events c
ref_fits events aliases h text c e = go (is_empty text) (is_left_out_ref text) (begins (codes ":") text) e
  where
    go : (x y z : Bool) → cond x (Err BadMark) (cond y (Err LeftOut) (cond z (mark_in text >>= λ mark. or_defect UnknownMark (commit_with events aliases mark)) (or_defect UnknownRef (at (refs events) text)))) ≡ Ok c → IsCommitOf events c
    go true y z e = absurd cc
    go false true z e = absurd cc
    go false false true e =
        let m = bind_ok (mark_in text) (λ mark. or_defect UnknownMark (commit_with events aliases mark)) c e in
        marked_is_commit events aliases m.0 c h.aliased (or_defect_is UnknownMark (commit_with events aliases m.0) c m.2)
    go false false false e = tip_is_commit events h.well text c (or_defect_is UnknownRef (at (refs events) text) c e)

-- ---- lines, by their words

-- what holds after a line
abbrev pub AfterLine : Next → Expected → Known → Type 0
AfterLine More d k = ready d k
AfterLine (Block n) d k = awaiting d k
AfterLine (Until n) d k = awaiting d k
AfterLine Over d k = AreKnown k

pub more_after : (d : Expected) (k : Known) (next : Next) → ready d k → ◌≡◌ {A = Result Next Why} (Ok More) (Ok next) → AfterLine next d k
more_after d k next h e = subst (λ (n : Next). AfterLine n d k) (same_Ok More next e) h

-- an alias that has its mark names a commit
alias_there : (events : List PlainEvent) (o : Open) (aliases : List (ℕ × ℕ)) (c : ℕ) → IsCommitOf events c → AreSoFar events aliases → IsOpenWell events events o → HasMark o
    → ready expected.Event (aliased c (record { events = events; current = o; aliases = aliases }))
alias_there events (AnAlias zero) aliases c there h w marked = absurd (omega (arith, marked.0))
alias_there events (AnAlias (suc m)) aliases c there h w marked =
    record { so_far = record { well = h.well; aliased = all_join (λ a. IsMark a.0 × IsCommitOf events a.1) aliases ((suc m, c) ∷ []) h.aliased ((marked, there), tt) }; current = tt; needs = tt }
alias_there events Nothing aliases c there h w marked = record { so_far = h; current = w; needs = tt }
alias_there events (ABlob mark) aliases c there h w marked = record { so_far = h; current = w; needs = tt }
alias_there events (ACommit commit) aliases c there h w marked = record { so_far = h; current = w; needs = tt }
alias_there events (ATag name target tagger mark) aliases c there h w marked = record { so_far = h; current = w; needs = tt }
alias_there events (AReset branch target) aliases c there h w marked = record { so_far = h; current = w; needs = tt }

module _ (line : Bytes) (plain : has_no_lf line ≡ true) (k : Known) where
  -- ---- lines that begin an event

  pub blob_begun : AreKnown k → ready expected.BlobMark (begun_with k (ABlob 0))
  blob_begun h = record { so_far = h; current = inl refl; needs = tt }

  pub commit_ready : (branch : Bytes) → AreKnown k → name_in (text_of line) ≡ Ok branch → ready expected.CommitMark (begun_with k (commit_on k branch))
  commit_ready branch h e = record {
    so_far = h;
    current = commit_begun (closed k) (have_trees (closed k) h.well) branch (at (refs (closed k)) branch) (name_fits (text_of line) branch e) refl (tip_if (closed k) h.well branch (at (refs (closed k)) branch) refl);
    needs = (tt, refl);
  }

  pub tag_ready : (name : Bytes) → AreKnown k → name_in (text_of line) ≡ Ok name → ready expected.TagMark (begun_with k (ATag name 0 None None))
  tag_ready name h e = record { so_far = h; current = (name_fits (text_of line) name e, tt, tt); needs = tt }

  pub reset_ready : (branch : Bytes) → AreKnown k → name_in (text_of line) ≡ Ok branch → ready expected.ResetFrom (begun_with k (AReset branch None))
  reset_ready branch h e = record { so_far = h; current = (name_fits (text_of line) branch e, tt); needs = tt }

  pub alias_begun : AreKnown k → ready expected.AliasMark (begun_with k (AnAlias 0))
  alias_begun h = record { so_far = h; current = tt; needs = tt }

  pub pass_ready : AreKnown k → is_passed_line line ≡ true → ready expected.Event (passed k line)
  pass_ready h fits = record { so_far = one_more (closed k) k.aliases (Pass (next_id (closed k)) line) h (refl, fits); current = tt; needs = tt }

  pub empty_ready : (d : Expected) → ready d k → is_required d ≡ false → ready expected.Event k
  empty_ready d h e = record { so_far = h.so_far; current = subst (λ (seen : List PlainEvent). IsOpenWell k.events seen k.current) (seen_same d k.events e) h.current; needs = tt }

  -- ---- lines inside an event

  pub mark_line : (m : ℕ) → IsMark m → (d : Expected) → ready d k → GoesWith (λ after. ready after (changed k (with_mark m))) (follows d word.Mark)
  mark_line m fits expected.BlobMark h = record { so_far = h.so_far; current = mark_kept k.events k.events m k.current fits h.current; needs = mark_target k.events m k.current h.needs }
  mark_line m fits expected.CommitMark h = record {
    so_far = h.so_far;
    current = mark_kept k.events k.events m k.current fits h.current;
    needs = (mark_target k.events m k.current h.needs.0, mark_no_ops m k.current h.needs.1);
  }
  mark_line m fits expected.TagMark h = record { so_far = h.so_far; current = mark_kept k.events k.events m k.current fits h.current; needs = mark_no_ops m k.current h.needs }
  mark_line m fits expected.AliasMark h = record { so_far = h.so_far; current = mark_kept k.events k.events m k.current fits h.current; needs = mark_marks m k.current fits }
  mark_line m fits _ h = tt

  pub oid_line : (d : Expected) → ready d k → GoesWith (λ after. ready after k) (follows d word.Oid)
  oid_line expected.BlobMark h = record { so_far = h.so_far; current = h.current; needs = h.needs }
  oid_line expected.BlobOid h = record { so_far = h.so_far; current = h.current; needs = h.needs }
  oid_line expected.CommitMark h = record { so_far = h.so_far; current = h.current; needs = h.needs }
  oid_line expected.CommitOid h = record { so_far = h.so_far; current = h.current; needs = h.needs }
  oid_line expected.TagOid h = record { so_far = h.so_far; current = h.current; needs = h.needs }
  oid_line _ h = tt

  -- a change of a commit's fields before its comment
  field_changed : (change : OpenCommit → OpenCommit) → ((c : OpenCommit) → IsCommitSoFar k.events k.events c → IsCommitSoFar k.events k.events (change c)) → ((c : OpenCommit) → (change c).ops ≡ c.ops)
      → IsOpenWell k.events k.events k.current → HasTarget k.events k.current × HasNoOps k.current
      → IsOpenWell k.events k.events (with_commit change k.current) × (HasTarget k.events (with_commit change k.current) × HasNoOps (with_commit change k.current))
  field_changed change kept same w needs =
      (commit_changed k.events k.events change kept k.current w, (commit_target k.events change k.current needs.0, commit_no_ops change same k.current needs.1))

  pub author_line : (who : Signed) → IsFormedSigned who → (d : Expected) → ready d k → GoesWith (λ after. ready after (changed k (with_commit (λ c. record c { author = Some who })))) (follows d word.Author)
  author_line who formed expected.CommitMark h =
      let x = field_changed (λ c. record c { author = Some who }) (authored_commit k.events k.events who formed) (λ c. refl) h.current h.needs in record { so_far = h.so_far; current = x.0; needs = x.1 }
  author_line who formed expected.CommitOid h =
      let x = field_changed (λ c. record c { author = Some who }) (authored_commit k.events k.events who formed) (λ c. refl) h.current h.needs in record { so_far = h.so_far; current = x.0; needs = x.1 }
  author_line who formed expected.CommitAuthor h =
      let x = field_changed (λ c. record c { author = Some who }) (authored_commit k.events k.events who formed) (λ c. refl) h.current h.needs in record { so_far = h.so_far; current = x.0; needs = x.1 }
  author_line who formed _ h = tt

  pub committer_line : (who : Signed) → IsFormedSigned who → (d : Expected) → ready d k → GoesWith (λ after. ready after (changed k (with_commit (λ c. record c { committer = Some who })))) (follows d word.Committer)
  committer_line who formed expected.CommitMark h =
      let x = field_changed (λ c. record c { committer = Some who }) (committed_commit k.events k.events who formed) (λ c. refl) h.current h.needs in record { so_far = h.so_far; current = x.0; needs = x.1 }
  committer_line who formed expected.CommitOid h =
      let x = field_changed (λ c. record c { committer = Some who }) (committed_commit k.events k.events who formed) (λ c. refl) h.current h.needs in record { so_far = h.so_far; current = x.0; needs = x.1 }
  committer_line who formed expected.CommitAuthor h =
      let x = field_changed (λ c. record c { committer = Some who }) (committed_commit k.events k.events who formed) (λ c. refl) h.current h.needs in record { so_far = h.so_far; current = x.0; needs = x.1 }
  committer_line who formed expected.CommitCommitter h =
      let x = field_changed (λ c. record c { committer = Some who }) (committed_commit k.events k.events who formed) (λ c. refl) h.current h.needs in record { so_far = h.so_far; current = x.0; needs = x.1 }
  committer_line who formed _ h = tt

  pub encoding_line : (d : Expected) → ready d k → GoesWith (λ after. ready after (changed k (with_commit (λ c. record c { encoding = Some (text_of line) })))) (follows d word.Encoding)
  encoding_line expected.CommitEncoding h =
      let x = field_changed (λ c. record c { encoding = Some (text_of line) }) (encoded_commit k.events k.events (text_of line) (plain_text line plain)) (λ c. refl) h.current h.needs in
      record { so_far = h.so_far; current = x.0; needs = x.1 }
  encoding_line _ h = tt

  pub tagger_line : (who : Signed) → IsFormedSigned who → (d : Expected) → ready d k → GoesWith (λ after. ready after (changed k (with_tagger who))) (follows d word.Tagger)
  tagger_line who formed expected.TagOid h = record { so_far = h.so_far; current = tagger_kept k.events k.events who formed k.current h.current; needs = tagger_target k.events who k.current h.needs }
  tagger_line who formed expected.TagTagger h = record { so_far = h.so_far; current = tagger_kept k.events k.events who formed k.current h.current; needs = tagger_target k.events who k.current h.needs }
  tagger_line who formed _ h = tt

  pub from_line : (c : ℕ) → IsCommitOf k.events c → (d : Expected) → ready d k → GoesWith (λ after. ready after (changed k (with_from c))) (follows d word.From)
  from_line c there expected.CommitFrom h = record { so_far = h.so_far; current = from_kept k.events (have_trees k.events h.so_far.well) c k.current there h.needs.1 h.current; needs = from_target k.events (have_trees k.events h.so_far.well) c k.current there }
  from_line c there expected.TagMark h = record { so_far = h.so_far; current = from_kept k.events (have_trees k.events h.so_far.well) c k.current there h.needs h.current; needs = from_target k.events (have_trees k.events h.so_far.well) c k.current there }
  from_line c there expected.TagFrom h = record { so_far = h.so_far; current = from_kept k.events (have_trees k.events h.so_far.well) c k.current there h.needs h.current; needs = from_target k.events (have_trees k.events h.so_far.well) c k.current there }
  from_line c there expected.ResetFrom h = record { so_far = h.so_far; current = from_kept k.events (have_trees k.events h.so_far.well) c k.current there h.needs h.current; needs = tt }
  from_line c there _ h = tt

  -- the alias that is being read is there
  pub to_line : (c : ℕ) → IsCommitOf k.events c → (d : Expected) → ready d k → GoesWith (λ after. ready after (aliased c k)) (follows d word.To)
  to_line c there expected.AliasTo h = alias_there k.events k.current k.aliases c there h.so_far h.current h.needs
  to_line c there _ h = tt

  pub merge_line : (c : ℕ) → IsCommitOf k.events c → limit_at word.Merge (changed k (with_commit (with_parent c))) ≡ None → (d : Expected) → ready d k
      → GoesWith (λ after. ready after (changed k (with_commit (with_parent c)))) (follows d word.Merge)
  merge_line c there limit expected.CommitFrom h = record {
    so_far = h.so_far;
    current = merge_kept k.events (have_trees k.events h.so_far.well) c k.current there (parents_limit (changed k (with_commit (with_parent c))) limit) h.current;
    needs = commit_target k.events (with_parent c) k.current h.needs.0;
  }
  merge_line c there limit expected.CommitMerge h = record {
    so_far = h.so_far;
    current = merge_kept k.events (have_trees k.events h.so_far.well) c k.current there (parents_limit (changed k (with_commit (with_parent c))) limit) h.current;
    needs = commit_target k.events (with_parent c) k.current h.needs;
  }
  merge_line c there limit _ h = tt

  -- ---- operations

  -- an operation whose bytes don't follow
  plain_op : word_of line ≡ word.Operation → (c : OpenCommit) (op : FileOp) → op_after k.events c line ≡ Ok op → IsOp k.events (tree_now k.events c) op
  plain_op is c op e =
      op_fits k.events k.events (λ b h. h) c line op
      (λ m inline. absurd (let isnt = not_inline line is in let both = and_from (bytes_eq (first_word line) (codes "M")) (is_inline line) m inline in cc)) e

  refers_awaited : (op : FileOp) → RefersBack k.events op → RefersBack (awaited k.events) op
  refers_awaited op h = refers_imply k.events (awaited k.events) (λ b i. has_id_still k.events (Blob (next_id k.events) 0 [] ∷ []) (any.Blob b) i) op h

  own_awaited : has_id (awaited k.events) (any.Blob (next_id k.events)) ≡ true
  own_awaited =
      has_id_append k.events (Blob (next_id k.events) 0 [] ∷ []) (any.Blob (next_id k.events))
      ∙ or_right (has_id k.events (any.Blob (next_id k.events))) ((next_id k.events == next_id k.events) || false) (or_left (next_id k.events == next_id k.events) false (eq-eqb (next_id k.events) (next_id k.events) refl))

  -- one whose bytes follow
  inline_op : (c : OpenCommit) (op : FileOp) → op_after k.events c line ≡ Ok op → IsOp (awaited k.events) (tree_now k.events c) op
  inline_op c op e = op_fits k.events (awaited k.events) (λ b i. has_id_still k.events (Blob (next_id k.events) 0 [] ∷ []) (any.Blob b) i) c line op (λ m inline. own_awaited) e

  op_ready : word_of line ≡ word.Operation → (new : Known) → with_operation k line ≡ Ok new → op_limit 0 new ≡ None → AreSoFar k.events k.aliases → IsOpenWell k.events k.events k.current → HasTarget k.events k.current
      → ready expected.CommitOperation new
  op_ready is new e limit h w target =
      let x = operation_kept k.events k.events (λ op i. i) 0 line k.current k.aliases new (plain_op is) e limit w target in
      subst (ready expected.CommitOperation) x.1 (record { so_far = h; current = x.2; needs = x.3 })

  inline_ready : (new : Known) → with_operation k line ≡ Ok new → op_limit 1 new ≡ None → AreSoFar k.events k.aliases → IsOpenWell k.events k.events k.current → HasTarget k.events k.current
      → ready expected.InlineData new
  inline_ready new e limit h w target =
      let x = operation_kept k.events (awaited k.events) refers_awaited 1 line k.current k.aliases new inline_op e limit w target in
      subst (ready expected.InlineData) x.1 (record { so_far = h; current = x.2; needs = x.3 })

  pub operation_line : word_of line ≡ word.Operation → (new : Known) → with_operation k line ≡ Ok new → op_limit 0 new ≡ None → (d : Expected) → ready d k → GoesWith (λ after. ready after new) (follows d word.Operation)
  operation_line is new e limit expected.CommitFrom h = op_ready is new e limit h.so_far h.current h.needs.0
  operation_line is new e limit expected.CommitMerge h = op_ready is new e limit h.so_far h.current h.needs
  operation_line is new e limit expected.CommitOperation h = op_ready is new e limit h.so_far h.current h.needs
  operation_line is new e limit _ h = tt

  pub inline_line : (new : Known) → with_operation k line ≡ Ok new → op_limit 1 new ≡ None → (d : Expected) → ready d k → GoesWith (λ after. ready after new) (follows d word.InlineOperation)
  inline_line new e limit expected.CommitFrom h = inline_ready new e limit h.so_far h.current h.needs.0
  inline_line new e limit expected.CommitMerge h = inline_ready new e limit h.so_far h.current h.needs
  inline_line new e limit expected.CommitOperation h = inline_ready new e limit h.so_far h.current h.needs
  inline_line new e limit _ h = tt

  -- ---- data

  pub data_line : (d : Expected) → ready d k → GoesWith (λ after. awaiting after k) (follows d word.Data)
  data_line expected.BlobMark h = record { so_far = h.so_far; current = h.current; needs = tt; target = h.needs; arrives = tt }
  data_line expected.BlobOid h = record { so_far = h.so_far; current = h.current; needs = tt; target = h.needs; arrives = tt }
  data_line expected.BlobData h = record { so_far = h.so_far; current = h.current; needs = tt; target = h.needs; arrives = tt }
  data_line expected.CommitEncoding h = record { so_far = h.so_far; current = h.current; needs = h.needs; target = h.needs.0; arrives = tt }
  data_line expected.CommitData h = record { so_far = h.so_far; current = h.current; needs = h.needs; target = h.needs.0; arrives = tt }
  data_line expected.InlineData h = record { so_far = h.so_far; current = h.current; needs = h.needs; target = h.needs; arrives = tt }
  data_line expected.TagOid h = record { so_far = h.so_far; current = h.current; needs = tt; target = h.needs; arrives = tt }
  data_line expected.TagTagger h = record { so_far = h.so_far; current = h.current; needs = tt; target = h.needs; arrives = tt }
  data_line expected.TagData h = record { so_far = h.so_far; current = h.current; needs = tt; target = h.needs; arrives = tt }
  data_line _ h = tt

  pub data_after : (d : Expected) (next : Next) → awaiting d k → next_of word.Data line ≡ Ok next → AfterLine next d k
  data_after d next h e =
      let x = bind_ok (extent_in line) (λ extent. Ok (next_by extent)) next e in
      subst (λ (n : Next). AfterLine n d k) (same_Ok (next_by x.0) next x.2) (go x.0)
    where
      go : (extent : Extent) → AfterLine (next_by extent) d k
      go (Counted n) = h
      go (Delimited delimiter) = h
