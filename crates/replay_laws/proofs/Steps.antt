-- A line does the same to the history and to the replay.
use Rattle.std.proofs.Common.{◌≡◌, ℕ, zero, suc, ◌+◌, ◌<◌, Bool, true, false, cond, List, [], ◌∷◌, ◌++◌, length, refl, sym, ap, subst, ◌∙◌, Option, Some, None, Result, Ok, Err, arith, option_to_list}
use Rattle.std.specs.Prelude.{◌==◌, not, option_map}
use Rattle.std.specs.List.{list_any}
use Rattle.plain_model.specs.declared.fault.Why.{Why}
use Rattle.plain_model.specs.declared.fault.Why.TheVariants.{RepeatedMark, LeftOut}
use Rattle.plain_model.specs.declared.operation.Mode.{Mode}
use Rattle.plain_model.specs.declared.operation.Content.TheVariants.{Blob as OfBlob, Object as OfObject}
use Rattle.plain_model.specs.declared.operation.FileOp.{FileOp}
use Rattle.plain_model.specs.declared.operation.FileOp.TheVariants.{Modify, Delete, Copy, Rename, DeleteAll}
use Rattle.plain_model.specs.declared.raw.RawContent.TheVariants.{Marked, Object, Inline}
use Rattle.plain_model.specs.declared.raw.RawOp.{RawOp}
use Rattle.plain_model.specs.declared.raw.RawOp.TheVariants as rawop
use Rattle.plain_model.specs.declared.person.Signed.{Signed}
use Rattle.plain_model.specs.declared.event.PlainEvent.TheVariants as plain
use Rattle.plain_model.specs.Fields.{mark_in, name_in, person_in, op_in}
use Rattle.plain_model.specs.Paths.{Bytes}
use Rattle.plain_model.specs.Trees.{TreeOf, at, meaning}
use Rattle.plain_model.specs.Trees.Change.{Put, Remove, CopyTo, MoveTo, Clear}
use Rattle.plain_model.specs.Snapshots.{Shown, blob_bytes, shown, shown_tree, refs}
use Rattle.plain_model.specs.Snapshots.ShownContent.{ShownBytes, ShownObject}
use Rattle.plain_model.specs.Lookups.{greatest_mark}
use Rattle.stream_grammar.specs.declared.lines.Expected.TheVariants as expected
use Rattle.stream_grammar.specs.declared.lines.Standing.{Standing}
use Rattle.stream_grammar.specs.declared.lines.Word.{Word}
use Rattle.stream_grammar.specs.declared.lines.Word.TheVariants as word
use Rattle.stream_grammar.specs.Known.{Known, OpenCommit, Open, closed, is_known_mark, next_id, ensure, ref_in, op_after, with_parent}
use Rattle.stream_grammar.specs.Known.Open.{Nothing, ABlob, ACommit, ATag, AReset, AnAlias}
use Rattle.stream_grammar.specs.Lines.{aliased, text_of, word_of, after_word, judged, begun_with, commit_on, with_mark, with_commit, with_from, with_tagger, with_operation, is_left_out_feature, passed, changed}
use Rattle.history_laws.proofs.Lists.{all_join}
use Rattle.field_laws.proofs.FieldSteps.{bind_ok, same_Ok}
use Rattle.replay_laws.specs.Replay.{Replayed, CommitSoFar, Reading, Replaying, files_of, first_files, commit_named, with_change, changed_files, entry, with_op, with_merge, in_commit, if_read, if_named, after_line, after_operation}
use Rattle.replay_laws.specs.Replay.{begun as begun_replay, passed as passed_replay, commit_on as commit_from, with_mark as mark_read, with_from as from_read, with_tagger as tagger_read, changed as changed_replay, aliased as aliased_replay}
use Rattle.replay_laws.specs.Replay.Reading.{NoEvent, InBlob, InCommit, InTag, InReset, InAlias}
use Rattle.replay_laws.proofs.InStep.{Place}
use Rattle.replay_laws.proofs.InStep.Place.{AtLine, AtBlock, AtEnd}
use Rattle.history_laws.proofs.TreeMapping.{map_change, changed_from}
use Rattle.replay_laws.proofs.Placed.{seen_with, greatest_alias, marked_blobs, commits_seen, blob_place, files_alike}
use Rattle.replay_laws.proofs.SoFar.{AllBelow, IsRead, blobs_of, files_now, files_more, read_more}
use Rattle.replay_laws.proofs.Operations.{GoesWith, waits, op_alike, IsOperation, operation_line, inline_line}
use Rattle.replay_laws.proofs.Standings.{is_before, still_before, from_before, merge_expected, operation_expected, inline_expected}
use Rattle.replay_laws.proofs.Twins.{commit_so_far, reading_of, HasFiles, CommitGoes, Goes, Became, EndsAlike, ends_alike, pass_with, blobs_more}
use Rattle.replay_laws.proofs.References.{named_alike, no_ops, begins_alike, tip_below}

-- ---- a line where nothing waits

-- where the text is after a line
abbrev pub place_of : Word → Place
place_of word.Data = AtBlock
place_of word.Done = AtEnd
place_of _ = AtLine

module _ (old standing : Standing) (k : Known) (files : Option (TreeOf Shown)) (s : IsRead k.events k.aliases) (g : Goes AtLine old.expected k.events k.current files None) (line : Bytes) where
  abbrev state : Replaying
  state = record { standing = old; replayed = seen_with k.events k.aliases; reading = reading_of k.current files None }

  -- the event that is being read ends
  ends : EndsAlike k (begun_replay state (λ r. NoEvent)).replayed
  ends = ends_alike AtLine old.expected k files s g

  -- an event begins
  begins_event : (event : Open) (reading : Replayed → Reading) (new : Option (TreeOf Shown)) → reading (seen_with (closed k) k.aliases) ≡ reading_of event new None
      → Goes AtLine standing.expected (closed k) event new None → Became AtLine standing (begun_with k event) (begun_replay state reading)
  begins_event event reading new r h = (new, None, ends.0, ap reading ends.0 ∙ r, ends.1, h)

  commit_begins : (branch : Bytes) → Became AtLine standing (begun_with k (commit_on k branch)) (begun_replay state (λ r. InCommit (commit_from r branch)))
  commit_begins branch =
      let parents = option_to_list (at (refs (closed k)) branch) in
      begins_event (commit_on k branch) (λ r. InCommit (commit_from r branch)) (first_files (seen_with (closed k) k.aliases) parents) refl
      (record { below = tip_below (closed k) ends.1.so_far branch; first = λ b. refl; has_files = (begins_alike (closed k) parents, tt) })

  -- an event of one line
  passes : Became AtLine standing (passed k line) (passed_replay state)
  passes = (
    None,
    None,
    ap (λ (r : Replayed). record r { count = r.count + 1 }) ends.0 ∙ sym (pass_with (closed k) k.aliases ends.1.so_far line),
    refl,
    read_more (closed k) ends.1.so_far (plain.Pass (next_id (closed k)) line) refl k.aliases ends.1.named tt,
    tt,
  )

  -- what follows where nothing is changed
  pub stays : (p : Place) → (is_before standing.expected ≡ true → is_before old.expected ≡ true) → Became p standing k state
  stays p still = (files, None, refl, refl, s, go k.current g)
    where
      go : (o : Open) → Goes AtLine old.expected k.events o files None → Goes p standing.expected k.events o files None
      go Nothing h = tt
      go (ABlob mark) h = tt
      go (ACommit c) h = record { below = h.below; first = λ b. h.first (still b); has_files = h.has_files }
      go (ATag name target tagger own) h = tt
      go (AnAlias m) h = tt
      go (AReset branch None) h = tt
      go (AReset branch (Some c)) h = h

  -- the event that is being read is changed
  changes : (f : Open → Open) (f' : Reading → Reading) (new : Option (TreeOf Shown)) (waiting : Option (Mode × Bytes)) → f' (reading_of k.current files None) ≡ reading_of (f k.current) new waiting
      → Goes AtLine standing.expected k.events (f k.current) new waiting → Became AtLine standing (changed k f) (changed_replay state f')
  changes f f' new waiting r h = (new, waiting, refl, r, s, h)

  -- a change of a commit that leaves its parents and operations as they are
  abbrev LeavesFiles : (OpenCommit → OpenCommit) → Type 0
  LeavesFiles f = (c : OpenCommit) → ((f c).parents ≡ c.parents) × ((f c).ops ≡ c.ops)

  changes_words : (f : OpenCommit → OpenCommit) (f' : CommitSoFar → CommitSoFar) → LeavesFiles f → ((c : OpenCommit) → f' (commit_so_far c files None) ≡ commit_so_far (f c) files None)
      → (is_before standing.expected ≡ true → is_before old.expected ≡ true) → Became AtLine standing (changed k (with_commit f)) (changed_replay state (in_commit f'))
  changes_words f f' same alike still = changes (with_commit f) (in_commit f') files None (reads k.current) (go k.current g)
    where
      reads : (o : Open) → in_commit f' (reading_of o files None) ≡ reading_of (with_commit f o) files None
      reads Nothing = refl
      reads (ABlob mark) = refl
      reads (ACommit c) = ap (λ x. InCommit x) (alike c)
      reads (ATag name target tagger own) = refl
      reads (AnAlias m) = refl
      reads (AReset branch target) = refl

      go : (o : Open) → Goes AtLine old.expected k.events o files None → Goes AtLine standing.expected k.events (with_commit f o) files None
      go Nothing h = tt
      go (ABlob mark) h = tt
      go (ACommit c) h =
          subst (λ (ps : List ℕ). CommitGoes AtLine standing.expected k.events (f c).ops ps files None) (sym (same c).0)
          (subst (λ (ops : List FileOp). CommitGoes AtLine standing.expected k.events ops c.parents files None) (sym (same c).1)
          (record { below = h.below; first = λ b. h.first (still b); has_files = h.has_files }))
      go (ATag name target tagger own) h = tt
      go (AnAlias m) h = tt
      go (AReset branch None) h = tt
      go (AReset branch (Some c)) h = h

  marks : (mark : ℕ) → (is_before standing.expected ≡ true → is_before old.expected ≡ true) → Became AtLine standing (changed k (with_mark mark)) (changed_replay state (mark_read mark))
  marks mark still = changes (with_mark mark) (mark_read mark) files None (reads k.current) (go k.current g)
    where
      reads : (o : Open) → mark_read mark (reading_of o files None) ≡ reading_of (with_mark mark o) files None
      reads Nothing = refl
      reads (ABlob m) = refl
      reads (ACommit c) = refl
      reads (ATag name target tagger own) = refl
      reads (AnAlias m) = refl
      reads (AReset branch target) = refl

      go : (o : Open) → Goes AtLine old.expected k.events o files None → Goes AtLine standing.expected k.events (with_mark mark o) files None
      go Nothing h = tt
      go (ABlob m) h = tt
      go (ACommit c) h = record { below = h.below; first = λ b. h.first (still b); has_files = h.has_files }
      go (ATag name target tagger own) h = tt
      go (AnAlias m) h = tt
      go (AReset branch None) h = tt
      go (AReset branch (Some c)) h = h

  tags : (who : Signed) → (is_before standing.expected ≡ true → is_before old.expected ≡ true) → Became AtLine standing (changed k (with_tagger who)) (changed_replay state (tagger_read who))
  tags who still = changes (with_tagger who) (tagger_read who) files None (reads k.current) (go k.current g)
    where
      reads : (o : Open) → tagger_read who (reading_of o files None) ≡ reading_of (with_tagger who o) files None
      reads Nothing = refl
      reads (ABlob m) = refl
      reads (ACommit c) = refl
      reads (ATag name target tagger own) = refl
      reads (AnAlias m) = refl
      reads (AReset branch target) = refl

      go : (o : Open) → Goes AtLine old.expected k.events o files None → Goes AtLine standing.expected k.events (with_tagger who o) files None
      go Nothing h = tt
      go (ABlob m) h = tt
      go (ACommit c) h = record { below = h.below; first = λ b. h.first (still b); has_files = h.has_files }
      go (ATag name target tagger own) h = tt
      go (AnAlias m) h = tt
      go (AReset branch None) h = tt
      go (AReset branch (Some c)) h = h

  -- the commit that `from` names, before operations
  comes_from : (commit : ℕ) → commit < length k.events + 1 → is_before old.expected ≡ true → Became AtLine standing (changed k (with_from commit)) (changed_replay state (from_read (seen_with k.events k.aliases) commit))
  comes_from commit below before = go k.current g
    where
      go : (o : Open) → Goes AtLine old.expected k.events o files None
          → Became AtLine standing (record k { current = with_from commit o }) (record { standing = old; replayed = seen_with k.events k.aliases; reading = from_read (seen_with k.events k.aliases) commit (reading_of o files None) })
      go Nothing h = (None, None, refl, refl, s, tt)
      go (ABlob m) h = (None, None, refl, refl, s, tt)
      go (ACommit c) h =
          let none = h.first before in (
            files_of (commits_seen k.events k.events) commit,
            None,
            refl,
            refl,
            s,
            record {
              below = (below, tt);
              first = λ b. none;
              has_files = (
                files_alike k.events commit ∙ sym (no_ops (shown_tree k.events commit)) ∙ ap (λ (ops : List FileOp). files_now k.events ops (commit ∷ [])) (sym none),
                h.has_files.1,
              );
            },
          )
      go (ATag name target tagger own) h = (None, None, refl, refl, s, tt)
      go (AnAlias m) h = (None, None, refl, refl, s, tt)
      go (AReset branch target) h = (None, None, refl, refl, s, below)

  -- no files after a commit that has some
  cleared : (o : Option (TreeOf Shown)) → ◌≡◌ {A = Option (TreeOf Shown)} (option_map (λ files. []) o) (changed_from (Clear ∷ []) o)
  cleared None = refl
  cleared (Some t) = refl

  -- a further parent
  merges : (commit : ℕ) → commit < length k.events + 1 → is_before standing.expected ≡ false
      → Became AtLine standing (changed k (with_commit (with_parent commit))) (changed_replay state (in_commit (λ c. with_merge (seen_with k.events k.aliases) commit c.parents c)))
  merges commit below after = go k.current g
    where
      late : (P : Type 0) → is_before standing.expected ≡ true → P
      late P b = let no : true ≡ false = sym b ∙ after in absurd cc

      merge : (c : OpenCommit) (ps : List ℕ) → CommitGoes AtLine old.expected k.events c.ops ps files None
          → Became AtLine standing (record k { current = ACommit (with_parent commit (record c { parents = ps })) })
          (record { standing = old; replayed = seen_with k.events k.aliases; reading = InCommit (with_merge (seen_with k.events k.aliases) commit ps (commit_so_far (record c { parents = ps }) files None)) })
      merge c [] h = (
        option_map (λ files. []) (files_of (commits_seen k.events k.events) commit),
        None,
        refl,
        refl,
        s,
        record {
          below = (below, tt);
          first = λ b. late _ b;
          has_files = (ap (λ (o : Option (TreeOf Shown)). option_map (λ files. []) o) (files_alike k.events commit) ∙ cleared (shown_tree k.events commit), tt);
        },
      )
      merge c (q ∷ ps) h = more (list_any (λ x. x == commit) (q ∷ ps))
        where
          more : (b : Bool)
              → Became AtLine standing (record k { current = ACommit (cond b (record c { parents = q ∷ ps }) (record c { parents = (q ∷ ps) ++ commit ∷ [] })) })
              (record {
                standing = old;
                replayed = seen_with k.events k.aliases;
                reading = InCommit (cond b (commit_so_far (record c { parents = q ∷ ps }) files None) (record (commit_so_far (record c { parents = q ∷ ps }) files None) { parents = (q ∷ ps) ++ commit ∷ [] }));
              })
          more true = (files, None, refl, refl, s, record { below = h.below; first = λ b. late _ b; has_files = h.has_files })
          more false = (
            files,
            None,
            refl,
            refl,
            s,
            record { below = all_join (λ x. x < length k.events + 1) (q ∷ ps) (commit ∷ []) h.below (below, tt); first = λ b. late _ b; has_files = h.has_files },
          )

      go : (o : Open) → Goes AtLine old.expected k.events o files None
          → Became AtLine standing (record k { current = with_commit (with_parent commit) o })
          (record { standing = old; replayed = seen_with k.events k.aliases; reading = in_commit (λ c. with_merge (seen_with k.events k.aliases) commit c.parents c) (reading_of o files None) })
      go Nothing h = (None, None, refl, refl, s, tt)
      go (ABlob m) h = (None, None, refl, refl, s, tt)
      go (ACommit c) h = merge c c.parents h
      go (ATag name target tagger own) h = (None, None, refl, refl, s, tt)
      go (AnAlias m) h = (None, None, refl, refl, s, tt)
      go (AReset branch None) h = (None, None, refl, refl, s, tt)
      go (AReset branch (Some c)) h = (None, None, refl, refl, s, h)

  -- the commit that an alias names
  names : (commit : ℕ) → commit < length k.events + 1 → (is_before standing.expected ≡ true → is_before old.expected ≡ true) → Became AtLine standing (aliased commit k) (aliased_replay state commit)
  names commit below still = go k.current g
    where
      go : (o : Open) → Goes AtLine old.expected k.events o files None
          → Became AtLine standing (aliased commit (record k { current = o })) (aliased_replay (record { standing = old; replayed = seen_with k.events k.aliases; reading = reading_of o files None }) commit)
      go Nothing h = (None, None, refl, refl, s, tt)
      go (ABlob m) h = (None, None, refl, refl, s, tt)
      go (ACommit c) h = (files, None, refl, refl, s, record { below = h.below; first = λ b. h.first (still b); has_files = h.has_files })
      go (ATag name target tagger own) h = (None, None, refl, refl, s, tt)
      go (AReset branch None) h = (None, None, refl, refl, s, tt)
      go (AReset branch (Some c)) h = (None, None, refl, refl, s, h)
      go (AnAlias zero) h = (None, None, refl, refl, s, tt)
      go (AnAlias (suc m)) h = (
        None,
        None,
        ap (λ n. record (seen_with k.events k.aliases) { aliases = k.aliases ++ (suc m, commit) ∷ []; greatest = n }) (sym (greatest_alias (greatest_mark k.events) k.aliases (suc m, commit))),
        refl,
        record { so_far = s.so_far; named = all_join (λ (a : ℕ × ℕ). a.1 < length k.events + 1) k.aliases ((suc m, commit) ∷ []) s.named (below, tt) },
        tt,
      )

  -- ---- an operation

  -- what an operation leaves
  abbrev Operated : OpenCommit → RawOp → FileOp → Type 0
  Operated c raw op =
      (new : Option (TreeOf Shown)) × (waiting : Option (Mode × Bytes)) × (with_op (marked_blobs k.events) raw (commit_so_far c files None) ≡ commit_so_far c new waiting)
      × HasFiles AtLine standing.expected k.events (c.ops ++ op ∷ []) c.parents new waiting

  module _ (c : OpenCommit) (h : HasFiles AtLine old.expected k.events c.ops c.parents files None) where
    -- an operation that is a change of files
    changes_files : (op : FileOp) → AllBelow (length k.events + 1) (blobs_of (op ∷ []))
        → HasFiles AtLine standing.expected k.events (c.ops ++ op ∷ []) c.parents (changed_files (map_change (shown k.events) (meaning op)) files) None
    changes_files op known = (
      ap (changed_files (map_change (shown k.events) (meaning op))) h.0 ∙ sym (files_more k.events c.ops op c.parents),
      blobs_more (length k.events + 1) c.ops op h.1 known,
    )

    operates : (raw : RawOp) (op : FileOp) → GoesWith k.events raw op → (waits raw ≡ true → standing.expected ≡ expected.InlineData) → Operated c raw op
    operates (rawop.Modify mode (Marked mark) path) op a w =
        let b = a.0 in
        let place = blob_place 1 k.events s.so_far.placed mark b a.1 in
        subst (Operated c (rawop.Modify mode (Marked mark) path)) (sym a.2) (
          changed_files (Put (entry mode (ShownBytes (blob_bytes k.events b))) path) files,
          None,
          ap (λ (o : Option Bytes). elim o [ None ↦ commit_so_far c files None | Some bytes ↦ with_change (Put (entry mode (ShownBytes bytes)) path) (commit_so_far c files None) ]) place.1,
          changes_files (Modify mode (OfBlob b) path) (let within = place.0 in omega arith, tt),
        )
    operates (rawop.Modify mode (Object digits) path) op a w =
        subst (Operated c (rawop.Modify mode (Object digits) path)) (sym a)
        (changed_files (Put (entry mode (ShownObject digits)) path) files, None, refl, changes_files (Modify mode (OfObject digits) path) tt)
    operates (rawop.Modify mode Inline path) op a w =
        subst (Operated c (rawop.Modify mode Inline path)) (sym a) (files, Some (mode, path), refl, (w refl, c.ops, refl, h.0, h.1))
    operates (rawop.Delete path) op a w =
        subst (Operated c (rawop.Delete path)) (sym a) (changed_files (Remove path) files, None, refl, changes_files (Delete path) tt)
    operates (rawop.Copy source target) op a w =
        subst (Operated c (rawop.Copy source target)) (sym a) (changed_files (CopyTo source target) files, None, refl, changes_files (Copy source target) tt)
    operates (rawop.Rename source target) op a w =
        subst (Operated c (rawop.Rename source target)) (sym a) (changed_files (MoveTo source target) files, None, refl, changes_files (Rename source target) tt)
    operates rawop.DeleteAll op a w =
        subst (Operated c rawop.DeleteAll) (sym a) (changed_files Clear files, None, refl, changes_files DeleteAll tt)

  -- the line of an operation, after which none is before operations
  operations : (inline : Bool) → IsOperation inline line → (inline ≡ true → standing.expected ≡ expected.InlineData) → is_before standing.expected ≡ false → (known : Known) → with_operation k line ≡ Ok known
      → Became AtLine standing known (after_operation line state)
  operations inline is waiting after known e = go k.current g e
    where
      late : (P : Type 0) → is_before standing.expected ≡ true → P
      late P b = let no : true ≡ false = sym b ∙ after in absurd cc

      commit : (c : OpenCommit) → CommitGoes AtLine old.expected k.events c.ops c.parents files None → (op : FileOp) → op_after k.events c line ≡ Ok op
          → Became AtLine standing (record k { current = ACommit (record c { ops = c.ops ++ op ∷ [] }) }) (after_operation line (record { standing = old; replayed = seen_with k.events k.aliases; reading = InCommit (commit_so_far c files None) }))
      commit c h op x =
          let read = op_alike k.events c line op is.0 x in
          let done = operates c h.has_files read.0 op read.2 (λ w. waiting (sym is.1 ∙ read.3 w)) in
          let t : Replaying = record { standing = old; replayed = seen_with k.events k.aliases; reading = InCommit (commit_so_far c files None) } in
          subst (Became AtLine standing (record k { current = ACommit (record c { ops = c.ops ++ op ∷ [] }) }))
          (sym (ap (λ (r : Result RawOp Why). if_read t r (λ raw. changed_replay t (in_commit (with_op (marked_blobs k.events) raw)))) read.1))
          (done.0, done.1, refl, ap (λ x. InCommit x) done.2, s, record { below = h.below; first = λ b. late _ b; has_files = done.3 })

      -- no commit is being read
      nothing : (o : Open) (t : Replaying) → ((f : CommitSoFar → CommitSoFar) → changed_replay t (in_commit f) ≡ t) → Became AtLine standing (record k { current = o }) t → ◌≡◌ {A = Result Known Why} (Ok (record k { current = o })) (Ok known)
          → Became AtLine standing known (after_operation line t)
      nothing o t same b x = subst (λ q. Became AtLine standing q (after_operation line t)) (same_Ok (record k { current = o }) known x) (read (op_in line))
        where
          read : (r : Result RawOp Why) → Became AtLine standing (record k { current = o }) (if_read t r (λ raw. changed_replay t (in_commit (with_op t.replayed.blobs raw))))
          read (Ok raw) = subst (Became AtLine standing (record k { current = o })) (sym (same (with_op t.replayed.blobs raw))) b
          read (Err why) = b

      go : (o : Open) → Goes AtLine old.expected k.events o files None → with_operation (record k { current = o }) line ≡ Ok known
          → Became AtLine standing known (after_operation line (record { standing = old; replayed = seen_with k.events k.aliases; reading = reading_of o files None }))
      go Nothing h x = nothing Nothing _ (λ f. refl) (None, None, refl, refl, s, tt) x
      go (ABlob mark) h x = nothing (ABlob mark) _ (λ f. refl) (None, None, refl, refl, s, tt) x
      go (ACommit c) h x =
          let a = bind_ok (op_after k.events c line) _ known x in
          subst (λ q. Became AtLine standing q (after_operation line (record { standing = old; replayed = seen_with k.events k.aliases; reading = InCommit (commit_so_far c files None) }))) (same_Ok _ known a.2)
          (commit c h a.0 a.1)
      go (ATag name target tagger own) h x = nothing (ATag name target tagger own) _ (λ f. refl) (None, None, refl, refl, s, tt) x
      go (AnAlias mark) h x = nothing (AnAlias mark) _ (λ f. refl) (None, None, refl, refl, s, tt) x
      go (AReset branch None) h x = nothing (AReset branch None) _ (λ f. refl) (None, None, refl, refl, s, tt) x
      go (AReset branch (Some c)) h x = nothing (AReset branch (Some c)) _ (λ f. refl) (None, None, refl, refl, s, h) x

  -- ---- any line but one of data

  -- what is read goes on with what was read
  if_reads : {A : Type 0} (known : Known) (r : Result A Why) (f : A → Replaying) (x : A) → r ≡ Ok x → Became AtLine standing known (f x) → Became AtLine standing known (if_read state r f)
  if_reads known r f x e b = subst (Became AtLine standing known) (sym (ap (λ q. if_read state q f) e)) b

  if_names : (known : Known) (text : Bytes) (f : ℕ → Replaying) (commit : ℕ) → commit_named (seen_with k.events k.aliases) text ≡ Some commit → Became AtLine standing known (f commit)
      → Became AtLine standing known (if_named state (commit_named (seen_with k.events k.aliases) text) f)
  if_names known text f commit e b = subst (Became AtLine standing known) (sym (ap (λ q. if_named state q f) e)) b

  -- what is known is this
  known_is : (known new : Known) (p : Place) {r : Replayed} {q : Reading} → ◌≡◌ {A = Result Known Why} (Ok new) (Ok known)
      → Became p standing new (record { standing = old; replayed = r; reading = q }) → Became p standing known (record { standing = old; replayed = r; reading = q })
  known_is known new p {r = r} {q = q} e b = subst (λ x. Became p standing x (record { standing = old; replayed = r; reading = q })) (same_Ok new known e) b

  -- what was read goes with what is known after the line, too
  pub line_goes : (w : Word) → word_of line ≡ w → (w ≡ word.Data → ⊥) → after_word old w ≡ Ok standing → (known : Known) → judged w line k ≡ Ok known → Became (place_of w) standing known (after_line w line state)
  line_goes word.Data i d h known j = absurd (d refl)
  line_goes word.LeftOut i d h known j = absurd cc
  line_goes word.Blob i d h known j = known_is known _ AtLine j (begins_event (ABlob 0) (λ r. InBlob 0) None refl tt)
  line_goes word.Commit i d h known j =
      let a = bind_ok (name_in (text_of line)) _ known j in
      if_reads known _ _ a.0 a.1 (known_is known _ AtLine a.2 (commit_begins a.0))
  line_goes word.Tag i d h known j =
      let a = bind_ok (name_in (text_of line)) _ known j in
      if_reads known _ _ a.0 a.1 (known_is known _ AtLine a.2 (begins_event (ATag a.0 0 None None) (λ r. InTag a.0 0 None None) None refl tt))
  line_goes word.Reset i d h known j =
      let a = bind_ok (name_in (text_of line)) _ known j in
      if_reads known _ _ a.0 a.1 (known_is known _ AtLine a.2 (begins_event (AReset a.0 None) (λ r. InReset a.0 None) None refl tt))
  line_goes word.Mark i d h known j =
      let a = bind_ok (mark_in (text_of line)) _ known j in
      let b = bind_ok (ensure (not (is_known_mark k a.0)) RepeatedMark) _ known a.2 in
      if_reads known _ _ a.0 a.1 (known_is known _ AtLine b.2 (marks a.0 (still_before old standing word.Mark refl old.expected h)))
  line_goes word.Author i d h known j =
      let a = bind_ok (person_in (text_of line)) _ known j in
      if_reads known _ _ a.0 a.1 (known_is known _ AtLine a.2
      (changes_words (λ c. record c { author = Some a.0 }) (λ c. record c { author = Some a.0 }) (λ c. (refl, refl)) (λ c. refl) (still_before old standing word.Author refl old.expected h)))
  line_goes word.Committer i d h known j =
      let a = bind_ok (person_in (text_of line)) _ known j in
      if_reads known _ _ a.0 a.1 (known_is known _ AtLine a.2
      (changes_words (λ c. record c { committer = Some a.0 }) (λ c. record c { committer = Some a.0 }) (λ c. (refl, refl)) (λ c. refl) (still_before old standing word.Committer refl old.expected h)))
  line_goes word.Encoding i d h known j = known_is known _ AtLine j
      (changes_words (λ c. record c { encoding = Some (text_of line) }) (λ c. record c { encoding = Some (text_of line) }) (λ c. (refl, refl)) (λ c. refl) (still_before old standing word.Encoding refl old.expected h))
  line_goes word.Tagger i d h known j =
      let a = bind_ok (person_in (text_of line)) _ known j in
      if_reads known _ _ a.0 a.1 (known_is known _ AtLine a.2 (tags a.0 (still_before old standing word.Tagger refl old.expected h)))
  line_goes word.From i d h known j =
      let a = bind_ok (ref_in k.events k.aliases (text_of line)) _ known j in
      let named = named_alike k.events k.aliases s (text_of line) a.0 a.1 in
      if_names known (text_of line) _ a.0 named.0 (known_is known _ AtLine a.2 (comes_from a.0 named.1 (from_before old standing old.expected h)))
  line_goes word.Merge i d h known j =
      let a = bind_ok (ref_in k.events k.aliases (text_of line)) _ known j in
      let named = named_alike k.events k.aliases s (text_of line) a.0 a.1 in
      if_names known (text_of line) _ a.0 named.0 (known_is known _ AtLine a.2 (merges a.0 named.1 (ap is_before (merge_expected old standing old.expected h))))
  line_goes word.Operation i d h known j = operations false (operation_line line i) (λ e. absurd cc) (ap is_before (operation_expected old standing old.expected h)) known j
  line_goes word.InlineOperation i d h known j = operations true (inline_line line i) (λ e. inline_expected old standing old.expected h) (ap is_before (inline_expected old standing old.expected h)) known j
  line_goes word.Alias i d h known j = known_is known _ AtLine j (begins_event (AnAlias 0) (λ r. InAlias 0) None refl tt)
  line_goes word.To i d h known j =
      let a = bind_ok (ref_in k.events k.aliases (text_of line)) _ known j in
      let named = named_alike k.events k.aliases s (text_of line) a.0 a.1 in
      if_names known (text_of line) _ a.0 named.0 (known_is known _ AtLine a.2 (names a.0 named.1 (still_before old standing word.To refl old.expected h)))
  line_goes word.Pass i d h known j =
      let a = bind_ok (ensure (not (is_left_out_feature line)) LeftOut) _ known j in
      known_is known _ AtLine a.2 passes
  line_goes word.FeatureDone i d h known j = known_is known _ AtLine j passes
  line_goes word.Empty i d h known j = known_is known k AtLine j (stays AtLine (still_before old standing word.Empty refl old.expected h))
  line_goes word.Oid i d h known j = known_is known k AtLine j (stays AtLine (still_before old standing word.Oid refl old.expected h))
  line_goes word.Done i d h known j = known_is known k AtEnd j (stays AtEnd (still_before old standing word.Done refl old.expected h))
  line_goes word.Other i d h known j = known_is known k AtLine j (stays AtLine (still_before old standing word.Other refl old.expected h))
