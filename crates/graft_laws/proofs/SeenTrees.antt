-- Trees behind a list: what was there keeps its trees, and where roots begin without files, each commit of a part has the tree that it had.
use Rattle.std.proofs.Common.{◌≡◌, ℕ, suc, ◌+◌, Bool, true, false, cond, List, [], ◌∷◌, ◌++◌, length, map, refl, sym, ap, subst, ◌∙◌, inl, inr, arith, append_assoc, append-nil, length-append, eqb-true, eq-eqb, ne_eqb, true≢false, Option, Some, None, reverse, IsTrue}
use Rattle.std.specs.Prelude.{◌==◌, ◌||◌, flat_map, IsSome, option_map}
use Rattle.std.specs.List.{AllByRecursion}
use Rattle.std.proofs.Math.Bool.{or-false}
use Rattle.std.proofs.lemmas.Bool.{cases_Bool, or_parts}
use Rattle.plain_model.specs.declared.id.AnyId.TheVariants as any
use Rattle.plain_model.specs.declared.operation.Content.TheVariants.{Blob as OfBlob, Object}
use Rattle.plain_model.specs.declared.operation.Entry.{Entry}
use Rattle.plain_model.specs.declared.operation.Mode.{Mode}
use Rattle.plain_model.specs.declared.operation.FileOp.{FileOp}
use Rattle.plain_model.specs.declared.operation.FileOp.TheVariants.{Modify, Delete, Copy, Rename, DeleteAll}
use Rattle.plain_model.specs.declared.event.PlainEvent.{PlainEvent}
use Rattle.plain_model.specs.declared.event.PlainEvent.TheVariants.{Blob, Commit, Tag, Reset, Pass}
use Rattle.plain_model.specs.Histories.{Node, Past, begun, folded, knows, nodes, past, tree, tree_in}
use Rattle.plain_model.specs.Lookups.{AreIdsBelow, op_blobs}
use Rattle.plain_model.specs.Paths.{Bytes}
use Rattle.plain_model.specs.Snapshots.{Shown, blob_bytes, map_tree, shown, shown_tree}
use Rattle.plain_model.specs.Snapshots.ShownContent.{ShownBytes}
use Rattle.plain_model.specs.Soundness.{IsCommitOf, has_id}
use Rattle.plain_model.specs.Trees.{Change, TreeOf}
use Rattle.plain_model.specs.Trees.Change.{Put, Remove, CopyTo, MoveTo, Clear}
use Rattle.edit_laws.specs.Parts.{AreInOrder}
use Rattle.edit_laws.specs.Settling.{is_ready}
use Rattle.edit_laws.proofs.Lists.{all_rear, all_true}
use Rattle.history_laws.proofs.Lists.{all_reverse}
use Rattle.ancestry_laws.proofs.Pasts.{known_past, past_append}
use Rattle.history_laws.proofs.Ids.{has_id_append}
use Rattle.history_laws.proofs.TreeMapping.{begun_of, changed_from, changes_seen, seen, seen_alike, seen_here, seen_other}
use Rattle.commit_laws.proofs.Given.{IsHere, parents_here}
use Rattle.edit_laws.proofs.Fine.{There, parted_blobs}
use Rattle.shown_laws.specs.AsWritten.{renamed_op}
use Rattle.shown_laws.proofs.Places.{Agree, agree_front, commit_place}
use Rattle.graft_laws.specs.Joining.{Joining, root_ops}
use Rattle.graft_laws.proofs.Behind.{HaveParents, complete}
use Rattle.graft_laws.proofs.Events.{append_new, new, new_from, placed_new}
use Rattle.graft_laws.proofs.Fresh.{absent, placed_within}

-- ---- what was there

-- commits that a later part doesn't know
skipped : (later older : Past) (c : ℕ) → knows later c ≡ false → tree_in (later ++ older) c ≡ tree_in older c
skipped [] older c h = refl
skipped (n ∷ later) older c h =
    let parts = or_parts (n.id == c) (knows later c) h in
    ap (λ b. cond b (folded n.ops (begun (tree_in (later ++ older)) n.parents)) (tree_in (later ++ older) c)) parts.0 ∙ skipped later older c parts.1

-- a commit that isn't among later events has its tree
pub tree_before : (xs ys : List PlainEvent) (c : ℕ) → has_id ys (any.Commit c) ≡ false → tree (xs ++ ys) c ≡ tree xs c
tree_before xs ys c h =
    ap (λ (l : Past). tree_in l c) (past_append xs ys) ∙ skipped (reverse (nodes ys)) (past xs) c (known_past ys c ∙ h)

-- so has a blob its bytes
pub bytes_before : (xs ys : List PlainEvent) (b : ℕ) → There xs (any.Blob b) → blob_bytes (xs ++ ys) b ≡ blob_bytes xs b
bytes_before [] ys b h = absurd (true≢false (sym h))
bytes_before (Blob id mark bytes ∷ xs) ys b h = go (id == b) h (bytes_before xs ys b)
  where
    go : (t : Bool) → t || has_id xs (any.Blob b) ≡ true → (There xs (any.Blob b) → blob_bytes (xs ++ ys) b ≡ blob_bytes xs b) → cond t bytes (blob_bytes (xs ++ ys) b) ≡ cond t bytes (blob_bytes xs b)
    go true k rest = refl
    go false k rest = rest k
bytes_before (Commit id mark branch author committer encoding comment parents ops aliases ∷ xs) ys b h = bytes_before xs ys b h
bytes_before (Tag id name target tagger comment mark ∷ xs) ys b h = bytes_before xs ys b h
bytes_before (Reset id branch target ∷ xs) ys b h = bytes_before xs ys b h
bytes_before (Pass id line ∷ xs) ys b h = bytes_before xs ys b h

-- and a blob that isn't among the first ones those that it has behind them
pub bytes_after : (xs ys : List PlainEvent) (b : ℕ) → has_id xs (any.Blob b) ≡ false → blob_bytes (xs ++ ys) b ≡ blob_bytes ys b
bytes_after [] ys b h = refl
bytes_after (Blob id mark bytes ∷ xs) ys b h =
    let parts = or_parts (id == b) (has_id xs (any.Blob b)) h in
    ap (λ t. cond t bytes (blob_bytes (xs ++ ys) b)) parts.0 ∙ bytes_after xs ys b parts.1
bytes_after (Commit id mark branch author committer encoding comment parents ops aliases ∷ xs) ys b h = bytes_after xs ys b h
bytes_after (Tag id name target tagger comment mark ∷ xs) ys b h = bytes_after xs ys b h
bytes_after (Reset id branch target ∷ xs) ys b h = bytes_after xs ys b h
bytes_after (Pass id line ∷ xs) ys b h = bytes_after xs ys b h

-- ---- operations

-- blobs of operations that have the same bytes under their own ids
module _ (old new : List PlainEvent) (same : (b : ℕ) → There old (any.Blob b) → blob_bytes new b ≡ blob_bytes old b) where
  ops_same : (ops : List FileOp) → AllByRecursion (λ op. AllByRecursion (There old) (op_blobs op)) ops → changes_seen (shown new) ops ≡ changes_seen (shown old) ops
  ops_same [] h = refl
  ops_same (Modify mode (OfBlob b) path ∷ ops) h = λ i. Put (record { mode = mode; content = ShownBytes (same b h.0.0 i) }) path ∷ ops_same ops h.1 i
  ops_same (Modify mode (Object digits) path ∷ ops) h = ap (λ (l : List (Change Shown)). Put (shown old (record { mode = mode; content = Object digits })) path ∷ l) (ops_same ops h.1)
  ops_same (Delete path ∷ ops) h = ap (λ (l : List (Change Shown)). Remove path ∷ l) (ops_same ops h.1)
  ops_same (Copy source target ∷ ops) h = ap (λ (l : List (Change Shown)). CopyTo source target ∷ l) (ops_same ops h.1)
  ops_same (Rename source target ∷ ops) h = ap (λ (l : List (Change Shown)). MoveTo source target ∷ l) (ops_same ops h.1)
  ops_same (DeleteAll ∷ ops) h = ap (λ (l : List (Change Shown)). Clear ∷ l) (ops_same ops h.1)

  nodes_same : (es : List PlainEvent) → AllByRecursion (λ e. IsTrue (is_ready old e)) es → AllByRecursion (λ n. changes_seen (shown new) n.ops ≡ changes_seen (shown old) n.ops) (nodes es)
  nodes_same [] h = tt
  nodes_same (Commit id mark branch author committer encoding comment parents ops aliases ∷ es) h = (
    ops_same ops (parted_blobs old ops (all_rear (There old) (map any.Commit parents) (flat_map op_blobs ops) (all_true (has_id old) (map any.Commit parents ++ flat_map op_blobs ops) h.0))),
    nodes_same es h.1,
  )
  nodes_same (Blob id mark bytes ∷ es) h = nodes_same es h.1
  nodes_same (Tag id name target tagger comment mark ∷ es) h = nodes_same es h.1
  nodes_same (Reset id branch target ∷ es) h = nodes_same es h.1
  nodes_same (Pass id line ∷ es) h = nodes_same es h.1

-- the tree of a commit shows the same behind further events
pub shown_before : (xs ys : List PlainEvent) (c : ℕ) → AreInOrder [] xs → has_id ys (any.Commit c) ≡ false → shown_tree (xs ++ ys) c ≡ shown_tree xs c
shown_before xs ys c order h =
    ap (option_map (map_tree (shown (xs ++ ys)))) (tree_before xs ys c h)
    ∙ seen_alike (shown (xs ++ ys)) (shown xs) (past xs)
    (all_reverse (λ n. changes_seen (shown (xs ++ ys)) n.ops ≡ changes_seen (shown xs) n.ops) (nodes xs) (nodes_same xs (xs ++ ys) (bytes_before xs ys) xs (complete [] xs order)))
    c

-- ---- a part

module _ (how : Joining) (blob commit : ℕ → ℕ) (first : ℕ) (front whole : List PlainEvent) (f g : Entry → Shown)
    (prunes : how.prune ≡ true) (low : AreIdsBelow first front) (parents_are : HaveParents how front)
    (planted : (c : ℕ) → IsCommitOf front c → IsSome (seen g (past front) c))
    (entries : (mode : Mode) (b : ℕ) → There whole (any.Blob b) → g (record { mode = mode; content = OfBlob (blob b) }) ≡ f (record { mode = mode; content = OfBlob b }))
    (objects : (mode : Mode) (digits : Bytes) → g (record { mode = mode; content = Object digits }) ≡ f (record { mode = mode; content = Object digits }))
  where
    ops_alike : (ops : List FileOp) → AllByRecursion (λ op. AllByRecursion (There whole) (op_blobs op)) ops → changes_seen g (map (renamed_op blob commit) ops) ≡ changes_seen f ops
    ops_alike [] h = refl
    ops_alike (Modify mode (OfBlob b) path ∷ ops) h = λ i. Put (entries mode b h.0.0 i) path ∷ ops_alike ops h.1 i
    ops_alike (Modify mode (Object digits) path ∷ ops) h = λ i. Put (objects mode digits i) path ∷ ops_alike ops h.1 i
    ops_alike (Delete path ∷ ops) h = ap (λ (l : List (Change Shown)). Remove path ∷ l) (ops_alike ops h.1)
    ops_alike (Copy source target ∷ ops) h = ap (λ (l : List (Change Shown)). CopyTo source target ∷ l) (ops_alike ops h.1)
    ops_alike (Rename source target ∷ ops) h = ap (λ (l : List (Change Shown)). MoveTo source target ∷ l) (ops_alike ops h.1)
    ops_alike (DeleteAll ∷ ops) h = ap (λ (l : List (Change Shown)). Clear ∷ l) (ops_alike ops h.1)

    -- a root's operations, after all is deleted where it has parents, are as from nothing
    cleared : (cs : List (Change Shown)) (o : Option (TreeOf Shown)) → IsSome o → changed_from (Clear ∷ cs) o ≡ changed_from cs (Some [])
    cleared cs None h = absurd (true≢false (sym h))
    cleared cs (Some t) h = refl

    abbrev made : List PlainEvent → List PlainEvent
    made xs = front ++ new_from how blob commit first xs

    -- a commit of the front isn't among the new ones, and has its tree
    still_planted : (xs : List PlainEvent) (c : ℕ) → IsCommitOf front c → IsSome (seen g (past (made xs)) c)
    still_planted xs c h = subst IsSome (sym (ap (option_map (map_tree g)) (tree_before front (new_from how blob commit first xs) c none))) (planted c h)
      where
        none : has_id (new_from how blob commit first xs) (any.Commit c) ≡ false
        none = elim (cases_Bool (has_id (new_from how blob commit first xs) (any.Commit c))) [
          | inl there ↦
              let within = placed_within first (new_from how blob commit first xs) (placed_new how blob commit first xs) (any.Commit c) there in
              absurd (true≢false (sym h ∙ absent first front low (any.Commit c) within.0))
          | inr it ↦ it
        ]

    root_from : (xs : List PlainEvent) (ps : List ℕ) → AllByRecursion (IsCommitOf front) ps → (ops : List FileOp) →
        changed_from (changes_seen g (root_ops how ps ops)) (begun_of (seen g (past (made xs))) ps) ≡ changed_from (changes_seen g ops) (Some [])
    root_from xs [] h ops = refl
    root_from xs (p ∷ ps) h ops =
        ap (λ b. changed_from (changes_seen g (cond b (DeleteAll ∷ ops) ops)) (seen g (past (made xs)) p)) prunes
        ∙ cleared (changes_seen g ops) (seen g (past (made xs)) p) (still_planted xs p h.0)

    -- each commit so far has its tree
    abbrev Alike : List PlainEvent → Type 0
    Alike xs = (c : ℕ) → IsHere xs c → seen g (past (made xs)) (commit c) ≡ seen f (past xs) c

    starts : (xs : List PlainEvent) → Alike xs → (ps : List ℕ) → AllByRecursion (IsHere xs) ps → begun_of (seen g (past (made xs))) (map commit ps) ≡ begun_of (seen f (past xs)) ps
    starts xs alike [] h = refl
    starts xs alike (p ∷ ps) h = alike p h.0

    past_more : (xs : List PlainEvent) (e : PlainEvent) (k : ℕ) → k ≡ first + length xs → past (made (xs ++ e ∷ [])) ≡ reverse (nodes (new how blob commit k e ∷ [])) ++ past (made xs)
    past_more xs e k is =
        ap past (ap (λ (l : List PlainEvent). front ++ l) (append_new how blob commit first k xs (e ∷ []) is) ∙ sym (append_assoc front (new_from how blob commit first xs) (new how blob commit k e ∷ [])))
        ∙ past_append (made xs) (new how blob commit k e ∷ [])

    -- one commit more, whose operations are seen alike from what it begins with
    one_more : (xs : List PlainEvent) (k : ℕ) → k ≡ first + length xs → Agree blob commit first xs → Alike xs → (n m : Node) → n.id ≡ k → commit m.id ≡ k
        → changed_from (changes_seen g n.ops) (begun_of (seen g (past (made xs))) n.parents) ≡ changed_from (changes_seen f m.ops) (begun_of (seen f (past xs)) m.parents)
        → (c : ℕ) → (m.id == c) || has_id xs (any.Commit c) ≡ true → seen g (n ∷ past (made xs)) (commit c) ≡ seen f (m ∷ past xs) c
    one_more xs k is agree alike n m own its same c h =
        elim (cases_Bool (m.id == c)) [
          | inl here ↦
              seen_here g n (past (made xs)) (commit c) (eq-eqb n.id (commit c) (own ∙ sym its ∙ ap commit (eqb-true m.id c here)))
              ∙ same ∙ sym (seen_here f m (past xs) c here)
          | inr other ↦
              let before = later other in
              let within = commit_place blob commit first c xs agree before in
              seen_other g n (past (made xs)) (commit c) (ne_eqb n.id (commit c) (λ e. absurd (omega (arith, e, own, within.1, is))))
              ∙ alike c before ∙ sym (seen_other f m (past xs) c other)
        ]
      where
        later : (m.id == c) ≡ false → IsHere xs c
        later other = sym (ap (λ t. t || has_id xs (any.Commit c)) other) ∙ h

    -- any other event has no tree
    same_past : (xs : List PlainEvent) (e : PlainEvent) (k : ℕ) → k ≡ first + length xs → Alike xs → nodes (e ∷ []) ≡ [] → nodes (new how blob commit k e ∷ []) ≡ []
        → ((c : ℕ) → has_id (e ∷ []) (any.Commit c) ≡ false) → Alike (xs ++ e ∷ [])
    same_past xs e k is alike none new_none no_commit c h =
        ap (λ (l : Past). seen g l (commit c)) (past_more xs e k is ∙ ap (λ (l : List Node). reverse l ++ past (made xs)) new_none)
        ∙ alike c (sym (or-false (has_id xs (any.Commit c))) ∙ ap (λ t. has_id xs (any.Commit c) || t) (sym (no_commit c)) ∙ sym (has_id_append xs (e ∷ []) (any.Commit c)) ∙ h)
        ∙ ap (λ (l : Past). seen f l c) (sym (past_append xs (e ∷ []) ∙ ap (λ (l : List Node). reverse l ++ past xs) none))

    -- of two tests either, in the other order
    either : (a b : Bool) → a || (b || false) ≡ true → b || a ≡ true
    either true true h = refl
    either true false h = refl
    either false true h = refl
    either false false h = h

    agree_one : (k : ℕ) (e : PlainEvent) (es : List PlainEvent) → Agree blob commit k (e ∷ es) → Agree blob commit k (e ∷ [])
    agree_one k e es h = agree_front blob commit k (e ∷ []) es h

    agree_rest : (k : ℕ) (e : PlainEvent) (es : List PlainEvent) → Agree blob commit k (e ∷ es) → Agree blob commit (suc k) es
    agree_rest k (Blob id mark bytes) es h = h.1
    agree_rest k (Commit id mark branch author committer encoding comment parents ops aliases) es h = h.1
    agree_rest k (Tag id name target tagger comment mark) es h = h
    agree_rest k (Reset id branch target) es h = h
    agree_rest k (Pass id line) es h = h

    step : (xs : List PlainEvent) (e : PlainEvent) (es : List PlainEvent) (k : ℕ) → k ≡ first + length xs → Agree blob commit first (xs ++ e ∷ es) → Agree blob commit k (e ∷ [])
        → is_ready xs e ≡ true → is_ready whole e ≡ true → Alike xs → Alike (xs ++ e ∷ [])
    step xs (Commit id mark branch author committer encoding comment [] ops aliases) es k is agree own r w alike c h =
        let e : PlainEvent = Commit id mark branch author committer encoding comment [] ops aliases in
        let parents = how.parents committer.when.seconds in
        let n : Node = record { id = k; parents = parents; ops = root_ops how parents (map (renamed_op blob commit) ops) } in
        let m : Node = record { id = id; parents = []; ops = ops } in
        ap (λ (l : Past). seen g l (commit c)) (past_more xs e k is)
        ∙ one_more xs k is (agree_front blob commit first xs (e ∷ es) agree) alike n m refl own.0
        (root_from xs parents (parents_are committer.when.seconds).0 (map (renamed_op blob commit) ops)
        ∙ ap (λ (cs : List (Change Shown)). changed_from cs (Some [])) (ops_alike ops (parted_blobs whole ops (all_true (has_id whole) (flat_map op_blobs ops) w))))
        c (either (has_id xs (any.Commit c)) (id == c) (sym (has_id_append xs (e ∷ []) (any.Commit c)) ∙ h))
        ∙ ap (λ (l : Past). seen f l c) (sym (past_append xs (e ∷ [])))
    step xs (Commit id mark branch author committer encoding comment (p ∷ ps) ops aliases) es k is agree own r w alike c h =
        let parents : List ℕ = p ∷ ps in
        let e : PlainEvent = Commit id mark branch author committer encoding comment parents ops aliases in
        let n : Node = record { id = k; parents = map commit parents; ops = map (renamed_op blob commit) ops } in
        let m : Node = record { id = id; parents = parents; ops = ops } in
        ap (λ (l : Past). seen g l (commit c)) (past_more xs e k is)
        ∙ one_more xs k is (agree_front blob commit first xs (e ∷ es) agree) alike n m refl own.0
        (ap (λ (cs : List (Change Shown)). changed_from cs (begun_of (seen g (past (made xs))) (map commit parents)))
        (ops_alike ops (parted_blobs whole ops (all_rear (There whole) (map any.Commit parents) (flat_map op_blobs ops) (all_true (has_id whole) (map any.Commit parents ++ flat_map op_blobs ops) w))))
        ∙ ap (changed_from (changes_seen f ops)) (starts xs alike parents (parents_here xs parents ops r)))
        c (either (has_id xs (any.Commit c)) (id == c) (sym (has_id_append xs (e ∷ []) (any.Commit c)) ∙ h))
        ∙ ap (λ (l : Past). seen f l c) (sym (past_append xs (e ∷ [])))
    step xs (Blob id mark bytes) es k is agree own r w alike c h = same_past xs (Blob id mark bytes) k is alike refl refl (λ d. refl) c h
    step xs (Tag id name target tagger comment mark) es k is agree own r w alike c h = same_past xs (Tag id name target tagger comment mark) k is alike refl refl (λ d. refl) c h
    step xs (Reset id branch target) es k is agree own r w alike c h = same_past xs (Reset id branch target) k is alike refl refl (λ d. refl) c h
    step xs (Pass id line) es k is agree own r w alike c h = same_past xs (Pass id line) k is alike refl refl (λ d. refl) c h

    pub all_alike : (xs es : List PlainEvent) (k : ℕ) → k ≡ first + length xs → Agree blob commit first (xs ++ es) → Agree blob commit k es → AreInOrder xs es → AllByRecursion (λ e. IsTrue (is_ready whole e)) es → Alike xs → Alike (xs ++ es)
    all_alike xs [] k is agree rest s r alike = subst Alike (sym (append-nil xs)) alike
    all_alike xs (e ∷ es) k is agree rest s r alike =
        let many = length-append xs (e ∷ []) in
        subst Alike (append_assoc xs (e ∷ []) es)
        (all_alike (xs ++ e ∷ []) es (suc k) (omega arith) (subst (Agree blob commit first) (sym (append_assoc xs (e ∷ []) es)) agree) (agree_rest k e es rest) s.1 r.1
        (step xs e es k is agree (agree_one k e es rest) s.0 r.0 alike))
