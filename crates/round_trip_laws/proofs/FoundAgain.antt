-- What an id names is found again by its mark, and a commit has the tree that it had.
use Rattle.std.proofs.Common.{◌≡◌, inl, inr, ℕ, suc, ◌<◌, Bool, true, false, cond, List, [], ◌∷◌, ◌++◌, Option, Some, None, refl, sym, ap, subst, ◌∙◌, arith, reverse, ◌⊎◌, eq-eqb, ne_eqb, append_assoc, eqb-true, option_to_list}
use Rattle.std.specs.Prelude.{◌==◌, ◌||◌}
use Rattle.std.proofs.lemmas.Bool.{cond-true, or_from, or_parts, cond-false}
use Rattle.std.proofs.lemmas.Option.{none-some}
use Rattle.std.proofs.lemmas.List.{reverse-append}
use Rattle.plain_model.specs.declared.id.AnyId.TheVariants as any
use Rattle.plain_model.specs.declared.operation.FileOp.{FileOp}
use Rattle.plain_model.specs.declared.event.PlainEvent.{PlainEvent}
use Rattle.plain_model.specs.declared.event.PlainEvent.TheVariants.{Blob, Commit, Tag, Reset, Pass}
use Rattle.plain_model.specs.declared.person.Signed.{Signed}
use Rattle.plain_model.specs.Paths.{Bytes}
use Rattle.plain_model.specs.Histories.{Node, Past, nodes, past, tree, tree_in, begun, folded, knows}
use Rattle.plain_model.specs.Soundness.{IsFormedEvent, IsSoundEvent, has_id}
use Rattle.plain_model.specs.Streams.{is_among, is_marked, blob_marked, commit_marked}
use Rattle.plain_model.specs.Snapshots.{commit_mark}
use Rattle.plain_model.specs.Text.{blob_mark_in}
use Rattle.plain_model.specs.Marks.{IsMark}
use Rattle.history_laws.proofs.Commits.{nodes_append, unknown_both}
use Rattle.history_laws.specs.Placed.{ArePlaced}

-- ---- ids of two parts

commit_of_parts : (a b : List PlainEvent) (c : ℕ) → has_id (a ++ b) (any.Commit c) ≡ true → (has_id a (any.Commit c) ≡ true) ⊎ (has_id b (any.Commit c) ≡ true)
commit_of_parts [] b c h = inr h
commit_of_parts (Commit id mark branch author committer encoding comment parents ops aliases ∷ a) b c h = go (id == c) h (commit_of_parts a b c)
  where
    go : (t : Bool) → (t || has_id (a ++ b) (any.Commit c)) ≡ true → (has_id (a ++ b) (any.Commit c) ≡ true → (has_id a (any.Commit c) ≡ true) ⊎ (has_id b (any.Commit c) ≡ true))
        → ((t || has_id a (any.Commit c)) ≡ true) ⊎ (has_id b (any.Commit c) ≡ true)
    go true h f = inl refl
    go false h f = f h
commit_of_parts (Blob id mark bytes ∷ a) b c h = commit_of_parts a b c h
commit_of_parts (Tag id name target tagger comment mark ∷ a) b c h = commit_of_parts a b c h
commit_of_parts (Reset id branch target ∷ a) b c h = commit_of_parts a b c h
commit_of_parts (Pass id line ∷ a) b c h = commit_of_parts a b c h

blob_of_parts : (a b : List PlainEvent) (c : ℕ) → has_id (a ++ b) (any.Blob c) ≡ true → (has_id a (any.Blob c) ≡ true) ⊎ (has_id b (any.Blob c) ≡ true)
blob_of_parts [] b c h = inr h
blob_of_parts (Blob id mark bytes ∷ a) b c h = go (id == c) h (blob_of_parts a b c)
  where
    go : (t : Bool) → (t || has_id (a ++ b) (any.Blob c)) ≡ true → (has_id (a ++ b) (any.Blob c) ≡ true → (has_id a (any.Blob c) ≡ true) ⊎ (has_id b (any.Blob c) ≡ true))
        → ((t || has_id a (any.Blob c)) ≡ true) ⊎ (has_id b (any.Blob c) ≡ true)
    go true h f = inl refl
    go false h f = f h
blob_of_parts (Commit id mark branch author committer encoding comment parents ops aliases ∷ a) b c h = blob_of_parts a b c h
blob_of_parts (Tag id name target tagger comment mark ∷ a) b c h = blob_of_parts a b c h
blob_of_parts (Reset id branch target ∷ a) b c h = blob_of_parts a b c h
blob_of_parts (Pass id line ∷ a) b c h = blob_of_parts a b c h

-- an id that is after others
pub commit_after : (a b : List PlainEvent) (c : ℕ) → has_id b (any.Commit c) ≡ true → has_id (a ++ b) (any.Commit c) ≡ true
commit_after [] b c h = h
commit_after (Commit id mark branch author committer encoding comment parents ops aliases ∷ a) b c h = go (id == c) (commit_after a b c h)
  where
    go : (t : Bool) → has_id (a ++ b) (any.Commit c) ≡ true → (t || has_id (a ++ b) (any.Commit c)) ≡ true
    go true h = refl
    go false h = h
commit_after (Blob id mark bytes ∷ a) b c h = commit_after a b c h
commit_after (Tag id name target tagger comment mark ∷ a) b c h = commit_after a b c h
commit_after (Reset id branch target ∷ a) b c h = commit_after a b c h
commit_after (Pass id line ∷ a) b c h = commit_after a b c h

-- ---- marks of ids

-- an id that no event has so far
commit_mark_new : (a b : List PlainEvent) (c : ℕ) → has_id a (any.Commit c) ≡ false → commit_mark (a ++ b) c ≡ commit_mark b c
commit_mark_new [] b c h = refl
commit_mark_new (Commit id mark branch author committer encoding comment parents ops aliases ∷ a) b c h =
    let parts = or_parts (id == c) (has_id a (any.Commit c)) h in
    cond-false (id == c) mark (commit_mark (a ++ b) c) parts.0 ∙ commit_mark_new a b c parts.1
commit_mark_new (Blob id mark bytes ∷ a) b c h = commit_mark_new a b c h
commit_mark_new (Tag id name target tagger comment mark ∷ a) b c h = commit_mark_new a b c h
commit_mark_new (Reset id branch target ∷ a) b c h = commit_mark_new a b c h
commit_mark_new (Pass id line ∷ a) b c h = commit_mark_new a b c h

blob_mark_new : (whole a b : List PlainEvent) (c : ℕ) → has_id a (any.Blob c) ≡ false → blob_mark_in whole (a ++ b) c ≡ blob_mark_in whole b c
blob_mark_new whole [] b c h = refl
blob_mark_new whole (Blob id mark bytes ∷ a) b c h =
    let parts = or_parts (id == c) (has_id a (any.Blob c)) h in
    cond-false (id == c) mark (blob_mark_in whole (a ++ b) c) parts.0 ∙ blob_mark_new whole a b c parts.1
blob_mark_new whole (Commit id mark branch author committer encoding comment parents ops aliases ∷ a) b c h = blob_mark_new whole a b c h
blob_mark_new whole (Tag id name target tagger comment mark ∷ a) b c h = blob_mark_new whole a b c h
blob_mark_new whole (Reset id branch target ∷ a) b c h = blob_mark_new whole a b c h
blob_mark_new whole (Pass id line ∷ a) b c h = blob_mark_new whole a b c h

-- a mark that finds something still finds it
commit_still : (a b : List PlainEvent) (m c : ℕ) → commit_marked a m ≡ Some c → commit_marked (a ++ b) m ≡ Some c
commit_still [] b m c h = absurd (none-some c h)
commit_still (Commit id mark branch author committer encoding comment parents ops aliases ∷ a) b m c h = go (mark == m) (is_among aliases m) h (commit_still a b m c)
  where
    go : (t u : Bool) → cond t (Some id) (cond u (Some id) (commit_marked a m)) ≡ Some c → (commit_marked a m ≡ Some c → commit_marked (a ++ b) m ≡ Some c)
        → cond t (Some id) (cond u (Some id) (commit_marked (a ++ b) m)) ≡ Some c
    go true u x f = x
    go false true x f = x
    go false false x f = f x
commit_still (Blob id mark bytes ∷ a) b m c h = commit_still a b m c h
commit_still (Tag id name target tagger comment mark ∷ a) b m c h = commit_still a b m c h
commit_still (Reset id branch target ∷ a) b m c h = commit_still a b m c h
commit_still (Pass id line ∷ a) b m c h = commit_still a b m c h

blob_still : (a b : List PlainEvent) (m c : ℕ) → blob_marked a m ≡ Some c → blob_marked (a ++ b) m ≡ Some c
blob_still [] b m c h = absurd (none-some c h)
blob_still (Blob id mark bytes ∷ a) b m c h = go (mark == m) h (blob_still a b m c)
  where
    go : (t : Bool) → cond t (Some id) (blob_marked a m) ≡ Some c → (blob_marked a m ≡ Some c → blob_marked (a ++ b) m ≡ Some c) → cond t (Some id) (blob_marked (a ++ b) m) ≡ Some c
    go true x f = x
    go false x f = f x
blob_still (Commit id mark branch author committer encoding comment parents ops aliases ∷ a) b m c h = blob_still a b m c h
blob_still (Tag id name target tagger comment mark ∷ a) b m c h = blob_still a b m c h
blob_still (Reset id branch target ∷ a) b m c h = blob_still a b m c h
blob_still (Pass id line ∷ a) b m c h = blob_still a b m c h

-- a mark that wasn't there finds what is after
pub commit_new : (a b : List PlainEvent) (m : ℕ) → is_marked a m ≡ false → commit_marked (a ++ b) m ≡ commit_marked b m
commit_new [] b m h = refl
commit_new (Commit id mark branch author committer encoding comment parents ops aliases ∷ a) b m h =
    let parts = or_parts (mark == m) (is_among aliases m || is_marked a m) h in
    let others = or_parts (is_among aliases m) (is_marked a m) parts.1 in
    cond-false (mark == m) (Some id) (cond (is_among aliases m) (Some id) (commit_marked (a ++ b) m)) parts.0
    ∙ cond-false (is_among aliases m) (Some id) (commit_marked (a ++ b) m) others.0 ∙ commit_new a b m others.1
commit_new (Blob id mark bytes ∷ a) b m h = commit_new a b m (or_parts (mark == m) (is_marked a m) h).1
commit_new (Tag id name target tagger comment mark ∷ a) b m h = commit_new a b m (or_parts (is_among (option_to_list mark) m) (is_marked a m) h).1
commit_new (Reset id branch target ∷ a) b m h = commit_new a b m h
commit_new (Pass id line ∷ a) b m h = commit_new a b m h

blob_new : (a b : List PlainEvent) (m : ℕ) → is_marked a m ≡ false → blob_marked (a ++ b) m ≡ blob_marked b m
blob_new [] b m h = refl
blob_new (Blob id mark bytes ∷ a) b m h =
    let parts = or_parts (mark == m) (is_marked a m) h in
    cond-false (mark == m) (Some id) (blob_marked (a ++ b) m) parts.0 ∙ blob_new a b m parts.1
blob_new (Commit id mark branch author committer encoding comment parents ops aliases ∷ a) b m h =
    blob_new a b m (or_parts (is_among aliases m) (is_marked a m) (or_parts (mark == m) (is_among aliases m || is_marked a m) h).1).1
blob_new (Tag id name target tagger comment mark ∷ a) b m h = blob_new a b m (or_parts (is_among (option_to_list mark) m) (is_marked a m) h).1
blob_new (Reset id branch target ∷ a) b m h = blob_new a b m h
blob_new (Pass id line ∷ a) b m h = blob_new a b m h

-- ---- what is found after some events of a whole history

abbrev pub FindsCommit : List PlainEvent → List PlainEvent → ℕ → Type 0
FindsCommit whole done c = IsMark (commit_mark whole c) × (commit_marked done (commit_mark whole c) ≡ Some c)

abbrev pub FindsBlob : List PlainEvent → List PlainEvent → ℕ → Type 0
FindsBlob whole done b = IsMark (blob_mark_in whole whole b) × (blob_marked done (blob_mark_in whole whole b) ≡ Some b)

-- by its mark in the whole history each blob and each commit so far is found
pub record AreFound (whole done : List PlainEvent) : Type 0 where
  pub commits : (c : ℕ) → has_id done (any.Commit c) ≡ true → FindsCommit whole done c
  pub blobs : (b : ℕ) → has_id done (any.Blob b) ≡ true → FindsBlob whole done b

-- one that was found, and one more event
commit_kept : (whole done : List PlainEvent) (e : PlainEvent) (c : ℕ) → FindsCommit whole done c → FindsCommit whole (done ++ e ∷ []) c
commit_kept whole done e c f = (f.0, commit_still done (e ∷ []) (commit_mark whole c) c f.1)

blob_kept : (whole done : List PlainEvent) (e : PlainEvent) (b : ℕ) → FindsBlob whole done b → FindsBlob whole (done ++ e ∷ []) b
blob_kept whole done e b f = (f.0, blob_still done (e ∷ []) (blob_mark_in whole whole b) b f.1)

-- one more event, if what it has is found
found_more : (whole done : List PlainEvent) (e : PlainEvent) → AreFound whole done
    → ((c : ℕ) → has_id (e ∷ []) (any.Commit c) ≡ true → FindsCommit whole (done ++ e ∷ []) c)
    → ((b : ℕ) → has_id (e ∷ []) (any.Blob b) ≡ true → FindsBlob whole (done ++ e ∷ []) b)
    → AreFound whole (done ++ e ∷ [])
found_more whole done e s own_commit own_blob = record { commits = λ c h. commit_case c (commit_of_parts done (e ∷ []) c h); blobs = λ b h. blob_case b (blob_of_parts done (e ∷ []) b h) }
  where
    commit_case : (c : ℕ) → (has_id done (any.Commit c) ≡ true) ⊎ (has_id (e ∷ []) (any.Commit c) ≡ true) → FindsCommit whole (done ++ e ∷ []) c
    commit_case c (inl h) = commit_kept whole done e c (s.commits c h)
    commit_case c (inr h) = own_commit c h

    blob_case : (b : ℕ) → (has_id done (any.Blob b) ≡ true) ⊎ (has_id (e ∷ []) (any.Blob b) ≡ true) → FindsBlob whole (done ++ e ∷ []) b
    blob_case b (inl h) = blob_kept whole done e b (s.blobs b h)
    blob_case b (inr h) = own_blob b h

or_false_true : (t : Bool) → (t || false) ≡ true → t ≡ true
or_false_true true h = refl
or_false_true false h = h

-- a blob, with a mark that is new
module _ (done more : List PlainEvent) (id mark : ℕ) (bytes : Bytes) (fresh : has_id done (any.Blob id) ≡ false) (new : is_marked done mark ≡ false) (is_mark : IsMark mark) where
  abbrev the_blob : PlainEvent
  the_blob = Blob id mark bytes

  abbrev with_blob : List PlainEvent
  with_blob = done ++ the_blob ∷ more

  blob_has_mark : blob_mark_in with_blob with_blob id ≡ mark
  blob_has_mark = blob_mark_new with_blob done (the_blob ∷ more) id fresh ∙ cond-true (id == id) mark (blob_mark_in with_blob more id) (eq-eqb id id refl)

  own_blob_found : FindsBlob with_blob (done ++ the_blob ∷ []) id
  own_blob_found = (
    subst IsMark (sym blob_has_mark) is_mark,
    ap (blob_marked (done ++ the_blob ∷ [])) blob_has_mark ∙ blob_new done (the_blob ∷ []) mark new ∙ cond-true (mark == mark) (Some id) None (eq-eqb mark mark refl),
  )

  found_with_blob : AreFound with_blob done → AreFound with_blob (done ++ the_blob ∷ [])
  found_with_blob s =
      found_more with_blob done the_blob s (λ c h. absurd cc)
      (λ b h. subst (FindsBlob with_blob (done ++ the_blob ∷ [])) (eqb-true id b (or_false_true (id == b) h)) own_blob_found)

-- a commit, with a mark that is new
module _ (done more : List PlainEvent) (id mark : ℕ) (branch : Bytes) (author committer : Signed) (encoding : Option Bytes) (comment : Bytes) (parents : List ℕ) (ops : List FileOp) (aliases : List ℕ)
    (fresh : has_id done (any.Commit id) ≡ false) (new : is_marked done mark ≡ false) (is_mark : IsMark mark) where
  abbrev the_commit : PlainEvent
  the_commit = Commit id mark branch author committer encoding comment parents ops aliases

  abbrev with_the_commit : List PlainEvent
  with_the_commit = done ++ the_commit ∷ more

  commit_has_mark : commit_mark with_the_commit id ≡ mark
  commit_has_mark = commit_mark_new done (the_commit ∷ more) id fresh ∙ cond-true (id == id) mark (commit_mark more id) (eq-eqb id id refl)

  own_commit_found : FindsCommit with_the_commit (done ++ the_commit ∷ []) id
  own_commit_found = (
    subst IsMark (sym commit_has_mark) is_mark,
    ap (commit_marked (done ++ the_commit ∷ [])) commit_has_mark ∙ commit_new done (the_commit ∷ []) mark new ∙ cond-true (mark == mark) (Some id) (cond (is_among aliases mark) (Some id) None) (eq-eqb mark mark refl),
  )

  found_with_commit : AreFound with_the_commit done → AreFound with_the_commit (done ++ the_commit ∷ [])
  found_with_commit s =
      found_more with_the_commit done the_commit s
      (λ c h. subst (FindsCommit with_the_commit (done ++ the_commit ∷ [])) (eqb-true id c (or_false_true (id == c) h)) own_commit_found) (λ b h. absurd cc)

-- any event
found_with : (done more : List PlainEvent) (e : PlainEvent) → AreFound (done ++ e ∷ more) done → IsSoundEvent done e → IsFormedEvent e → AreFound (done ++ e ∷ more) (done ++ e ∷ [])
found_with done more (Blob id mark bytes) s sound formed = found_with_blob done more id mark bytes sound.0 sound.1 formed s
found_with done more (Commit id mark branch author committer encoding comment parents ops aliases) s sound formed =
    found_with_commit done more id mark branch author committer encoding comment parents ops aliases sound.0 sound.1 formed.0 s
found_with done more (Tag id name target tagger comment mark) s sound formed = found_more (done ++ Tag id name target tagger comment mark ∷ more) done (Tag id name target tagger comment mark) s (λ c h. absurd cc) (λ b h. absurd cc)
found_with done more (Reset id branch target) s sound formed = found_more (done ++ Reset id branch target ∷ more) done (Reset id branch target) s (λ c h. absurd cc) (λ b h. absurd cc)
found_with done more (Pass id line) s sound formed = found_more (done ++ Pass id line ∷ more) done (Pass id line) s (λ c h. absurd cc) (λ b h. absurd cc)

-- one more event of the whole history
pub found_next : (whole done more : List PlainEvent) (e : PlainEvent) → whole ≡ done ++ e ∷ more → AreFound whole done → IsSoundEvent done e → IsFormedEvent e → AreFound whole (done ++ e ∷ [])
found_next whole done more e is s sound formed =
    subst (λ (w : List PlainEvent). AreFound w (done ++ e ∷ [])) (sym is) (found_with done more e (subst (λ (w : List PlainEvent). AreFound w done) is s) sound formed)

-- ---- trees

-- no event after a place has an id before it
pub place_other : (k c : ℕ) (events : List PlainEvent) → ArePlaced k events → c < k → has_id events (any.Commit c) ≡ false
place_other k c [] a h = refl
place_other k c (Commit id mark branch author committer encoding comment parents ops aliases ∷ events) a h =
    or_from (id == c) (has_id events (any.Commit c)) (ne_eqb id c (λ e. absurd (let here = a.0 in omega (arith, e, here)))) (place_other (suc k) c events a.1 (omega arith))
place_other k c (Blob id mark bytes ∷ events) a h = place_other (suc k) c events a.1 (omega arith)
place_other k c (Tag id name target tagger comment mark ∷ events) a h = place_other (suc k) c events a.1 (omega arith)
place_other k c (Reset id branch target ∷ events) a h = place_other (suc k) c events a.1 (omega arith)
place_other k c (Pass id line ∷ events) a h = place_other (suc k) c events a.1 (omega arith)

-- a commit that the later part doesn't know
tree_skips : (later older : Past) (c : ℕ) → knows later c ≡ false → tree_in (later ++ older) c ≡ tree_in older c
tree_skips [] older c h = refl
tree_skips (n ∷ later) older c h =
    let parts = or_parts (n.id == c) (knows later c) h in
    cond-false (n.id == c) (folded n.ops (begun (tree_in (later ++ older)) n.parents)) (tree_in (later ++ older) c) parts.0 ∙ tree_skips later older c parts.1

-- what isn't an id of a commit isn't known
unknown : (events : List PlainEvent) (c : ℕ) → has_id events (any.Commit c) ≡ false → knows (past events) c ≡ false
unknown [] c h = refl
unknown (Commit id mark branch author committer encoding comment parents ops aliases ∷ events) c h =
    let own : Node = record { id = id; parents = parents; ops = ops } in
    let parts = or_parts (id == c) (has_id events (any.Commit c)) h in
    ap (λ (p : Past). knows p c) (reverse-append (own ∷ []) (nodes events))
    ∙ unknown_both (past events) (own ∷ []) c (unknown events c parts.1) (or_from (id == c) false parts.0 refl)
unknown (Blob id mark bytes ∷ events) c h = unknown events c h
unknown (Tag id name target tagger comment mark ∷ events) c h = unknown events c h
unknown (Reset id branch target ∷ events) c h = unknown events c h
unknown (Pass id line ∷ events) c h = unknown events c h

-- the commit's own tree, whatever follows
pub own_tree : (done more : List PlainEvent) (id mark : ℕ) (branch : Bytes) (author committer : Signed) (encoding : Option Bytes) (comment : Bytes) (parents : List ℕ) (ops : List FileOp) → has_id more (any.Commit id) ≡ false
    → tree (done ++ Commit id mark branch author committer encoding comment parents ops [] ∷ more) id ≡ folded ops (begun (tree done) parents)
own_tree done more id mark branch author committer encoding comment parents ops h =
    let own : Node = record { id = id; parents = parents; ops = ops } in
    ap (λ (l : List Node). tree_in (reverse l) id) (nodes_append done (Commit id mark branch author committer encoding comment parents ops [] ∷ more))
    ∙ ap (λ (p : Past). tree_in p id) (reverse-append (nodes done) (own ∷ nodes more) ∙ ap (λ (p : Past). p ++ past done) (reverse-append (own ∷ []) (nodes more)) ∙ append_assoc (past more) (own ∷ []) (past done))
    ∙ tree_skips (past more) (own ∷ past done) id (unknown more id h)
    ∙ cond-true (id == id) (folded ops (begun (tree_in (past done)) parents)) (tree_in (past done) id) (eq-eqb id id refl)

-- ---- operations
