-- Without the lines that are passed through all else stays: ids, order, commits and the bytes of blobs.
use Rattle.std.proofs.Common.{◌≡◌, ℕ, Bool, true, false, cond, not, inl, inr, List, [], ◌∷◌, ◌++◌, map, refl, sym, ap, ◌∙◌, arith, Some, None, IsTrue}
use Rattle.std.specs.Prelude.{◌&&◌, ◌||◌, ◌==◌, flat_map}
use Rattle.std.proofs.Math.Bool.{or-false}
use Rattle.std.proofs.lemmas.Bool.{or_cases, or_left, or_right}
use Rattle.std.specs.List.{AllByRecursion, list_all}
use Rattle.plain_model.specs.declared.id.AnyId.{AnyId}
use Rattle.plain_model.specs.declared.id.AnyId.TheVariants as any
use Rattle.plain_model.specs.declared.operation.Content.TheVariants.{Blob as OfBlob, Object}
use Rattle.plain_model.specs.declared.operation.FileOp.{FileOp}
use Rattle.plain_model.specs.declared.operation.FileOp.TheVariants.{Modify, Delete, Copy, Rename, DeleteAll}
use Rattle.plain_model.specs.declared.event.PlainEvent.{PlainEvent}
use Rattle.plain_model.specs.declared.event.PlainEvent.TheVariants.{Blob, Commit, Tag, Reset, Pass}
use Rattle.plain_model.specs.Histories.{Node, nodes}
use Rattle.plain_model.specs.Lookups.{id_of, op_blobs, referents_of, same_id}
use Rattle.plain_model.specs.Snapshots.{blob_bytes}
use Rattle.plain_model.specs.Soundness.{IsFormedEvent, has_id}
use Rattle.edit_laws.specs.Parts.{AreInOrder, HasFewParents, IsLawful, of_id}
use Rattle.edit_laws.specs.Settling.{is_ready}
use Rattle.edit_laws.proofs.Lists.{all_filter, tally_filter}
use Rattle.history_laws.proofs.Ids.{has_id_append, has_id_step}
use Rattle.history_laws.proofs.Lists.{all_join}
use Rattle.plain_model.specs.Paths.{Bytes}
use Rattle.graft_laws.specs.Joined.{IsLinked}
use Rattle.graft_laws.specs.Joining.{is_pass, without_passes}

-- no line that is passed through
abbrev pub IsNoPass : AnyId → Type 0
IsNoPass (any.Pass p) = ⊥
IsNoPass other = Unit {0}

pub still_there : (events : List PlainEvent) (id : AnyId) → IsNoPass id → has_id (without_passes events) id ≡ has_id events id
still_there [] id h = refl
still_there (Blob i mark bytes ∷ events) (any.Blob b) h = ap (λ t. (i == b) || t) (still_there events (any.Blob b) h)
still_there (Blob i mark bytes ∷ events) (any.Commit b) h = still_there events (any.Commit b) h
still_there (Blob i mark bytes ∷ events) (any.Tag b) h = still_there events (any.Tag b) h
still_there (Blob i mark bytes ∷ events) (any.Reset b) h = still_there events (any.Reset b) h
still_there (Commit i mark branch author committer encoding comment parents ops aliases ∷ events) (any.Blob b) h = still_there events (any.Blob b) h
still_there (Commit i mark branch author committer encoding comment parents ops aliases ∷ events) (any.Commit b) h = ap (λ t. (i == b) || t) (still_there events (any.Commit b) h)
still_there (Commit i mark branch author committer encoding comment parents ops aliases ∷ events) (any.Tag b) h = still_there events (any.Tag b) h
still_there (Commit i mark branch author committer encoding comment parents ops aliases ∷ events) (any.Reset b) h = still_there events (any.Reset b) h
still_there (Tag i name target tagger comment mark ∷ events) (any.Blob b) h = still_there events (any.Blob b) h
still_there (Tag i name target tagger comment mark ∷ events) (any.Commit b) h = still_there events (any.Commit b) h
still_there (Tag i name target tagger comment mark ∷ events) (any.Tag b) h = ap (λ t. (i == b) || t) (still_there events (any.Tag b) h)
still_there (Tag i name target tagger comment mark ∷ events) (any.Reset b) h = still_there events (any.Reset b) h
still_there (Reset i branch target ∷ events) (any.Blob b) h = still_there events (any.Blob b) h
still_there (Reset i branch target ∷ events) (any.Commit b) h = still_there events (any.Commit b) h
still_there (Reset i branch target ∷ events) (any.Tag b) h = still_there events (any.Tag b) h
still_there (Reset i branch target ∷ events) (any.Reset b) h = ap (λ t. (i == b) || t) (still_there events (any.Reset b) h)
still_there (Pass i line ∷ events) (any.Blob b) h = still_there events (any.Blob b) h
still_there (Pass i line ∷ events) (any.Commit b) h = still_there events (any.Commit b) h
still_there (Pass i line ∷ events) (any.Tag b) h = still_there events (any.Tag b) h
still_there (Pass i line ∷ events) (any.Reset b) h = still_there events (any.Reset b) h
still_there (e ∷ events) (any.Pass p) h = absurd h

-- what is there without them is there
pub without_there : (events : List PlainEvent) (id : AnyId) → has_id (without_passes events) id ≡ true → has_id events id ≡ true
without_there [] id h = h
without_there (e ∷ events) id h = has_id_step e events id ∙ go (is_pass e) h (without_there events id)
  where
    go : (b : Bool) → has_id (cond (not b) (e ∷ without_passes events) (without_passes events)) id ≡ true → (has_id (without_passes events) id ≡ true → has_id events id ≡ true)
        → (same_id (id_of e) id || has_id events id) ≡ true
    go true k rest = or_right (same_id (id_of e) id) (has_id events id) (rest k)
    go false k rest = elim (or_cases (same_id (id_of e) id) (has_id (without_passes events) id) (sym (has_id_step e (without_passes events) id) ∙ k)) [
      | inl own ↦ or_left (same_id (id_of e) id) (has_id events id) own
      | inr later ↦ or_right (same_id (id_of e) id) (has_id events id) (rest later)
    ]

pub same_nodes : (events : List PlainEvent) → nodes (without_passes events) ≡ nodes events
same_nodes [] = refl
same_nodes (Commit id mark branch author committer encoding comment parents ops aliases ∷ events) =
    ap (λ (l : List Node). record { id = id; parents = parents; ops = ops } ∷ l) (same_nodes events)
same_nodes (Blob id mark bytes ∷ events) = same_nodes events
same_nodes (Tag id name target tagger comment mark ∷ events) = same_nodes events
same_nodes (Reset id branch target ∷ events) = same_nodes events
same_nodes (Pass id line ∷ events) = same_nodes events

pub same_bytes : (events : List PlainEvent) (b : ℕ) → blob_bytes (without_passes events) b ≡ blob_bytes events b
same_bytes [] b = refl
same_bytes (Blob id mark bytes ∷ events) b = ap (λ (rest : List ℕ). cond (id == b) bytes rest) (same_bytes events b)
same_bytes (Commit id mark branch author committer encoding comment parents ops aliases ∷ events) b = same_bytes events b
same_bytes (Tag id name target tagger comment mark ∷ events) b = same_bytes events b
same_bytes (Reset id branch target ∷ events) b = same_bytes events b
same_bytes (Pass id line ∷ events) b = same_bytes events b

-- ---- order

ids_no_pass : (ps : List ℕ) → AllByRecursion IsNoPass (map any.Commit ps)
ids_no_pass [] = tt
ids_no_pass (p ∷ ps) = (tt, ids_no_pass ps)

op_no_pass : (op : FileOp) → AllByRecursion IsNoPass (op_blobs op)
op_no_pass (Modify mode (OfBlob b) path) = (tt, tt)
op_no_pass (Modify mode (Object digits) path) = tt
op_no_pass (Delete path) = tt
op_no_pass (Copy source target) = tt
op_no_pass (Rename source target) = tt
op_no_pass DeleteAll = tt

ops_no_pass : (ops : List FileOp) → AllByRecursion IsNoPass (flat_map op_blobs ops)
ops_no_pass [] = tt
ops_no_pass (op ∷ ops) = all_join IsNoPass (op_blobs op) (flat_map op_blobs ops) (op_no_pass op) (ops_no_pass ops)

-- what an event refers to is no such line
refers_to_none : (e : PlainEvent) → AllByRecursion IsNoPass (referents_of e)
refers_to_none (Commit id mark branch author committer encoding comment parents ops aliases) =
    all_join IsNoPass (map any.Commit parents) (flat_map op_blobs ops) (ids_no_pass parents) (ops_no_pass ops)
refers_to_none (Tag id name target tagger comment mark) = (tt, tt)
refers_to_none (Reset id branch None) = tt
refers_to_none (Reset id branch (Some target)) = (tt, tt)
refers_to_none (Blob id mark bytes) = tt
refers_to_none (Pass id line) = tt

-- two lists have the same ids but for such lines
abbrev AreAlike : List PlainEvent → List PlainEvent → Type 0
AreAlike xs ys = (id : AnyId) → IsNoPass id → has_id ys id ≡ has_id xs id

all_alike : (xs ys : List PlainEvent) → AreAlike xs ys → (ids : List AnyId) → AllByRecursion IsNoPass ids → list_all (has_id ys) ids ≡ list_all (has_id xs) ids
all_alike xs ys same [] h = refl
all_alike xs ys same (id ∷ ids) h = λ i. same id h.0 i && all_alike xs ys same ids h.1 i

alike_more : (xs ys : List PlainEvent) (e : PlainEvent) → AreAlike xs ys → AreAlike (xs ++ e ∷ []) (ys ++ e ∷ [])
alike_more xs ys e same id h = has_id_append ys (e ∷ []) id ∙ ap (λ t. t || has_id (e ∷ []) id) (same id h) ∙ sym (has_id_append xs (e ∷ []) id)

pass_unknown : (i : ℕ) (line : Bytes) (id : AnyId) → IsNoPass id → has_id (Pass i line ∷ []) id ≡ false
pass_unknown i line (any.Blob b) h = refl
pass_unknown i line (any.Commit b) h = refl
pass_unknown i line (any.Tag b) h = refl
pass_unknown i line (any.Reset b) h = refl
pass_unknown i line (any.Pass b) h = absurd h

alike_passed : (xs ys : List PlainEvent) (i : ℕ) (line : Bytes) → AreAlike xs ys → AreAlike (xs ++ Pass i line ∷ []) ys
alike_passed xs ys i line same id h =
    same id h ∙ sym (has_id_append xs (Pass i line ∷ []) id ∙ ap (λ t. has_id xs id || t) (pass_unknown i line id h) ∙ or-false (has_id xs id))

kept : (xs ys : List PlainEvent) (e : PlainEvent) (es : List PlainEvent) → AreAlike xs ys → is_ready xs e ≡ true → AreInOrder (ys ++ e ∷ []) (without_passes es) → IsTrue (is_ready ys e) × AreInOrder (ys ++ e ∷ []) (without_passes es)
kept xs ys e es same ready rest = (all_alike xs ys same (referents_of e) (refers_to_none e) ∙ ready, rest)

in_order : (xs ys es : List PlainEvent) → AreAlike xs ys → AreInOrder xs es → AreInOrder ys (without_passes es)
in_order xs ys [] same h = tt
in_order xs ys (Pass i line ∷ es) same h = in_order (xs ++ Pass i line ∷ []) ys es (alike_passed xs ys i line same) h.1
in_order xs ys (Blob i mark bytes ∷ es) same h = kept xs ys (Blob i mark bytes) es same h.0 (in_order (xs ++ Blob i mark bytes ∷ []) (ys ++ Blob i mark bytes ∷ []) es (alike_more xs ys (Blob i mark bytes) same) h.1)
in_order xs ys (Commit i mark branch author committer encoding comment parents ops aliases ∷ es) same h =
    let e : PlainEvent = Commit i mark branch author committer encoding comment parents ops aliases in
    kept xs ys e es same h.0 (in_order (xs ++ e ∷ []) (ys ++ e ∷ []) es (alike_more xs ys e same) h.1)
in_order xs ys (Tag i name target tagger comment mark ∷ es) same h =
    let e : PlainEvent = Tag i name target tagger comment mark in
    kept xs ys e es same h.0 (in_order (xs ++ e ∷ []) (ys ++ e ∷ []) es (alike_more xs ys e same) h.1)
in_order xs ys (Reset i branch target ∷ es) same h =
    let e : PlainEvent = Reset i branch target in
    kept xs ys e es same h.0 (in_order (xs ++ e ∷ []) (ys ++ e ∷ []) es (alike_more xs ys e same) h.1)

-- ---- the whole history

pub linked_without : (events : List PlainEvent) → IsLinked events → IsLinked (without_passes events)
linked_without events h = record {
  lawful = all_filter IsLawful (λ e. not (is_pass e)) events h.lawful;
  spelled = all_filter IsFormedEvent (λ e. not (is_pass e)) events h.spelled;
  few = all_filter HasFewParents (λ e. not (is_pass e)) events h.few;
  ids = λ id. let one = h.ids id in let fewer = tally_filter (of_id id) (λ e. not (is_pass e)) events in omega arith;
  in_order = in_order [] [] events (λ id h. refl) h.in_order;
}
