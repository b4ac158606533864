-- A history without its aliases, which are kept beside it while it is read.
use Rattle.std.proofs.Common.{◌≡◌, ℕ, suc, ◌+◌, ◌<◌, Bool, true, false, List, [], ◌∷◌, ◌++◌, Option, Some, None, length, map, filter, flat_map, refl, sym, ap, subst, ◌∙◌, arith, append_assoc, append-nil, option_to_list, eq-eqb, ne_eqb, reverse}
use Rattle.std.specs.Prelude.{◌==◌, ◌||◌, if◌then◌else◌, not, IsSome, IsTrue, IfSome}
use Rattle.std.specs.List.{AllByRecursion, list_any}
use Rattle.std.proofs.lemmas.Bool.{cond-true, cond-false, or_parts, or_from}
use Rattle.plain_model.specs.declared.id.AnyId.{AnyId}
use Rattle.plain_model.specs.declared.id.AnyId.TheVariants as any
use Rattle.plain_model.specs.declared.operation.Content.{Content}
use Rattle.plain_model.specs.declared.operation.Content.TheVariants.{Blob as OfBlob, Object}
use Rattle.plain_model.specs.declared.operation.FileOp.{FileOp}
use Rattle.plain_model.specs.declared.operation.FileOp.TheVariants.{Modify, Delete, Copy, Rename, DeleteAll}
use Rattle.plain_model.specs.declared.operation.Mode.{Mode}
use Rattle.plain_model.specs.declared.operation.Mode.TheVariants.{Plain, Executable, Link, Gitlink}
use Rattle.plain_model.specs.declared.event.PlainEvent.{PlainEvent}
use Rattle.plain_model.specs.declared.event.PlainEvent.TheVariants.{Blob, Commit, Tag, Reset, Pass}
use Rattle.plain_model.specs.declared.raw.RawContent.TheVariants as spelled
use Rattle.plain_model.specs.Histories.{Node, nodes, past, tree, tree_in}
use Rattle.plain_model.specs.Paths.{Bytes}
use Rattle.plain_model.specs.Snapshots.{commit_mark, refs, refs_after}
use Rattle.plain_model.specs.Soundness.{AreSoundAfter, IsCommitOf, IsFormedEvent, IsSound, IsSoundEvent, RefersBack, has_id}
use Rattle.plain_model.specs.Streams.{is_among, is_marked}
use Rattle.plain_model.specs.Text.{alias_text, blob_mark_in, data_block, encoding_text, event_text, is_feature_done, line, marked, op_text, parents_text, person, reset_text, tagger_text, target_text, raw_op_text, raw_op}
use Rattle.plain_model.specs.Trees.{TreeOf, put, has, where_path}
use Rattle.stream_grammar.specs.Known.{alias_marks, aliases_for, next_id, with_aliases}
use Rattle.round_trip_laws.specs.AsRead.{AreRootedAfter, IsAsRead, IsRooted}
use Rattle.history_laws.specs.Placed.{ArePlaced}

-- ---- the two parts

abbrev pub bare_event : PlainEvent → PlainEvent
bare_event (Commit id mark branch author committer encoding comment parents ops aliases) = Commit id mark branch author committer encoding comment parents ops []
bare_event (Blob id mark bytes) = Blob id mark bytes
bare_event (Tag id name target tagger comment mark) = Tag id name target tagger comment mark
bare_event (Reset id branch target) = Reset id branch target
bare_event (Pass id line) = Pass id line

-- the events without aliases
abbrev pub bare : List PlainEvent → List PlainEvent
bare [] = []
bare (e ∷ events) = bare_event e ∷ bare events

-- the aliases of an event, each with its commit
abbrev pub own_pairs : PlainEvent → List (ℕ × ℕ)
own_pairs (Commit id mark branch author committer encoding comment parents ops aliases) = map (λ a. (a, id)) aliases
own_pairs (Blob id mark bytes) = []
own_pairs (Tag id name target tagger comment mark) = []
own_pairs (Reset id branch target) = []
own_pairs (Pass id line) = []

-- the aliases of all
abbrev pub pairs : List PlainEvent → List (ℕ × ℕ)
pairs [] = []
pairs (e ∷ events) = own_pairs e ++ pairs events

pub bare_append : (a b : List PlainEvent) → bare (a ++ b) ≡ bare a ++ bare b
bare_append [] b = refl
bare_append (e ∷ a) b = ap (λ (l : List PlainEvent). bare_event e ∷ l) (bare_append a b)

pub pairs_append : (a b : List PlainEvent) → pairs (a ++ b) ≡ pairs a ++ pairs b
pairs_append [] b = refl
pairs_append (e ∷ a) b = ap (λ (l : List (ℕ × ℕ)). own_pairs e ++ l) (pairs_append a b) ∙ sym (append_assoc (own_pairs e) (pairs a) (pairs b))

-- ---- what doesn't look at aliases

pub has_id_bare : (events : List PlainEvent) (id : AnyId) → has_id (bare events) id ≡ has_id events id
has_id_bare [] id = refl
has_id_bare (Blob i mark bytes ∷ events) (any.Blob b) = ap (λ t. (i == b) || t) (has_id_bare events (any.Blob b))
has_id_bare (Blob i mark bytes ∷ events) other = has_id_bare events other
has_id_bare (Commit i mark branch author committer encoding comment parents ops aliases ∷ events) (any.Commit c) = ap (λ t. (i == c) || t) (has_id_bare events (any.Commit c))
has_id_bare (Commit i mark branch author committer encoding comment parents ops aliases ∷ events) other = has_id_bare events other
has_id_bare (Tag i name target tagger comment mark ∷ events) (any.Tag t) = ap (λ x. (i == t) || x) (has_id_bare events (any.Tag t))
has_id_bare (Tag i name target tagger comment mark ∷ events) other = has_id_bare events other
has_id_bare (Reset i branch target ∷ events) (any.Reset r) = ap (λ t. (i == r) || t) (has_id_bare events (any.Reset r))
has_id_bare (Reset i branch target ∷ events) other = has_id_bare events other
has_id_bare (Pass i line ∷ events) (any.Pass p) = ap (λ t. (i == p) || t) (has_id_bare events (any.Pass p))
has_id_bare (Pass i line ∷ events) other = has_id_bare events other

nodes_bare : (events : List PlainEvent) → nodes (bare events) ≡ nodes events
nodes_bare [] = refl
nodes_bare (Commit id mark branch author committer encoding comment parents ops aliases ∷ events) = ap (λ (l : List Node). record { id = id; parents = parents; ops = ops } ∷ l) (nodes_bare events)
nodes_bare (Blob id mark bytes ∷ events) = nodes_bare events
nodes_bare (Tag id name target tagger comment mark ∷ events) = nodes_bare events
nodes_bare (Reset id branch target ∷ events) = nodes_bare events
nodes_bare (Pass id line ∷ events) = nodes_bare events

pub refs_bare : (tips : TreeOf ℕ) (events : List PlainEvent) → refs_after tips (bare events) ≡ refs_after tips events
refs_bare tips [] = refl
refs_bare tips (Commit id mark branch author committer encoding comment parents ops aliases ∷ events) = refs_bare (put branch id tips) events
refs_bare tips (Reset id branch (Some c) ∷ events) = refs_bare (put branch c tips) events
refs_bare tips (Reset id branch None ∷ events) = refs_bare _ events
refs_bare tips (Blob id mark bytes ∷ events) = refs_bare tips events
refs_bare tips (Tag id name target tagger comment mark ∷ events) = refs_bare tips events
refs_bare tips (Pass id line ∷ events) = refs_bare tips events

pub mark_bare : (events : List PlainEvent) (c : ℕ) → commit_mark (bare events) c ≡ commit_mark events c
mark_bare [] c = refl
mark_bare (Commit id mark branch author committer encoding comment parents ops aliases ∷ events) c = ap (λ n. if id == c then mark else n) (mark_bare events c)
mark_bare (Blob id mark bytes ∷ events) c = mark_bare events c
mark_bare (Tag id name target tagger comment mark ∷ events) c = mark_bare events c
mark_bare (Reset id branch target ∷ events) c = mark_bare events c
mark_bare (Pass id line ∷ events) c = mark_bare events c

pub blob_mark_bare : (w v events : List PlainEvent) (b : ℕ) → blob_mark_in w (bare events) b ≡ blob_mark_in v events b
blob_mark_bare w v [] b = refl
blob_mark_bare w v (Blob id mark bytes ∷ events) b = ap (λ n. if id == b then mark else n) (blob_mark_bare w v events b)
blob_mark_bare w v (Commit id mark branch author committer encoding comment parents ops aliases ∷ events) b = blob_mark_bare w v events b
blob_mark_bare w v (Tag id name target tagger comment mark ∷ events) b = blob_mark_bare w v events b
blob_mark_bare w v (Reset id branch target ∷ events) b = blob_mark_bare w v events b
blob_mark_bare w v (Pass id line ∷ events) b = blob_mark_bare w v events b

pub feature_bare : (events : List PlainEvent) → list_any is_feature_done (bare events) ≡ list_any is_feature_done events
feature_bare [] = refl
feature_bare (Pass id line ∷ events) = ap (λ t. is_feature_done (Pass id line) || t) (feature_bare events)
feature_bare (Commit id mark branch author committer encoding comment parents ops aliases ∷ events) = feature_bare events
feature_bare (Blob id mark bytes ∷ events) = feature_bare events
feature_bare (Tag id name target tagger comment mark ∷ events) = feature_bare events
feature_bare (Reset id branch target ∷ events) = feature_bare events

-- ---- marks

pub among_append : (a b : List ℕ) (m : ℕ) → is_among a m ≡ false → is_among b m ≡ false → is_among (a ++ b) m ≡ false
among_append [] b m h k = k
among_append (x ∷ a) b m h k =
    let parts = or_parts (x == m) (is_among a m) h in
    or_from (x == m) (is_among (a ++ b) m) parts.0 (among_append a b m parts.1 k)

pub alias_marks_append : (a b : List (ℕ × ℕ)) → alias_marks (a ++ b) ≡ alias_marks a ++ alias_marks b
alias_marks_append [] b = refl
alias_marks_append (x ∷ a) b = ap (λ (l : List ℕ). x.0 ∷ l) (alias_marks_append a b)

alias_marks_own : (id : ℕ) (aliases : List ℕ) → alias_marks (map (λ a. (a, id)) aliases) ≡ aliases
alias_marks_own id [] = refl
alias_marks_own id (a ∷ aliases) = ap (λ (l : List ℕ). a ∷ l) (alias_marks_own id aliases)

-- a mark that no event has is none of an event without aliases, and none of the aliases
pub marked_bare : (events : List PlainEvent) (m : ℕ) → is_marked events m ≡ false → (is_marked (bare events) m ≡ false) × (is_among (alias_marks (pairs events)) m ≡ false)
marked_bare [] m h = (refl, refl)
marked_bare (Commit id mark branch author committer encoding comment parents ops aliases ∷ events) m h =
    let parts = or_parts (mark == m) (is_among aliases m || is_marked events m) h in
    let others = or_parts (is_among aliases m) (is_marked events m) parts.1 in
    let rest = marked_bare events m others.1 in (
      or_from (mark == m) (is_marked (bare events) m) parts.0 rest.0,
      ap (λ (l : List ℕ). is_among l m) (alias_marks_append (map (λ a. (a, id)) aliases) (pairs events) ∙ ap (λ (l : List ℕ). l ++ alias_marks (pairs events)) (alias_marks_own id aliases))
          ∙ among_append aliases (alias_marks (pairs events)) m others.0 rest.1,
    )
marked_bare (Blob id mark bytes ∷ events) m h =
    let parts = or_parts (mark == m) (is_marked events m) h in
    let rest = marked_bare events m parts.1 in
    (or_from (mark == m) (is_marked (bare events) m) parts.0 rest.0, rest.1)
marked_bare (Tag id name target tagger comment mark ∷ events) m h =
    let parts = or_parts (is_among (option_to_list mark) m) (is_marked events m) h in
    let rest = marked_bare events m parts.1 in
    (or_from (is_among (option_to_list mark) m) (is_marked (bare events) m) parts.0 rest.0, rest.1)
marked_bare (Reset id branch target ∷ events) m h = marked_bare events m h
marked_bare (Pass id line ∷ events) m h = marked_bare events m h

-- a mark that neither part has
pub is_marked_append : (a b : List PlainEvent) (m : ℕ) → is_marked a m ≡ false → is_marked b m ≡ false → is_marked (a ++ b) m ≡ false
is_marked_append [] b m h k = k
is_marked_append (Commit id mark branch author committer encoding comment parents ops aliases ∷ a) b m h k =
    let parts = or_parts (mark == m) (is_among aliases m || is_marked a m) h in
    let others = or_parts (is_among aliases m) (is_marked a m) parts.1 in
    or_from (mark == m) (is_among aliases m || is_marked (a ++ b) m) parts.0 (or_from (is_among aliases m) (is_marked (a ++ b) m) others.0 (is_marked_append a b m others.1 k))
is_marked_append (Blob id mark bytes ∷ a) b m h k =
    let parts = or_parts (mark == m) (is_marked a m) h in
    or_from (mark == m) (is_marked (a ++ b) m) parts.0 (is_marked_append a b m parts.1 k)
is_marked_append (Tag id name target tagger comment mark ∷ a) b m h k =
    let parts = or_parts (is_among (option_to_list mark) m) (is_marked a m) h in
    or_from (is_among (option_to_list mark) m) (is_marked (a ++ b) m) parts.0 (is_marked_append a b m parts.1 k)
is_marked_append (Reset id branch target ∷ a) b m h k = is_marked_append a b m h k
is_marked_append (Pass id line ∷ a) b m h k = is_marked_append a b m h k

-- ---- soundness

commit_bare : (events : List PlainEvent) (c : ℕ) → IsCommitOf events c → IsCommitOf (bare events) c
commit_bare events c h = has_id_bare events (any.Commit c) ∙ h

parents_bare : (events : List PlainEvent) (parents : List ℕ) → AllByRecursion (IsCommitOf events) parents → AllByRecursion (IsCommitOf (bare events)) parents
parents_bare events [] h = tt
parents_bare events (p ∷ ps) h = (commit_bare events p h.0, parents_bare events ps h.1)

refers_bare : (events : List PlainEvent) (op : FileOp) → RefersBack events op → RefersBack (bare events) op
refers_bare events (Modify Plain (OfBlob b) path) h = has_id_bare events (any.Blob b) ∙ h
refers_bare events (Modify Executable (OfBlob b) path) h = has_id_bare events (any.Blob b) ∙ h
refers_bare events (Modify Link (OfBlob b) path) h = has_id_bare events (any.Blob b) ∙ h
refers_bare events (Modify Gitlink (OfBlob b) path) h = absurd h
refers_bare events (Modify Plain (Object digits) path) h = tt
refers_bare events (Modify Executable (Object digits) path) h = tt
refers_bare events (Modify Link (Object digits) path) h = tt
refers_bare events (Modify Gitlink (Object digits) path) h = tt
refers_bare events (Delete path) h = tt
refers_bare events (Copy source target) h = tt
refers_bare events (Rename source target) h = tt
refers_bare events DeleteAll h = tt

all_refer_bare : (events : List PlainEvent) (ops : List FileOp) → AllByRecursion (RefersBack events) ops → AllByRecursion (RefersBack (bare events)) ops
all_refer_bare events [] h = tt
all_refer_bare events (op ∷ ops) h = (refers_bare events op h.0, all_refer_bare events ops h.1)

sound_event : (earlier : List PlainEvent) (e : PlainEvent) → IsSoundEvent earlier e → IsSoundEvent (bare earlier) (bare_event e)
sound_event earlier (Blob id mark bytes) h = (has_id_bare earlier (any.Blob id) ∙ h.0, (marked_bare earlier mark h.1).0)
sound_event earlier (Commit id mark branch author committer encoding comment parents ops aliases) h =
    let (fresh, new, named, written_by, committed_by, encoded, children, apart, few, refers, unmarked, distinct) = h in
    (has_id_bare earlier (any.Commit id) ∙ fresh, (marked_bare earlier mark new).0, named, written_by, committed_by, encoded, parents_bare earlier parents children, apart, few, all_refer_bare earlier ops refers, tt, refl)
sound_event earlier (Tag id name target tagger comment None) h = (has_id_bare earlier (any.Tag id) ∙ h.0, h.1, commit_bare earlier target h.2, h.3, tt)
sound_event earlier (Tag id name target tagger comment (Some mark)) h = (has_id_bare earlier (any.Tag id) ∙ h.0, h.1, commit_bare earlier target h.2, h.3, (marked_bare earlier mark h.4).0)
sound_event earlier (Reset id branch None) h = (has_id_bare earlier (any.Reset id) ∙ h.0, h.1, tt)
sound_event earlier (Reset id branch (Some c)) h = (has_id_bare earlier (any.Reset id) ∙ h.0, h.1, commit_bare earlier c h.2)
sound_event earlier (Pass id line) h = (has_id_bare earlier (any.Pass id) ∙ h.0, h.1)

pub sound_bare : (earlier events : List PlainEvent) → AreSoundAfter earlier events → AreSoundAfter (bare earlier) (bare events)
sound_bare earlier [] h = tt
sound_bare earlier (e ∷ events) h =
    (sound_event earlier e h.0, subst (λ (l : List PlainEvent). AreSoundAfter l (bare events)) (bare_append earlier (e ∷ [])) (sound_bare (earlier ++ e ∷ []) events h.1))

pub spelled_bare : (events : List PlainEvent) → AllByRecursion IsFormedEvent events → AllByRecursion IsFormedEvent (bare events)
spelled_bare [] h = tt
spelled_bare (Commit id mark branch author committer encoding comment parents ops aliases ∷ events) h = ((h.0.0, h.0.1, tt), spelled_bare events h.1)
spelled_bare (Blob id mark bytes ∷ events) h = (h.0, spelled_bare events h.1)
spelled_bare (Tag id name target tagger comment mark ∷ events) h = (h.0, spelled_bare events h.1)
spelled_bare (Reset id branch target ∷ events) h = (h.0, spelled_bare events h.1)
spelled_bare (Pass id line ∷ events) h = (h.0, spelled_bare events h.1)

pub trees_bare : (events : List PlainEvent) → ((c : ℕ) → IsCommitOf events c → IsSome (tree events c)) → (c : ℕ) → IsCommitOf (bare events) c → IsSome (tree (bare events) c)
trees_bare events trees c h =
    subst IsSome (sym (ap (λ (l : List Node). tree_in (reverse l) c) (nodes_bare events))) (trees c (sym (has_id_bare events (any.Commit c)) ∙ h))

pub placed_bare : (k : ℕ) (events : List PlainEvent) → ArePlaced k events → ArePlaced k (bare events)
placed_bare k [] h = tt
placed_bare k (Commit id mark branch author committer encoding comment parents ops aliases ∷ events) h = (h.0, placed_bare (suc k) events h.1)
placed_bare k (Blob id mark bytes ∷ events) h = (h.0, placed_bare (suc k) events h.1)
placed_bare k (Tag id name target tagger comment mark ∷ events) h = (h.0, placed_bare (suc k) events h.1)
placed_bare k (Reset id branch target ∷ events) h = (h.0, placed_bare (suc k) events h.1)
placed_bare k (Pass id line ∷ events) h = (h.0, placed_bare (suc k) events h.1)

rooted_event : (earlier : List PlainEvent) (e : PlainEvent) → IsRooted earlier e → IsRooted (bare earlier) (bare_event e)
rooted_event earlier (Commit id mark branch author committer encoding comment [] ops aliases) h = ap (λ (t : TreeOf ℕ). has t branch) (refs_bare [] earlier) ∙ h
rooted_event earlier (Commit id mark branch author committer encoding comment (p ∷ ps) ops aliases) h = tt
rooted_event earlier (Blob id mark bytes) h = tt
rooted_event earlier (Tag id name target tagger comment mark) h = tt
rooted_event earlier (Reset id branch target) h = tt
rooted_event earlier (Pass id line) h = tt

pub rooted_bare : (earlier events : List PlainEvent) → AreRootedAfter earlier events → AreRootedAfter (bare earlier) (bare events)
rooted_bare earlier [] h = tt
rooted_bare earlier (e ∷ events) h =
    (rooted_event earlier e h.0, subst (λ (l : List PlainEvent). AreRootedAfter l (bare events)) (bare_append earlier (e ∷ [])) (rooted_bare (earlier ++ e ∷ []) events h.1))
