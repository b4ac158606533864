-- What is looked up in a list of events: by id, by number and by mark; whose child a commit is; what an event refers to. (own)
use Rattle.std.specs.Prelude.{ℕ, suc, ◌+◌, ◌-◌, ◌<◌, Bool, false, ◌==◌, List, [], ◌∷◌, ◌++◌, Option, Some, None, IsSome, option_map, option_to_list, unwrap_or, if◌then◌else◌, flat_map, map, max, slice_get, length}
use Rattle.std.specs.List.{fold, list_any}
use Rattle.std.specs.Map.{lookup}
use Rattle.plain_model.specs.declared.limit.TheConstants.{MAX_MARK}
use Rattle.plain_model.specs.declared.id.AnyId.{AnyId}
use Rattle.plain_model.specs.declared.id.AnyId.TheVariants as any
use Rattle.plain_model.specs.declared.operation.Content.TheVariants.{Blob as OfBlob, Object}
use Rattle.plain_model.specs.declared.operation.FileOp.{FileOp}
use Rattle.plain_model.specs.declared.operation.FileOp.TheVariants.{Modify, Delete, Copy, Rename, DeleteAll}
use Rattle.plain_model.specs.declared.event.PlainEvent.{PlainEvent}
use Rattle.plain_model.specs.declared.event.PlainEvent.TheVariants.{Blob, Commit, Tag, Reset, Pass}

-- ---- ids

abbrev pub id_of : PlainEvent → AnyId
id_of (Blob id mark bytes) = any.Blob id
id_of (Commit id mark branch author committer encoding comment parents ops aliases) = any.Commit id
id_of (Tag id name target tagger comment mark) = any.Tag id
id_of (Reset id branch target) = any.Reset id
id_of (Pass id line) = any.Pass id

-- the same kind and the same number
abbrev pub same_id : AnyId → AnyId → Bool
same_id (any.Blob a) (any.Blob b) = a == b
same_id (any.Commit a) (any.Commit b) = a == b
same_id (any.Tag a) (any.Tag b) = a == b
same_id (any.Reset a) (any.Reset b) = a == b
same_id (any.Pass a) (any.Pass b) = a == b
same_id _ _ = false

-- the id is one of these
abbrev pub is_listed : AnyId → List AnyId → Bool
is_listed id ids = list_any (same_id id) ids

abbrev pub id_number : AnyId → ℕ
id_number (any.Blob n) = n
id_number (any.Commit n) = n
id_number (any.Tag n) = n
id_number (any.Reset n) = n
id_number (any.Pass n) = n

-- one above the greatest number of an id; 1 for no events
abbrev pub next_number : List PlainEvent → ℕ
next_number events = fold (λ n e. max n (id_number (id_of e) + 1)) 1 events

-- ---- events by id and by number

-- the event with the id
abbrev pub find_event : AnyId → List PlainEvent → Option PlainEvent
find_event id [] = None
find_event id (e ∷ events) = if same_id id (id_of e) then Some e else find_event id events

-- the number of each id that is there is below the bound
abbrev pub AreIdsBelow : ℕ → List PlainEvent → Type 0
AreIdsBelow bound events = (id : AnyId) → IsSome (find_event id events) → id_number id < bound

-- how many events are before it
abbrev pub place_of : AnyId → List PlainEvent → Option ℕ
place_of id [] = None
place_of id (e ∷ events) = if same_id id (id_of e) then Some 0 else option_map suc (place_of id events)

-- its number, from 1
abbrev pub number_of : AnyId → List PlainEvent → Option ℕ
number_of id events = option_map (λ place. place + 1) (place_of id events)

-- the id of the event with the number
abbrev pub event_at : ℕ → List PlainEvent → Option AnyId
event_at n events = if n == 0 then None else option_map id_of (slice_get events (n - 1))

-- ---- marks

-- the marks of an event: a commit's own and then its aliases; that of a tag, if it has one
abbrev pub event_marks : PlainEvent → List ℕ
event_marks (Blob id mark bytes) = mark ∷ []
event_marks (Commit id mark branch author committer encoding comment parents ops aliases) = mark ∷ aliases
event_marks (Tag id name target tagger comment mark) = option_to_list mark
event_marks (Reset id branch target) = []
event_marks (Pass id line) = []

-- the same, each with the event's id
abbrev pub own_marks : PlainEvent → List (ℕ × AnyId)
own_marks e = map (λ mark. (mark, id_of e)) (event_marks e)

-- all marks, each with the id of the event that has it
abbrev pub marks_of : List PlainEvent → List (ℕ × AnyId)
marks_of events = flat_map own_marks events

-- the id of the event with the mark
abbrev pub find_mark : ℕ → List PlainEvent → Option AnyId
find_mark mark events = lookup (λ m. mark == m) (marks_of events)

-- the greatest of some marks and a number
abbrev pub greatest_of : ℕ → List ℕ → ℕ
greatest_of n marks = fold max n marks

-- the greatest mark of an event, or 0
abbrev pub top_mark : PlainEvent → ℕ
top_mark (Blob id mark bytes) = mark
top_mark (Commit id mark branch author committer encoding comment parents ops aliases) = greatest_of mark aliases
top_mark (Tag id name target tagger comment mark) = unwrap_or mark 0
top_mark (Reset id branch target) = 0
top_mark (Pass id line) = 0

-- the greatest mark of all, or 0
abbrev pub greatest_mark : List PlainEvent → ℕ
greatest_mark events = fold (λ n e. max n (top_mark e)) 0 events

-- one above the greatest mark, if that is a mark
abbrev pub next_mark : List PlainEvent → Option ℕ
next_mark events = if greatest_mark events == MAX_MARK then None else Some (greatest_mark events + 1)

-- how many aliases the commits have, all together
abbrev pub alias_count : List PlainEvent → ℕ
alias_count [] = 0
alias_count (Commit id mark branch author committer encoding comment parents ops aliases ∷ events) = length aliases + alias_count events
alias_count (Blob id mark bytes ∷ events) = alias_count events
alias_count (Tag id name target tagger comment mark ∷ events) = alias_count events
alias_count (Reset id branch target ∷ events) = alias_count events
alias_count (Pass id line ∷ events) = alias_count events

-- ---- parents, children and other referents

-- the id of an event, if it is a commit
abbrev pub commit_id : PlainEvent → Option ℕ
commit_id (Commit id mark branch author committer encoding comment parents ops aliases) = Some id
commit_id (Blob id mark bytes) = None
commit_id (Tag id name target tagger comment mark) = None
commit_id (Reset id branch target) = None
commit_id (Pass id line) = None

-- the parents of a commit
abbrev pub event_parents : PlainEvent → List ℕ
event_parents (Commit id mark branch author committer encoding comment parents ops aliases) = parents
event_parents (Blob id mark bytes) = []
event_parents (Tag id name target tagger comment mark) = []
event_parents (Reset id branch target) = []
event_parents (Pass id line) = []

-- the operations of an event, if it is a commit
abbrev pub event_ops : PlainEvent → List FileOp
event_ops (Commit id mark branch author committer encoding comment parents ops aliases) = ops
event_ops (Blob id mark bytes) = []
event_ops (Tag id name target tagger comment mark) = []
event_ops (Reset id branch target) = []
event_ops (Pass id line) = []

-- the event, if it is a commit that has c among its parents
abbrev pub own_child : ℕ → PlainEvent → List ℕ
own_child c (Commit id mark branch author committer encoding comment parents ops aliases) = if list_any (λ p. p == c) parents then id ∷ [] else []
own_child c (Blob id mark bytes) = []
own_child c (Tag id name target tagger comment mark) = []
own_child c (Reset id branch target) = []
own_child c (Pass id line) = []

-- the commits that have c among their parents, in the order of the list
abbrev pub children_of : ℕ → List PlainEvent → List ℕ
children_of c events = flat_map (own_child c) events

-- the blob that an operation names
abbrev pub op_blobs : FileOp → List AnyId
op_blobs (Modify mode (OfBlob b) path) = any.Blob b ∷ []
op_blobs (Modify mode (Object digits) path) = []
op_blobs (Delete path) = []
op_blobs (Copy source target) = []
op_blobs (Rename source target) = []
op_blobs DeleteAll = []

-- what an event refers to: parents, the blobs that operations name, and the target of a tag or a reset
abbrev pub referents_of : PlainEvent → List AnyId
referents_of (Commit id mark branch author committer encoding comment parents ops aliases) = map any.Commit parents ++ flat_map op_blobs ops
referents_of (Tag id name target tagger comment mark) = any.Commit target ∷ []
referents_of (Reset id branch (Some target)) = any.Commit target ∷ []
referents_of (Reset id branch None) = []
referents_of (Blob id mark bytes) = []
referents_of (Pass id line) = []
