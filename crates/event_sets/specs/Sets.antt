-- Lists of a history's events, and what is made of them. (reposurgeon manual, "Selection syntax"; `?`, `@pre`, `@suc`:
-- own)
use Rattle.std.specs.Prelude.{ℕ, zero, suc, ◌+◌, ◌-◌, ◌&&◌, not, min, max, nat_le, Bool, false, List, [], ◌∷◌, ◌++◌, length, map, filter, flat_map, Some, None, option_to_list}
use Rattle.std.specs.List.{fold}
use Rattle.plain_model.specs.declared.id.AnyId.{AnyId}
use Rattle.plain_model.specs.declared.id.AnyId.TheVariants as any
use Rattle.plain_model.specs.declared.event.PlainEvent.{PlainEvent}
use Rattle.plain_model.specs.declared.event.PlainEvent.TheVariants.{Blob, Commit, Tag, Reset, Pass}
use Rattle.plain_model.specs.Lookups.{children_of, event_at, event_parents, id_of, is_listed, op_blobs}
use Rattle.history_laws.specs.Finding.{event_number}
use Rattle.ancestry_laws.specs.Ancestry.{ancestors_of, descendants_of}
use Rattle.selection_parser.specs.declared.function.Function.{Function}
use Rattle.selection_parser.specs.declared.function.Function.TheVariants.{Min, Max, Amp, Par, Chn, Dsc, Anc, Pre, Suc, Srt}

-- ---- lists of ids

abbrev pub Ids : Type 0
Ids = List AnyId

-- the events that pass a test, ascending
abbrev pub passing : (PlainEvent → Bool) → List PlainEvent → Ids
passing test events = map id_of (filter test events)

-- those of a list, ascending
abbrev pub ascending : List PlainEvent → Ids → Ids
ascending events ids = passing (λ e. is_listed (id_of e) ids) events

-- the left list, and then what the right one has besides
abbrev pub union : Ids → Ids → Ids
union left right = left ++ filter (λ id. not (is_listed id left)) right

-- the left list without what is missing from the right one
abbrev pub common : Ids → Ids → Ids
common left right = filter (λ id. is_listed id right) left

-- all other events, ascending
abbrev pub rest : List PlainEvent → Ids → Ids
rest events ids = passing (λ e. not (is_listed (id_of e) ids)) events

-- the events of a list, as they stand in the history
abbrev pub members : List PlainEvent → Ids → List PlainEvent
members events ids = filter (λ e. is_listed (id_of e) ids) events

-- an event of the history has the id
abbrev pub is_live : List PlainEvent → AnyId → Bool
is_live events id = is_listed id (map id_of events)

-- those of a list that are events of the history, in the order of the list
abbrev pub live : List PlainEvent → Ids → Ids
live events ids = filter (is_live events) ids

-- ---- numbers

-- the least of some numbers, none of which is above the bound
abbrev pub least : List PlainEvent → Ids → ℕ
least events ids = fold (λ n id. min n (event_number events id)) (length events) ids

-- the greatest of them, or 0
abbrev pub greatest : List PlainEvent → Ids → ℕ
greatest events ids = fold (λ n id. max n (event_number events id)) 0 ids

-- the event of a number, if there is one
abbrev pub numbered : List PlainEvent → ℕ → Ids
numbered events n = option_to_list (event_at n events)

-- the events from one number to another
abbrev pub range : List PlainEvent → ℕ → ℕ → Ids
range events first last =
    passing (λ e. nat_le first (event_number events (id_of e)) && nat_le (event_number events (id_of e)) last) events

-- ---- `?`

-- a commit whose operations put a blob at a path
abbrev pub puts : AnyId → PlainEvent → Bool
puts blob (Commit id mark branch author committer encoding comment parents ops aliases) =
    is_listed blob (flat_map op_blobs ops)
puts blob other = false

-- a commit with its parents and children; a tag or a reset with its target; the commits that put a blob; a passed line
abbrev pub around : List PlainEvent → PlainEvent → Ids
around events (Commit id mark branch author committer encoding comment parents ops aliases) =
    any.Commit id ∷ (map any.Commit parents ++ map any.Commit (children_of id events))
around events (Tag id name target tagger comment mark) = any.Tag id ∷ any.Commit target ∷ []
around events (Reset id branch (Some target)) = any.Reset id ∷ any.Commit target ∷ []
around events (Reset id branch None) = any.Reset id ∷ []
around events (Blob id mark bytes) = passing (puts (any.Blob id)) events
around events (Pass id line) = any.Pass id ∷ []

abbrev pub near_once : List PlainEvent → Ids → Ids
near_once events ids = ascending events (flat_map (around events) (members events ids))

-- so many times
abbrev pub near_times : List PlainEvent → ℕ → Ids → Ids
near_times events zero ids = ids
near_times events (suc n) ids = near_once events (near_times events n ids)

-- ---- functions

-- the parents of the commits of a list
abbrev pub parents : List PlainEvent → Ids → Ids
parents events ids = ascending events (map any.Commit (flat_map event_parents (members events ids)))

abbrev pub own_children : List PlainEvent → AnyId → List ℕ
own_children events (any.Commit c) = children_of c events
own_children events other = []

-- the children of the commits of a list
abbrev pub children : List PlainEvent → Ids → Ids
children events ids = ascending events (map any.Commit (flat_map (own_children events) ids))

abbrev pub own_commit : AnyId → List ℕ
own_commit (any.Commit c) = c ∷ []
own_commit other = []

-- the commits of a list
abbrev pub commits_in : Ids → List ℕ
commits_in ids = flat_map own_commit ids

-- its events, and all commits that descend from its commits
abbrev pub descendants : List PlainEvent → Ids → Ids
descendants events ids = ascending events (ids ++ descendants_of events (commits_in ids))

-- its events, and all ancestors of its commits
abbrev pub ancestors : List PlainEvent → Ids → Ids
ancestors events ids = ascending events (ids ++ ancestors_of events (commits_in ids))

-- a list that is empty stays so
abbrev pub unless_empty : Ids → Ids → Ids
unless_empty [] more = []
unless_empty (id ∷ ids) more = more

-- what a function makes of a list
unfoldable pub called : List PlainEvent → Function → Ids → Ids
called events Min ids = unless_empty ids (numbered events (least events ids))
called events Max ids = unless_empty ids (numbered events (greatest events ids))
called events Amp ids = unless_empty ids (map id_of events)
called events Par ids = parents events ids
called events Chn ids = children events ids
called events Dsc ids = descendants events ids
called events Anc ids = ancestors events ids
called events Pre ids = unless_empty ids (numbered events (least events ids - 1))
called events Suc ids = unless_empty ids (numbered events (greatest events ids + 1))
called events Srt ids = ascending events ids
