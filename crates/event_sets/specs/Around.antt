-- The neighbours of an event in two parts: what it is linked with, and for blobs the commits that put them. (own)
use Rattle.std.specs.Prelude.{Bool, false, List, [], ◌∷◌, ◌++◌, flat_map, map, Some, None}
use Rattle.std.specs.List.{list_any}
use Rattle.plain_model.specs.Lookups.{children_of, is_listed, op_blobs}
use Rattle.plain_model.specs.declared.id.AnyId.TheVariants as any
use Rattle.plain_model.specs.declared.event.PlainEvent.{PlainEvent}
use Rattle.plain_model.specs.declared.event.PlainEvent.TheVariants.{Blob, Commit, Tag, Reset, Pass}
use Rattle.event_sets.specs.Sets.{Ids}

-- the same as `around`, but nothing for a blob
abbrev pub linked : List PlainEvent → PlainEvent → Ids
linked events (Commit id mark branch author committer encoding comment parents ops aliases) =
    any.Commit id ∷ (map any.Commit parents ++ map any.Commit (children_of id events))
linked events (Tag id name target tagger comment mark) = any.Tag id ∷ any.Commit target ∷ []
linked events (Reset id branch (Some target)) = any.Reset id ∷ any.Commit target ∷ []
linked events (Reset id branch None) = any.Reset id ∷ []
linked events (Blob id mark bytes) = []
linked events (Pass id line) = any.Pass id ∷ []

-- a commit that puts a blob of a list at a path
abbrev pub puts_one : Ids → PlainEvent → Bool
puts_one ids (Commit id mark branch author committer encoding comment parents ops aliases) =
    list_any (λ b. is_listed b ids) (flat_map op_blobs ops)
puts_one ids (Blob id mark bytes) = false
puts_one ids (Tag id name target tagger comment mark) = false
puts_one ids (Reset id branch target) = false
puts_one ids (Pass id line) = false
