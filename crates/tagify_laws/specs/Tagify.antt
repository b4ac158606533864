-- `tagify`: a commit that does nothing becomes a tag of the commit before it (reposurgeon manual, `tagify`; which commits
-- these are, what the tags are, and what is refused: own).
use Rattle.std.specs.Prelude.{ℕ, ◌+◌, Bool, true, false, ◌&&◌, List, [], ◌∷◌, ◌++◌, codes, decimal, filter, map, bytes_eq, Option, Some, None, unwrap_or, Result, Ok, Err, if◌then◌else◌}
use Rattle.std.specs.List.{list_any}
use Rattle.plain_model.specs.declared.id.AnyId.{AnyId}
use Rattle.plain_model.specs.declared.fault.Fault.{Fault}
use Rattle.plain_model.specs.declared.fault.Fault.TheVariants as fault
use Rattle.plain_model.specs.declared.event.PlainEvent.{PlainEvent}
use Rattle.plain_model.specs.declared.event.PlainEvent.TheVariants.{Commit, Tag}
use Rattle.plain_model.specs.Lookups.{id_of}
use Rattle.plain_model.specs.Paths.{Bytes}
use Rattle.squash_laws.specs.Removed.{is_removed}
use Rattle.plain_model.specs.declared.policy.Lean.TheVariants as lean
use Rattle.expunge_laws.specs.PushForward.{pushed_forward}
use Rattle.squash_laws.specs.Takings.{back_of, is_none}

-- neither a root nor a merge
abbrev pub has_one_parent : List ℕ → Bool
has_one_parent [] = false
has_one_parent (p ∷ []) = true
has_one_parent (p ∷ q ∷ parents) = false

-- the name of the tag that a commit with the mark becomes
abbrev pub tag_name : ℕ → Bytes
tag_name mark = codes "emptycommit-" ++ decimal mark

-- the name of the tag that an event becomes, if it is a commit
abbrev pub name_for : PlainEvent → Bytes
name_for (Commit id mark branch author committer encoding comment parents ops aliases) = tag_name mark
name_for other = []

-- a tag of the name
abbrev pub is_tag_named : Bytes → PlainEvent → Bool
is_tag_named name (Tag id own target tagger comment mark) = bytes_eq name own
is_tag_named name other = false

-- some tag has the name
abbrev pub has_tag_named : List PlainEvent → Bytes → Bool
has_tag_named events name = list_any (is_tag_named name) events

-- ---- which commits become tags

module _ (selected : List AnyId) where
  -- a selected commit that has no operation, and one parent
  abbrev pub becomes_tag : PlainEvent → Bool
  becomes_tag (Commit id mark branch author committer encoding comment parents ops aliases) =
      is_removed selected id && is_none ops && has_one_parent parents
  becomes_tag other = false

  -- these commits, in the order of the list
  abbrev pub tagged : List PlainEvent → List AnyId
  tagged events = map id_of (filter becomes_tag events)

-- ---- the tags

module _ (selected : List AnyId) (events : List PlainEvent) where
  -- back from a commit by first parents, to the first that becomes no tag; there always is one
  abbrev pub base_of : ℕ → ℕ
  base_of c = unwrap_or (back_of (tagged selected events) events c) c

  -- the tag that a commit becomes: it has the comment and the committer, and no mark; other events become none
  abbrev pub new_tag : ℕ → PlainEvent → PlainEvent
  new_tag number (Commit id mark branch author committer encoding comment parents ops aliases) =
      Tag number (tag_name mark) (base_of id) (Some committer) comment None
  new_tag number other = other

  -- with each tag directly after its commit; their ids have the numbers from the next one on
  abbrev pub with_tags : ℕ → List PlainEvent → List PlainEvent
  with_tags next [] = []
  with_tags next (e ∷ es) =
      if becomes_tag selected e then e ∷ new_tag next e ∷ with_tags (next + 1) es else e ∷ with_tags next es

  -- the commits are pushed forward, no comment is changed, and tags and resets of them go back
  abbrev pub tagified : ℕ → Result (List PlainEvent) (List PlainEvent)
  tagified next = pushed_forward events (tagged selected events) (with_tags next events) false lean.Back

  -- the first name, in the order of the list, that a tag has already
  abbrev pub taken_name : List PlainEvent → Option Bytes
  taken_name [] = None
  taken_name (e ∷ es) =
      if becomes_tag selected e && has_tag_named events (name_for e) then Some (name_for e) else taken_name es

-- a new history; settling always comes to its end
abbrev pub or_as_it_was : List PlainEvent → Result (List PlainEvent) (List PlainEvent) → Result (List PlainEvent) Fault
or_as_it_was events (Ok new) = Ok new
or_as_it_was events (Err never) = Ok events

-- the history after a `tagify` of the selected events, whose tags have ids from the next number on, or the name that is
-- taken
abbrev pub tagify_of : ℕ → List AnyId → List PlainEvent → Result (List PlainEvent) Fault
tagify_of next selected events = elim (taken_name selected events events) [
  | Some name ↦ Err (fault.NameTaken name)
  | None ↦ or_as_it_was events (tagified selected events next)
]
