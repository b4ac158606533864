-- `coalesce`: a commit becomes part of the next one, which goes on with the same work (reposurgeon manual, `coalesce`;
-- which commits are joined: own).
use Rattle.std.specs.Prelude.{ℕ, ◌-◌, Bool, false, ◌&&◌, nat_le, bytes_eq, List, filter, map, max, min, Result, Ok, Err}
use Rattle.std.specs.List.{list_any}
use Rattle.plain_model.specs.declared.id.AnyId.{AnyId}
use Rattle.plain_model.specs.declared.id.AnyId.TheVariants as any
use Rattle.plain_model.specs.declared.person.Signed.{Signed}
use Rattle.plain_model.specs.declared.event.PlainEvent.{PlainEvent}
use Rattle.plain_model.specs.declared.event.PlainEvent.TheVariants.{Commit}
use Rattle.plain_model.specs.Lookups.{children_of, id_of, is_listed}
use Rattle.history_laws.specs.Finding.{is_only}
use Rattle.plain_model.specs.declared.policy.Lean.TheVariants as lean
use Rattle.expunge_laws.specs.PushForward.{pushed_forward}

-- the same name and email, and at most so many seconds between the two
abbrev pub are_near : ℕ → Signed → Signed → Bool
are_near seconds a b =
    bytes_eq a.person.name b.person.name && bytes_eq a.person.email b.person.email
    && nat_le (max a.when.seconds b.when.seconds - min a.when.seconds b.when.seconds) seconds

module _ (seconds : ℕ) (set : List AnyId) (events : List PlainEvent) where
  -- the first commit is joined to the second one: both are selected, each is the only parent or child of the other, and
  -- branch, comment and committer agree
  abbrev pub is_joined_to : PlainEvent → PlainEvent → Bool
  is_joined_to (Commit c mark branch author committer encoding comment parents ops aliases) (Commit d mark2 branch2 author2 committer2 encoding2 comment2 parents2 ops2 aliases2) =
      is_listed (any.Commit c) set && is_listed (any.Commit d) set
      && is_only c parents2 && is_only d (children_of c events)
      && bytes_eq branch branch2 && bytes_eq comment comment2 && are_near seconds committer committer2
  is_joined_to e other = false

  -- the commits that are joined to a next one
  abbrev pub joined_ones : List AnyId
  joined_ones = map id_of (filter (λ e. list_any (is_joined_to e) events) events)

  -- they are pushed forward, and no comment is changed
  abbrev pub coalesced : Result (List PlainEvent) (List PlainEvent)
  coalesced = pushed_forward events joined_ones events false lean.Forward

  -- the history afterwards; settling always comes to its end, and nothing is refused
  abbrev pub coalesce_of : List PlainEvent
  coalesce_of = elim coalesced [ Ok new ↦ new | Err never ↦ events ]
