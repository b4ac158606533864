-- Commits that are joined to a next one, and what becomes of the others.
use Rattle.std.specs.Prelude.{ℕ, ◌≡◌, ◌≤◌, Bool, true, false, ◌&&◌, bytes_eq, List, [], ◌∷◌, Option, Some, None, if◌then◌else◌, length, slice_get, slice_index_or, unwrap_or}
use Rattle.plain_model.specs.declared.id.AnyId.{AnyId}
use Rattle.plain_model.specs.declared.id.AnyId.TheVariants as any
use Rattle.plain_model.specs.declared.event.PlainEvent.{PlainEvent}
use Rattle.plain_model.specs.declared.event.PlainEvent.TheVariants.{Commit}
use Rattle.plain_model.specs.Histories.{Node}
use Rattle.plain_model.specs.Lookups.{commit_id, id_of, is_listed}
use Rattle.plain_model.specs.Soundness.{has_id}
use Rattle.history_laws.specs.Finding.{is_only}
use Rattle.manifest_cache.specs.Walks.{ops_at}
use Rattle.squash_laws.specs.Removed.{Takings, is_removed, parents_after}
use Rattle.squash_laws.specs.Takings.{forward_of}
use Rattle.plain_model.specs.declared.policy.Lean.TheVariants as lean
use Rattle.plan_steps.specs.Depths.{parents_at}
use Rattle.plan_steps.specs.Leaving.{event_after}
use Rattle.coalesce_laws.specs.Coalesce.{are_near, joined_ones}
use Rattle.expunge_laws.specs.PushForward.{forward_takes}

-- the item of a list of one
abbrev pub only_of : List ℕ → Option ℕ
only_of (d ∷ []) = Some d
only_of other = None

-- both commits are there and in the set, and the first is the only parent of the second, which has these parents
abbrev pub are_linked : List AnyId → List PlainEvent → ℕ → ℕ → List ℕ → Bool
are_linked set events c d parents =
    (has_id events (any.Commit c) && is_listed (any.Commit c) set)
    && (has_id events (any.Commit d) && is_listed (any.Commit d) set)
    && is_only c parents

-- branch, comment and committer agree
abbrev pub agree : ℕ → PlainEvent → PlainEvent → Bool
agree seconds (Commit c mark branch author committer encoding comment parents ops aliases) (Commit d mark2 branch2 author2 committer2 encoding2 comment2 parents2 ops2 aliases2) =
    bytes_eq branch branch2 && bytes_eq comment comment2 && are_near seconds committer committer2
agree seconds e other = false

-- the commit with the id, with its parents and its operations
abbrev pub commit_node : List PlainEvent → ℕ → Node
commit_node events c = record { id = c; parents = parents_at events c; ops = ops_at events c }

-- the first of these parents, if it is there and in the set
abbrev pub first_joined : List AnyId → List PlainEvent → List ℕ → Option ℕ
first_joined set events [] = None
first_joined set events (p ∷ ps) = if has_id events (any.Commit p) && is_listed (any.Commit p) set then Some p else None

-- ---- tags and resets

-- what the commits that stay take over
abbrev pub joins : List AnyId → List PlainEvent → Takings
joins set events = forward_takes set events false lean.Forward

-- the commit to which tags and resets of a commit go
abbrev pub end_of : List AnyId → List PlainEvent → ℕ → ℕ
end_of set events c = unwrap_or ((joins set events).target c) c

-- the set is that of all joined commits, for some selection
abbrev pub AreJoined : List AnyId → List PlainEvent → Type 0
AreJoined set events = (seconds : ℕ) × (sel : List AnyId) × (set ≡ joined_ones seconds sel events)

-- where a joined commit leads
abbrev pub EndIs : List AnyId → List PlainEvent → PlainEvent → Option ℕ → Type 0
EndIs set events e end = (c : ℕ) → commit_id e ≡ Some c → is_removed set c ≡ true → end ≡ forward_of set events c

-- a table has it for the joined commits from a place on
pub record AreEndsFrom (set : List AnyId) (events : List PlainEvent) (k : ℕ) (table : List (Option ℕ)) : Type 0 where
  pub count : length table ≡ length events
  pub entry : (j : ℕ) (e : PlainEvent) → slice_get events j ≡ Some e → k ≤ j → EndIs set events e (slice_index_or table j None)

-- ---- what becomes of an event

-- one of the set stays as it is; it is taken away later
abbrev pub joined_event : List AnyId → List PlainEvent → PlainEvent → PlainEvent
joined_event set events e =
    if is_listed (id_of e) set then e else event_after (parents_after set events (joins set events)) (joins set events) e
