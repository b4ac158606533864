-- `expunge`: a history without the matched paths, and without the commits that this empties (reposurgeon manual,
-- `expunge`; which commits are emptied: own).
use Rattle.std.specs.Prelude.{ℕ, Bool, true, false, not, ◌&&◌, List, [], ◌∷◌, filter, map, Result, unwrap_or}
use Rattle.plain_model.specs.declared.id.AnyId.{AnyId}
use Rattle.plain_model.specs.declared.fault.Fault.{Fault}
use Rattle.plain_model.specs.declared.operation.FileOp.{FileOp}
use Rattle.plain_model.specs.declared.event.PlainEvent.{PlainEvent}
use Rattle.plain_model.specs.declared.event.PlainEvent.TheVariants.{Blob, Commit, Tag, Reset, Pass}
use Rattle.plain_model.specs.Histories.{begun, tree}
use Rattle.plain_model.specs.Lookups.{id_of}
use Rattle.plain_model.specs.Paths.{Bytes}
use Rattle.squash_laws.specs.Takings.{is_none}
use Rattle.plain_model.specs.declared.policy.Lean.TheVariants as lean
use Rattle.expunge_laws.specs.PushForward.{pushed_forward, unless_limit}
use Rattle.expunge_laws.specs.Replaced.{replaced_all}

-- no parent, or one
abbrev pub is_no_merge : List ℕ → Bool
is_no_merge [] = true
is_no_merge (p ∷ []) = true
is_no_merge (p ∷ q ∷ parents) = false

module _ (matched : Bytes → Bool) (events : List PlainEvent) where
  -- the operations of a commit with these parents, replaced; its trees are those of the old history
  abbrev pub ops_left : List ℕ → List FileOp → List FileOp
  ops_left parents ops = replaced_all matched ops (unwrap_or (begun (tree events) parents) [])

  abbrev pub replaced_event : PlainEvent → PlainEvent
  replaced_event (Commit id mark branch author committer encoding comment parents ops aliases) =
      Commit id mark branch author committer encoding comment parents (ops_left parents ops) aliases
  replaced_event (Blob id mark bytes) = Blob id mark bytes
  replaced_event (Tag id name target tagger comment mark) = Tag id name target tagger comment mark
  replaced_event (Reset id branch target) = Reset id branch target
  replaced_event (Pass id line) = Pass id line

  -- each commit with its replaced operations
  abbrev pub replaced_events : List PlainEvent
  replaced_events = map replaced_event events

  -- a commit that had an operation, has none left, and is no merge
  abbrev pub is_emptied : PlainEvent → Bool
  is_emptied (Commit id mark branch author committer encoding comment parents ops aliases) =
      not (is_none ops) && is_none (ops_left parents ops) && is_no_merge parents
  is_emptied (Blob id mark bytes) = false
  is_emptied (Tag id name target tagger comment mark) = false
  is_emptied (Reset id branch target) = false
  is_emptied (Pass id line) = false

  abbrev pub emptied : List AnyId
  emptied = map id_of (filter is_emptied events)

  -- the emptied commits are pushed forward, and no comment is changed
  abbrev pub expunged : Result (List PlainEvent) (List PlainEvent)
  expunged = pushed_forward events emptied replaced_events false lean.Forward

  -- the history after an expunge, or the limit that it passes
  abbrev pub expunge_of : Result (List PlainEvent) Fault
  expunge_of = unless_limit events expunged
