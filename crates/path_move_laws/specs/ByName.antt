-- Histories whose operations are mapped without a look at any tree. (own)
use Rattle.std.specs.Prelude.{◌≡◌, List, map, None, IsTrue}
use Rattle.std.specs.List.{AllByRecursion}
use Rattle.plain_model.specs.declared.event.PlainEvent.{PlainEvent}
use Rattle.plain_model.specs.declared.operation.FileOp.{FileOp}
use Rattle.plain_model.specs.Lookups.{event_ops}
use Rattle.plain_model.specs.Paths.{Bytes}
use Rattle.path_move_laws.specs.MovedOps.{mapped_op, names_paths}
use Rattle.path_move_laws.specs.Moves.{first_of, moved_events, with_ops_for}

module _ (f : Bytes → Bytes) where
  -- an event whose operations are at the images of their paths
  abbrev pub named_event : PlainEvent → PlainEvent
  named_event e = with_ops_for (λ parents ops. map (mapped_op f) ops) e

  -- what an operation says for paths are paths after it is mapped
  abbrev pub IsNamed : FileOp → Type 0
  IsNamed op = IsTrue (names_paths (mapped_op f op))

  -- each operation goes by its name, and no tree has a fault
  pub record GoesByName (events : List PlainEvent) : Type 0 where
    pub calm : first_of f events events ≡ None
    pub moved : moved_events f events ≡ map named_event events
    pub named : AllByRecursion (λ e. AllByRecursion IsNamed (event_ops e)) events
