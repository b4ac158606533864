use Rattle.std.proofs.Common.{List}
use Rattle.std.specs.VecDeque.{deque_len}
use Rattle.plain_model.specs.declared.event.PlainEvent.{PlainEvent}
use Rattle.stream_builder.specs.Keeping.{AreEarlier}
use Rattle.stream_builder.proofs.draft_trees.kept_trees.KeptTrees.make_room.Given as goal

abbrev pub invariant-loop-self : goal.invariant-loop-self
invariant-loop-self l = (events : List PlainEvent) → AreEarlier events l.fn.self → AreEarlier events l.self

abbrev pub decreases-loop-self : goal.decreases-loop-self
decreases-loop-self l = deque_len l.self.in_turn
