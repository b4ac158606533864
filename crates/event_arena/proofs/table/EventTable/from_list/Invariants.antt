use Rattle.std.proofs.Common.{◌≡◌, ◌≤◌, ◌++◌}
use Rattle.std.specs.Prelude.{IfSome}
use Rattle.event_arena.specs.Rows.{NameAll, events_of}
use Rattle.event_arena.specs.Weights.{weight_of}
use Rattle.event_arena.proofs.table.EventTable.from_list.Given as goal

-- the rows name the events so far, whose weight has a bound; they and those to come are the list
abbrev pub invariant-loop-event : goal.invariant-loop-event
invariant-loop-event l = record {
  whole : events_of l.stored.items ++ l.event-iterator.rest.items ≡ l.fn.list;
  named : NameAll (events_of l.stored.items) l.rows.items (events_of l.stored.items);
  bound : IfSome l.weight (λ most. weight_of (events_of l.stored.items) ≤ most);
}
