use Rattle.reorder_laws.proofs.ReorderDone.{done_aliases, done_events, done_marks, done_operations}
use Rattle.reorder_laws.proofs.laws.nothing_is_added.Goals as goal

pub returns : goal.returns
returns c = record { events = done_events; operations = done_operations; aliases = done_aliases; marks = done_marks }
