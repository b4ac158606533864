use Rattle.std.proofs.Common.{sym}
use Rattle.event_sets.proofs.SetLemmas.{mark_there}
use Rattle.event_sets.proofs.set.EventSet.marked.Goals as goal

pub one-requires : goal.one-requires
one-requires c = mark_there c.args.events.now.list c.args.mark c.in-Some.id (sym c.in-Some.ensures)
