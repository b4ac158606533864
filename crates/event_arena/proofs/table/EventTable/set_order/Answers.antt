use Rattle.std.proofs.Common.{subst, sym}
use Rattle.event_arena.specs.Spent.{AddsNone}
use Rattle.event_arena.proofs.SpentLemmas.{adds_in_order}
use Rattle.event_arena.proofs.table.EventTable.set_order.Goals as goal

pub returns-clause-adds : goal.returns-clause-adds
returns-clause-adds c = subst (AddsNone c.args.self.now) (sym c.in_ok-self.ensures) (adds_in_order c.args.order.now c.args.self.now)
