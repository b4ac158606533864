use Rattle.std.proofs.Common.{subst, sym}
use Rattle.plain_model.specs.Lookups.{id_of}
use Rattle.event_arena.specs.Spent.{AddsOnly}
use Rattle.event_arena.proofs.SpentLemmas.{adds_put_after}
use Rattle.event_arena.proofs.table.EventTable.insert_after.Goals as goal

pub returns-clause-adds : goal.returns-clause-adds
returns-clause-adds c =
    subst (AddsOnly (id_of c.args.event) c.args.self.now) (sym c.in_ok-self.ensures) (adds_put_after c.args.id c.args.event c.args.self.now)
