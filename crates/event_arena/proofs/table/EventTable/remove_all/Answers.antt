use Rattle.std.proofs.Common.{not, subst, sym}
use Rattle.plain_model.specs.Lookups.{id_of, is_listed}
use Rattle.event_arena.specs.Spent.{AddsNone}
use Rattle.event_arena.proofs.SpentLemmas.{adds_filter}
use Rattle.event_arena.proofs.table.EventTable.remove_all.Goals as goal

pub returns-clause-adds : goal.returns-clause-adds
returns-clause-adds c =
    subst (AddsNone c.args.self.now) (sym c.in_ok-self.ensures) (adds_filter (λ e. not (is_listed (id_of e) c.args.ids.now)) c.args.self.now)
