use Rattle.std.proofs.Common.{◌∙◌, subst, sym}
use Rattle.event_arena.specs.Spent.{AddsNone}
use Rattle.event_arena.proofs.DistinctLemmas.{without_one}
use Rattle.event_arena.proofs.SpentLemmas.{adds_without}
use Rattle.event_arena.proofs.table.EventTable.remove.Goals as goal

pub returns-clause-ok : goal.returns-clause-ok
returns-clause-ok c = c.in_ok-self.ensures ∙ without_one c.args.id c.args.self.now c.count-count.ensures.once

pub returns-clause-adds : goal.returns-clause-adds
returns-clause-adds c =
    subst (AddsNone c.args.self.now) (sym (c.in_ok-self.ensures ∙ without_one c.args.id c.args.self.now c.count-count.ensures.once)) (adds_without c.args.id c.args.self.now)
