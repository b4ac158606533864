use Rattle.std.proofs.Common.{◌∙◌, ap}
use Rattle.graph_walk.specs.Flags.{flag_at}
use Rattle.reparent_rebase.proofs.Descending.{flag_descends}
use Rattle.reparent_rebase.proofs.reparenting.is_flagged.Goals as goal

pub returns-in-Some : goal.returns-in-Some
returns-in-Some c set f =
    ap (flag_at c.args.flags.now) c.in-Some.ensures.place ∙ flag_descends c.args.events.now.list set c.args.commit c.args.flags.now f

pub returns-in-None : goal.returns-in-None
returns-in-None c set f =
    ap (flag_at c.args.flags.now) c.in-None.ensures.place ∙ flag_descends c.args.events.now.list set c.args.commit c.args.flags.now f
