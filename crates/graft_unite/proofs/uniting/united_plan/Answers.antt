use Rattle.graft_unite.proofs.OrderLemmas.{good_places}
use Rattle.graft_unite.specs.Ages.{part_at}
use Rattle.std.proofs.Common.{map}
use Rattle.graft_unite.proofs.UniteLemmas.{parents_before}
use Rattle.graft_unite.proofs.uniting.united_plan.Goals as goal

pub judge-requires-clause-earlier : goal.judge-requires-clause-earlier
judge-requires-clause-earlier c =
    parents_before c.args.prune c.in-Ok.plan.after c.args.base.now.list (map (part_at c.args.parts.now) c.args.places.now) c.count-count.ensures.sound
    (good_places c.args.parts.now c.args.places.now c.requires.within c.requires.parts) c.in-Ok.ensures.joined
