use Rattle.std.proofs.Common.{◌<◌, length, arith}
use Rattle.std.proofs.lemmas.List.{length-map}
use Rattle.graph_walk.proofs.EntryLemmas.{there_get, there_tried}
use Rattle.graph_walk.proofs.expansion.Expansions.push_same.Goals as goal

pub at-requires : goal.at-requires
at-requires c = omega (arith, rw (← c.self.view_is, length-map) at c.requires)

pub invariant_of-self : goal.invariant_of-self
invariant_of-self c =
    let low : c.args.place < length c.self.inside.entries = omega (arith, rw (← c.self.view_is, length-map) at c.requires) in
    there_tried _ _ c.self.inside.entries c.push.new.self _ _ c.push.ensures c.self.invariant
    (there_get _ _ c.self.inside.entries c.args.place c.at.result low c.at.ensures c.self.invariant)
