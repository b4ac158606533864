use Rattle.std.proofs.Common.{None}
use Rattle.std.proofs.lemmas.List.{map-set}
use Rattle.event_arena.proofs.ChainLemmas as chains
use Rattle.event_arena.proofs.links.Links.forget.Goals as goal

pub invariant_of-self : goal.invariant_of-self
invariant_of-self c = record {
  heads = rw c.none.ensures (chains.all_below_set _ _ c.args.place None c.self.invariant.heads tt);
  back = c.self.invariant.back;
}

pub returns-clause-lists : goal.returns-clause-lists
returns-clause-lists c = rw (← c.self.view_is, c.none.ensures) (map-set _ _ _ _)
