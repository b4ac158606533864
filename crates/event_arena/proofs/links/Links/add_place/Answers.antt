use Rattle.event_arena.proofs.ChainLemmas as chains
use Rattle.event_arena.proofs.links.Links.add_place.Goals as goal

pub invariant_of-self : goal.invariant_of-self
invariant_of-self c = record {
  heads = rw (c.push_reserved.ensures.items, c.none.ensures) (chains.all_below_push _ _ c.self.invariant.heads);
  back = c.self.invariant.back;
}

pub returns-clause-lists : goal.returns-clause-lists
returns-clause-lists c = rw (← c.self.view_is, c.push_reserved.ensures.items, c.none.ensures) (chains.map_push _ _ _)
