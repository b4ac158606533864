use Rattle.event_arena.proofs.ChainLemmas as chains
use Rattle.event_arena.proofs.links.Links.clear.Goals as goal

pub invariant_of-self : goal.invariant_of-self
invariant_of-self c = record {
  heads = rw (c.fill.ensures.items (λ y same. same), c.none.ensures) (chains.none_below _ _);
  back = rw c.clear.ensures.items tt;
}

pub returns-clause-empty : goal.returns-clause-empty
returns-clause-empty c = λ k. rw (c.fill.ensures.items (λ y same. same), c.none.ensures) (chains.no_chains _ _ k)
