use Rattle.std.proofs.Common.{◌<◌, ◌∙◌, ap, arith, length, refl, reverse, sym, None}
use Rattle.std.proofs.Math.ListN.{set}
use Rattle.std.proofs.lemmas.List.{get_or_read, length-map, map-set}
use Rattle.std.specs.Prelude.{map}
use Rattle.event_arena.specs.Chains.{follow, chain_at}
use Rattle.event_arena.proofs.ChainLemmas as chains
use Rattle.event_arena.proofs.links.Links.copy.Goals as goal

pub invariant_of-self : goal.invariant_of-self
invariant_of-self c =
    let heads = c.self.inside.heads.items in
    let there : c.args.from < length heads = omega (arith, rw (← c.self.view_is, length-map) at c.requires.there) in
    let head = get_or_read heads _ _ there c.index.ensures None in
    let below = c.self.invariant.heads in
    record { heads = rw head (chains.all_below_set _ heads c.args.to _ below (chains.below_get _ heads c.args.from below)); back = c.self.invariant.back }

pub returns-clause-lists : goal.returns-clause-lists
returns-clause-lists c =
    let heads = c.self.inside.heads.items in
    let there : c.args.from < length heads = omega (arith, rw (← c.self.view_is, length-map) at c.requires.there) in
    let head = get_or_read heads _ _ there c.index.ensures None in
    let chain = follow (chain_at (reverse c.self.inside.links.items)) in
    rw (← c.self.view_is)
    (map-set chain heads c.args.to _ ∙ ap (set (map chain heads) c.args.to) (ap chain head ∙ sym (chains.get_map chain refl heads c.args.from)))
