use Rattle.std.proofs.Common.{◌<◌, sym, arith, refl, None, length, reverse}
use Rattle.event_arena.specs.Chains.{follow, chain_at}
use Rattle.event_arena.proofs.ChainLemmas as chains
use Rattle.std.proofs.lemmas.List.{length-map, get_or_read}
use Rattle.event_arena.proofs.links.Links.children.Goals as goal

pub invariant_of-result : goal.invariant_of-result
invariant_of-result c =
    let within : c.args.place < length c.self.inside.heads.items = omega (arith, rw (← c.self.view_is, length-map) at c.requires) in
    let at = get_or_read c.self.inside.heads.items _ _ within c.index.ensures None in
    record { here = rw (c.as_slice.ensures.value, at) (chains.below_get _ _ _ c.self.invariant.heads); back = rw c.as_slice.ensures.value c.self.invariant.back }

pub returns : goal.returns
returns c =
    let within : c.args.place < length c.self.inside.heads.items = omega (arith, rw (← c.self.view_is, length-map) at c.requires) in
    let at = get_or_read c.self.inside.heads.items _ _ within c.index.ensures None in
    rw (← c.self.view_is, c.as_slice.ensures.value, at) (sym (chains.get_map (follow (chain_at (reverse c.self.inside.links.items))) refl c.self.inside.heads.items c.args.place))
