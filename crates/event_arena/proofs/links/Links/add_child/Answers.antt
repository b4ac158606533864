use Rattle.std.proofs.Common.{◌≡◌, ◌<◌, suc, arith, rules, ap, ◌∙◌, None, Some, length, length-append, refl}
use Rattle.event_arena.specs.LinkPlaces.{last_of}
use Rattle.event_arena.proofs.ChainLemmas as chains
use Rattle.std.proofs.lemmas.List.{length-map, get_or_read}
use Rattle.event_arena.proofs.links.Links.add_child.Goals as goal

pub invariant_of-self : goal.invariant_of-self
invariant_of-self c =
    let links = c.self.inside.links.items in
    let within : c.args.place < length c.self.inside.heads.items = omega (arith, rw (← c.self.view_is, length-map) at c.requires.within) in
    let next = get_or_read c.self.inside.heads.items _ _ within c.index-next.ensures None in
    let all_links : c.len.result ≡ length c.push_reserved.new.self.items = search rules in
    let size : c.len.result ≡ suc (length links) = all_links ∙ ap length c.push_reserved.ensures.items ∙ length-append links _ ∙ omega arith in
    let last : c.last_of.result ≡ Some (length links) = c.last_of.ensures ∙ ap last_of size in
    let all = chains.added links c.push_reserved.new.self.items c.self.inside.heads.items c.args.place (length links) _ c.push_reserved.ensures.items refl next within c.self.invariant.heads c.self.invariant.back in
    record { heads = rw last all.0; back = all.1 }

pub returns-clause-lists : goal.returns-clause-lists
returns-clause-lists c =
    let links = c.self.inside.links.items in
    let within : c.args.place < length c.self.inside.heads.items = omega (arith, rw (← c.self.view_is, length-map) at c.requires.within) in
    let next = get_or_read c.self.inside.heads.items _ _ within c.index-next.ensures None in
    let all_links : c.len.result ≡ length c.push_reserved.new.self.items = search rules in
    let size : c.len.result ≡ suc (length links) = all_links ∙ ap length c.push_reserved.ensures.items ∙ length-append links _ ∙ omega arith in
    let last : c.last_of.result ≡ Some (length links) = c.last_of.ensures ∙ ap last_of size in
    let all = chains.added links c.push_reserved.new.self.items c.self.inside.heads.items c.args.place (length links) _ c.push_reserved.ensures.items refl next within c.self.invariant.heads c.self.invariant.back in
    rw (← c.self.view_is, last) all.2
