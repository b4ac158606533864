use Rattle.std.proofs.Common.{◌≡◌, ◌∙◌, ◌<◌, [], Some, None, Option, List, ℕ, true, get_or, length, arith, ap, refl, subst, sym}
use Rattle.std.proofs.lemmas.List.{get_or_read, length-map}
use Rattle.graph_walk.specs.Entries.{IsThere, list_of}
use Rattle.graph_walk.specs.Joined.{AddsEntry, itself_at, with_all}
use Rattle.graph_walk.proofs.EntryLemmas.{entry_get, there_get}
use Rattle.graph_walk.proofs.FlagLemmas.{if_ok}
use Rattle.graph_walk.proofs.expansion.Expansions.add_to.Goals as goal

pub add_itself-requires : goal.add_itself-requires
add_itself-requires c =
    let low : c.args.place < length c.self.inside.entries = omega (arith, rw (← c.self.view_is, length-map) at c.requires) in
    let there : c.in-At.place < length c.self.inside.events.now.list =
    subst (IsThere (length c.self.inside.events.now.list) (length c.self.inside.lists.items)) c.in-At.is (there_get _ _ c.self.inside.entries c.args.place c.at.result low c.at.ensures c.self.invariant) in
    subst (λ s. c.in-At.place < length s.events) c.self.view_is there

pub returns-in-At : goal.returns-in-At
returns-in-At c =
    let low : c.args.place < length c.self.inside.entries = omega (arith, rw (← c.self.view_is, length-map) at c.requires) in
    let entry : get_or c.args.self.now.entries c.args.place None ≡ itself_at c.args.self.now.events c.in-At.place =
    ap (λ s. get_or s.entries c.args.place None) (sym c.self.view_is) ∙ entry_get c.self.inside.events.now.list c.self.inside.lists.items c.self.inside.entries c.args.place c.at.result low c.at.ensures ∙ ap (list_of c.self.inside.events.now.list c.self.inside.lists.items) c.in-At.is
    ∙ ap (λ s. itself_at s.events c.in-At.place) c.self.view_is in
    if_ok c.add_itself.result _ _ (λ added adds. subst (λ (o : Option (List ℕ)). AddsEntry o c.args.gathered.now c.add_itself.new.gathered added) (sym entry) adds) c.add_itself.ensures

pub index-requires : goal.index-requires
index-requires c =
    let low : c.args.place < length c.self.inside.entries = omega (arith, rw (← c.self.view_is, length-map) at c.requires) in
    let there : c.in-Many.at < length c.self.inside.lists.items =
    subst (IsThere (length c.self.inside.events.now.list) (length c.self.inside.lists.items)) c.in-Many.is (there_get _ _ c.self.inside.entries c.args.place c.at.result low c.at.ensures c.self.invariant) in
    omega (arith, c.self.inside.lists.ok.0)

pub returns-in_ok-add_all-in-Many : goal.returns-in_ok-add_all-in-Many
returns-in_ok-add_all-in-Many c =
    let lists = c.self.inside.lists.items in
    let low : c.args.place < length c.self.inside.entries = omega (arith, rw (← c.self.view_is, length-map) at c.requires) in
    let there : c.in-Many.at < length lists =
    subst (IsThere (length c.self.inside.events.now.list) (length lists)) c.in-Many.is (there_get _ _ c.self.inside.entries c.args.place c.at.result low c.at.ensures c.self.invariant) in
    let entry : get_or c.args.self.now.entries c.args.place None ≡ Some (get_or lists c.in-Many.at []) =
    ap (λ s. get_or s.entries c.args.place None) (sym c.self.view_is) ∙ entry_get c.self.inside.events.now.list lists c.self.inside.entries c.args.place c.at.result low c.at.ensures ∙ ap (list_of c.self.inside.events.now.list lists) c.in-Many.is in
    let list = c.as_slice.ensures ∙ get_or_read lists c.in-Many.at c.index.result.now there c.index.ensures [] in
    subst (λ (o : Option (List ℕ)). AddsEntry o c.args.gathered.now c.add_all.new.self true) (sym entry) (refl, c.in_ok-add_all-in-Many.ensures ∙ ap (with_all c.args.gathered.now) list)
