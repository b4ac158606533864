use Rattle.std.proofs.Common.{◌≡◌, ◌∙◌, ◌<◌, List, Some, false, length, arith, ap, subst, sym}
use Rattle.std.specs.Prelude.{IsSome, is_some}
use Rattle.std.proofs.lemmas.List.{get_or_read}
use Rattle.plain_model.specs.declared.event.PlainEvent.{PlainEvent}
use Rattle.plain_model.specs.declared.id.AnyId.TheVariants as any
use Rattle.plain_model.specs.Lookups.{find_event, is_listed, place_of}
use Rattle.graph_walk.proofs.ParentLemmas.{found_place}
use Rattle.graph_walk.proofs.PlaceLemmas.{event_placed, place_within}
use Rattle.plan_steps.specs.Chosen.{Chosen}
use Rattle.plan_steps.proofs.selection.Selected.has.Goals as goal

pub unwrap-place-requires : goal.unwrap-place-requires
unwrap-place-requires c =
    let events = c.self.inside.list.now in
    let list : events ≡ c.args.self.now.events = ap (λ (r : Chosen). r.events) c.self.view_is in
    ap is_some c.place.ensures.place
    ∙ found_place events (any.Commit c.args.commit) (subst (λ (es : List PlainEvent). IsSome (find_event (any.Commit c.args.commit) es)) (sym list) c.requires)

pub returns : goal.returns
returns c =
    let events = c.self.inside.list.now in
    let flags = c.self.inside.flags.items in
    let k = c.unwrap-place.result in
    let there : place_of (any.Commit c.args.commit) events ≡ Some k = sym c.place.ensures.place ∙ c.unwrap-place.ensures in
    let p = event_placed events (any.Commit c.args.commit) k there in
    let low : k < length flags = let within = place_within events (any.Commit c.args.commit) k there in let count = c.self.invariant.own.count in omega arith in
    get_or_read flags k c.index.result.now low c.index.ensures false ∙ c.self.invariant.own.flag k p.event p.at
    ∙ ap (λ id. is_listed id c.self.inside.set) (sym p.own)
    ∙ ap (λ (r : Chosen). is_listed (any.Commit c.args.commit) r.set) c.self.view_is
