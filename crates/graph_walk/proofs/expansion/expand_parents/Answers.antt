use Rattle.std.proofs.Common.{◌≡◌, ◌∙◌, [], Some, Option, length, arith, ap, sym}
use Rattle.std.proofs.lemmas.Option.{same_Some}
use Rattle.std.specs.Option.{option_map_or}
use Rattle.std.specs.Prelude.{is_some}
use Rattle.plain_model.specs.Lookups.{event_parents, find_event}
use Rattle.plain_model.specs.declared.event.PlainEvent.{PlainEvent}
use Rattle.plain_model.specs.declared.id.AnyId.TheVariants as any
use Rattle.history_laws.proofs.SoundOnce.{sound_once}
use Rattle.graph_walk.specs.Expansions.{new_parents}
use Rattle.graph_walk.specs.Joined.{kept}
use Rattle.graph_walk.proofs.ExpansionLemmas.{parents_placed}
use Rattle.graph_walk.proofs.ParentLemmas.{found_place, joined_parents, place_event, placed_within}
use Rattle.std.proofs.lemmas.Option.{slice_get_within}
use Rattle.graph_walk.proofs.expansion.expand_parents.Goals as goal

pub unwrap-place-requires : goal.unwrap-place-requires
unwrap-place-requires c =
    ap is_some c.place.ensures.place ∙ found_place c.args.events.now.list (any.Commit c.args.id) c.requires

pub expand-requires : goal.expand-requires
expand-requires c =
    let events = c.args.events.now.list in
    let placed = parents_placed events c.unwrap-place.result c.nth.result.now c.count-count.ensures.sound c.nth.ensures.event in
    let low = slice_get_within events c.unwrap-place.result c.nth.result.now c.nth.ensures.event in
    let count = c.in_ok-made.ensures.expansions.count in
    placed_within events c.unwrap-place.result (length c.in_ok-made.made.entries) (omega arith) (event_parents c.nth.result.now) placed

pub unwrap-list-requires : goal.unwrap-list-requires
unwrap-list-requires c =
    let events = c.args.events.now.list in
    let sound = c.count-count.ensures.sound in
    let once = (sound_once events sound).ids in
    let list = new_parents events c.args.removed.now (event_parents c.nth.result.now) in
    let is : c.in_ok-expand.field-0 ≡ Some list =
    c.in_ok-expand.ensures ∙ joined_parents events sound once c.args.removed.now c.in_ok-made.made c.in_ok-made.ensures.expansions c.unwrap-place.result c.nth.result.now c.nth.ensures.event ∙ ap (λ b. kept b list) c.in_ok-made.ensures.bounded in
    ap is_some is

pub returns : goal.returns
returns c =
    let events = c.args.events.now.list in
    let sound = c.count-count.ensures.sound in
    let once = (sound_once events sound).ids in
    let e = c.nth.result.now in
    let list = new_parents events c.args.removed.now (event_parents e) in
    let is : c.in_ok-expand.field-0 ≡ Some list =
    c.in_ok-expand.ensures ∙ joined_parents events sound once c.args.removed.now c.in_ok-made.made c.in_ok-made.ensures.expansions c.unwrap-place.result e c.nth.ensures.event ∙ ap (λ b. kept b list) c.in_ok-made.ensures.bounded in
    let found : find_event (any.Commit c.args.id) events ≡ Some e = place_event events (any.Commit c.args.id) c.unwrap-place.result e once (sym c.place.ensures.place ∙ c.unwrap-place.ensures) c.nth.ensures.event in
    same_Some c.unwrap-list.result list (sym c.unwrap-list.ensures ∙ is)
    ∙ ap (λ (o : Option PlainEvent). new_parents events c.args.removed.now (option_map_or event_parents o [])) (sym found)
