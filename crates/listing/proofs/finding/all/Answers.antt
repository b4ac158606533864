use Rattle.std.proofs.Common.{◌∙◌, Some, ap, sym, map, arith}
use Rattle.std.specs.Prelude.{option_map}
use Rattle.plain_model.specs.Lookups.{id_of}
use Rattle.std.proofs.lemmas.List.{length-map}
use Rattle.listing.proofs.Found.{get_map}
use Rattle.listing.proofs.Lines.{begun_by_all, begun_by_one}
use Rattle.listing.proofs.finding.all.Goals as goal

pub loop-place-preserved : goal.loop-place-preserved
loop-place-preserved c =
    let list = c.args.events.now.list in
    let place = c.loop-place.place in
    let here = get_map id_of list place ∙ ap (option_map id_of) c.nth.ensures.event ∙ ap Some (sym c.id.ensures) in
    begun_by_one (map id_of list) place c.id.result c.loop-place.ids c.push.new.self here c.in_ok-push.ensures.ok c.loop-place.invariant

pub returns : goal.returns
returns c =
    let list = c.args.events.now.list in
    begun_by_all (map id_of list) c.loop-place.place c.loop-place.ids (omega (arith, length-map list id_of)) c.loop-place.invariant
