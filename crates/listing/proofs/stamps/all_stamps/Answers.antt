use Rattle.std.proofs.Common.{◌∷◌, ◌++◌, [], ◌∙◌, ap, add-one, take}
use Rattle.event_arena.proofs.ListLemmas.{take_item}
use Rattle.listing.proofs.StampLemmas.{ranked_by_one}
use Rattle.listing.proofs.stamps.all_stamps.Goals as goal

pub loop-place-preserved : goal.loop-place-preserved
loop-place-preserved c =
    let list = c.args.events.now.list in
    let k = c.loop-place.place in
    let e = c.event_at.result.now in
    let at = c.event_at.ensures.event in
    let was = c.loop-place.invariant in
    let put_on = c.in_ok-push.ensures.ok ∙ ap (λ n. c.loop-place.ranks ++ n ∷ []) (c.in_ok-which.ensures.which (take k list) was.counts) in
    record {
      counts = rw (add-one, take_item list k e at) (c.in_ok-which.ensures.counts (take k list) was.counts);
      ranks = ranked_by_one list k e c.loop-place.ranks c.push.new.self at put_on was.ranks;
    }
