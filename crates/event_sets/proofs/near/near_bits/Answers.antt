use Rattle.std.proofs.Common.{◌∙◌, ◌++◌, ◌∷◌, ◌<◌, [], suc, add-one, ap, length, sym, arith}
use Rattle.std.specs.Prelude.{flat_map}
use Rattle.plain_model.specs.Lookups.{id_of, is_listed}
use Rattle.history_laws.proofs.Lists.{item_at}
use Rattle.graph_walk.proofs.EntryLemmas.{length_more}
use Rattle.event_sets.specs.Sets.{around, members}
use Rattle.event_sets.proofs.SetLemmas.{map_more}
use Rattle.event_sets.proofs.near.near_bits.Goals as goal

pub loop-place-preserved : goal.loop-place-preserved
loop-place-preserved c =
    let es = c.args.events.now.list in
    let k = c.loop-place.place in
    let count = c.count-place-end.ensures.count in
    let test = c.loop-place-test.true in
    let low : k < length es = omega arith in
    let item = item_at es k low in
    rw add-one (record {
      count = ap length c.in_ok-push.ensures.items ∙ length_more c.loop-place.near.items c.is_near.result
          ∙ ap suc c.loop-place.invariant.count;
      near = λ ids tied live.
          c.in_ok-push.ensures.items
          ∙ (λ i. c.loop-place.invariant.near ids tied live i ++ c.is_near.ensures ids tied live
          (c.as_slice.ensures.value ∙ c.in_ok-links.ensures.links ids tied) item.0 item.1 i ∷ [])
          ∙ sym (map_more (λ e. is_listed (id_of e) (flat_map (around es) (members es ids))) es k item.0 item.1);
    })
