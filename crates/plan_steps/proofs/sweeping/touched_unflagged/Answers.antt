use Rattle.std.proofs.Common.{◌≡◌, ◌∙◌, ◌++◌, List, true, filter, take, suc, add-one, ap, arith, flat_map, sym}
use Rattle.std.proofs.lemmas.List.Elements.{filter-append}
use Rattle.std.specs.Prelude.{slice_get}
use Rattle.plain_model.specs.Lookups.{op_blobs}
use Rattle.plain_model.specs.declared.event.PlainEvent.{PlainEvent}
use Rattle.history_laws.proofs.Lists.{item_at}
use Rattle.plan_steps.specs.Flags.{event_blobs, has_flag, is_unflagged}
use Rattle.plan_steps.proofs.SweepLemmas.{filter_in, filter_out, flat_push, touched_here}
use Rattle.plan_steps.proofs.sweeping.touched_unflagged.Goals as goal
use Rattle.plan_steps.proofs.sweeping.touched_unflagged.Goals.{then-touched-place+in_ok-push_unflagged, else-touched-place}

pub loop-place-preserved : goal.loop-place-preserved
loop-place-preserved c =
    let old = c.args.plan.now.before in
    let test = has_flag c.args.touched.now old in
    let off = is_unflagged c.args.flags.now old in
    let place = c.loop-place.place in
    let once = c.old_count-place-end.ensures.once in
    let so_far = filter test (take place old) in
    rw add-one (elim c.if-touched-place.branch [
      | then-touched-place+in_ok-push_unflagged w ↦
          let at = w.ops_at.ensures in
          let e = at.0 in
          let here = ap (λ (es : List PlainEvent). slice_get es place) (sym c.before-old.ensures) ∙ at.1 in
          let is : test e ≡ true = touched_here c.args.touched.now old once place e here ∙ w.if-touched-place.true in
          let more : filter off (flat_map event_blobs (filter test (take (suc place) old))) ≡ filter off (flat_map event_blobs so_far) ++ filter off (event_blobs e) =
          ap (λ (es : List PlainEvent). filter off (flat_map event_blobs es)) (filter_in test old place e here is)
          ∙ ap (filter off) (flat_push event_blobs so_far e) ∙ filter-append off (flat_map event_blobs so_far) (event_blobs e) in
          w.ids-is ∙ w.in_ok-push_unflagged.ensures
          ∙ (λ i. c.loop-place.invariant i ++ filter (is_unflagged c.args.flags.now (c.before-old.ensures i)) (flat_map op_blobs (at.2 i)))
          ∙ sym more
      | else-touched-place w ↦
          let item = item_at old place (let test = c.loop-place-test.true in let count = c.old_count-place-end.ensures.count in omega arith) in
          w.ids-is ∙ c.loop-place.invariant
          ∙ ap (λ (es : List PlainEvent). filter off (flat_map event_blobs es)) (sym (filter_out test old place item.0 item.1
          (touched_here c.args.touched.now old once place item.0 item.1 ∙ w.if-touched-place.false)))
    ])
