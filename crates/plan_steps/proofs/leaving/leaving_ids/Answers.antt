use Rattle.std.proofs.Common.{◌≡◌, ◌∙◌, ◌∷◌, [], ◌+◌, ◌<◌, List, true, false, cond, length, filter, map, add-one, append-nil, arith, ap, sym}
use Rattle.std.specs.Prelude.{slice_get}
use Rattle.plain_model.specs.declared.id.AnyId.{AnyId}
use Rattle.plain_model.specs.declared.event.PlainEvent.{PlainEvent}
use Rattle.plain_model.specs.Lookups.{id_of}
use Rattle.history_laws.proofs.Lists.{item_at}
use Rattle.event_arena.proofs.ListLemmas.{take_all}
use Rattle.plan_steps.specs.Leaving.{goes}
use Rattle.plan_steps.proofs.NearPlaces.{GoingTo, going_over}
use Rattle.plan_steps.proofs.SweepLemmas.{passing_item}
use Rattle.plan_steps.proofs.leaving.leaving_ids.Goals as goal
use Rattle.plan_steps.proofs.leaving.leaving_ids.Goals.{then-goes+in_ok-push, else-goes}

pub loop-place-init : goal.loop-place-init
loop-place-init c =
    let near = c.next_near-place.ensures in
    record {
      within = near.within;
      going = going_over c.args.removal.now.set c.args.removal.now.events c.args.targets.now c.in_ok-ids.ids 0 c.next_near-place.result near.later near.within near.apart
          (λ takes t. c.in_ok-ids.ensures);
    }

pub loop-place-preserved : goal.loop-place-preserved
loop-place-preserved c =
    let events = c.args.removal.now.events in
    let set = c.args.removal.now.set in
    let place = c.loop-place.place in
    let near = c.next_near-place-in-loop-place.ensures in
    let within : place < length events = let test = c.loop-place-test.true in let count = c.count-count.ensures.count in omega arith in
    let one_more : GoingTo set events c.args.targets.now c.if-goes.ids (place + 1) =
    λ takes t. elim c.if-goes.branch [
      | then-goes+in_ok-push w ↦
          let at = w.id_at.ensures in
          let e = at.0 in
          let here = ap (λ es. slice_get es place) (sym w.list.ensures) ∙ at.1 in
          let test : goes set takes e ≡ true = sym (c.goes.ensures takes e t here) ∙ w.if-goes.true in
          w.ids-is ∙ w.in_ok-push.ensures.ok
          ∙ rw add-one (passing_item (goes set takes) events place e c.loop-place.ids (w.id_at.result ∷ []) here (c.loop-place.invariant.going takes t)
          (ap (λ (id : AnyId). id ∷ []) at.2 ∙ sym (ap (λ b. cond b (id_of e ∷ []) []) test)))
      | else-goes w ↦
          let item = item_at events place within in
          let test : goes set takes item.0 ≡ false = sym (c.goes.ensures takes item.0 t item.1) ∙ w.if-goes.false in
          w.ids-is ∙ sym (append-nil c.loop-place.ids)
          ∙ rw add-one (passing_item (goes set takes) events place item.0 c.loop-place.ids [] item.1 (c.loop-place.invariant.going takes t)
          (sym (ap (λ b. cond b (id_of item.0 ∷ []) []) test)))
    ] in
    record {
      within = near.within;
      going = going_over set events c.args.targets.now c.if-goes.ids (place + 1) c.next_near-place-in-loop-place.result near.later near.within near.apart one_more;
    }

pub returns : goal.returns
returns c takes t =
    let events = c.args.removal.now.events in
    c.loop-place.invariant.going takes t
    ∙ ap (λ (es : List PlainEvent). map id_of (filter (goes c.args.removal.now.set takes) es))
    (take_all events c.loop-place.place (let all = c.loop-place-test.false in let count = c.count-count.ensures.count in omega arith))
