use Rattle.std.proofs.Common.{◌≡◌, ◌∙◌, ◌∷◌, [], ◌<◌, List, true, false, cond, length, filter, map, add-one, append-nil, arith, ap, sym}
use Rattle.plain_model.specs.declared.id.AnyId.{AnyId}
use Rattle.plain_model.specs.declared.event.PlainEvent.{PlainEvent}
use Rattle.plain_model.specs.Lookups.{id_of}
use Rattle.history_laws.proofs.Lists.{item_at}
use Rattle.event_arena.proofs.ListLemmas.{take_all}
use Rattle.plan_steps.proofs.SweepLemmas.{passing_item}
use Rattle.coalesce_simplify.proofs.Joins.{passes}
use Rattle.coalesce_simplify.proofs.joining.joined_ones.Goals as goal
use Rattle.coalesce_simplify.proofs.joining.joined_ones.Goals.{then-is_joined_at+in_ok-push, else-is_joined_at}

pub loop-place-preserved : goal.loop-place-preserved
loop-place-preserved c =
    let events = c.args.chosen.now.events in
    let test = passes c.args.seconds c.args.chosen.now.set events in
    let place = c.loop-place.place in
    let within : place < length events = let lower = c.loop-place-test.true in let count = c.count-place-end.ensures.count in omega arith in
    elim c.if-is_joined_at.branch [
      | then-is_joined_at+in_ok-push w ↦
          let e = w.nth.result.now in
          let is : test e ≡ true = sym (c.is_joined_at.ensures e w.nth.ensures.event) ∙ w.if-is_joined_at.true in
          w.ids-is ∙ w.in_ok-push.ensures.ok
          ∙ rw add-one (passing_item test events place e c.loop-place.ids (w.id.result ∷ []) w.nth.ensures.event c.loop-place.invariant
          (ap (λ (id : AnyId). id ∷ []) w.id.ensures ∙ sym (ap (λ b. cond b (id_of e ∷ []) []) is)))
      | else-is_joined_at w ↦
          let item = item_at events place within in
          let is : test item.0 ≡ false = sym (c.is_joined_at.ensures item.0 item.1) ∙ w.if-is_joined_at.false in
          w.ids-is ∙ sym (append-nil c.loop-place.ids)
          ∙ rw add-one (passing_item test events place item.0 c.loop-place.ids [] item.1 c.loop-place.invariant
          (sym (ap (λ b. cond b (id_of item.0 ∷ []) []) is)))
    ]

pub returns : goal.returns
returns c =
    let events = c.args.chosen.now.events in
    c.loop-place.invariant
    ∙ ap (λ (es : List PlainEvent). map id_of (filter (passes c.args.seconds c.args.chosen.now.set events) es))
    (take_all events c.loop-place.place (let all = c.loop-place-test.false in let count = c.count-place-end.ensures.count in omega arith))
