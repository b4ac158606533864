use Rattle.std.proofs.Common.{◌≡◌, ◌∙◌, ◌∷◌, ◌<◌, List, [], true, length, take, arith, add-one, ap, sym, refl}
use Rattle.std.specs.List.{list_all}
use Rattle.plain_model.specs.Soundness.{has_id}
use Rattle.graph_walk.specs.Slots.{slots_of}
use Rattle.graph_walk.proofs.OrderLemmas.{named_more, named_ready}
use Rattle.plain_model.specs.declared.event.PlainEvent.{PlainEvent}
use Rattle.plain_model.specs.declared.id.AnyId.{AnyId}
use Rattle.graph_walk.proofs.settling.is_after.Goals as goal
use Rattle.graph_walk.proofs.settling.is_after.Goals.{in-Some+else-not-is_before, in_default}

one : (earlier : List PlainEvent) (id : AnyId) → has_id earlier id ≡ true → list_all (has_id earlier) (id ∷ []) ≡ true
one earlier id h = rw h refl

pub loop-slot-preserved : goal.loop-slot-preserved
loop-slot-preserved c =
    let earlier = take c.args.place c.args.plan.now.after in
    let low : c.loop-slot.slot < length (slots_of c.args.event.now) = let test = c.loop-slot-test.true in let count = c.slot_count-slot-end.ensures in omega arith in
    let more = named_more earlier c.args.event.now c.loop-slot.slot low c.loop-slot.invariant in
    elim c.match-referent.branch [
      | in-Some+else-not-is_before w ↦ rw add-one (more (ap (list_all (has_id earlier)) (sym w.in-Some.ensures) ∙ one earlier w.in-Some.id w.if-not-is_before.ensures))
      | in_default w ↦ rw add-one (more (ap (list_all (has_id earlier)) (sym w.in_default.ensures)))
    ]

pub returns : goal.returns
returns c =
    named_ready (take c.args.place c.args.plan.now.after) c.args.event.now c.loop-slot.slot (let all = c.loop-slot-test.false in let count = c.slot_count-slot-end.ensures in omega arith) c.loop-slot.invariant
