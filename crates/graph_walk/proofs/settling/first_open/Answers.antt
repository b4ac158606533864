use Rattle.std.proofs.Common.{◌∙◌, ◌≤◌, length, arith, ap, sym}
use Rattle.std.specs.Prelude.{is_some}
use Rattle.graph_walk.specs.Slots.{slots_of}
use Rattle.graph_walk.proofs.SlotLemmas.{slot_there, until_all}
use Rattle.graph_walk.proofs.settling.first_open.Goals as goal

pub unwrap-place-requires : goal.unwrap-place-requires
unwrap-place-requires c =
    ap is_some c.place.ensures.place ∙ slot_there c.args.plan.now.after c.args.event.now c.loop-slot.slot c.in-Some.id c.requires.there (sym c.in-Some.ensures)

pub returns : goal.returns
returns c =
    let all : length (slots_of c.args.event.now) ≤ c.loop-slot.slot = let count = c.slot_count-slot-end.ensures in let end = c.loop-slot-test.false in omega arith in
    until_all c.args.flags.now c.args.plan.now.after c.args.event.now c.loop-slot.slot all c.loop-slot.invariant
