use Rattle.std.proofs.Common.{◌∙◌, ◌<◌, suc, length, length-set, take, sym, ap, subst, arith, add-one}
use Rattle.event_arena.specs.Indices.{IsLinked}
use Rattle.event_arena.proofs.LinkLemmas.{linked_more, linked_skip}
use Rattle.event_arena.proofs.ListLemmas.{take_all}
use Rattle.event_arena.proofs.index.link_to.Goals as goal
use Rattle.event_arena.proofs.index.link_to.Goals.{in-Some, in_default}

pub loop-parent-preserved : goal.loop-parent-preserved
loop-parent-preserved c = elim c.match-place.branch [
  | in-Some w ↦
      let e = w.add_child.ensures in
      let v = c.loop-parent.invariant in
      let t = c.loop-parent-test.true in
      let within : w.in-Some.place < length c.loop-parent.links.lists = let h = w.in-Some.ensures.within in let p = v.places in let q = c.requires.places in omega arith in
      let linked = subst (λ ls. IsLinked c.args.child (take (suc c.loop-parent.parent-index) c.args.parents.now) c.args.table.now c.args.links.now.lists ls) (sym e.lists)
      (linked_more c.args.child c.args.parents.now c.loop-parent.parent-index c.parent-item.result w.in-Some.place c.args.table.now c.args.links.now.lists c.loop-parent.links.lists
      c.requires.once t c.parent-item.is (sym w.in-Some.ensures.place) within v.linked) in
      rw (w.links-is, add-one) (record {
        places = ap length e.lists ∙ length-set c.loop-parent.links.lists w.in-Some.place _ ∙ v.places;
        used = omega arith;
        place_room = e.place_room ∙ v.place_room;
        link_room = e.link_room ∙ v.link_room;
        linked = linked;
      })
  | in_default w ↦
      let v = c.loop-parent.invariant in
      let t = c.loop-parent-test.true in
      rw (w.links-is, add-one) (record {
        places = v.places;
        used = omega arith;
        place_room = v.place_room;
        link_room = v.link_room;
        linked = linked_skip c.args.child c.args.parents.now c.loop-parent.parent-index c.parent-item.result c.args.table.now c.args.links.now.lists c.loop-parent.links.lists t c.parent-item.is (sym w.in_default.ensures.place) v.linked;
      })
]

pub returns-clause-linked : goal.returns-clause-linked
returns-clause-linked c =
    subst (λ ps. IsLinked c.args.child ps c.args.table.now c.args.links.now.lists c.loop-parent.links.lists)
    (take_all c.args.parents.now c.loop-parent.parent-index c.loop-parent-test.false) c.loop-parent.invariant.linked
