use Rattle.std.proofs.Common.{◌∙◌, ◌++◌, ap, sym, subst, take, add-one}
use Rattle.event_arena.specs.Relinked.{AreRelinked, parents_at, parents_of}
use Rattle.event_arena.proofs.ListLemmas.{take_all, take_more}
use Rattle.event_arena.proofs.RelinkLemmas.{all_known, all_linked, first_known, parents_more, relinked_then, room_still}
use Rattle.event_arena.proofs.mending.relink_touched.Goals as goal

pub relink_parents_of-requires-clause-known : goal.relink_parents_of-requires-clause-known
relink_parents_of-requires-clause-known c = all_known _ c.args.touched.now c.args.after.now c.args.links.now.lists c.loop-id.links.lists
    (first_known c.args.before.now c.args.after.now c.args.touched.now c.args.links.now.lists c.requires.touched c.requires.children) c.loop-id.invariant.linked

pub relink_parents_of-requires-else-not-relink_parents_of-clause-known : goal.relink_parents_of-requires-else-not-relink_parents_of-clause-known
relink_parents_of-requires-else-not-relink_parents_of-clause-known c =
    all_known _ c.args.touched.now c.args.after.now c.loop-id.links.lists c.relink_parents_of.new.links.lists
    (all_known _ c.args.touched.now c.args.after.now c.args.links.now.lists c.loop-id.links.lists
    (first_known c.args.before.now c.args.after.now c.args.touched.now c.args.links.now.lists c.requires.touched c.requires.children) c.loop-id.invariant.linked)
    (c.relink_parents_of.ensures.linked c.if-not-relink_parents_of.false)

pub loop-id-preserved : goal.loop-id-preserved
loop-id-preserved c =
    let before = c.args.before.now in
    let after = c.args.after.now in
    let seen = take c.loop-id.id-index c.args.touched.now in
    let id = c.id-item.result in
    let v = c.loop-id.invariant in
    let first = c.relink_parents_of.ensures in
    let last = c.relink_parents_of-else-not-relink_parents_of.ensures in
    let old = c.args.links.now.lists in
    let mid = c.relink_parents_of.new.links.lists in
    let new = c.relink_parents_of-else-not-relink_parents_of.new.links.lists in
    rw add-one (record {
      room = room_still (room_still v.room first.room) last.room;
      linked = subst (λ cs. AreRelinked cs after old new)
          (sym (ap (parents_of before after) (take_more c.args.touched.now c.loop-id.id-index id c.loop-id-test.true c.id-item.is) ∙ parents_more before after seen id))
          (relinked_then (parents_of before after seen ++ parents_at id before) (parents_at id after) after old mid new
          (relinked_then (parents_of before after seen) (parents_at id before) after old c.loop-id.links.lists mid v.linked (first.linked c.if-not-relink_parents_of.false))
          (last.linked c.if-not-relink_parents_of-2.false));
    })

pub returns-clause-children : goal.returns-clause-children
returns-clause-children c = λ it.
    all_linked c.args.before.now c.args.after.now c.args.touched.now c.args.links.now.lists c.loop-id.links.lists c.count-before.ensures.once c.count-after.ensures.once c.requires.touched c.requires.children
    (subst (λ ids. AreRelinked (parents_of c.args.before.now c.args.after.now ids) c.args.after.now c.args.links.now.lists c.loop-id.links.lists)
    (take_all c.args.touched.now c.loop-id.id-index c.loop-id-test.false) c.loop-id.invariant.linked)
