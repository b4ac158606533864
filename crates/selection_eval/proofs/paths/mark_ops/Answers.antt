use Rattle.std.proofs.Common.{◌≡◌, ◌∙◌, Bool, List, add-one, ap, refl, subst, sym, take}
use Rattle.std.specs.List.{list_any}
use Rattle.std.specs.Prelude.{◌||◌, flat_map}
use Rattle.event_arena.proofs.ListLemmas.{take_all}
use Rattle.event_sets.specs.Bits.{Adds}
use Rattle.event_sets.specs.Sets.{Ids}
use Rattle.event_sets.proofs.BitLemmas.{adds_more, adds_none}
use Rattle.plain_model.specs.Paths.{Bytes}
use Rattle.plain_model.specs.declared.operation.FileOp.{FileOp}
use Rattle.selection_eval.specs.Paths.{put_at, touches}
use Rattle.selection_eval.proofs.PathMarks.{any_more, flat_more}
use Rattle.selection_eval.proofs.paths.mark_ops.Goals as goal

pub loop-op-init : goal.loop-op-init
loop-op-init g c = record {
  touched = refl;
  count = refl;
  adds = adds_none c.args.events.now.list c.args.bits.now.items;
  same = refl;
}

pub loop-op-preserved : goal.loop-op-preserved
loop-op-preserved g c =
    let es = c.args.events.now.list in
    let ops = c.args.ops.now in
    let k = c.loop-op.op-index in
    let low = c.loop-op-test.true in
    let op = c.op-item.result in
    let at = c.op-item.is in
    let test = g.T.PathTest.test c.args.test.now in
    let first = c.args.bits.now.items in
    let old = c.loop-op.bits.items in
    let new = c.mark_op-touched.new.bits.items in
    let so_far = c.loop-op.invariant in
    let touches_op : c.mark_op-touched.result ≡ touches test op =
    c.mark_op-touched.ensures.touches ∙ ap (λ (t : Bytes → Bool). touches t op) so_far.same in
    let adds_op : Adds es (put_at test op) old new =
    subst (λ (t : Bytes → Bool). Adds es (put_at t op) old new) so_far.same c.mark_op-touched.ensures.adds in
    rw add-one (record {
      touched = (λ i. so_far.touched i || touches_op i) ∙ sym (any_more (touches test) ops k op low at);
      count = c.mark_op-touched.ensures.count ∙ so_far.count;
      adds = subst (λ (ids : Ids). Adds es ids first new) (sym (flat_more (put_at test) ops k op low at))
          (adds_more es (flat_map (put_at test) (take k ops)) (put_at test op) first old new so_far.adds adds_op);
      same = c.mark_op-touched.ensures.same ∙ so_far.same;
    })

pub returns-clause-touches : goal.returns-clause-touches
returns-clause-touches g c =
    c.loop-op.invariant.touched
    ∙ ap (list_any (touches (g.T.PathTest.test c.args.test.now)))
    (take_all c.args.ops.now c.loop-op.op-index c.loop-op-test.false)

pub returns-clause-adds : goal.returns-clause-adds
returns-clause-adds g c =
    let test = g.T.PathTest.test c.args.test.now in
    let first = c.args.bits.now.items in
    subst (λ (ops : List FileOp). Adds c.args.events.now.list (flat_map (put_at test) ops) first c.loop-op.bits.items)
    (take_all c.args.ops.now c.loop-op.op-index c.loop-op-test.false) c.loop-op.invariant.adds
