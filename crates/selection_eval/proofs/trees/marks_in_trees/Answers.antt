use Rattle.std.proofs.Common.{◌≡◌, ◌∙◌, [], Bool, List, true, add-one, ap, length, refl, subst, sym, arith}
use Rattle.std.proofs.lemmas.List.{length-set}
use Rattle.history_laws.proofs.SoundOnce.{sound_once}
use Rattle.event_sets.specs.Bits.{Adds}
use Rattle.event_sets.specs.Sets.{Ids}
use Rattle.event_sets.proofs.BitLemmas.{bits_count}
use Rattle.plain_model.specs.Paths.{Bytes}
use Rattle.plain_model.specs.declared.event.PlainEvent.{PlainEvent}
use Rattle.selection_eval.specs.Paths.{blobs_at, has_path, tree_of}
use Rattle.selection_eval.proofs.PathMarks.{marked_all, marked_not, marked_own}
use Rattle.selection_eval.proofs.trees.marks_in_trees.Goals as goal
use Rattle.selection_eval.proofs.trees.marks_in_trees.Goals.{then-has, else-has}

abbrev has : (Bytes → Bool) → List PlainEvent → PlainEvent → Bool
has test es e = has_path test (tree_of es e)

abbrev stand : (Bytes → Bool) → List PlainEvent → PlainEvent → Ids
stand test es e = blobs_at test (tree_of es e)

pub loop-place-init : goal.loop-place-init
loop-place-init g c = record {
  count = ap length c.in_ok-bits.ensures ∙ bits_count c.args.events.now.list [];
  marked = c.in_ok-bits.ensures;
  same = refl;
  agrees = c.requires;
}

pub loop-place-preserved : goal.loop-place-preserved
loop-place-preserved g c =
    let es = c.args.events.now.list in
    let k = c.loop-place.place in
    let e = c.nth.result.now in
    let test = g.T.PathTest.test c.args.test.now in
    let old = c.loop-place.bits.items in
    let mid = c.mark_tree.new.bits.items in
    let at = c.nth.ensures.event in
    let so_far = c.loop-place.invariant in
    let has_e : c.in_ok-has.has ≡ has test es e =
    c.in_ok-has.ensures.has ∙ ap (λ (t : Bytes → Bool). has t es e) so_far.same in
    let adds_e : Adds es (stand test es e) old mid =
    subst (λ (t : Bytes → Bool). Adds es (stand t es e) old mid) so_far.same c.in_ok-has.ensures.adds in
    let count = c.mark_tree.ensures.count ∙ so_far.count in
    let same = c.mark_tree.ensures.same ∙ so_far.same in
    let once = (sound_once es c.count-place-end.ensures.sound).ids in
    elim c.if-has.branch [
      | then-has w ↦ rw (w.bits-is, add-one) (record {
        count = length-set mid k true ∙ count;
        marked = marked_own (has test es) (stand test es) es k e old mid once at (sym has_e ∙ w.if-has.true)
            adds_e so_far.marked;
        same = same;
        agrees = c.mark_tree.ensures.agrees;
      })
      | else-has w ↦ rw (w.bits-is, add-one) (record {
        count = count;
        marked = marked_not (has test es) (stand test es) es k e old mid at (sym has_e ∙ w.if-has.false)
            adds_e so_far.marked;
        same = same;
        agrees = c.mark_tree.ensures.agrees;
      })
    ]

pub returns-clause-marks : goal.returns-clause-marks
returns-clause-marks g c =
    let es = c.args.events.now.list in
    let test = g.T.PathTest.test c.args.test.now in
    let count = c.count-place-end.ensures in
    let all = count.count in
    let past = c.loop-place-test.false in
    marked_all (has test es) (stand test es) es c.loop-place.place c.loop-place.bits.items (omega arith)
    (sound_once es count.sound).ids c.loop-place.invariant.marked
