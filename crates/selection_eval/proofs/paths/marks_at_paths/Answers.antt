use Rattle.std.proofs.Common.{◌≡◌, ◌∙◌, [], Bool, true, add-one, ap, length, refl, subst, sym, arith}
use Rattle.std.proofs.lemmas.List.{length-set}
use Rattle.std.specs.List.{list_any}
use Rattle.std.specs.Prelude.{flat_map}
use Rattle.history_laws.proofs.SoundOnce.{sound_once}
use Rattle.event_sets.specs.Bits.{Adds}
use Rattle.event_sets.specs.Sets.{Ids}
use Rattle.event_sets.proofs.BitLemmas.{bits_count}
use Rattle.plain_model.specs.Paths.{Bytes}
use Rattle.plain_model.specs.declared.event.PlainEvent.{PlainEvent}
use Rattle.selection_eval.specs.Paths.{ops_of, put_at, touches}
use Rattle.selection_eval.proofs.PathMarks.{marked_all, marked_not, marked_own}
use Rattle.selection_eval.proofs.paths.marks_at_paths.Goals as goal
use Rattle.selection_eval.proofs.paths.marks_at_paths.Goals.{then-mark_event, else-mark_event}

abbrev touched : (Bytes → Bool) → PlainEvent → Bool
touched test e = list_any (touches test) (ops_of e)

abbrev puts : (Bytes → Bool) → PlainEvent → Ids
puts test e = flat_map (put_at test) (ops_of e)

pub loop-place-init : goal.loop-place-init
loop-place-init g c = record {
  count = ap length c.in_ok-bits.ensures ∙ bits_count c.args.events.now.list [];
  marked = c.in_ok-bits.ensures;
  same = refl;
}

pub loop-place-preserved : goal.loop-place-preserved
loop-place-preserved g c =
    let es = c.args.events.now.list in
    let k = c.loop-place.place in
    let e = c.nth.result.now in
    let test = g.T.PathTest.test c.args.test.now in
    let old = c.loop-place.bits.items in
    let mid = c.mark_event.new.bits.items in
    let at = c.nth.ensures.event in
    let so_far = c.loop-place.invariant in
    let touches_e : c.mark_event.result ≡ touched test e =
    c.mark_event.ensures.touches ∙ ap (λ (t : Bytes → Bool). touched t e) so_far.same in
    let adds_e : Adds es (puts test e) old mid =
    subst (λ (t : Bytes → Bool). Adds es (puts t e) old mid) so_far.same c.mark_event.ensures.adds in
    let count = c.mark_event.ensures.count ∙ so_far.count in
    let same = c.mark_event.ensures.same ∙ so_far.same in
    let once = (sound_once es c.count-place-end.ensures.sound).ids in
    elim c.if-mark_event.branch [
      | then-mark_event w ↦ rw (w.bits-is, add-one) (record {
        count = length-set mid k true ∙ count;
        marked = marked_own (touched test) (puts test) es k e old mid once at (sym touches_e ∙ w.if-mark_event.true)
            adds_e so_far.marked;
        same = same;
      })
      | else-mark_event w ↦ rw (w.bits-is, add-one) (record {
        count = count;
        marked = marked_not (touched test) (puts test) es k e old mid at (sym touches_e ∙ w.if-mark_event.false)
            adds_e so_far.marked;
        same = same;
      })
    ]

pub returns-clause-marks : goal.returns-clause-marks
returns-clause-marks g c =
    let es = c.args.events.now.list in
    let test = g.T.PathTest.test c.args.test.now in
    let count = c.count-place-end.ensures in
    let all = count.count in
    let past = c.loop-place-test.false in
    marked_all (touched test) (puts test) es c.loop-place.place c.loop-place.bits.items (omega arith)
    (sound_once es count.sound).ids c.loop-place.invariant.marked
