use Rattle.std.proofs.Common.{◌≡◌, ◌∙◌, [], Bool, Some, add-one, ap, refl, subst, sym, take}
use Rattle.std.specs.Prelude.{◌||◌, flat_map, if◌then◌else◌}
use Rattle.event_arena.proofs.ListLemmas.{take_all}
use Rattle.event_sets.specs.Bits.{Adds}
use Rattle.event_sets.specs.Sets.{Ids}
use Rattle.event_sets.proofs.BitLemmas.{adds_more, adds_none}
use Rattle.plain_model.specs.Paths.{Bytes}
use Rattle.plain_model.specs.Trees.{Tree}
use Rattle.plain_model.specs.declared.operation.Entry.{Entry}
use Rattle.selection_eval.specs.Paths.{blobs_at, content_blob, has_path}
use Rattle.selection_eval.proofs.PathMarks.{any_more, flat_more}
use Rattle.selection_eval.proofs.trees.mark_entries.Goals as goal

abbrev passes : (Bytes → Bool) → Bytes × Entry → Bool
passes test e = test e.0

abbrev stands : (Bytes → Bool) → Bytes × Entry → Ids
stands test e = if test e.0 then content_blob e.1.content else []

pub loop-entry-init : goal.loop-entry-init
loop-entry-init g c = record {
  has = refl;
  count = refl;
  adds = adds_none c.args.events.now.list c.args.bits.now.items;
  same = refl;
}

pub loop-entry-preserved : goal.loop-entry-preserved
loop-entry-preserved g c =
    let es = c.args.events.now.list in
    let entries = c.args.entries.now in
    let k = c.loop-entry.entry-index in
    let low = c.loop-entry-test.true in
    let entry = c.entry-item.result in
    let at = c.entry-item.is in
    let test = g.T.PathTest.test c.args.test.now in
    let first = c.args.bits.now.items in
    let old = c.loop-entry.bits.items in
    let new = c.mark_at-has.new.bits.items in
    let so_far = c.loop-entry.invariant in
    let passes_entry : c.mark_at-has.result ≡ passes test entry =
    c.mark_at-has.ensures.passes ∙ ap (λ (t : Bytes → Bool). passes t entry) so_far.same in
    let adds_entry : Adds es (stands test entry) old new =
    subst (λ (t : Bytes → Bool). Adds es (stands t entry) old new) so_far.same c.mark_at-has.ensures.adds in
    rw add-one (record {
      has = (λ i. so_far.has i || passes_entry i) ∙ sym (any_more (passes test) entries k entry low at);
      count = c.mark_at-has.ensures.count ∙ so_far.count;
      adds = subst (λ (ids : Ids). Adds es ids first new) (sym (flat_more (stands test) entries k entry low at))
          (adds_more es (flat_map (stands test) (take k entries)) (stands test entry) first old new so_far.adds
          adds_entry);
      same = c.mark_at-has.ensures.same ∙ so_far.same;
    })

pub returns-clause-has : goal.returns-clause-has
returns-clause-has g c =
    c.loop-entry.invariant.has
    ∙ ap (λ (t : Tree). has_path (g.T.PathTest.test c.args.test.now) (Some t))
    (take_all c.args.entries.now c.loop-entry.entry-index c.loop-entry-test.false)

pub returns-clause-adds : goal.returns-clause-adds
returns-clause-adds g c =
    let test = g.T.PathTest.test c.args.test.now in
    let first = c.args.bits.now.items in
    subst (λ (t : Tree). Adds c.args.events.now.list (blobs_at test (Some t)) first c.loop-entry.bits.items)
    (take_all c.args.entries.now c.loop-entry.entry-index c.loop-entry-test.false) c.loop-entry.invariant.adds
