use Rattle.std.proofs.Common.{◌≡◌, ◌∙◌, List, ap, sym, length, take, arith, add-one}
use Rattle.std.specs.Prelude.{slice_get}
use Rattle.plain_model.specs.declared.event.PlainEvent.{PlainEvent}
use Rattle.plain_model.specs.Lookups.{id_of}
use Rattle.history_laws.proofs.Lists.{item_at}
use Rattle.event_arena.specs.Changes.{changed}
use Rattle.event_arena.specs.Graphs.{Change}
use Rattle.squash_delete.specs.Fates.{given}
use Rattle.squash_delete.proofs.FateLemmas.{item_given, length_given, none_given, step_given}
use Rattle.squash_delete.proofs.giving.give_all.Goals as goal

pub loop-place-init : goal.loop-place-init
loop-place-init c = ap (λ (es : List PlainEvent). record c.args.plan.now { after = es }) (sym (none_given c.args.plan.now.after))

pub give_at-requires : goal.give_at-requires
give_at-requires c =
    let long : length c.loop-place.plan.after ≡ length c.args.plan.now.after =
    ap (λ (p : Change). length p.after) c.loop-place.invariant ∙ length_given (take c.loop-place.place c.args.fates.now) c.args.plan.now.after in
    let count = c.requires in
    let test = c.loop-place-test.true in
    omega arith

pub loop-place-preserved : goal.loop-place-preserved
loop-place-preserved c =
    let es = c.args.plan.now.after in
    let fates = c.args.fates.now in
    let k = c.loop-place.place in
    let count = c.requires in
    let test = c.loop-place-test.true in
    let item = item_at es k (omega arith) in
    let here : slice_get c.loop-place.plan.after k ≡ slice_get es k =
    ap (λ (p : Change). slice_get p.after k) c.loop-place.invariant ∙ item_given k fates es in
    rw add-one (c.in_ok-give_at.ensures item.0 (here ∙ item.1)
    ∙ ap (λ (p : Change). record p { after = changed (id_of item.0) (given c.index-fates-place.result) p.after }) c.loop-place.invariant
    ∙ ap (λ (l : List PlainEvent). record c.args.plan.now { after = l })
    (step_given es c.count-count.ensures.once k fates c.index-fates-place.result item.0 (omega arith) c.index-fates-place.is item.1))
