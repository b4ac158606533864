use Rattle.std.proofs.Common.{◌≡◌, ◌∙◌, ◌+◌, ◌++◌, ℕ, List, sym, ap, take, add-one, Some}
use Rattle.std.specs.Prelude.{slice_get}
use Rattle.plain_model.specs.declared.event.PlainEvent.{PlainEvent}
use Rattle.event_arena.proofs.ListLemmas.{flat_take_item}
use Rattle.manifest_cache.specs.Checking.{links, own_link}
use Rattle.manifest_cache.proofs.changes.first_changed.Goals as goal

-- the links of one more event
more : (es : List PlainEvent) (k : ℕ) (e : PlainEvent) → slice_get es k ≡ Some e → links (take (k + 1) es) ≡ links (take k es) ++ own_link e
more es k e at = ap (λ n. links (take n es)) (add-one k) ∙ flat_take_item own_link es k e at

pub loop-place-preserved : goal.loop-place-preserved
loop-place-preserved c =
    let before = c.args.plan.now.before in
    let after = c.args.plan.now.after in
    let k = c.loop-place.place in
    more before k c.old_nth.result.now c.old_nth.ensures.event
    ∙ (λ i. c.loop-place.invariant i ++ c.is_alike.ensures c.if-not-is_alike.false i)
    ∙ sym (more after k c.nth.result.now c.nth.ensures.event)
