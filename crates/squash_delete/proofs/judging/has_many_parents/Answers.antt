use Rattle.std.proofs.Common.{◌∙◌, ◌∷◌, [], List, Bool, arith, add-one, ap, sym}
use Rattle.std.specs.List.{list_any}
use Rattle.plain_model.specs.declared.event.PlainEvent.{PlainEvent}
use Rattle.history_laws.proofs.Lists.{item_at}
use Rattle.event_arena.proofs.ListLemmas.{take_all}
use Rattle.plan_steps.proofs.Counting.{any_item, none_item}
use Rattle.squash_delete.specs.Fates.{has_many_parents, left_some}
use Rattle.squash_delete.proofs.ForwardLemmas.{parents_each}
use Rattle.squash_delete.proofs.judging.has_many_parents.Goals as goal

pub returns-then-is_many_at : goal.returns-then-is_many_at
returns-then-is_many_at c comments tags table =
    let set = c.args.removal.now.set in
    let events = c.args.removal.now.events in
    let own : PlainEvent → Bool = λ e. has_many_parents (left_some set events comments tags (e ∷ [])) in
    let count = c.count-place-end.ensures.count in
    let test = c.loop-place-test.true in
    let item = item_at events c.loop-place.place (omega arith) in
    sym (sym (parents_each set events comments tags events)
    ∙ any_item own events c.loop-place.place item.0 item.1 (sym (c.is_many_at.ensures comments tags item.0 table item.1) ∙ c.if-is_many_at.true))

pub loop-place-preserved : goal.loop-place-preserved
loop-place-preserved c comments tags table =
    let set = c.args.removal.now.set in
    let events = c.args.removal.now.events in
    let own : PlainEvent → Bool = λ e. has_many_parents (left_some set events comments tags (e ∷ [])) in
    let count = c.count-place-end.ensures.count in
    let test = c.loop-place-test.true in
    let item = item_at events c.loop-place.place (omega arith) in
    rw add-one (none_item own events c.loop-place.place item.0 item.1 (c.loop-place.invariant comments tags table)
    (sym (c.is_many_at.ensures comments tags item.0 table item.1) ∙ c.if-is_many_at.false))

pub returns : goal.returns
returns c comments tags table =
    let set = c.args.removal.now.set in
    let events = c.args.removal.now.events in
    let own : PlainEvent → Bool = λ e. has_many_parents (left_some set events comments tags (e ∷ [])) in
    let count = c.count-place-end.ensures.count in
    let test = c.loop-place-test.false in
    sym (sym (parents_each set events comments tags events)
    ∙ ap (λ (es : List PlainEvent). list_any own es) (sym (take_all events c.loop-place.place (omega arith))) ∙ c.loop-place.invariant comments tags table)
