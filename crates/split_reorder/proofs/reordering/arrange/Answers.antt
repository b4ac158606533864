use Rattle.std.proofs.Common.{◌≡◌, ◌∙◌, ◌∷◌, List, map, sym, ap, subst}
use Rattle.std.specs.List.Sorted.{IsPermutation}
use Rattle.std.proofs.lemmas.Result.{on_ok_weaker}
use Rattle.plain_model.specs.declared.event.PlainEvent.{PlainEvent}
use Rattle.plain_model.specs.Lookups.{id_of}
use Rattle.plain_model.specs.Soundness.{IsSound, are_distinct}
use Rattle.event_arena.specs.Changes.{in_order}
use Rattle.event_arena.specs.Graphs.{Change}
use Rattle.commit_laws.proofs.Selections.{chosen_distinct}
use Rattle.reorder_laws.specs.Reorder.{relinked_all}
use Rattle.split_reorder.specs.Ordered.{ordered}
use Rattle.split_reorder.proofs.Arranged.{order_permutes, order_puts}
use Rattle.split_reorder.proofs.reordering.arrange.Goals as goal

pub relink-requires-clause-once : goal.relink-requires-clause-once
relink-requires-clause-once c =
    ap are_distinct (sym (c.requires.wanted ∙ c.requires.from_head)) ∙ chosen_distinct c.args.places.now.set c.requires.selection.apart

pub set_order-requires : goal.set_order-requires
set_order-requires c =
    let events = c.args.places.now.events in
    let set = c.args.places.now.set in
    let first = c.args.first in
    let rest = c.args.rest.now in
    let head = c.args.head in
    let tail = c.args.tail.now in
    let sound = subst IsSound c.events-events.ensures c.count-count.ensures.sound in
    let whole = relinked_all events first rest head tail in
    let after : c.relink.new.plan.after ≡ whole = ap (λ (p : Change). p.after) c.in_ok-relink.ensures ∙ ap (λ (es : List PlainEvent). relinked_all es first rest head tail) c.events-events.ensures in
    let ids : c.in_ok-ids.ids ≡ ordered set (head ∷ tail) events = c.in_ok-ids.ensures ∙ ap (λ us. ordered set us events) c.requires.from_head in
    subst (λ (es : List PlainEvent). IsPermutation (map id_of es) c.in_ok-ids.ids) (sym after)
    (subst (IsPermutation (map id_of whole)) (sym ids)
    (order_permutes set events sound c.requires.selection first rest head tail c.requires.listed (c.requires.wanted ∙ c.requires.from_head) c.requires.linear))

pub returns : goal.returns
returns c =
    let events = c.args.places.now.events in
    let set = c.args.places.now.set in
    let plan = c.args.plan.now in
    let first = c.args.first in
    let rest = c.args.rest.now in
    let head = c.args.head in
    let tail = c.args.tail.now in
    let sound = subst IsSound c.events-events.ensures c.count-count.ensures.sound in
    let is_events : c.events-events.result.now.list ≡ events = c.events-events.ensures in
    let ids : c.in_ok-ids.ids ≡ ordered set (head ∷ tail) events = c.in_ok-ids.ensures ∙ ap (λ us. ordered set us events) c.requires.from_head in
    on_ok_weaker c.set_order.result (λ is.
    is ∙ ap (λ (p : Change). record p { after = in_order c.in_ok-ids.ids p.after }) c.in_ok-relink.ensures
    ∙ ap (λ (es : List PlainEvent). record plan { after = es })
    ((λ i. in_order (ids i) (relinked_all (is_events i) first rest head tail))
    ∙ order_puts set events sound c.requires.selection first rest head tail c.requires.listed (c.requires.wanted ∙ c.requires.from_head) c.requires.linear)) c.set_order.ensures.ok
