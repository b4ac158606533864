use Rattle.std.proofs.Common.{◌≡◌, ◌∙◌, List, Some, None, sym, ap}
use Rattle.std.proofs.lemmas.Option.{same_Some}
use Rattle.plain_model.specs.declared.event.PlainEvent.{PlainEvent}
use Rattle.plain_model.specs.declared.id.AnyId.TheVariants as any
use Rattle.plain_model.specs.Lookups.{children_of, commit_id, find_event, id_of}
use Rattle.history_laws.proofs.Ids.{find_id}
use Rattle.plan_steps.proofs.WayLemmas.{commit_own, no_id}
use Rattle.coalesce_simplify.specs.Joining.{only_of}
use Rattle.coalesce_simplify.proofs.Joins.{by_child, lost_child, no_child, others_stay, passes, unselected}
use Rattle.coalesce_simplify.proofs.joining.is_joined_at.Goals as goal

pub returns-then-not-has_at : goal.returns-then-not-has_at
returns-then-not-has_at c event at =
    sym (unselected c.args.seconds c.args.chosen.now.set c.args.chosen.now.events event (sym (c.has_at.ensures event at) ∙ c.if-not-has_at.true))

pub returns-in_default : goal.returns-in_default
returns-in_default c event at =
    let e = c.nth-event.result.now in
    let same : event ≡ e = same_Some event e (sym at ∙ c.nth-event.ensures.event) in
    sym (others_stay c.args.seconds c.args.chosen.now.set c.args.chosen.now.events event (ap commit_id same ∙ no_id e c.in_default.not-Commit))

pub returns-in_default-only_child : goal.returns-in_default-only_child
returns-in_default-only_child c event at =
    let set = c.args.chosen.now.set in
    let events = c.args.chosen.now.events in
    let v = c.in-Commit in
    let e = c.nth-event.result.now in
    let same : event ≡ e = same_Some event e (sym at ∙ c.nth-event.ensures.event) in
    let found : find_event (any.Commit v.id) events ≡ Some e = ap (λ (x : PlainEvent). find_event (id_of x) events) (sym v.is) ∙ c.nth-event.ensures.found in
    let none : only_of (children_of v.id events) ≡ None = ap (λ (es : List PlainEvent). only_of (children_of v.id es)) (sym c.events.ensures) ∙ sym c.only_child.ensures ∙ c.in_default-only_child.is in
    sym (ap (passes c.args.seconds set events) same ∙ no_child c.args.seconds set events c.count-count.ensures.sound v.id e found none)

pub is_joined_to-requires-clause-child : goal.is_joined_to-requires-clause-child
is_joined_to-requires-clause-child c =
    let events = c.args.chosen.now.events in
    let next = c.in-Some-event.next.now in
    let found : find_event (any.Commit c.in-Some.child) events ≡ Some next = sym (c.in-Some-event.ensures ∙ ap (find_event (any.Commit c.in-Some.child)) c.events-2.ensures) in
    ap (λ id. find_event id events) (sym (find_id (any.Commit c.in-Some.child) events next found)) ∙ found

pub is_joined_to-requires-clause-only : goal.is_joined_to-requires-clause-only
is_joined_to-requires-clause-only c own below own_is below_is =
    let events = c.args.chosen.now.events in
    let v = c.in-Commit in
    let d = c.in-Some.child in
    let next = c.in-Some-event.next.now in
    let found : find_event (any.Commit d) events ≡ Some next = sym (c.in-Some-event.ensures ∙ ap (find_event (any.Commit d)) c.events-2.ensures) in
    let only : only_of (children_of v.id events) ≡ Some d = ap (λ (es : List PlainEvent). only_of (children_of v.id es)) (sym c.events.ensures) ∙ sym c.only_child.ensures ∙ c.in-Some.is in
    let first : v.id ≡ own = same_Some v.id own (sym (ap commit_id v.is) ∙ own_is) in
    let second : d ≡ below = same_Some d below (sym (commit_own d next (find_id (any.Commit d) events next found)) ∙ below_is) in
    ap (λ n. only_of (children_of n events)) (sym first) ∙ only ∙ ap (λ n. Some n) second

pub returns-in-Some-event : goal.returns-in-Some-event
returns-in-Some-event c event at =
    let set = c.args.chosen.now.set in
    let events = c.args.chosen.now.events in
    let v = c.in-Commit in
    let e = c.nth-event.result.now in
    let d = c.in-Some.child in
    let next = c.in-Some-event.next.now in
    let same : event ≡ e = same_Some event e (sym at ∙ c.nth-event.ensures.event) in
    let found : find_event (any.Commit v.id) events ≡ Some e = ap (λ (x : PlainEvent). find_event (id_of x) events) (sym v.is) ∙ c.nth-event.ensures.found in
    let below : find_event (any.Commit d) events ≡ Some next = sym (c.in-Some-event.ensures ∙ ap (find_event (any.Commit d)) c.events-2.ensures) in
    let only : only_of (children_of v.id events) ≡ Some d = ap (λ (es : List PlainEvent). only_of (children_of v.id es)) (sym c.events.ensures) ∙ sym c.only_child.ensures ∙ c.in-Some.is in
    c.is_joined_to.ensures ∙ by_child c.args.seconds set events c.count-count.ensures.sound v.id e found d next below only ∙ ap (passes c.args.seconds set events) (sym same)

pub returns-in-None : goal.returns-in-None
returns-in-None c event at =
    let set = c.args.chosen.now.set in
    let events = c.args.chosen.now.events in
    let v = c.in-Commit in
    let e = c.nth-event.result.now in
    let d = c.in-Some.child in
    let same : event ≡ e = same_Some event e (sym at ∙ c.nth-event.ensures.event) in
    let found : find_event (any.Commit v.id) events ≡ Some e = ap (λ (x : PlainEvent). find_event (id_of x) events) (sym v.is) ∙ c.nth-event.ensures.found in
    let lost : find_event (any.Commit d) events ≡ None = sym (c.in-None.ensures ∙ ap (find_event (any.Commit d)) c.events-2.ensures) in
    let only : only_of (children_of v.id events) ≡ Some d = ap (λ (es : List PlainEvent). only_of (children_of v.id es)) (sym c.events.ensures) ∙ sym c.only_child.ensures ∙ c.in-Some.is in
    sym (ap (passes c.args.seconds set events) same ∙ lost_child c.args.seconds set events c.count-count.ensures.sound v.id e found d only lost)
