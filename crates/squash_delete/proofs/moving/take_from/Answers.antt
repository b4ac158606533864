use Rattle.std.proofs.Common.{◌≡◌, ◌∙◌, [], List, get_or, arith, ap, subst, sym}
use Rattle.std.proofs.lemmas.List.{get_or_read}
use Rattle.std.specs.List.{AllByRecursion}
use Rattle.std.specs.Prelude.{IsSome}
use Rattle.std.proofs.lemmas.Option.{same_Some}
use Rattle.plain_model.specs.declared.id.AnyId.TheVariants as any
use Rattle.plain_model.specs.declared.event.PlainEvent.{PlainEvent}
use Rattle.plain_model.specs.Lookups.{event_parents, find_event}
use Rattle.history_laws.proofs.SoundOnce.{sound_once}
use Rattle.graph_walk.proofs.FlagLemmas.{if_ok}
use Rattle.squash_laws.specs.Takings.{takes}
use Rattle.plain_model.specs.declared.policy.Push.TheVariants as push
use Rattle.squash_delete.specs.Sources.{AreSources, TakesFrom, push_of}
use Rattle.squash_delete.specs.declared.moving.Sources.{Sources}
use Rattle.squash_delete.proofs.ChainLemmas.{all_before}
use Rattle.squash_delete.proofs.MovingLemmas.{back_taken, forward_taken, gone_taken, le_is}
use Rattle.plan_steps.proofs.NodeLemmas.{parents_there}
use Rattle.plan_steps.proofs.WayLemmas.{removed_at}
use Rattle.squash_delete.proofs.moving.take_from.Goals as goal

pub returns-then-has_at : goal.returns-then-has_at
returns-then-has_at c par tags event at start was =
    let events = c.args.removal.now.events in
    let set = c.args.removal.now.set in
    let n = gone_taken set events c.count-count.ensures.sound par (takes set events (record { push = push_of c.args.sources.now; tags = tags })) c.args.place event at (sym (c.has_at.ensures event at) ∙ c.if-has_at.true) in
    (was ∙ ap (λ (es : List PlainEvent). record start { after = es }) n.0, le_is _ _ n.1)

pub carried-requires-clause-before : goal.carried-requires-clause-before
carried-requires-clause-before c =
    let events = c.args.removal.now.events in
    let src = subst (AreSources c.args.removal.now.set events) c.in-Before.is c.requires.sources in
    let whole = src.0 in
    all_before events c.in-Before.table.count (omega arith) c.parents-parents.result.now
    (subst (AllByRecursion (λ p. IsSome (find_event (any.Commit p) events))) (sym c.parents-parents.ensures) (parents_there events c.count-count.ensures.sound c.args.place c.nth.result.now c.nth.ensures.event))

pub begins_anew-anew-requires-clause-before : goal.begins_anew-anew-requires-clause-before
begins_anew-anew-requires-clause-before c =
    let events = c.args.removal.now.events in
    let src = subst (AreSources c.args.removal.now.set events) c.in-Before.is c.requires.sources in
    let whole = src.0 in
    all_before events c.in-Before.table.count (omega arith) c.parents-parents.result.now
    (subst (AllByRecursion (λ p. IsSome (find_event (any.Commit p) events))) (sym c.parents-parents.ensures) (parents_there events c.count-count.ensures.sound c.args.place c.nth.result.now c.nth.ensures.event))

pub returns-in_ok-before-in-Before : goal.returns-in_ok-before-in-Before
returns-in_ok-before-in-Before c =
    let events = c.args.removal.now.events in
    let set = c.args.removal.now.set in
    if_ok c.take.result _ _ (λ count over.
    subst (λ (s : Sources). TakesFrom set events (push_of s) c.args.place c.args.plan.now c.take.new.plan count) (sym c.in-Before.is)
    (λ par tags event at start was.
    let same : event ≡ c.nth.result.now = same_Some event c.nth.result.now (sym at ∙ c.nth.ensures.event) in
    over par (takes set events (record { push = push.Forward; tags = tags })) event at
    (λ own is. sym (removed_at set own event c.has_at.result is (c.has_at.ensures event at)) ∙ c.if-has_at.false)
    (forward_taken set events tags c.new.result event c.in_ok-before-in-Before.before.items c.parents-parents.result.now c.begins_anew-anew.result
    c.in_ok-before-in-Before.ensures c.begins_anew-anew.ensures (c.parents-parents.ensures ∙ ap event_parents (sym same))
    c.new.ensures.anew (c.new.ensures.before ∙ c.deref.ensures.value) c.new.ensures.after)
    start was)) c.take.ensures

pub returns-in-After : goal.returns-in-After
returns-in-After c =
    let events = c.args.removal.now.events in
    let set = c.args.removal.now.set in
    let place = c.args.place in
    let hung = subst (AreSources set events) c.in-After.is c.requires.sources in
    let row : c.as_slice-after.result.now ≡ get_or c.in-After.rows.items place [] =
    c.as_slice-after.ensures ∙ get_or_read c.in-After.rows.items place c.index.result.now (let count = hung.count in let low = c.requires.place in omega arith) c.index.ensures [] in
    if_ok c.take-in-After.result _ _ (λ count over.
    subst (λ (s : Sources). TakesFrom set events (push_of s) place c.args.plan.now c.take-in-After.new.plan count) (sym c.in-After.is)
    (λ par tags event at start was.
    over par (takes set events (record { push = push.Back; tags = tags })) event at
    (λ own is. sym (removed_at set own event c.has_at.result is (c.has_at.ensures event at)) ∙ c.if-has_at.false)
    (back_taken set events tags (sound_once events c.count-count.ensures.sound).ids c.new-in-After.result event c.as_slice-after.result.now
    (λ d own. row ∙ hung.entry place event at d own)
    c.new-in-After.ensures.anew c.new-in-After.ensures.before c.new-in-After.ensures.after)
    start was)) c.take-in-After.ensures
