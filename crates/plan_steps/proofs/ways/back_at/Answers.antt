use Rattle.std.proofs.Common.{◌≡◌, ◌∙◌, ℕ, List, None, Some, ap, subst, sym, take}
use Rattle.std.proofs.lemmas.Option.{same_Some}
use Rattle.std.specs.Prelude.{option_and_then, slice_get}
use Rattle.plain_model.specs.declared.event.PlainEvent.{PlainEvent}
use Rattle.plain_model.specs.declared.id.AnyId.TheVariants as any
use Rattle.plain_model.specs.Lookups.{commit_id, event_parents, find_event}
use Rattle.plain_model.specs.Soundness.{IsCommitOf}
use Rattle.event_arena.proofs.OnceLemmas.{found_at}
use Rattle.history_laws.proofs.SoundOnce.{sound_once}
use Rattle.squash_laws.specs.Takings.{back_of}
use Rattle.plan_steps.proofs.WayLemmas.{back_parent, back_root, back_stays, first_known, own_commit, removed_at}
use Rattle.plan_steps.proofs.ways.back_at.Goals as goal

pub returns-in_err-id : goal.returns-in_err-id
returns-in_err-id c event at =
    let events = c.args.removal.now.events in
    let set = c.args.removal.now.set in
    let x = c.commit_at.ensures in
    let here = ap (λ (es : List PlainEvent). slice_get es c.args.place) (sym c.list.ensures) ∙ x.1 in
    let none : commit_id event ≡ None = ap commit_id (same_Some event x.0 (sym at ∙ here)) ∙ sym x.2 ∙ c.in_err-id.was in
    c.from_residual.ensures ∙ sym (ap (option_and_then (back_of set events)) none)

pub returns-then-not-has_at : goal.returns-then-not-has_at
returns-then-not-has_at c event at =
    let events = c.args.removal.now.events in
    let set = c.args.removal.now.set in
    let id = c.in_ok-id.id in
    let x = c.commit_at.ensures in
    let here = ap (λ (es : List PlainEvent). slice_get es c.args.place) (sym c.list.ensures) ∙ x.1 in
    let own : commit_id event ≡ Some id = ap commit_id (same_Some event x.0 (sym at ∙ here)) ∙ sym x.2 ∙ c.in_ok-id.was in
    let found : find_event (any.Commit id) events ≡ Some event =
    ap (λ i. find_event i events) (own_commit id event own) ∙ found_at events c.args.place event (sound_once events c.count-count.ensures.sound).ids at in
    let stays = sym (removed_at set id event c.has_at.result own (c.has_at.ensures event at)) ∙ c.if-not-has_at.true in
    sym (ap (option_and_then (back_of set events)) own ∙ back_stays set events c.count-count.ensures.sound id event found stays)

pub returns-in_err-parent : goal.returns-in_err-parent
returns-in_err-parent c event at =
    let events = c.args.removal.now.events in
    let set = c.args.removal.now.set in
    let id = c.in_ok-id.id in
    let e = c.nth.result.now in
    let x = c.commit_at.ensures in
    let here = ap (λ (es : List PlainEvent). slice_get es c.args.place) (sym c.list.ensures) ∙ x.1 in
    let own : commit_id e ≡ Some id = ap commit_id (same_Some e x.0 (sym c.nth.ensures.event ∙ here)) ∙ sym x.2 ∙ c.in_ok-id.was in
    let found : find_event (any.Commit id) events ≡ Some e = ap (λ i. find_event i events) (own_commit id e own) ∙ c.nth.ensures.found in
    let gone = sym (removed_at set id e c.has_at.result own (c.has_at.ensures e c.nth.ensures.event)) ∙ c.if-not-has_at.false in
    let same : event ≡ e = same_Some event e (sym at ∙ c.nth.ensures.event) in
    let none : slice_get (event_parents e) 0 ≡ None = ap (λ (ps : List ℕ). slice_get ps 0) (sym c.parents.ensures) ∙ sym c.in_err-parent.ensures.value in
    c.from_residual-in_err-parent.ensures
    ∙ sym (ap (λ (y : PlainEvent). option_and_then (back_of set events) (commit_id y)) same ∙ ap (option_and_then (back_of set events)) own
    ∙ back_root set events c.count-count.ensures.sound id e found gone none)

pub back_of-requires-clause-earlier : goal.back_of-requires-clause-earlier
back_of-requires-clause-earlier c =
    let events = c.args.removal.now.events in
    let first = ap (λ (ps : List ℕ). slice_get ps 0) (sym c.parents.ensures) ∙ sym c.in_ok-parent.ensures.value in
    subst (λ k. IsCommitOf (take k events) c.in_ok-parent.parent.now) (sym c.requires.ways.count)
    (first_known events c.count-count.ensures.sound c.args.place c.in_ok-parent.parent.now c.nth.result.now c.nth.ensures.event first)

pub returns : goal.returns
returns c event at =
    let events = c.args.removal.now.events in
    let set = c.args.removal.now.set in
    let id = c.in_ok-id.id in
    let e = c.nth.result.now in
    let x = c.commit_at.ensures in
    let here = ap (λ (es : List PlainEvent). slice_get es c.args.place) (sym c.list.ensures) ∙ x.1 in
    let own : commit_id e ≡ Some id = ap commit_id (same_Some e x.0 (sym c.nth.ensures.event ∙ here)) ∙ sym x.2 ∙ c.in_ok-id.was in
    let found : find_event (any.Commit id) events ≡ Some e = ap (λ i. find_event i events) (own_commit id e own) ∙ c.nth.ensures.found in
    let gone = sym (removed_at set id e c.has_at.result own (c.has_at.ensures e c.nth.ensures.event)) ∙ c.if-not-has_at.false in
    let same : event ≡ e = same_Some event e (sym at ∙ c.nth.ensures.event) in
    let first = ap (λ (ps : List ℕ). slice_get ps 0) (sym c.parents.ensures) ∙ sym c.in_ok-parent.ensures.value in
    c.back_of.ensures
    ∙ sym (ap (λ (y : PlainEvent). option_and_then (back_of set events) (commit_id y)) same ∙ ap (option_and_then (back_of set events)) own
    ∙ back_parent set events c.count-count.ensures.sound id c.in_ok-parent.parent.now e found gone first)
