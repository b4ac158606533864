use Rattle.std.proofs.Common.{◌≡◌, ◌∙◌, ℕ, List, None, get_or, length, arith, ap, sym}
use Rattle.std.proofs.lemmas.Bool.{cond-true}
use Rattle.std.proofs.lemmas.Option.{same_Some}
use Rattle.std.specs.Prelude.{slice_get}
use Rattle.plain_model.specs.declared.event.PlainEvent.{PlainEvent}
use Rattle.plain_model.specs.Lookups.{commit_id, event_parents}
use Rattle.event_arena.proofs.ListLemmas.{take_all}
use Rattle.squash_laws.specs.Squash.{back_fault, first_children}
use Rattle.squash_laws.specs.Removed.{is_removed}
use Rattle.squash_delete.specs.Backing.{own_fault}
use Rattle.squash_delete.proofs.HangLemmas.{is_fork, no_fork}
use Rattle.plan_steps.proofs.NodeLemmas.{earlier_there}
use Rattle.plan_steps.proofs.WayLemmas.{first_known, commit_placed, removed_at}
use Rattle.squash_delete.proofs.backing.fault_at.Goals as goal

pub place-requires : goal.place-requires
place-requires c =
    let events = c.args.removal.now.events in
    let sound = c.count-count.ensures.sound in
    let first = ap (λ (ps : List ℕ). slice_get ps 0) (ap event_parents c.in-Commit.is ∙ sym c.as_slice.ensures) ∙ sym c.in-Some.ensures.value in
    earlier_there events sound c.args.place c.in-Some.parent.now (first_known events sound c.args.place c.in-Some.parent.now c.nth.result.now c.nth.ensures.event first)

pub returns-in-Some : goal.returns-in-Some
returns-in-Some c event at =
    let events = c.args.removal.now.events in
    let set = c.args.removal.now.set in
    let e = c.nth.result.now in
    let first = ap (λ (ps : List ℕ). slice_get ps 0) (sym c.as_slice.ensures) ∙ sym c.in-Some.ensures.value in
    let gone = sym (removed_at set c.in-Commit.id e c.has_at.result (ap commit_id c.in-Commit.is) (c.has_at.ensures e c.nth.ensures.event)) ∙ c.if-not-has_at.false in
    let same : event ≡ e = same_Some event e (sym at ∙ c.nth.ensures.event) in
    let b = commit_placed events c.in-Some.parent.now c.place.result c.place.ensures.place in
    let is : get_or c.args.counts.now c.place.result 0 ≡ first_children events c.in-Some.parent.now = c.requires.counts.entry c.place.result b.event b.at c.in-Some.parent.now b.own ∙ ap (λ (es : List PlainEvent). first_children es c.in-Some.parent.now) (take_all events (length events) (omega arith)) in
    let many = c.if-counts-place-gt1.true in
    sym (ap (own_fault set events) (same ∙ c.in-Commit.is)
    ∙ cond-true (is_removed set c.in-Commit.id) (back_fault set events c.in-Commit.mark c.in-Commit.parents) None gone
    ∙ is_fork set events c.in-Commit.mark c.in-Some.parent.now c.in-Commit.parents first (omega arith))

pub returns-in-Some-2 : goal.returns-in-Some-2
returns-in-Some-2 c event at =
    let events = c.args.removal.now.events in
    let set = c.args.removal.now.set in
    let e = c.nth.result.now in
    let first = ap (λ (ps : List ℕ). slice_get ps 0) (sym c.as_slice.ensures) ∙ sym c.in-Some.ensures.value in
    let gone = sym (removed_at set c.in-Commit.id e c.has_at.result (ap commit_id c.in-Commit.is) (c.has_at.ensures e c.nth.ensures.event)) ∙ c.if-not-has_at.false in
    let same : event ≡ e = same_Some event e (sym at ∙ c.nth.ensures.event) in
    let b = commit_placed events c.in-Some.parent.now c.place.result c.place.ensures.place in
    let is : get_or c.args.counts.now c.place.result 0 ≡ first_children events c.in-Some.parent.now = c.requires.counts.entry c.place.result b.event b.at c.in-Some.parent.now b.own ∙ ap (λ (es : List PlainEvent). first_children es c.in-Some.parent.now) (take_all events (length events) (omega arith)) in
    let few = c.if-counts-place-gt1.false in
    sym (ap (own_fault set events) (same ∙ c.in-Commit.is)
    ∙ cond-true (is_removed set c.in-Commit.id) (back_fault set events c.in-Commit.mark c.in-Commit.parents) None gone
    ∙ no_fork set events c.in-Commit.mark c.in-Some.parent.now c.in-Commit.parents first (omega arith))
