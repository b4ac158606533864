use Rattle.std.proofs.Common.{◌∙◌, ℕ, List, take, arith, ap, sym}
use Rattle.std.specs.Prelude.{slice_get}
use Rattle.plain_model.specs.Lookups.{commit_id, event_parents}
use Rattle.squash_delete.proofs.HangLemmas.{counted_more, counted_same, few_children, no_parents, take_short}
use Rattle.plan_steps.proofs.NodeLemmas.{earlier_there}
use Rattle.plan_steps.proofs.WayLemmas.{first_known, commit_placed, no_id}
use Rattle.squash_delete.proofs.backing.count_child.Goals as goal

pub place-requires : goal.place-requires
place-requires c =
    let events = c.args.removal.now.events in
    let sound = c.count-count.ensures.sound in
    let first = ap (λ (ps : List ℕ). slice_get ps 0) (ap event_parents c.in-Commit.is ∙ sym c.as_slice.ensures) ∙ sym c.in-Some.ensures.value in
    earlier_there events sound c.args.place c.in-Some.parent.now (first_known events sound c.args.place c.in-Some.parent.now c.nth.result.now c.nth.ensures.event first)

pub overflow_add-counts : goal.overflow_add-counts
overflow_add-counts c =
    let events = c.args.removal.now.events in
    let b = commit_placed events c.in-Some.parent.now c.place.result c.place.ensures.place in
    let few = few_children events c.count-count.ensures.sound (take c.args.place events) c.in-Some.parent.now in
    let short = take_short c.args.place events in
    let is = c.requires.counts.entry c.place.result b.event b.at c.in-Some.parent.now b.own in
    let low = c.requires.place in
    let count = c.count-count.ensures.count in
    let fits = c.count-count.type_inv in
    omega arith

pub returns-in-Some : goal.returns-in-Some
returns-in-Some c =
    let events = c.args.removal.now.events in
    let first = ap (λ (ps : List ℕ). slice_get ps 0) (ap event_parents c.in-Commit.is ∙ sym c.as_slice.ensures) ∙ sym c.in-Some.ensures.value in
    counted_more events c.count-count.ensures.sound c.args.place c.in-Commit.id c.in-Some.parent.now c.place.result c.nth.result.now c.args.counts.now c.nth.ensures.event
    (ap commit_id c.in-Commit.is) first c.place.ensures.place c.place.ensures.within c.requires.counts

pub returns-in_default-first : goal.returns-in_default-first
returns-in_default-first c =
    let none = ap (λ (ps : List ℕ). slice_get ps 0) (ap event_parents c.in-Commit.is ∙ sym c.as_slice.ensures) ∙ sym c.in_default-first.ensures.value in
    counted_same c.args.removal.now.events c.count-count.ensures.sound c.args.place c.nth.result.now c.args.counts.now c.nth.ensures.event none c.requires.counts

pub returns-in_default : goal.returns-in_default
returns-in_default c =
    counted_same c.args.removal.now.events c.count-count.ensures.sound c.args.place c.nth.result.now c.args.counts.now c.nth.ensures.event
    (no_parents c.nth.result.now (no_id c.nth.result.now c.in_default.not-Commit)) c.requires.counts
