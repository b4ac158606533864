use Rattle.std.proofs.Common.{◌≡◌, ◌∙◌, ◌≤◌, None, Ok, length, ap, sym}
use Rattle.event_arena.specs.Graphs.{Change}
use Rattle.event_arena.proofs.Plans.{leaves_sound}
use Rattle.commit_laws.specs.Selected.{chosen, kind_fault, listed}
use Rattle.reorder_laws.specs.Reorder.{reorder_these}
use Rattle.split_reorder.proofs.Arranged.{of_these}
use Rattle.split_reorder.proofs.reordering.reorder.Goals as goal

pub returns-in-Ok-clause-plans : goal.returns-in-Ok-clause-plans
returns-in-Ok-clause-plans c =
    let events = c.args.events.now.list in
    let set = c.args.list.now in
    let new = c.in-Ok.plan.after in
    let many : 2 ≤ length set = c.if-list-lt2.false in
    let kinds : kind_fault events set ≡ None = sym c.kind_fault.ensures ∙ c.in_default.is in
    let is_set : c.in_ok-places.places.set ≡ set = c.in_ok-places.ensures.set in
    let is_events : c.in_ok-places.places.events ≡ events = c.in_ok-places.ensures.events in
    let line : c.as_slice.result.now ≡ listed set events = c.as_slice.ensures ∙ c.in_ok-line.ensures ∙ (λ i. listed (is_set i) (is_events i)) in
    let wanted : c.as_slice-2.result.now ≡ chosen set = c.as_slice-2.ensures ∙ c.in_ok-wanted.ensures in
    let these = sym (λ i. reorder_these (is_set i) (is_events i) (line i) (wanted i)) ∙ c.in-Ok.ensures.answer in
    let done = of_these set events (Ok new) many kinds these in
    let made = c.in-Ok.ensures.made ∙ ap (λ (p : Change). record p { after = new }) c.in_ok-plan.ensures in
    (done, leaves_sound c.args.events.now new c.in-Ok.plan made (c.a_reorder_keeps_soundness.ensures set events new c.count-count.ensures.sound c.requires.selection done))
