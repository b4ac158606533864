use Rattle.std.proofs.Common.{◌≡◌, ◌∙◌, Ok, None, length, sym, ap}
use Rattle.event_arena.proofs.Plans.{leaves_sound}
use Rattle.commit_laws.specs.Selected.{kind_fault, listed}
use Rattle.reparent_laws.specs.Merge.{merge_these}
use Rattle.reparent_rebase.proofs.Answered.{merged_of}
use Rattle.reparent_rebase.proofs.merging.merge.Goals as goal

pub returns-in-Ok : goal.returns-in-Ok
returns-in-Ok c =
    let events = c.args.events.now.list in
    let set = c.args.set.now in
    let new = c.in-Ok.plan.after in
    let two : length set ≡ 2 = c.if-set-ne2.false in
    let kinds : kind_fault events set ≡ None = sym c.kind_fault.ensures ∙ c.in_default.is in
    let commits : c.as_slice.result.now ≡ listed set events = c.as_slice.ensures ∙ c.in_ok-commits.ensures in
    let done = merged_of set events (Ok new) two kinds (ap (merge_these events) (sym commits) ∙ c.in-Ok.ensures.answer) in
    (done, leaves_sound c.args.events.now new c.in-Ok.plan c.in-Ok.ensures.made (c.a_change_keeps_soundness.ensures.merge set events new c.count-count.ensures.sound done))
