use Rattle.std.proofs.Common.{◌≡◌, ◌∙◌, None, ap, sym}
use Rattle.std.proofs.Math.Facts.{to_z-of_z}
use Rattle.people_laws.specs.Dates.{all_dated, dated_unless, first_stuck, time_offset_of}
use Rattle.people_edit.proofs.Planned.{planned}
use Rattle.people_edit.proofs.dates.time_offset.Goals as goal

pub returns : goal.returns
returns c =
    let events = c.args.events.now in
    let set = c.args.set.now in
    let seconds = c.args.seconds in
    let zone = c.args.zone in
    let free : first_stuck seconds zone events.list set ≡ None = sym (rw (to_z-of_z c.ranges.seconds) at c.first_stuck.ensures) ∙ c.in_default.is in
    planned events c.in_ok-plan.plan c.date_all.new.plan (all_dated seconds zone set events.list) (time_offset_of seconds zone set events.list)
    c.in_ok-plan.ensures
    (rw (to_z-of_z c.ranges.seconds, c.in_ok-flagged.ensures.set, c.in_ok-flagged.ensures.events) at c.in_ok-date_all.ensures)
    (ap (λ stuck. dated_unless seconds zone stuck set events.list) free)
    (λ left done. c.time_offset_keeps_soundness.ensures seconds zone set events.list left c.count-count.ensures.sound c.known.ensures done)
