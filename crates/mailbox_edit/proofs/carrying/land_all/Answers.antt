use Rattle.std.proofs.Common.{◌+◌, drop}
use Rattle.mailbox_edit.specs.Landings.{landed_all}
use Rattle.mailbox_edit.proofs.Landed.{landable_next, landed_next, next_left}
use Rattle.mailbox_edit.proofs.carrying.land_all.Goals as goal

pub loop-landing-preserved : goal.loop-landing-preserved
loop-landing-preserved c =
    let all = c.args.landings.now in
    let k = c.loop-landing.landing-index in
    let l = c.landing-item.result in
    let rest = drop (k + 1) all in
    let more = next_left all k l c.loop-landing-test.true c.landing-item.is in
    let kept = c.loop-landing.invariant in
    record {
      landed = landed_next c.loop-landing.plan (record c.args.plan.now { after = landed_all all c.args.plan.now.after }) c.land.new.plan k l rest all more c.in_ok-land.ensures kept.landed;
      landable = landable_next c.loop-landing.plan c.land.new.plan k l rest all more c.in_ok-land.ensures kept.landable;
    }
