use Rattle.mailbox_laws.specs.Landing.{land_of}
use Rattle.mailbox_edit.proofs.Landed.{planned}
use Rattle.mailbox_edit.proofs.carrying.msgin.Goals as goal

pub returns : goal.returns
returns c =
    let events = c.args.events.now in
    let bytes = c.args.bytes.now in
    planned events c.in_ok-plan.plan c.land_all.new.plan c.deref.result.now c.in_ok-landings.landings.items (land_of events.list bytes)
    c.in_ok-plan.ensures c.deref.ensures.value c.in_ok-land_all.ensures c.in_ok-landings.ensures.landings
    (λ left e. c.a_landing_keeps_soundness.ensures events.list left bytes c.count-count.ensures.sound e)
