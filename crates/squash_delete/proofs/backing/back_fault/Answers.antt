use Rattle.std.proofs.Common.{◌∙◌, Some, None, add-one, arith, ap, refl, sym}
use Rattle.history_laws.proofs.Lists.{item_at}
use Rattle.event_arena.proofs.StepLemmas.{none_left}
use Rattle.squash_laws.specs.Squash.{first_back_fault}
use Rattle.squash_delete.proofs.HangLemmas.{fault_here, fault_later}
use Rattle.squash_delete.proofs.backing.back_fault.Goals as goal

pub returns-in-Some : goal.returns-in-Some
returns-in-Some c =
    let events = c.args.removal.now.events in
    let set = c.args.removal.now.set in
    let place = c.loop-place.place in
    let item = item_at events place (let test = c.loop-place-test.true in let count = c.count-place-end.ensures.count in omega arith) in
    sym (c.loop-place.invariant ∙ sym (fault_here set events place item.0 (Some c.in-Some.fault) item.1 (sym (c.fault_at.ensures item.0 item.1) ∙ c.in-Some.is) refl))

pub loop-place-preserved : goal.loop-place-preserved
loop-place-preserved c =
    let events = c.args.removal.now.events in
    let set = c.args.removal.now.set in
    let place = c.loop-place.place in
    let item = item_at events place (let test = c.loop-place-test.true in let count = c.count-place-end.ensures.count in omega arith) in
    rw add-one (c.loop-place.invariant ∙ fault_later set events place item.0 None item.1 (sym (c.fault_at.ensures item.0 item.1) ∙ c.in_default.is) refl)

pub returns : goal.returns
returns c =
    let events = c.args.removal.now.events in
    let set = c.args.removal.now.set in
    let all = c.loop-place-test.false in
    let count = c.count-place-end.ensures.count in
    sym (c.loop-place.invariant ∙ ap (first_back_fault set events) (none_left c.loop-place.place events (omega arith)))
