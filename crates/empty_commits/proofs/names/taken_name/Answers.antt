use Rattle.std.proofs.Common.{◌∙◌, add-one, arith, sym}
use Rattle.history_laws.proofs.Lists.{item_at}
use Rattle.empty_commits.proofs.NameLemmas.{taken_here, taken_later}
use Rattle.empty_commits.proofs.names.taken_name.Goals as goal

pub returns-in-Some : goal.returns-in-Some
returns-in-Some c =
    let events = c.args.empties.now.events in
    let item = item_at events c.loop-place.place (let test = c.loop-place-test.true in let count = c.count-place-end.ensures.count in omega arith) in
    taken_here c.args.empties.now.set events c.loop-place.place item.0 c.in-Some.name item.1 (sym c.in-Some.is ∙ c.in_ok-name.ensures item.0 item.1)
    ∙ sym c.loop-place.invariant

pub loop-place-preserved : goal.loop-place-preserved
loop-place-preserved c =
    let events = c.args.empties.now.events in
    let item = item_at events c.loop-place.place (let test = c.loop-place-test.true in let count = c.count-place-end.ensures.count in omega arith) in
    c.loop-place.invariant
    ∙ rw add-one (taken_later c.args.empties.now.set events c.loop-place.place item.0 item.1 (sym c.in_default.is ∙ c.in_ok-name.ensures item.0 item.1))
