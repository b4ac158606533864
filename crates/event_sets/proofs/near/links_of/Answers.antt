use Rattle.std.proofs.Common.{◌∙◌, add-one, arith}
use Rattle.event_sets.specs.Around.{linked}
use Rattle.event_sets.proofs.NearLemmas.{found_all, found_more, found_skip}
use Rattle.event_sets.proofs.near.links_of.Goals as goal
use Rattle.event_sets.proofs.near.links_of.Goals.{then-bits-place, else-bits-place}

pub loop-place-preserved : goal.loop-place-preserved
loop-place-preserved c =
    let es = c.args.events.now.list in
    let bits = c.args.bits.now in
    let k = c.loop-place.place in
    let count = c.count-place-end.ensures.count in
    let test = c.loop-place-test.true in
    elim c.if-bits-place.branch [
      | then-bits-place w ↦ rw (w.near-is, add-one) (record {
        count = w.set_linked.ensures.count ∙ c.loop-place.invariant.count;
        found =
            found_more (linked es) es bits k w.nth.result.now c.loop-place.near.items w.set_linked.new.bits.items
            w.nth.ensures.event w.if-bits-place.true w.set_linked.ensures.adds c.loop-place.invariant.found;
      })
      | else-bits-place w ↦ rw (w.near-is, add-one) (record {
        count = c.loop-place.invariant.count;
        found =
            found_skip (linked es) es bits k c.loop-place.near.items (omega arith) w.if-bits-place.false
            c.loop-place.invariant.found;
      })
    ]

pub returns-clause-links : goal.returns-clause-links
returns-clause-links c =
    let es = c.args.events.now.list in
    let count = c.count-place-end.ensures.count in
    let past = c.loop-place-test.false in
    found_all (linked es) es c.args.bits.now c.loop-place.place c.loop-place.near.items (omega arith)
    c.loop-place.invariant.found
