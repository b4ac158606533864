use Rattle.graft_unite.proofs.SlashLemmas.{at_first, at_next, none_after, none_before, slash_after, slash_before}
use Rattle.graft_unite.proofs.names.slash_in.Goals as goal

pub loop-at-init : goal.loop-at-init
loop-at-init c = at_first c.args.bytes.now

pub loop-at-preserved : goal.loop-at-preserved
loop-at-preserved c = at_next c.args.bytes.now c.loop-at.at c.loop-at-test.true c.loop-at.invariant c.if-bytes-at-eq47.false

pub returns-then-bytes-at-eq47-clause-before : goal.returns-then-bytes-at-eq47-clause-before
returns-then-bytes-at-eq47-clause-before c = slash_before c.args.bytes.now c.loop-at.at c.loop-at-test.true c.loop-at.invariant c.if-bytes-at-eq47.true

pub returns-then-bytes-at-eq47-clause-after : goal.returns-then-bytes-at-eq47-clause-after
returns-then-bytes-at-eq47-clause-after c = slash_after c.args.bytes.now c.loop-at.at c.loop-at-test.true c.loop-at.invariant c.if-bytes-at-eq47.true

pub returns-clause-before : goal.returns-clause-before
returns-clause-before c = none_before c.args.bytes.now c.loop-at.at c.loop-at-test.false c.loop-at.invariant

pub returns-clause-after : goal.returns-clause-after
returns-clause-after c = none_after c.args.bytes.now c.loop-at.at c.loop-at-test.false c.loop-at.invariant
