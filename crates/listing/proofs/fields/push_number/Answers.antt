use Rattle.std.proofs.Common.{◌∙◌}
use Rattle.listing.proofs.Lines.{padded}
use Rattle.listing.proofs.fields.push_number.Goals as goal

pub loop-preserved : goal.loop-preserved
loop-preserved c = padded c.loop.counter c.loop.into c.push.new.self c.loop-test.true c.in_ok-push.ensures.ok ∙ c.loop.invariant
