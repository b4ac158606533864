use Rattle.std.proofs.Common.{arith}
use Rattle.memchr.specs.Find.{is_byte}
use Rattle.stream_fields.proofs.Places.{first_is, near_is}
use Rattle.stream_fields.proofs.lines.place_of.Goals as goal

pub returns-clause-value : goal.returns-clause-value
returns-clause-value c = first_is (is_byte c.args.byte) c.args.text.now c.memchr.result c.memchr.ensures

pub returns-then-run-lt-LANES-clause-value : goal.returns-then-run-lt-LANES-clause-value
returns-then-run-lt-LANES-clause-value c =
    near_is (is_byte c.args.byte) c.args.text.now 32 c.run_before-run.result (omega arith) c.run_before-run.ensures (omega arith)
