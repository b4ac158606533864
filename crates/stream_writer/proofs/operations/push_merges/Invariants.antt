use Rattle.std.proofs.Common.{◌≡◌, ◌++◌, drop}
use Rattle.stream_writer.specs.Parts.{merges_text}
use Rattle.stream_writer.proofs.operations.push_merges.Given as goal

abbrev pub invariant-loop-merge : goal.invariant-loop-merge
invariant-loop-merge l = l.out ++ merges_text l.history.list (drop l.merge-index l.merges) ≡ l.fn.out ++ merges_text l.history.list l.merges
