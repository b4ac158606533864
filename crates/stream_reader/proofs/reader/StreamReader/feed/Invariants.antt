use Rattle.std.proofs.Common.{◌≡◌, ◌≤◌, ◌+◌, ◌-◌, ℕ, length, take}
use Rattle.plain_model.specs.Paths.{Bytes}
use Rattle.stream_reader.specs.Reading.{HasCome, Reading, StreamMachine, after}
use Rattle.stream_reader.proofs.reader.StreamReader.feed.Given as goal

-- so many bytes of the piece were read
pub record IsFed (old now : Reading) (piece : Bytes) (at : ℕ) : Type 0 where
  pub within : at ≤ length piece
  pub come : now.come ≡ old.come + at
  pub reads : (m : StreamMachine) → HasCome old m → HasCome now (after m (take at piece))

abbrev pub invariant-loop-at : goal.invariant-loop-at
invariant-loop-at l = IsFed l.fn.self l.self l.piece l.at

abbrev pub decreases-loop-at : goal.decreases-loop-at
decreases-loop-at l = length l.piece - l.at
