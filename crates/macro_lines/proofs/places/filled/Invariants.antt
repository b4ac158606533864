use Rattle.std.proofs.Common.{◌≡◌, length, IsUtf8, List, ℕ, []}
use Rattle.macro_lines.specs.Places.{before, filled_from}
use Rattle.macro_lines.specs.Put.{IsKept}
use Rattle.macro_lines.proofs.places.filled.Given as goal

abbrev pub invariant-loop-front : goal.invariant-loop-front
invariant-loop-front l = record {
  same : (put : List ℕ) × (before put (filled_from l.words 0 l.rest) ≡ filled_from l.words 0 l.text) × (IsKept l.fn.begun [] → IsKept l.line put);
  utf8 : IsUtf8 l.rest;
}

abbrev pub decreases-loop-front : goal.decreases-loop-front
decreases-loop-front l = length l.rest
