use Rattle.std.proofs.Common.{◌≡◌, ◌++◌, drop, take, length}
use Rattle.std.specs.Prelude.{codes, flat_map}
use Rattle.plain_model.specs.Text.{quoted_byte}
use Rattle.stream_fields.proofs.written_parts.push_quoted.Given as goal

abbrev pub invariant-loop-byte : goal.invariant-loop-byte
invariant-loop-byte l =
    (l.out ++ flat_map quoted_byte (drop l.byte-index l.bytes) ≡ l.fn.out ++ codes "\"" ++ flat_map quoted_byte l.bytes)
    × (take (length l.fn.out) l.out ≡ l.fn.out)
