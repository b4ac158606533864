use Rattle.std.proofs.Common.{◌≡◌, [], drop}
use Rattle.std.specs.List.{list_any}
use Rattle.std.specs.Prelude.{bytes_eq}
use Rattle.plain_model.specs.Paths.{Bytes}
use Rattle.script_reader.specs.Commands.{united_with}
use Rattle.script_reader.proofs.form.unite.Given as goal

abbrev pub invariant-loop-i : goal.invariant-loop-i
invariant-loop-i l =
    (united_with l.names (drop l.i l.words) ≡ united_with [] l.words)
    × ((p : Bytes) → list_any (bytes_eq p) l.seen ≡ list_any (bytes_eq p) l.names)
