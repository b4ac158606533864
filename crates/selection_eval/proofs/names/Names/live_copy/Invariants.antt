use Rattle.std.proofs.Common.{◌≡◌, take}
use Rattle.selection_eval.specs.Names.{names_of}
use Rattle.selection_eval.proofs.names.Names.live_copy.Given as goal

abbrev pub invariant-loop-place : goal.invariant-loop-place
invariant-loop-place l = l.made ≡ names_of (take l.place l.self-inside.by_name.entries)
