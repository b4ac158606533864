use Rattle.std.proofs.Common.{◌≡◌, map, take}
use Rattle.split_laws.specs.Split.{onto}
use Rattle.split_reorder.proofs.onto.parents_onto.Given as goal

abbrev pub invariant-loop-parent : goal.invariant-loop-parent
invariant-loop-parent l = l.made ≡ map (onto l.commit l.copy) (take l.parent-index l.parents)
