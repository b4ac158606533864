use Rattle.std.proofs.Common.{◌≡◌, None, take}
use Rattle.graft_laws.specs.Faults.{name_fault}
use Rattle.graft_laws.specs.Joining.{new_names}
use Rattle.graft_unite.proofs.clashes.name_fault.Given as goal

abbrev pub invariant-loop-place : goal.invariant-loop-place
invariant-loop-place g l = name_fault (g.J.Join.clashing l.how) (new_names (g.J.Join.joining l.how) (take l.place l.part.list)) ≡ None
