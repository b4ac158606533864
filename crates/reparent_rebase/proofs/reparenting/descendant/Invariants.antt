use Rattle.std.proofs.Common.{◌≡◌, drop}
use Rattle.reparent_laws.specs.Reparent.{descendant}
use Rattle.reparent_rebase.proofs.reparenting.descendant.Given as goal

abbrev pub invariant-loop-parent : goal.invariant-loop-parent
invariant-loop-parent l = descendant l.events.list l.fn.commit (drop l.parent-index l.parents) ≡ descendant l.events.list l.fn.commit l.parents
