use Rattle.std.proofs.Common.{◌≡◌, ◌++◌, drop}
use Rattle.reparent_rebase.proofs.written.push_tree.Given as goal
use Rattle.edit_laws.specs.Puts.{puts_of}

abbrev pub invariant-loop-path : goal.invariant-loop-path
invariant-loop-path l = l.ops ++ puts_of (drop l.path-index l.path-items) ≡ l.fn.ops ++ puts_of l.tree
