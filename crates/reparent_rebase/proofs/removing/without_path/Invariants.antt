use Rattle.std.proofs.Common.{◌≡◌, ◌++◌, drop, filter, not}
use Rattle.reparent_laws.specs.Operations.{is_at}
use Rattle.reparent_rebase.proofs.removing.without_path.Given as goal

abbrev pub invariant-loop-op : goal.invariant-loop-op
invariant-loop-op l = l.made ++ filter (λ op. not (is_at l.path op)) (drop l.op-index l.ops) ≡ filter (λ op. not (is_at l.path op)) l.ops
