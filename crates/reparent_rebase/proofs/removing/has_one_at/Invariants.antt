use Rattle.std.proofs.Common.{◌≡◌, drop}
use Rattle.std.specs.List.{list_any}
use Rattle.reparent_laws.specs.Operations.{is_at}
use Rattle.reparent_rebase.proofs.removing.has_one_at.Given as goal

abbrev pub invariant-loop-op : goal.invariant-loop-op
invariant-loop-op l = list_any (is_at l.path) (drop l.op-index l.ops) ≡ list_any (is_at l.path) l.ops
