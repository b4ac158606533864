use Rattle.std.proofs.Common.{◌≡◌, ◌∷◌, take}
use Rattle.reorder_laws.specs.Reorder.{last_of, lined_up}
use Rattle.split_reorder.specs.Parents.{with_all}
use Rattle.split_reorder.proofs.relinking.line_up.Given as goal

abbrev pub invariant-loop-commit : goal.invariant-loop-commit
invariant-loop-commit l = record {
  before : l.before ≡ last_of l.fn.first (take l.commit-index l.rest);
  plan : l.plan ≡ record l.fn.plan { after = with_all (lined_up l.fn.parents (l.fn.first ∷ take l.commit-index l.rest)) l.fn.plan.after };
}
