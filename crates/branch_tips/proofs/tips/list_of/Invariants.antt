use Rattle.std.proofs.Common.{◌≡◌, ◌++◌}
use Rattle.branch_tips.specs.Entries.{tips_in}
use Rattle.branch_tips.proofs.LastTips.{newest}
use Rattle.branch_tips.proofs.tips.list_of.Given as goal

abbrev pub invariant-loop-branch : goal.invariant-loop-branch
invariant-loop-branch l = l.list ++ newest l.last (tips_in l.branch-iterator) ≡ newest l.last (tips_in l.by_branch.entries)
