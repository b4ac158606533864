use Rattle.std.proofs.Common.{◌≡◌, ◌∙◌, rules}
use Rattle.branch_tips.specs.Entries.{tips_in}
use Rattle.branch_tips.proofs.LastTips.{newest, newest_with}
use Rattle.branch_tips.proofs.tips.list_of.Goals as goal

pub returns : goal.returns
returns c =
    let listed : c.loop-branch.list ≡ newest c.args.last.now (tips_in c.args.by_branch.now.entries) = search rules in
    listed ∙ newest_with c.args.last.now c.args.by_branch.now.entries c.requires.in_order c.requires.among
