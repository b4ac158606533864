use Rattle.std.proofs.Common.{ap, ◌∙◌, not, bytes_eq}
use Rattle.plain_model.specs.Trees.{where_path}
use Rattle.branch_tips.specs.Entries.{tips_in, tips_with}
use Rattle.branch_tips.proofs.TipEntries.{removed_tips}
use Rattle.branch_tips.proofs.tips.Tips.remove.Goals as goal

pub returns : goal.returns
returns c =
    rw (← c.self.view_is) (ap (λ l. tips_with l (tips_in c.remove.new.self.entries)) c.settle.ensures.none
    ∙ ap tips_in c.remove.ensures.entries
    ∙ removed_tips c.args.branch.now c.settle.new.by_branch.entries c.settle.ensures.in_order
    ∙ ap (where_path (λ q. not (bytes_eq c.args.branch.now q))) c.settle.ensures.tips)
