use Rattle.std.proofs.Common.{◌∙◌, ap, sym}
use Rattle.std.specs.Option.{option_or}
use Rattle.plain_model.specs.Trees.{at}
use Rattle.branch_tips.specs.Entries.{tips_in}
use Rattle.branch_tips.proofs.TipEntries.{at_tips}
use Rattle.branch_tips.proofs.LastTips.{found_with}
use Rattle.branch_tips.proofs.tips.Tips.tip.Goals as goal

pub returns-in-Some : goal.returns-in-Some
returns-in-Some c =
    let tips = tips_in c.self.inside.by_branch.entries in
    rw (← c.self.view_is) (sym (found_with c.self.inside.last c.args.branch.now tips
    ∙ ap (λ o. option_or o (at tips c.args.branch.now)) (sym c.in-Some.ensures)))

pub returns-in-None : goal.returns-in-None
returns-in-None c =
    let tips = tips_in c.self.inside.by_branch.entries in
    rw (← c.self.view_is) (c.copied.ensures ∙ c.get.ensures.value ∙ at_tips c.args.branch.now c.self.inside.by_branch.entries
    ∙ sym (found_with c.self.inside.last c.args.branch.now tips ∙ ap (λ o. option_or o (at tips c.args.branch.now)) (sym c.in-None.ensures)))
