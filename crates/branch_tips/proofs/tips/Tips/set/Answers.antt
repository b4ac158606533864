use Rattle.std.proofs.Common.{◌∙◌, ap, sym}
use Rattle.plain_model.specs.Trees.{put}
use Rattle.branch_tips.specs.Entries.{tips_in, tips_with, is_among}
use Rattle.branch_tips.proofs.LastTips.{moved_with, kept_with, kept_among}
use Rattle.branch_tips.proofs.tips.Tips.set.Goals as goal

pub returns-then-move_to-clause-ok : goal.returns-then-move_to-clause-ok
returns-then-move_to-clause-ok c =
    let tips = tips_in c.self.inside.by_branch.entries in
    rw (← c.self.view_is) (ap (λ l. tips_with l tips) c.if-move_to.ensures.moved
    ∙ moved_with c.self.inside.last c.args.branch.now c.args.tip tips (sym c.if-move_to.ensures.is_last))

pub invariant_of-self-2 : goal.invariant_of-self-2
invariant_of-self-2 c =
    let settled = tips_in c.settle.new.by_branch.entries in
    let put_there = c.in_ok-put_in.ensures.ok in (
      c.put_in.ensures.in_order,
      ap (is_among c.keep.new.self) put_there ∙ kept_among c.keep.new.self c.args.branch.now c.args.tip settled c.keep.ensures,
      λ there. ap (tips_with c.keep.new.self) put_there ∙ kept_with c.keep.new.self c.args.branch.now c.args.tip settled c.keep.ensures ∙ sym put_there,
    )

pub returns-clause-ok : goal.returns-clause-ok
returns-clause-ok c =
    let settled = tips_in c.settle.new.by_branch.entries in
    let tips = tips_in c.self.inside.by_branch.entries in
    rw (← c.self.view_is) (ap (tips_with c.keep.new.self) c.in_ok-put_in.ensures.ok
    ∙ kept_with c.keep.new.self c.args.branch.now c.args.tip settled c.keep.ensures
    ∙ ap (put c.args.branch.now c.args.tip) (c.settle.ensures.tips ∙ ap (λ l. tips_with l tips) c.if-move_to.ensures.moved))
