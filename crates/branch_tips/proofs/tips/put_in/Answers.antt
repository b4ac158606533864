use Rattle.std.proofs.Common.{◌≡◌, ap, is_some, sym, ◌∙◌}
use Rattle.std.specs.Option.{option_copied_mut}
use Rattle.plain_model.specs.Trees.{put}
use Rattle.branch_tips.specs.Entries.{tips_in}
use Rattle.branch_tips.proofs.TipEntries.{put_tips, set_tips}
use Rattle.branch_tips.proofs.tips.put_in.Goals as goal

pub returns-in-Some-clause-ok : goal.returns-in-Some-clause-ok
returns-in-Some-clause-ok c =
    let written = c.get_mut.follows.holds c.args.tip in
    ap tips_in written.0 ∙ set_tips c.args.branch.now c.args.tip c.args.by_branch.now.entries c.requires
    (ap is_some (sym c.get_mut.ensures.value) ∙ ap (λ r. is_some (option_copied_mut r)) c.in-Some.is)

pub returns-clause-ok : goal.returns-clause-ok
returns-clause-ok c =
    let branch : c.in_ok-branch.branch.items ≡ c.args.branch.now = c.in_ok-branch.ensures.items in
    let same = c.get_mut.follows.holds-at-none in
    rw (← branch) (ap tips_in c.in_ok-insert.ensures.entries
    ∙ put_tips c.in_ok-branch.branch c.args.tip c.get_mut.follows.lender-at-none.entries
    ∙ ap (λ m. put c.in_ok-branch.branch.items c.args.tip (tips_in m.entries)) same)
