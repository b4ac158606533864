use Rattle.std.proofs.Common.{Option, Some, ap, subst, sym, ◌∙◌}
use Rattle.plain_model.specs.Histories.{folded, tree}
use Rattle.plain_model.specs.Trees.{Tree}
use Rattle.stream_builder.specs.Lines.{IsLine, LeadsBack, ops_at}
use Rattle.stream_builder.proofs.FirstParents.{goes_back}
use Rattle.stream_builder.proofs.draft_trees.line.line_to.Goals as goal

pub returns-in-Some : goal.returns-in-Some
returns-in-Some c =
    let kept = c.requires c.loop-line.at c.in-Some.tree (sym (rw c.in-Some.is at c.in_ok-tree.ensures)) in
    subst (λ (t : Option Tree). IsLine c.args.drafts.now c.args.commit c.loop-line.line t) kept.0 c.loop-line.invariant

pub returns-in-Root : goal.returns-in-Root
returns-in-Root c =
    let back = subst (LeadsBack c.args.drafts.now c.loop-line.at) c.in-Root.is c.step_back.ensures in
    goes_back c.args.drafts.now c.loop-line.at (Some c.in_ok-root-in-Root.root) (back.0 ∙ ap (λ (t : Tree). folded (ops_at c.args.drafts.now c.loop-line.at) (Some t)) (sym c.in_ok-root-in-Root.ensures)) back.1
    c.args.commit c.loop-line.line c.push.new.self c.loop-line.invariant c.in_ok-push-in-Root.ensures.ok

pub loop-line-preserved : goal.loop-line-preserved
loop-line-preserved c =
    let back = subst (LeadsBack c.args.drafts.now c.loop-line.at) c.in-To.is c.step_back.ensures in
    goes_back c.args.drafts.now c.loop-line.at (tree c.args.drafts.now c.in-To.parent) back.0 back.1 c.args.commit c.loop-line.line c.push-in-To.new.self c.loop-line.invariant c.in_ok-push-in-To.ensures.ok
