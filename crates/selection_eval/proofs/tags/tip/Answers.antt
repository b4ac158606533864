use Rattle.std.proofs.Common.{◌≡◌, ◌∙◌, ℕ, Some, sym, ap}
use Rattle.plain_model.specs.Snapshots.{refs}
use Rattle.plain_model.specs.Trees.{TreeOf, at}
use Rattle.selection_eval.proofs.TipSteps.{tip_found}
use Rattle.selection_eval.proofs.tags.tip.Goals as goal

pub one-requires : goal.one-requires
one-requires c =
    let events = c.args.events.now.list in
    let branch = c.as_slice.result.now in
    let is : at (refs events) branch ≡ Some c.in-Some.commit =
    sym (c.in-Some.ensures ∙ ap (λ (t : TreeOf ℕ). at t branch) c.requires) in
    tip_found events branch c.in-Some.commit c.count-count.ensures.sound is
