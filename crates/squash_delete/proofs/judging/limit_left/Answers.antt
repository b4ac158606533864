use Rattle.std.proofs.Common.{◌∙◌, refl, sym, true, false}
use Rattle.squash_delete.specs.Fates.{has_many_parents, left_events}
use Rattle.squash_delete.proofs.ForwardLemmas.{limit_by}
use Rattle.squash_delete.proofs.judging.limit_left.Goals as goal

pub returns-then-has_many_ops : goal.returns-then-has_many_ops
returns-then-has_many_ops c comments tags table =
    let left = left_events c.args.removal.now.set c.args.removal.now.events comments tags in
    limit_by left true (has_many_parents left) (sym (c.has_many_ops.ensures comments tags table) ∙ c.if-has_many_ops.true) refl

pub returns-then-has_many_parents : goal.returns-then-has_many_parents
returns-then-has_many_parents c comments tags table =
    let left = left_events c.args.removal.now.set c.args.removal.now.events comments tags in
    limit_by left false true (sym (c.has_many_ops.ensures comments tags table) ∙ c.if-has_many_ops.false)
    (sym (c.has_many_parents.ensures comments tags table) ∙ c.if-has_many_parents.true)

pub returns : goal.returns
returns c comments tags table =
    let left = left_events c.args.removal.now.set c.args.removal.now.events comments tags in
    limit_by left false false (sym (c.has_many_ops.ensures comments tags table) ∙ c.if-has_many_ops.false)
    (sym (c.has_many_parents.ensures comments tags table) ∙ c.if-has_many_parents.false)
