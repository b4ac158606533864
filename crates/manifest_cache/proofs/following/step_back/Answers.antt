use Rattle.std.proofs.Common.{◌∙◌, sym}
use Rattle.std.proofs.lemmas.Bool.{true≢false}
use Rattle.manifest_cache.proofs.SameLines.{goes_on, later_parent, no_root, not_there, now_root, other_ops, other_parent, same_root, was_there}
use Rattle.manifest_cache.proofs.Steps.{absent}
use Rattle.manifest_cache.proofs.following.step_back.Goals as goal

pub returns-in_default : goal.returns-in_default
returns-in_default c = absurd (was_there c.args.plan.now.before c.args.plan.now.after c.args.commit c.requires (sym c.in_default.ensures))

pub returns-in_default-event : goal.returns-in_default-event
returns-in_default-event c =
    not_there c.args.plan.now.before c.args.plan.now.after c.args.commit c.requires (absent c.args.plan.now.after c.args.commit (sym c.in_default-event.ensures))

pub returns-then-not-same_ops : goal.returns-then-not-same_ops
returns-then-not-same_ops c =
    let before = c.args.plan.now.before in
    let after = c.args.plan.now.after in
    let at = c.args.commit in
    other_ops before after at c.requires c.old_count.ensures.once c.count.ensures.once c.in-Some.old.now c.in-Some-event.new.now (sym c.in-Some.ensures) (sym c.in-Some-event.ensures)
    (λ same. true≢false (sym (c.same_ops.ensures.1 (c.ops.ensures ∙ same ∙ sym c.ops-2.ensures)) ∙ c.if-not-same_ops.true))

pub returns-then-number : goal.returns-then-number
returns-then-number c =
    let before = c.args.plan.now.before in
    let after = c.args.plan.now.after in
    let at = c.args.commit in
    other_parent before after at c.requires c.old_count.ensures.once c.count.ensures.once c.in-Some.old.now c.in-Some-event.new.now (sym c.in-Some.ensures) (sym c.in-Some-event.ensures)
    c.in-Some-Some.parent (sym c.in-Some-Some.is-0 ∙ c.first_parent.ensures) c.in-Some-Some.other (sym c.in-Some-Some.is-1 ∙ c.first_parent-2.ensures)
    (λ same. c.if-number.true (c.number.ensures ∙ same ∙ sym c.number-in-Some-Some.ensures))

pub returns-then-not-is_earlier : goal.returns-then-not-is_earlier
returns-then-not-is_earlier c =
    let before = c.args.plan.now.before in
    let after = c.args.plan.now.after in
    let at = c.args.commit in
    later_parent before after at c.requires c.old_count.ensures.once c.count.ensures.once c.in-Some.old.now c.in-Some-event.new.now (sym c.in-Some.ensures) (sym c.in-Some-event.ensures)
    c.in-Some-Some.parent (sym c.in-Some-Some.is-0 ∙ c.first_parent.ensures) c.in-Some-Some.other (sym c.in-Some-Some.is-1 ∙ c.first_parent-2.ensures)
    (sym c.is_earlier.ensures ∙ c.if-not-is_earlier.true)

pub returns-in-None-None : goal.returns-in-None-None
returns-in-None-None c =
    let before = c.args.plan.now.before in
    let after = c.args.plan.now.after in
    let at = c.args.commit in
    same_root before after at c.requires c.old_count.ensures.once c.count.ensures.once c.in-Some.old.now c.in-Some-event.new.now (sym c.in-Some.ensures) (sym c.in-Some-event.ensures)
    (sym c.in-None-None.is-0 ∙ c.first_parent.ensures) (sym c.in-None-None.is-1 ∙ c.first_parent-2.ensures)
    (sym c.ops.ensures ∙ c.same_ops.ensures.0 c.if-not-same_ops.false ∙ c.ops-2.ensures)

pub returns-in-None-Some : goal.returns-in-None-Some
returns-in-None-Some c =
    let before = c.args.plan.now.before in
    let after = c.args.plan.now.after in
    let at = c.args.commit in
    no_root before after at c.requires c.old_count.ensures.once c.count.ensures.once c.in-Some.old.now c.in-Some-event.new.now (sym c.in-Some.ensures) (sym c.in-Some-event.ensures)
    (sym c.in-None-Some.is-0 ∙ c.first_parent.ensures) c.in-None-Some.field-0-1 (sym c.in-None-Some.is-1 ∙ c.first_parent-2.ensures)

pub returns-in-Some-None : goal.returns-in-Some-None
returns-in-Some-None c =
    let before = c.args.plan.now.before in
    let after = c.args.plan.now.after in
    let at = c.args.commit in
    now_root before after at c.requires c.old_count.ensures.once c.count.ensures.once c.in-Some.old.now c.in-Some-event.new.now (sym c.in-Some.ensures) (sym c.in-Some-event.ensures)
    c.in-Some-None.field-0-0 (sym c.in-Some-None.is-0 ∙ c.first_parent.ensures) (sym c.in-Some-None.is-1 ∙ c.first_parent-2.ensures)

pub returns-else-not-is_earlier : goal.returns-else-not-is_earlier
returns-else-not-is_earlier c =
    let before = c.args.plan.now.before in
    let after = c.args.plan.now.after in
    let at = c.args.commit in
    goes_on before after at c.requires c.old_count.ensures.once c.count.ensures.once c.in-Some.old.now c.in-Some-event.new.now (sym c.in-Some.ensures) (sym c.in-Some-event.ensures)
    c.in-Some-Some.parent (sym c.in-Some-Some.is-0 ∙ c.first_parent.ensures) c.in-Some-Some.other (sym c.in-Some-Some.is-1 ∙ c.first_parent-2.ensures)
    (sym c.ops.ensures ∙ c.same_ops.ensures.0 c.if-not-same_ops.false ∙ c.ops-2.ensures)
    (sym c.number.ensures ∙ c.if-number.false ∙ c.number-in-Some-Some.ensures) (sym c.is_earlier.ensures ∙ c.if-not-is_earlier.false)
