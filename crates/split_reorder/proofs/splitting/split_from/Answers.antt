use Rattle.std.proofs.Common.{◌∙◌, ◌≤◌, List, length, sym, ap, subst, arith}
use Rattle.std.specs.Prelude.{is_some}
use Rattle.plain_model.specs.declared.id.AnyId.TheVariants as any
use Rattle.plain_model.specs.declared.operation.FileOp.{FileOp}
use Rattle.edit_laws.specs.Passing.{limit_fault}
use Rattle.history_laws.proofs.SoundOnce.{has_id_find}
use Rattle.event_arena.specs.Graphs.{Change}
use Rattle.split_reorder.proofs.Halving.{never_given}
use Rattle.plan_steps.proofs.Nodes.{there_with_ops}
use Rattle.split_reorder.proofs.SplitDone.{split_done}
use Rattle.split_reorder.proofs.splitting.split_from.Goals as goal

pub halved-requires-clause-there : goal.halved-requires-clause-there
halved-requires-clause-there c =
    let low = c.if-number-lt2.false in
    let high = subst (λ (ops : List FileOp). c.args.number ≤ length ops) c.ops_of.ensures.node c.if-ops_of-number.false in
    there_with_ops c.args.events.now.list c.args.commit (omega arith)

pub returns : goal.returns
returns c =
    let events = c.args.events.now.list in
    let copy = c.args.events.now.next_id in
    let plan = c.in_ok-plan.plan in
    let given = c.in_ok-plan.ensures in
    let low = c.if-number-lt2.false in
    let high = subst (λ (ops : List FileOp). c.args.number ≤ length ops) c.ops_of.ensures.node c.if-ops_of-number.false in
    let there = there_with_ops events c.args.commit (omega arith) in
    let fresh = ap is_some (never_given copy events c.next_id-next.ensures.spent) in
    let within = ap (λ (p : Change). limit_fault p.after) (sym given) ∙ sym c.limit_passed.ensures ∙ c.in_default-limit_passed.is in
    let done = split_done copy c.args.commit c.args.number c.in-Some.mark events plan.after low high (sym c.fresh_mark.ensures ∙ c.in-Some.is) (ap (λ (p : Change). p.after) given) within in (
      done,
      record {
        before = ap (λ (p : Change). p.before) given;
        made_at = ap (λ (p : Change). p.made_at) given;
        next = ap (λ (p : Change). p.next) given;
        sound = c.a_split_keeps_soundness.ensures.at copy c.args.number c.args.commit events plan.after c.count-count.ensures.sound
            (has_id_find events (any.Commit c.args.commit) ∙ there) (has_id_find events (any.Commit copy) ∙ fresh) done;
      },
    )
