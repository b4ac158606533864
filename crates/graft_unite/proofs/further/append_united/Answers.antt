use Rattle.std.proofs.Common.{◌∙◌, arith, ap, length}
use Rattle.event_arena.specs.Graphs.{Change}
use Rattle.graft_unite.specs.Uniting.{joining}
use Rattle.graft_unite.proofs.UnitingLemmas.{few_left, length_added}
use Rattle.graft_unite.proofs.further.append_united.Goals as goal

pub overflow_add-result : goal.overflow_add-result
overflow_add-result c =
    let part = c.args.part.now.list in
    let after = c.count.ensures.count ∙ ap (λ (p : Change). length p.after) c.in_ok-append_part.ensures ∙ length_added c.args.plan.now.after c.args.mark (joining c.args.how.now) c.args.next part in
    let before = c.count-before.ensures.count in
    let few = few_left part in
    let many = c.count-count.ensures.count in
    let low = c.if-next.false in
    let room = c.if-next-count.false in
    omega arith

pub returns-clause-next : goal.returns-clause-next
returns-clause-next c =
    let part = c.args.part.now.list in
    let after = c.count.ensures.count ∙ ap (λ (p : Change). length p.after) c.in_ok-append_part.ensures ∙ length_added c.args.plan.now.after c.args.mark (joining c.args.how.now) c.args.next part in
    let before = c.count-before.ensures.count in
    omega arith
