use Rattle.plain_model.specs.Lookups.{event_ops}
use Rattle.std.proofs.Common.{◌∙◌, List, add-one, ap, length}
use Rattle.std.specs.Prelude.{nat_lt}
use Rattle.plain_model.specs.Histories.{nodes}
use Rattle.plain_model.specs.declared.event.PlainEvent.{PlainEvent}
use Rattle.plain_model.specs.declared.limit.TheConstants.{MAX_OPERATIONS}
use Rattle.plain_model.specs.declared.operation.FileOp.{FileOp}
use Rattle.history_laws.specs.FirstParents.{ops_along}
use Rattle.repo_divide.proofs.DividingLemmas.{at_place, left_less, left_passed}
use Rattle.repo_divide.proofs.dividing.has_many.Goals as goal

pub returns-then-left-more : goal.returns-then-left-more
returns-then-left-more c =
    let items = c.as_slice-row-items.result.now in
    let k = c.loop-row.row-index in
    let e = c.row-item.result in
    let own = ap (λ (ops : List FileOp). length ops) (c.ops.ensures ∙ ap event_ops c.as_ref.ensures) in
    left_passed MAX_OPERATIONS items k c.loop-row.left c.loop-row.invariant (length c.ops.result.now) e (at_place items k e c.loop-row-test.true c.row-item.is) own c.if-left-more.true
    ∙ ap (λ (es : List PlainEvent). nat_lt MAX_OPERATIONS (length (ops_along (nodes es)))) c.as_slice-row-items.ensures

pub loop-row-preserved : goal.loop-row-preserved
loop-row-preserved c =
    let items = c.as_slice-row-items.result.now in
    let k = c.loop-row.row-index in
    let e = c.row-item.result in
    let own = ap (λ (ops : List FileOp). length ops) (c.ops.ensures ∙ ap event_ops c.as_ref.ensures) in
    rw add-one (left_less MAX_OPERATIONS items k c.loop-row.left c.loop-row.invariant (length c.ops.result.now) e (at_place items k e c.loop-row-test.true c.row-item.is) own c.if-left-more.false)
