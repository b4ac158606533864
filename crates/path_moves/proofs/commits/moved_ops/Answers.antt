use Rattle.std.proofs.Common.{◌∙◌, ◌+◌, List, ◌++◌, append_assoc, drop, sym, ap, subst, Option}
use Rattle.std.specs.Prelude.{IsOk}
use Rattle.std.proofs.lemmas.Result.{err_from_is_err_and}
use Rattle.plain_model.specs.declared.fault.Fault.{Fault}
use Rattle.plain_model.specs.declared.operation.FileOp.{FileOp}
use Rattle.plain_model.specs.Trees.{apply_all}
use Rattle.path_move_laws.specs.MovedOps.{first_fault, moved_all, moved_op}
use Rattle.path_move_laws.specs.PathMaps.{image_of}
use Rattle.path_moves.specs.Commits.{Reports}
use Rattle.path_moves.proofs.Meeting.{drop_here}
use Rattle.path_moves.proofs.Stepping.{faulty_reports, first_applies, step_applied, step_calm, step_whole}
use Rattle.path_moves.proofs.commits.moved_ops.Goals as goal

pub loop-place-preserved : goal.loop-place-preserved
loop-place-preserved c =
    let f = image_of c.args.map.now in
    let ops = c.args.ops.now in
    let k = c.loop-place.place in
    let op = c.index-ops-place.result in
    let rest = drop (k + 1) ops in
    let old = c.loop-place.pair.tree in
    let new = c.in_ok-pair.pair.tree in
    let i = c.loop-place.invariant in
    let on = c.in_ok-pair.ensures.leads in
    let here = drop_here ops k op c.loop-place-test.true c.index-ops-place.is in
    record {
      paired = on.paired;
      applied = sym (step_applied f op rest old new on.applied) ∙ ap (λ (l : List FileOp). apply_all l old) (sym here) ∙ i.applied;
      whole =
          ap (λ (l : List FileOp). l ++ moved_all f rest new) on.grown
          ∙ append_assoc c.loop-place.made (moved_op f op old new) (moved_all f rest new)
          ∙ ap (λ (l : List FileOp). c.loop-place.made ++ l) (sym (step_whole f op rest old new on.applied) ∙ ap (λ (l : List FileOp). moved_all f l old) (sym here))
          ∙ i.whole;
      calm =
          sym (step_calm f op rest old new on.applied c.args.mark (k + 1) on.paired.moves)
          ∙ ap (λ (l : List FileOp). first_fault f c.args.mark (k + 1) l old) (sym here) ∙ i.calm;
    }

pub move_op-requires-clause-applies : goal.move_op-requires-clause-applies
move_op-requires-clause-applies c =
    let ops = c.args.ops.now in
    let k = c.loop-place.place in
    let op = c.index-ops-place.result in
    let old = c.loop-place.pair.tree in
    let here = drop_here ops k op c.loop-place-test.true c.index-ops-place.is in
    first_applies op (drop (k + 1) ops) old
    (subst IsOk (sym (ap (λ (l : List FileOp). apply_all l old) (sym here) ∙ c.loop-place.invariant.applied)) c.requires.applies)

pub returns-in_err-pair-clause-fault : goal.returns-in_err-pair-clause-fault
returns-in_err-pair-clause-fault c =
    let f = image_of c.args.map.now in
    let ops = c.args.ops.now in
    let k = c.loop-place.place in
    let op = c.index-ops-place.result in
    let old = c.loop-place.pair.tree in
    let halt = c.in_err-pair.field-0.0 in
    let here = drop_here ops k op c.loop-place-test.true c.index-ops-place.is in
    let applies = first_applies op (drop (k + 1) ops) old
    (subst IsOk (sym (ap (λ (l : List FileOp). apply_all l old) (sym here) ∙ c.loop-place.invariant.applied)) c.requires.applies) in
    let p = err_from_is_err_and c.from_residual.result c.from_residual.ensures.1 in
    rw (p.1, p.2) (subst (λ (o : Option Fault). Reports o halt) (ap (λ (l : List FileOp). first_fault f c.args.mark (k + 1) l old) (sym here) ∙ c.loop-place.invariant.calm)
    (faulty_reports f op (drop (k + 1) ops) old c.args.mark (k + 1) halt applies c.in_err-pair.ensures.fault))
