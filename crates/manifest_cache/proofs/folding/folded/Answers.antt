use Rattle.std.proofs.Common.{◌+◌, ◌-◌, List, length, take, Some, ap, subst, sym, ◌∙◌, length-append, arith}
use Rattle.std.specs.Prelude.{IsSome, is_some}
use Rattle.plain_model.specs.declared.operation.FileOp.{FileOp}
use Rattle.plain_model.specs.Histories.{folded}
use Rattle.history_laws.proofs.LineLaws.{folded_more}
use Rattle.manifest_cache.specs.Listed.{events_of}
use Rattle.manifest_cache.specs.Walks.{ops_at, ops_back}
use Rattle.manifest_cache.proofs.Walking.{front_applies, part_left}
use Rattle.manifest_cache.proofs.folding.folded.Goals as goal

pub apply_all-requires : goal.apply_all-requires
apply_all-requires g c =
    let events = (events_of c.args.listed.now) in
    let walk = c.args.walk.now in
    let at = c.index-walk-walk.result in
    let part = part_left events walk c.loop-after.after at c.loop-after-test.true c.index-walk-walk.is in
    let rest = ops_back events (take (length walk - (c.loop-after.after + 1)) walk) in
    subst (λ (ops : List FileOp). IsSome (folded ops (Some c.loop-after.tree))) (sym c.ops_at.ensures)
    (front_applies (ops_at events at) rest (Some c.loop-after.tree)
    (subst (λ (ops : List FileOp). IsSome (folded ops (Some c.loop-after.tree))) part (ap is_some (sym c.loop-after.invariant.rest) ∙ c.requires)))

pub returns-in_err-apply_all-clause-counted : goal.returns-in_err-apply_all-clause-counted
returns-in_err-apply_all-clause-counted g c =
    let events = (events_of c.args.listed.now) in
    let walk = c.args.walk.now in
    let at = c.index-walk-walk.result in
    let part = part_left events walk c.loop-after.after at c.loop-after-test.true c.index-walk-walk.is in
    let rest = ops_back events (take (length walk - (c.loop-after.after + 1)) walk) in
    let size = ap length part ∙ length-append (ops_at events at) rest in
    let own = ap length c.ops_at.ensures in
    let now = c.apply_all.ensures.counted in
    let before = c.loop-after.invariant.counted in
    omega (arith, size, own, now, before)

pub loop-after-preserved : goal.loop-after-preserved
loop-after-preserved g c =
    let events = (events_of c.args.listed.now) in
    let walk = c.args.walk.now in
    let at = c.index-walk-walk.result in
    let part = part_left events walk c.loop-after.after at c.loop-after-test.true c.index-walk-walk.is in
    let rest = ops_back events (take (length walk - (c.loop-after.after + 1)) walk) in
    let size = ap length part ∙ length-append (ops_at events at) rest in
    let own = ap length c.ops_at.ensures in
    let now = c.apply_all.ensures.counted in
    let before = c.loop-after.invariant.counted in
    record {
      rest =
          c.loop-after.invariant.rest
          ∙ ap (λ (ops : List FileOp). folded ops (Some c.loop-after.tree)) part
          ∙ folded_more (ops_at events at) rest (Some c.loop-after.tree)
          ∙ ap (folded rest) (ap (λ (ops : List FileOp). folded ops (Some c.loop-after.tree)) (sym c.ops_at.ensures) ∙ c.in_ok-apply_all.ensures.done);
      counted = omega (arith, size, own, now, before);
    }
