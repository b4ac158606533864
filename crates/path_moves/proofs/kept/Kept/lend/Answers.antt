use Rattle.std.proofs.Common.{◌<◌, ◌∙◌, None, Option, length, sym, subst, arith}
use Rattle.path_move_laws.specs.PathMaps.{image_of}
use Rattle.std.proofs.lemmas.Result.{IfOk-weaker}
use Rattle.plan_steps.proofs.Tables.{any_default}
use Rattle.plan_steps.proofs.WayLemmas.{commit_placed}
use Rattle.path_moves.specs.Commits.{IsKept}
use Rattle.path_moves.specs.declared.pairs.Pair.{Pair}
use Rattle.path_moves.proofs.Keeping.{kept_pair}
use Rattle.path_moves.proofs.kept.Kept.lend.Goals as goal

pub returns-in-Some-clause-pair : goal.returns-in-Some-clause-pair
returns-in-Some-clause-pair c =
    let f = image_of c.args.map.now in
    let events = c.args.events.now.list in
    let pairs = c.args.self.now.pairs.items in
    let place = c.in-Some.place in
    let count = c.requires.pairs.count in
    let within = c.in-Some.ensures.within in
    let low : place < length pairs = omega arith in
    let b = commit_placed events c.args.commit place (sym c.place.ensures.place ∙ c.in-Some.is) in
    IfOk-weaker c.lent.result _ _ (λ found is.
    kept_pair f events b.event c.args.commit found b.own
    (subst (λ (o : Option Pair). IsKept f events b.event o) (sym (is ∙ c.index_mut.ensures.value ∙ any_default pairs place _ None low))
    (c.requires.pairs.entry place b.event b.at))) c.lent.ensures.lent
