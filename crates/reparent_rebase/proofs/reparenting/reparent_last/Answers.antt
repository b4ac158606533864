use Rattle.std.proofs.Common.{◌≡◌, ◌++◌, ◌∷◌, [], ◌∙◌, sym, ap}
use Rattle.plain_model.specs.Soundness.{are_distinct}
use Rattle.reparent_laws.proofs.ReparentDone.{distinct_front}
use Rattle.reparent_rebase.proofs.reparenting.reparent_last.Goals as goal

pub reparent_commit-requires-clause-once : goal.reparent_commit-requires-clause-once
reparent_commit-requires-clause-once c =
    let is : c.args.commits.now ≡ c.in-Some.parents.now ++ c.in-Some.commit.now ∷ [] = c.in-Some.ensures.cases.0 in
    distinct_front c.in-Some.parents.now (c.in-Some.commit.now ∷ []) (ap are_distinct (sym is) ∙ c.requires.once)
