use Rattle.std.proofs.Common.{◌∙◌, ◌∷◌, [], List, map, take, add-one, ap, sym}
use Rattle.std.proofs.lemmas.List.{map-append}
use Rattle.plain_model.specs.Paths.{Bytes}
use Rattle.event_arena.proofs.ListLemmas.{take_more}
use Rattle.squash_laws.specs.Comments.{comment_of, joined, joined_two}
use Rattle.squash_delete.proofs.TakingLemmas.{joined_step}
use Rattle.squash_delete.proofs.taking.join_all.Goals as goal

pub loop-commit-preserved : goal.loop-commit-preserved
loop-commit-preserved c =
    let events = c.args.list.now in
    let commits = c.args.commits.now in
    let k = c.loop-commit.commit-index in
    let d = c.commit-item.result in
    let more = take_more commits k d c.loop-commit-test.true c.commit-item.is in
    rw add-one (c.in_ok-join.ensures
    ∙ ap (λ (x : Bytes). joined_two c.loop-commit.text x) c.comment_at.ensures
    ∙ ap (λ (x : Bytes). joined_two x (comment_of events d)) c.loop-commit.invariant
    ∙ joined_step c.args.text.now (map (comment_of events) (take k commits)) (comment_of events d)
    ∙ ap (λ (xs : List Bytes). joined_two c.args.text.now (joined xs)) (sym (map-append (comment_of events) (take k commits) (d ∷ [])))
    ∙ ap (λ ds. joined_two c.args.text.now (joined (map (comment_of events) ds))) (sym more))
