use Rattle.std.proofs.Common.{◌∙◌, map, ap}
use Rattle.plain_model.specs.Paths.{Bytes}
use Rattle.squash_laws.specs.Comments.{comment_of, joined, joined_two}
use Rattle.squash_delete.specs.Taking.{Taking, comment_taken}
use Rattle.squash_delete.proofs.TakingLemmas.{joined_all}
use Rattle.squash_delete.proofs.taking.comment_taken.Goals as goal

pub returns : goal.returns
returns c =
    let events = c.args.list.now in
    let comment = comment_of events in
    c.in_ok-join_all-2.ensures
    ∙ ap (λ (x : Bytes). joined_two x (joined (map comment c.taking.inside.after.now))) c.in_ok-join.ensures
    ∙ ap (λ (x : Bytes). joined_two (joined_two x c.args.own.now) (joined (map comment c.taking.inside.after.now))) (c.in_ok-join_all.ensures ∙ ap (λ (x : Bytes). joined_two x (joined (map comment c.taking.inside.before.now))) c.empty-comment.ensures)
    ∙ joined_all (map comment c.taking.inside.before.now) c.args.own.now (map comment c.taking.inside.after.now)
    ∙ ap (λ (t : Taking). comment_taken events t c.args.own.now) c.taking.view_is
