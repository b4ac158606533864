use Rattle.history_laws.proofs.Ids.{find_id}
use Rattle.std.proofs.Common.{◌∙◌, sym, ap, Some}
use Rattle.plain_model.specs.declared.id.AnyId.TheVariants as any
use Rattle.plan_steps.proofs.Nodes.{mark_found, only_commits}
use Rattle.repo_divide.proofs.cutting.commit_mark.Goals as goal

pub unreachable-requires : goal.unreachable-requires
unreachable-requires c =
    let found = sym (rw c.unwrap-event.ensures at c.event.ensures) in
    only_commits c.args.commit c.unwrap-event.result.now (find_id (any.Commit c.args.commit) c.args.events.now.list c.unwrap-event.result.now found) c.in_default.not-Commit

pub returns : goal.returns
returns c =
    let found = sym (rw c.unwrap-event.ensures at c.event.ensures) in
    let w = c.in-Commit in
    sym (mark_found c.args.events.now.list c.args.commit w.id w.mark w.branch w.author w.committer w.encoding w.comment w.parents w.ops w.aliases (found ∙ ap Some w.is))
