use Rattle.std.proofs.Common.{◌∙◌, sym}
use Rattle.plain_model.specs.declared.id.AnyId.TheVariants as any
use Rattle.plain_model.specs.Soundness.{IsCommitOf}
use Rattle.history_laws.proofs.SoundOnce.{has_id_find}
use Rattle.plan_steps.proofs.Nodes.{first_of}
use Rattle.path_expunge.proofs.commits.begun.Goals as goal

pub get-requires-clause-live : goal.get-requires-clause-live
get-requires-clause-live c =
    let events = c.args.events.now.list in
    let parent = c.in-Some.parent.now in
    sym (has_id_find events (any.Commit parent)) ∙ first_of (IsCommitOf events) c.args.parents.now parent (sym c.in-Some.ensures.value) c.requires.there
