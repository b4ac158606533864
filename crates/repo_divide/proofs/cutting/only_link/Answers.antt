use Rattle.history_laws.proofs.SoundOnce.{has_id_find}
use Rattle.std.proofs.Common.{sym, ◌∙◌}
use Rattle.plain_model.specs.declared.id.AnyId.TheVariants as any
use Rattle.repo_divide.proofs.cutting.only_link.Goals as goal

pub commit_mark-mark-requires : goal.commit_mark-mark-requires
commit_mark-mark-requires c = sym (has_id_find c.args.events.now.list (any.Commit c.args.parent)) ∙ c.requires
