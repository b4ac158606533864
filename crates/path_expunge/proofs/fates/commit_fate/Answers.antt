use Rattle.std.proofs.Common.{◌∙◌, sym}
use Rattle.path_expunge.proofs.Seeking.{same_commits}
use Rattle.path_expunge.proofs.fates.commit_fate.Goals as goal

pub returns-then-eq : goal.returns-then-eq
returns-then-eq c = (
  sym c.begins_anew.ensures ∙ c.if-begins_anew.false,
  sym (same_commits c.as_slice-2.result.now c.args.parents.now (sym c.eq.ensures ∙ c.if-eq.true)) ∙ c.as_slice-2.ensures ∙ c.in_ok-made.ensures,
)
