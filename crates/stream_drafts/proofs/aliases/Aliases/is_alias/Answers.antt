use Rattle.std.proofs.Common.{◌∙◌, ap, is_some}
use Rattle.std.specs.Prelude.{◌==◌}
use Rattle.std.proofs.lemmas.Map.Made.{is_some-lookup}
use Rattle.stream_drafts.proofs.aliases.Aliases.is_alias.Goals as goal

pub returns : goal.returns
returns c = c.is_some.ensures ∙ ap is_some c.commit_with.ensures ∙ is_some-lookup (λ a. a == c.args.mark) c.args.self.now
