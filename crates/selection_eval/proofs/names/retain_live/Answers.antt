use Rattle.std.proofs.Common.{rules}
use Rattle.std.proofs.lemmas.Fn.{filter_same}
use Rattle.event_sets.specs.Sets.{is_live}
use Rattle.selection_eval.proofs.names.retain_live.Goals as goal

pub returns : goal.returns
returns c = filter_same _ (is_live c.args.events.now.list) _ (λ x b f' k. search rules) _ _ c.retain.ensures.filtered
