use Rattle.std.proofs.Common.{◌∙◌, [], ap}
use Rattle.std.specs.Option.{option_map_or}
use Rattle.plain_model.specs.Lookups.{event_ops}
use Rattle.squash_delete.proofs.taking.ops_at.Goals as goal

pub returns-in-Some : goal.returns-in-Some
returns-in-Some c = c.ops.ensures ∙ ap (λ o. option_map_or event_ops o []) c.in-Some.ensures

pub returns-in-None : goal.returns-in-None
returns-in-None c = ap (λ o. option_map_or event_ops o []) c.in-None.ensures
