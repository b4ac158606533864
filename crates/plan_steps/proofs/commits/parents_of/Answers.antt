use Rattle.std.proofs.Common.{◌∙◌, [], sym, ap}
use Rattle.std.specs.Option.{option_map_or}
use Rattle.plain_model.specs.Histories.{Node}
use Rattle.plain_model.specs.Lookups.{event_parents}
use Rattle.plan_steps.proofs.Nodes.{absent_node, found_node}
use Rattle.plan_steps.proofs.commits.parents_of.Goals as goal

pub returns-in-Some-clause-found : goal.returns-in-Some-clause-found
returns-in-Some-clause-found c = c.parents.ensures ∙ ap (λ o. option_map_or event_parents o []) c.in-Some.ensures

pub returns-in-Some-clause-node : goal.returns-in-Some-clause-node
returns-in-Some-clause-node c =
    c.parents.ensures ∙ ap (λ (n : Node). n.parents) (sym (found_node c.args.events.now.list c.count-count.ensures.sound c.args.commit c.in-Some.event.now (sym c.in-Some.ensures)))

pub returns-in-None-clause-found : goal.returns-in-None-clause-found
returns-in-None-clause-found c = ap (λ o. option_map_or event_parents o []) c.in-None.ensures

pub returns-in-None-clause-node : goal.returns-in-None-clause-node
returns-in-None-clause-node c = ap (λ (n : Node). n.parents) (sym (absent_node c.args.events.now.list c.args.commit (sym c.in-None.ensures)))
