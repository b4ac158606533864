use Rattle.std.proofs.Common.{◌∙◌, ◌++◌, ◌∷◌, [], ap, subst, sym}
use Rattle.event_sets.specs.Once.{AreLive}
use Rattle.event_sets.proofs.SetLemmas.{some_live}
use Rattle.event_sets.proofs.set.EventSet.one.Goals as goal

pub of_order-requires : goal.of_order-requires
of_order-requires c =
    subst (AreLive c.args.events.now.list) (sym (c.in_ok-push.ensures.ok
    ∙ ap (λ ids. ids ++ c.args.id ∷ []) c.in_ok-order.ensures))
    (some_live c.args.events.now.list c.args.id c.requires)
