use Rattle.std.proofs.Common.{◌∙◌, ◌≡◌, map, sym, subst}
use Rattle.std.specs.Prelude.{IfSome}
use Rattle.plain_model.specs.Lookups.{find_event}
use Rattle.plain_model.specs.declared.id.AnyId.TheVariants as any
use Rattle.event_arena.specs.Changes.{with_parents}
use Rattle.split_laws.specs.Split.{onto}
use Rattle.split_reorder.proofs.Halving.{unmoved}
use Rattle.plan_steps.proofs.Steps.{kept}
use Rattle.split_reorder.proofs.onto.move_child.Goals as goal

pub returns-then-not-contains : goal.returns-then-not-contains
returns-then-not-contains c =
    let plan = c.args.plan.now in
    let same = unmoved c.args.commit c.args.copy c.args.parents.now (sym c.contains.ensures.value ∙ c.if-not-contains.true) in
    kept plan (any.Commit c.args.child) (with_parents (map (onto c.args.commit c.args.copy) c.args.parents.now))
    (subst (λ ps. IfSome (find_event (any.Commit c.args.child) plan.after) (λ event. with_parents ps event ≡ event)) (sym same) c.requires.own)
