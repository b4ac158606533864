use Rattle.std.proofs.Common.{◌∙◌, ◌≡◌, sym, subst}
use Rattle.std.specs.Prelude.{◌==◌, IfSome}
use Rattle.std.proofs.lemmas.Bool.{cond-false, not-true}
use Rattle.plain_model.specs.Lookups.{find_event}
use Rattle.event_arena.specs.Changes.{with_target}
use Rattle.split_laws.specs.Split.{onto}
use Rattle.plan_steps.proofs.Steps.{kept}
use Rattle.split_reorder.proofs.onto.move_target.Goals as goal

pub returns-then-ne : goal.returns-then-ne
returns-then-ne c =
    let plan = c.args.plan.now in
    let same : c.args.target ≡ onto c.args.commit c.args.copy c.args.target = sym (cond-false (c.args.target == c.args.commit) c.args.copy c.args.target (not-true (c.args.target == c.args.commit) (sym c.ne.ensures ∙ c.if-ne.true))) in
    kept plan c.args.id (with_target (onto c.args.commit c.args.copy c.args.target))
    (subst (λ t. IfSome (find_event c.args.id plan.after) (λ event. with_target t event ≡ event)) same c.requires.own)
