use Rattle.std.proofs.Common.{◌≡◌, ◌∙◌, ℕ, List, map, subst, sym}
use Rattle.std.specs.Prelude.{IfSome}
use Rattle.plain_model.specs.declared.event.PlainEvent.{PlainEvent}
use Rattle.plain_model.specs.declared.id.AnyId.TheVariants as any
use Rattle.plain_model.specs.Lookups.{find_event}
use Rattle.edit_laws.specs.Removal.{once_each}
use Rattle.event_arena.specs.Changes.{with_parents}
use Rattle.plan_steps.proofs.Steps.{kept}
use Rattle.tagify_laws.specs.Tagify.{base_of}
use Rattle.empty_commits.proofs.MovingLemmas.{same_commits}
use Rattle.empty_commits.proofs.moving.move_commit.Goals as goal

pub returns-then-eq : goal.returns-then-eq
returns-then-eq c =
    let plan = c.args.plan.now in
    let id = any.Commit c.args.id in
    let parents = c.args.parents.now in
    let made : parents ≡ once_each (map (base_of c.args.empties.now.set c.args.empties.now.events) parents) =
    sym (same_commits c.as_slice.result.now parents (sym c.eq.ensures ∙ c.if-eq.true)) ∙ c.as_slice.ensures ∙ c.in_ok-made.ensures in
    kept plan id (with_parents (once_each (map (base_of c.args.empties.now.set c.args.empties.now.events) parents)))
    (subst (λ (ps : List ℕ). IfSome (find_event id plan.after) (λ (e : PlainEvent). with_parents ps e ≡ e)) made c.requires.parents)
