use Rattle.std.proofs.Common.{◌≡◌, ◌∙◌, List, refl, sym, ap}
use Rattle.std.proofs.lemmas.Result.{on_ok_weaker}
use Rattle.plain_model.specs.declared.event.PlainEvent.{PlainEvent}
use Rattle.plain_model.specs.Lookups.{find_event, id_of}
use Rattle.event_arena.proofs.StepLemmas.{found_holds}
use Rattle.simplify_laws.specs.Simplify.{simplified_event}
use Rattle.coalesce_simplify.specs.Voiding.{simple_event}
use Rattle.plan_steps.proofs.Steps.{changed_alike, kept_of}
use Rattle.coalesce_simplify.proofs.Voided.{chosen_simple, other_same}
use Rattle.coalesce_simplify.proofs.simplifying.simplify_at.Goals as goal

pub returns-then-has_at : goal.returns-then-has_at
returns-then-has_at c =
    let plan = c.args.plan.now in
    let e = c.args.event.now in
    let set = c.args.chosen.now.set in
    let same = chosen_simple set e (sym (c.has_at.ensures e c.requires.event) ∙ c.if-has_at.true) in
    on_ok_weaker c.simplify_one.result (λ is.
    is ∙ ap (λ (es : List PlainEvent). record plan { after = es })
    (changed_alike (id_of e) simple_event (simplified_event set) plan.after (found_holds (find_event (id_of e) plan.after) e (λ x. simple_event x ≡ simplified_event set x) c.requires.found same))) c.simplify_one.ensures

pub returns-else-has_at : goal.returns-else-has_at
returns-else-has_at c =
    let e = c.args.event.now in
    let set = c.args.chosen.now.set in
    kept_of c.args.plan.now e e (simplified_event set) refl c.requires.found
    (other_same set e (sym (c.has_at.ensures e c.requires.event) ∙ c.if-has_at.false))
