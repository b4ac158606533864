use Rattle.std.proofs.Common.{◌≡◌, ◌∙◌, Some, ap, subst, sym}
use Rattle.std.proofs.lemmas.Option.{same_Some}
use Rattle.std.specs.List.{AllByRecursion}
use Rattle.std.specs.Prelude.{IsSome, slice_get}
use Rattle.plain_model.specs.declared.id.AnyId.TheVariants as any
use Rattle.plain_model.specs.Lookups.{commit_id, find_event}
use Rattle.plan_steps.specs.Ways.{AreLed}
use Rattle.plan_steps.proofs.NodeLemmas.{parents_there}
use Rattle.plan_steps.proofs.WayLemmas.{led_all, led_none, no_parents}
use Rattle.plan_steps.proofs.ways.lead_parents.Goals as goal

pub lead-requires-clause-there : goal.lead-requires-clause-there
lead-requires-clause-there c =
    let events = c.args.removal.now.events in
    subst (AllByRecursion (λ p. IsSome (find_event (any.Commit p) events))) (sym c.parents.ensures)
    (parents_there events c.count-count.ensures.sound c.args.place c.nth.result.now c.nth.ensures.event)

pub returns-in-Some : goal.returns-in-Some
returns-in-Some c =
    let events = c.args.removal.now.events in
    let at = c.commit_at.ensures in
    let here = ap (λ es. slice_get es c.args.place) (sym c.list.ensures) ∙ at.1 in
    let e = c.nth.result.now in
    let same : at.0 ≡ e = same_Some at.0 e (sym here ∙ c.nth.ensures.event) in
    let own : commit_id e ≡ Some c.in-Some.id = sym (ap commit_id same) ∙ sym at.2 ∙ c.in-Some.is in
    led_all c.args.removal.now.set events c.args.place c.in-Some.id e c.stand_in-way.result c.args.ways.now c.lead.new.ways c.nth.ensures.event own
    (c.stand_in-way.ensures e c.nth.ensures.event own) c.requires.ways
    (subst (λ ps. AreLed events ps c.stand_in-way.result c.args.ways.now c.lead.new.ways) c.parents.ensures c.lead.ensures)

pub returns-in_default : goal.returns-in_default
returns-in_default c =
    let set = c.args.removal.now.set in
    let at = c.commit_at.ensures in
    let here = ap (λ es. slice_get es c.args.place) (sym c.list.ensures) ∙ at.1 in
    led_none set c.args.removal.now.events c.args.place at.0 c.args.ways.now here (no_parents set at.0 (sym at.2 ∙ c.in_default.is)) c.requires.ways
