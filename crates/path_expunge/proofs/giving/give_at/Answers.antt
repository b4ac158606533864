use Rattle.std.proofs.Common.{◌≡◌, refl, sym, subst, ap}
use Rattle.std.specs.Prelude.{OnOk}
use Rattle.plain_model.specs.Lookups.{id_of}
use Rattle.event_arena.specs.Changes.{changed}
use Rattle.graph_walk.proofs.PlaceLemmas.{place_found}
use Rattle.path_expunge.specs.declared.fates.Fate.{Fate}
use Rattle.path_expunge.specs.Fates.{given_way}
use Rattle.plan_steps.proofs.Steps.{kept_of}
use Rattle.path_expunge.proofs.giving.give_at.Goals as goal

pub returns-in-Same : goal.returns-in-Same
returns-in-Same c event at =
    let plan = c.args.plan.now in
    kept_of plan event event (given_way c.args.fate.now) refl (place_found plan.after c.args.place event at c.count-count.ensures.once).1
    (ap (λ (f : Fate). given_way f event) c.in-Same.is)

pub returns-in-Anew : goal.returns-in-Anew
returns-in-Anew c event at =
    let plan = c.args.plan.now in
    subst (λ (f : Fate). OnOk c.begin_anew.result (c.begin_anew.new.plan ≡ record plan { after = changed (id_of event) (given_way f) plan.after })) (sym c.in-Anew.is) (c.begin_anew.ensures event at)
