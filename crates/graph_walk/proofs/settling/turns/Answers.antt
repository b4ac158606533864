use Rattle.std.proofs.Common.{◌≡◌, ◌∙◌, ℕ, List, Option, Ok, map, subst, sym}
use Rattle.std.specs.List.Sorted.{IsPermutation}
use Rattle.std.specs.Prelude.{MatchOption}
use Rattle.plain_model.specs.declared.event.PlainEvent.{PlainEvent}
use Rattle.plain_model.specs.Lookups.{id_of}
use Rattle.event_arena.specs.Changes.{in_order}
use Rattle.edit_laws.specs.Parts.{AreComplete}
use Rattle.edit_laws.specs.Settling.{settle}
use Rattle.graph_walk.specs.Outcome.{IsCircular}
use Rattle.graph_walk.proofs.OutcomeLemmas.{end_cases}
use Rattle.graph_walk.proofs.settling.turns.Goals as goal

pub returns : goal.returns
returns c =
    let s = c.run.new.self in
    let events = s.plan.now.after in
    let same : events ≡ c.args.plan.now.after = c.in_ok-run.ensures.plan ∙ c.in_ok-progress.ensures.plan in
    let complete = subst AreComplete (sym same) c.requires in
    let cases = end_cases events s.order (λ left h. c.settling_ends_where_nothing_runs_in_a_circle.ensures.commit events left complete h) c.in_ok-run.ensures.ended in
    subst (λ (es : List PlainEvent). MatchOption c.first_left-left.result ((settle es ≡ Ok (in_order s.order es)) × IsPermutation (map id_of es) s.order) (IsCircular es)) same
    (subst (λ (o : Option ℕ). MatchOption o ((settle events ≡ Ok (in_order s.order events)) × IsPermutation (map id_of events) s.order) (IsCircular events)) (sym c.first_left-left.ensures) cases)
