use Rattle.std.proofs.Common.{◌∙◌, List, length, refl, subst, sym}
use Rattle.plain_model.specs.declared.id.AnyId.{AnyId}
use Rattle.event_arena.specs.Changes.{without_all}
use Rattle.history_laws.specs.Once.{AreDistinct}
use Rattle.graph_walk.specs.Outcome.{GoesOn}
use Rattle.graph_walk.specs.UnderWay.{IsTakenNext}
use Rattle.graph_walk.proofs.OutcomeLemmas.{goes_first}
use Rattle.graph_walk.proofs.TurnLemmas.{ended, from_none, from_some, turn_taken}
use Rattle.graph_walk.proofs.settling.Progress.run.Goals as goal

pub turns-init : goal.turns-init
turns-init c =
    let events = c.args.self.now.plan.now.after in
    record {
      plan = refl;
      under_way = c.requires.under_way;
      goes = subst (λ (order : List AnyId). GoesOn events (length (without_all order events)) order) (sym c.requires.none) (goes_first events);
    }

pub returns-in_default-clause-ended : goal.returns-in_default-clause-ended
returns-in_default-clause-ended c =
    let s = c.turns.self in
    let v = c.turns.invariant in
    let once = subst AreDistinct (sym v.plan) c.count-count.ensures.once in
    ended s c.next_place.new.self once c.in_ok-place.ensures.plan c.in_ok-place.ensures.order (from_none c.in_ok-place.field-0 _ c.in_default.is c.in_ok-place.ensures.none) v.goes

pub turns-smaller : goal.turns-smaller
turns-smaller c =
    let s = c.turns.self in
    let v = c.turns.invariant in
    let once = subst AreDistinct (sym v.plan) c.count-count.ensures.once in
    let earliest = from_some c.in_ok-place.field-0 c.in-Some.place (λ place. IsTakenNext c.next_place.new.self place) c.in-Some.is c.in_ok-place.ensures.some in
    (turn_taken s c.next_place.new.self c.take.new.self c.in-Some.place once c.in_ok-place.ensures.plan c.in_ok-place.ensures.order earliest c.in_ok-take.ensures.plan c.in_ok-take.ensures.order v.goes).1

pub turns-preserved : goal.turns-preserved
turns-preserved c =
    let s = c.turns.self in
    let v = c.turns.invariant in
    let once = subst AreDistinct (sym v.plan) c.count-count.ensures.once in
    let earliest = from_some c.in_ok-place.field-0 c.in-Some.place (λ place. IsTakenNext c.next_place.new.self place) c.in-Some.is c.in_ok-place.ensures.some in
    record {
      plan = c.in_ok-take.ensures.plan ∙ c.in_ok-place.ensures.plan ∙ v.plan;
      under_way = c.in_ok-take.ensures.under_way;
      goes = (turn_taken s c.next_place.new.self c.take.new.self c.in-Some.place once c.in_ok-place.ensures.plan c.in_ok-place.ensures.order earliest c.in_ok-take.ensures.plan c.in_ok-take.ensures.order v.goes).0;
    }
