use Rattle.std.proofs.Common.{◌≡◌, ◌∙◌, ◌+◌, ◌<◌, [], ℕ, List, Bool, length, arith, ap, refl, subst, sym, true}
use Rattle.std.proofs.lemmas.Bool.{true≢false}
use Rattle.std.proofs.lemmas.Option.{same_Some}
use Rattle.plain_model.specs.declared.event.PlainEvent.{PlainEvent}
use Rattle.plain_model.specs.Lookups.{referents_of}
use Rattle.graph_walk.specs.Slots.{IsOpenAt, are_flagged}
use Rattle.graph_walk.specs.Waiters.{is_among}
use Rattle.graph_walk.specs.declared.waiting.Waiter.{Waiter}
use Rattle.graph_walk.proofs.StepLemmas.{looked, put_held}
use Rattle.graph_walk.proofs.TurnLemmas.{step_as}
use Rattle.graph_walk.proofs.settling.Progress.look.Goals as goal

pub loop-self-preserved : goal.loop-self-preserved
loop-self-preserved c =
    let s = c.loop-self.self in
    let v = c.loop-self.invariant in
    let w : Waiter = record { place = s.next; slot = 0 } in
    let new : Waiter = record { place = s.next; slot = c.in-Some.slot } in
    let low : s.next < length s.plan.now.after = let test = c.loop-self-test.true in let count = c.count.ensures.count in omega arith in
    let step = looked s.plan.now.after s.order s.taken.items s.ready s.waiting s.next v.under_way low in
    let held = subst (λ (flags : List Bool). IsOpenAt flags s.plan.now.after c.nth-event.result.now c.in-Some.slot c.in-Some.at) c.as_slice.ensures.value c.in-Some.ensures in
    let made = put_held s.plan.now.after w new [] s.order s.taken.items s.ready s.waiting (s.next + 1) c.in-Some.at c.nth-event.result.now step c.nth-event.ensures.event held refl in
    record {
      plan = v.plan;
      order = v.order;
      none = v.none;
      under_way = step_as s.plan.now.after [] [] s.order s.order s.taken.items s.taken.items s.ready s.ready _ c.add.new.self (s.next + 1) (s.next + 1) refl refl refl refl (sym c.in_ok-add-in-Some.ensures.ok) refl made;
    }

pub returns-in-None-clause-cases : goal.returns-in-None-clause-cases
returns-in-None-clause-cases c =
    let s = c.loop-self.self in
    let v = c.loop-self.invariant in
    let low : s.next < length s.plan.now.after = let test = c.loop-self-test.true in let count = c.count.ensures.count in omega arith in
    let all = subst (λ (flags : List Bool). are_flagged flags s.plan.now.after (referents_of c.nth-event.result.now) ≡ true) c.as_slice.ensures.value c.in-None.ensures in
    record {
      at_hand = looked s.plan.now.after s.order s.taken.items s.ready s.waiting s.next v.under_way low;
      untaken = v.under_way.later s.next (omega arith);
      free = (omega arith, λ d got. subst (λ (e : PlainEvent). are_flagged s.taken.items s.plan.now.after (referents_of e) ≡ true) (same_Some c.nth-event.result.now d (sym c.nth-event.ensures.event ∙ got)) all);
      first = λ k h. absurd (true≢false (sym (ap (λ (ready : List ℕ). is_among k ready) (sym v.none) ∙ h)));
    }
