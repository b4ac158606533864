use Rattle.std.proofs.Common.{◌≡◌, ◌∙◌, ◌+◌, List, Bool, get_or, drop, arith, ap, inl, refl, subst, sym, true}
use Rattle.std.proofs.lemmas.Result.{on_ok_weaker}
use Rattle.graph_walk.specs.Slots.{IsOpenAt, are_flagged, is_flagged_until}
use Rattle.plain_model.specs.Lookups.{referents_of}
use Rattle.graph_walk.specs.declared.waiting.Waiter.{Waiter}
use Rattle.graph_walk.proofs.StepLemmas.{put_free, put_held}
use Rattle.graph_walk.proofs.TurnLemmas.{all_at, in_hand, nobody, step_as}
use Rattle.graph_walk.proofs.settling.Progress.put.Goals as goal

pub nth-event-requires : goal.nth-event-requires
nth-event-requires c =
    let s = c.args.self.now in
    let step = in_hand s.plan.now.after c.args.woken.now c.args.index s.order s.taken.items s.ready s.waiting s.next c.requires.index c.requires.under_way in
    let low = (step.begun (get_or c.args.woken.now c.args.index nobody) (inl refl)).0 in
    let all = step.within in
    omega arith

pub first_open-requires-clause-there : goal.first_open-requires-clause-there
first_open-requires-clause-there c =
    all_at _ c.args.self.now.plan.now.after _ c.nth-event.result.now c.requires.there c.nth-event.ensures.event

pub first_open-requires-clause-begun : goal.first_open-requires-clause-begun
first_open-requires-clause-begun c =
    let s = c.args.self.now in
    let step = in_hand s.plan.now.after c.args.woken.now c.args.index s.order s.taken.items s.ready s.waiting s.next c.requires.index c.requires.under_way in
    ap (λ (flags : List Bool). is_flagged_until flags s.plan.now.after c.nth-event.result.now (get_or c.args.woken.now c.args.index nobody).slot) c.as_slice.ensures.value
    ∙ (step.begun (get_or c.args.woken.now c.args.index nobody) (inl refl)).1 c.nth-event.result.now c.nth-event.ensures.event

pub returns-in-Some-clause-under_way : goal.returns-in-Some-clause-under_way
returns-in-Some-clause-under_way c =
    let s = c.args.self.now in
    let w = get_or c.args.woken.now c.args.index nobody in
    let rest = drop (c.args.index + 1) c.args.woken.now in
    let new : Waiter = record { place = w.place; slot = c.in-Some.slot } in
    let step = in_hand s.plan.now.after c.args.woken.now c.args.index s.order s.taken.items s.ready s.waiting s.next c.requires.index c.requires.under_way in
    let held = subst (λ (flags : List Bool). IsOpenAt flags s.plan.now.after c.nth-event.result.now c.in-Some.slot c.in-Some.at) c.as_slice.ensures.value c.in-Some.ensures in
    let made = put_held s.plan.now.after w new rest s.order s.taken.items s.ready s.waiting s.next c.in-Some.at c.nth-event.result.now step c.nth-event.ensures.event held refl in
    on_ok_weaker c.add.result (λ is. step_as s.plan.now.after rest rest s.order s.order s.taken.items s.taken.items s.ready s.ready _ c.add.new.self s.next s.next refl refl refl refl (sym is) refl made) c.add.ensures.ok

pub returns-in-None-clause-under_way : goal.returns-in-None-clause-under_way
returns-in-None-clause-under_way c =
    let s = c.args.self.now in
    let w = get_or c.args.woken.now c.args.index nobody in
    let rest = drop (c.args.index + 1) c.args.woken.now in
    let step = in_hand s.plan.now.after c.args.woken.now c.args.index s.order s.taken.items s.ready s.waiting s.next c.requires.index c.requires.under_way in
    let all = subst (λ (flags : List Bool). are_flagged flags s.plan.now.after (referents_of c.nth-event.result.now) ≡ true) c.as_slice.ensures.value c.in-None.ensures in
    on_ok_weaker c.add-in-None.result (λ grows. put_free s.plan.now.after w rest s.order s.taken.items s.ready c.add-in-None.new.self s.waiting s.next c.nth-event.result.now step c.nth-event.ensures.event all grows) c.add-in-None.ensures.ok
