use Rattle.std.proofs.Common.{◌≡◌, ◌∙◌, List, Ok, Err, ap, subst, sym}
use Rattle.std.specs.Prelude.{IsOk}
use Rattle.plain_model.specs.declared.event.PlainEvent.{PlainEvent}
use Rattle.edit_laws.specs.Settling.{settle}
use Rattle.edit_laws.specs.Sweeping.{swept}
use Rattle.event_arena.specs.Graphs.{Change}
use Rattle.history_laws.proofs.SoundOnce.{sound_once}
use Rattle.squash_laws.specs.Removed.{all_left}
use Rattle.squash_delete.specs.Fates.{limit_left, taken}
use Rattle.plan_steps.proofs.LeavingLemmas.{left_staying}
use Rattle.squash_delete.proofs.ForwardLemmas.{answer_by, left_given, limit_settled, made_is, outcome, refused_by}
use Rattle.squash_delete.proofs.forwarding.push_forward.Goals as goal

pub returns-in-Err-clause-answer : goal.returns-in-Err-clause-answer
returns-in-Err-clause-answer c =
    let plan = c.args.plan.now in
    let set = c.args.set.now in
    let comments = c.args.comments in
    let tags = c.args.tags in
    let left = all_left set plan.after (taken set plan.after comments tags) in
    let ends = made_is _ (c.a_push_forward_finishes_an_edit.ensures.ends plan.before set plan.after comments tags c.requires.sound) in
    refused_by (λ (done : Unit {0}). plan.after) _ c.in-Err.halt (λ fault is.
    c.operations_and_parents_alone_refuse_a_push_forward.ensures plan.before set plan.after comments tags ends.0 c.requires.events c.requires.aliases ends.1
    ∙ answer_by ends.0 ∙ ap (outcome ends.0) (limit_settled plan.before left ends.0 ends.1 ∙ ap limit_left (left_staying set plan.after (taken set plan.after comments tags))
    ∙ c.prepare_after.ensures.passed fault (c.in-Err.is ∙ ap Err is)))

pub put_in_order-requires : goal.put_in_order-requires
put_in_order-requires c =
    let plan = c.args.plan.now in
    let set = c.args.set.now in
    let comments = c.args.comments in
    let tags = c.args.tags in
    let its : c.carry.new.plan.after ≡ swept plan.before (all_left set plan.after (taken set plan.after comments tags)) =
    ap (λ (p : Change). p.after) c.in_ok-carry.ensures
    ∙ ap (λ (es : List PlainEvent). swept plan.before es) (left_given set plan.after comments tags (sound_once plan.after c.requires.sound).ids _ _ c.in-Ok.ensures.ids c.in-Ok.ensures.fates) in
    subst (λ (es : List PlainEvent). IsOk (settle es)) (sym its)
    (c.a_push_forward_finishes_an_edit.ensures.ends plan.before set plan.after comments tags c.requires.sound)

pub returns-clause-answer : goal.returns-clause-answer
returns-clause-answer c =
    let plan = c.args.plan.now in
    let set = c.args.set.now in
    let comments = c.args.comments in
    let tags = c.args.tags in
    let left = all_left set plan.after (taken set plan.after comments tags) in
    let new = c.put_in_order.new.plan.after in
    let its : c.carry.new.plan.after ≡ swept plan.before left =
    ap (λ (p : Change). p.after) c.in_ok-carry.ensures
    ∙ ap (λ (es : List PlainEvent). swept plan.before es) (left_given set plan.after comments tags (sound_once plan.after c.requires.sound).ids _ _ c.in-Ok.ensures.ids c.in-Ok.ensures.fates) in
    let made : settle (swept plan.before left) ≡ Ok new = ap settle (sym its) ∙ c.in_ok-put_in_order.ensures.settled in
    c.operations_and_parents_alone_refuse_a_push_forward.ensures plan.before set plan.after comments tags new c.requires.events c.requires.aliases made
    ∙ answer_by new ∙ ap (outcome new) (limit_settled plan.before left new made ∙ ap limit_left (left_staying set plan.after (taken set plan.after comments tags))
    ∙ c.in-Ok.ensures.within)

pub returns-clause-sound : goal.returns-clause-sound
returns-clause-sound c =
    let plan = c.args.plan.now in
    let set = c.args.set.now in
    let comments = c.args.comments in
    let tags = c.args.tags in
    let left = all_left set plan.after (taken set plan.after comments tags) in
    let new = c.put_in_order.new.plan.after in
    let its : c.carry.new.plan.after ≡ swept plan.before left =
    ap (λ (p : Change). p.after) c.in_ok-carry.ensures
    ∙ ap (λ (es : List PlainEvent). swept plan.before es) (left_given set plan.after comments tags (sound_once plan.after c.requires.sound).ids _ _ c.in-Ok.ensures.ids c.in-Ok.ensures.fates) in
    let made : settle (swept plan.before left) ≡ Ok new = ap settle (sym its) ∙ c.in_ok-put_in_order.ensures.settled in
    c.a_push_forward_finishes_an_edit.ensures.sound plan.before set plan.after comments tags new c.requires.sound
    (c.operations_and_parents_alone_refuse_a_push_forward.ensures plan.before set plan.after comments tags new c.requires.events c.requires.aliases made
    ∙ answer_by new ∙ ap (outcome new) (limit_settled plan.before left new made ∙ ap limit_left (left_staying set plan.after (taken set plan.after comments tags))
    ∙ c.in-Ok.ensures.within))
