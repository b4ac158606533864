use Rattle.history_laws.proofs.SoundOnce.{sound_once}
use Rattle.std.proofs.Common.{◌∙◌, [], ℕ, List, Bool, false, length, replicate, subst, sym}
use Rattle.plain_model.specs.declared.event.PlainEvent.{PlainEvent}
use Rattle.divide_laws.specs.declared.link.Link.{Link}
use Rattle.repo_divide.specs.Walks.{AreReached, IsStep}
use Rattle.repo_divide.proofs.WalkLemmas.{first_reached}
use Rattle.repo_divide.proofs.walk.late_side.Goals as goal

pub run-requires : goal.run-requires
run-requires c =
    let events = c.args.events.now.list in
    let once = (sound_once events c.count-count.ensures.sound).ids in
    let made = c.in_ok-walk.ensures in
    let new = c.reach.new.self in
    let step : IsStep events c.args.cut.child (replicate (length events) false) [] new.reached.items new.ahead.items =
    subst (λ (x : List PlainEvent × List Bool × List ℕ). IsStep x.0 c.args.cut.child x.1 x.2 new.reached.items new.ahead.items) (λ i. (made.events i, made.reached i, made.ahead i)) c.in_ok-reach.ensures.step in
    let first = first_reached events c.args.cut once new.reached.items new.ahead.items c.requires step in
    let events_are = c.in_ok-reach.ensures.events ∙ made.events in
    let cut_is = c.in_ok-reach.ensures.cut ∙ made.cut in
    subst (λ (x : List PlainEvent × Link). AreReached x.0 x.1 [] new.reached.items new.ahead.items) (λ i. (sym events_are i, sym cut_is i)) first
