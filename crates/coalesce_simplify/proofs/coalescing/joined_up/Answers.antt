use Rattle.std.proofs.Common.{◌≡◌, ◌∙◌, List, map, ap}
use Rattle.plain_model.specs.declared.event.PlainEvent.{PlainEvent}
use Rattle.edit_laws.specs.Sweeping.{swept}
use Rattle.event_arena.specs.Changes.{without_all}
use Rattle.event_arena.specs.Graphs.{Change}
use Rattle.event_arena.specs.Plans.{leaving}
use Rattle.squash_laws.specs.Removed.{all_left}
use Rattle.coalesce_simplify.specs.Joining.{joined_event, joins}
use Rattle.coalesce_simplify.proofs.Left.{left_is}
use Rattle.coalesce_simplify.proofs.coalescing.joined_up.Goals as goal

pub returns : goal.returns
returns c =
    let events = c.args.events.now.list in
    let ones = c.args.ids.now in
    let going_set = c.in_ok-going.ensures.set ∙ c.as_slice.ensures in
    let going_events = c.in_ok-going.ensures.events in
    let joined : c.join_all.new.plan ≡ leaving c.args.events.now (map (joined_event ones events) events) =
    c.in_ok-join_all.ensures ∙ (λ i. record (c.in_ok-plan.ensures i) { after = map (joined_event (going_set i) (going_events i)) (going_events i) }) in
    let left : c.remove_all.new.self ≡ leaving c.args.events.now (all_left ones events (joins ones events)) =
    c.in_ok-remove_all.ensures.ok ∙ ap (λ (p : Change). record p { after = without_all ones p.after }) joined
    ∙ ap (λ (es : List PlainEvent). leaving c.args.events.now es) (left_is ones events c.count-count.ensures.sound c.requires) in
    c.in_ok-sweep.ensures.swept ∙ ap (λ (p : Change). record p { after = swept p.before p.after }) left
