use Rattle.std.proofs.Common.{◌≡◌, ◌∙◌, List, ap, sym, Option, None, Ok}
use Rattle.plain_model.specs.declared.event.PlainEvent.{PlainEvent}
use Rattle.plain_model.specs.declared.fault.Fault.{Fault}
use Rattle.edit_laws.specs.Passing.{limit_fault}
use Rattle.event_arena.specs.Graphs.{Change}
use Rattle.event_arena.specs.Plans.{leaving}
use Rattle.event_arena.proofs.Plans.{leaves_sound}
use Rattle.path_move_laws.specs.Moves.{moved_events, paths_moved, unless_fault}
use Rattle.path_move_laws.specs.PathMaps.{image_of}
use Rattle.path_moves.proofs.path_moving.map_paths.Goals as goal

pub returns-clause-plans : goal.returns-clause-plans
returns-clause-plans c =
    let f = image_of c.args.map.now in
    let events = c.args.events.now.list in
    let new = moved_events f events in
    let plan = c.move_all.new.plan in
    let changed = c.in_ok-move_all.ensures.changed in
    let after : plan.after ≡ new = ap (λ (p : Change). p.after) changed in
    let within : limit_fault new ≡ None = ap limit_fault (sym after) ∙ sym c.limit_passed.ensures ∙ c.in_default.is in
    let done : paths_moved f events ≡ Ok plan.after =
    ap (λ (o : Option Fault). unless_fault o (unless_fault (limit_fault new) (Ok new))) c.in_ok-move_all.ensures.calm
    ∙ ap (λ (o : Option Fault). unless_fault o (Ok new)) within
    ∙ ap (λ (es : List PlainEvent). Ok es) (sym after) in
    let made : plan ≡ leaving c.args.events.now new = changed ∙ ap (λ (p : Change). record p { after = new }) c.in_ok-plan.ensures in
    (done, leaves_sound c.args.events.now new plan made (c.a_move_keeps_soundness.ensures c.args.map.now events plan.after c.has_paths.ensures c.count-count.ensures.sound done))
