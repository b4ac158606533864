use Rattle.std.proofs.Common.{◌∙◌, sym}
use Rattle.plain_model.specs.declared.id.AnyId.TheVariants.{Commit}
use Rattle.history_laws.proofs.Ids.{placeless}
use Rattle.history_laws.proofs.SoundOnce.{children_once, sound_once}
use Rattle.event_arena.proofs.events.Events.children.Goals as goal

pub returns-in-Some-clause-once : goal.returns-in-Some-clause-once
returns-in-Some-clause-once c =
    let all = c.children.ensures ∙ c.self.invariant.children c.args.id c.in-Some.place (sym c.in-Some.ensures.place) in
    rw all (children_once c.args.id c.self.inside.table (sound_once c.self.inside.table c.self.invariant.sound).ids)

pub returns-in-Some-clause-absent : goal.returns-in-Some-clause-absent
returns-in-Some-clause-absent c =
    let all = c.children.ensures ∙ c.self.invariant.children c.args.id c.in-Some.place (sym c.in-Some.ensures.place) in
    rw (← c.self.view_is) (λ none. all ∙ (sound_once c.self.inside.table c.self.invariant.sound).childless c.args.id none)

pub returns-in-None-clause-children : goal.returns-in-None-clause-children
returns-in-None-clause-children c =
    rw (← c.self.view_is)
    (c.none.ensures ∙ sym ((sound_once c.self.inside.table c.self.invariant.sound).childless c.args.id
    (placeless c.self.inside.table (Commit c.args.id) (sym c.in-None.ensures.place))))
