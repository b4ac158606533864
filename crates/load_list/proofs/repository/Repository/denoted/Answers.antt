use Rattle.selection_parser.specs.Views.{plain_of}
use Rattle.load_list.proofs.Speaking.{judged_live, judged_once}
use Rattle.load_list.proofs.repository.Repository.denoted.Goals as goal

pub returns-clause-once : goal.returns-clause-once
returns-clause-once g c =
    let events = c.self.inside.events.list in
    let own = c.sound_histories_are_such.ensures.ids events c.count-count.ensures.sound in
    judged_once _ _ _ c.eval.result c.eval.ensures.judged (c.selections_are_without_repeats.ensures events own c.self.inside.names c.self.invariant.1 (plain_of c.selection.result.now))

pub returns-clause-live : goal.returns-clause-live
returns-clause-live g c =
    let events = c.self.inside.events.list in
    let tips = c.sound_histories_are_such.ensures.tips events c.count-count.ensures.sound in
    rw (← c.self.view_is) (judged_live _ _ _ events c.eval.result c.eval.ensures.judged (c.selections_are_live.ensures events tips c.self.inside.names (plain_of c.selection.result.now)))
