use Rattle.std.proofs.Common.{◌≡◌, ◌∙◌, ◌∷◌, List, ap}
use Rattle.std.proofs.lemmas.Result.{on_ok_weaker}
use Rattle.plain_model.specs.declared.event.PlainEvent.{PlainEvent}
use Rattle.plain_model.specs.Lookups.{children_of}
use Rattle.event_arena.specs.Graphs.{Change}
use Rattle.commit_laws.specs.Selected.{node_of}
use Rattle.reorder_laws.specs.Reorder.{last_of, lined_up}
use Rattle.split_reorder.specs.Parents.{moved_parents, with_all}
use Rattle.split_reorder.proofs.Relinked.{all_relinked}
use Rattle.split_reorder.proofs.relinking.relink.Goals as goal

pub returns : goal.returns
returns c =
    let events = c.args.events.now.list in
    let plan = c.args.plan.now in
    let line = c.args.head ∷ c.args.tail.now in
    let old : c.last_of-old.result ≡ last_of c.args.first c.args.rest.now = c.last_of-old.ensures in
    let new : c.last_of-new.result ≡ last_of c.args.head c.args.tail.now = c.last_of-new.ensures in
    let first : c.parents_of.result.now ≡ (node_of events c.args.first).parents = c.parents_of.ensures.node in
    let after : plan.after ≡ events = c.requires.after in
    on_ok_weaker c.line_up.result (λ is.
    is ∙ ap (λ (p : Change). record p { after = with_all (lined_up c.parents_of.result.now line) p.after }) c.in_ok-move_children.ensures
    ∙ ap (λ (es : List PlainEvent). record plan { after = es })
    ((λ i. with_all (lined_up (first i) line) (with_all (moved_parents events (old i) (new i) (children_of (old i) events)) (after i)))
    ∙ all_relinked events c.count-count.ensures.sound (last_of c.args.first c.args.rest.now) (last_of c.args.head c.args.tail.now) (node_of events c.args.first).parents line c.requires.once)) c.line_up.ensures
