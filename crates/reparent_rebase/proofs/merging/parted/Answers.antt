use Rattle.std.proofs.Common.{◌≡◌, ◌∙◌, List, ℕ, take, refl, ap}
use Rattle.plain_model.specs.declared.event.PlainEvent.{PlainEvent}
use Rattle.plain_model.specs.declared.id.AnyId.TheVariants as any
use Rattle.event_arena.specs.Changes.{changed, with_parents}
use Rattle.event_arena.specs.Graphs.{Change}
use Rattle.event_arena.specs.Plans.{leaving}
use Rattle.commit_laws.specs.Selected.{node_of}
use Rattle.reparent_laws.specs.Merge.{unmerges}
use Rattle.reparent_rebase.proofs.Rewritten.{parents_given}
use Rattle.reparent_rebase.proofs.merging.parted.Goals as goal

pub returns : goal.returns
returns c =
    let events = c.args.events.now.list in
    let parents : c.in_ok-parents.parents ≡ take 1 (node_of events c.args.commit).parents = c.in_ok-parents.ensures ∙ ap (λ (ps : List ℕ). take 1 ps) c.parents_of.ensures.node in
    c.in_ok-give_parents.ensures
    ∙ (λ i. record (c.in_ok-plan.ensures i) { after = changed (any.Commit c.args.commit) (with_parents (parents i)) ((c.in_ok-plan.ensures i).after) })
    ∙ ap (λ (es : List PlainEvent). leaving c.args.events.now es) (parents_given c.args.commit unmerges events c.count-count.ensures.sound refl)
