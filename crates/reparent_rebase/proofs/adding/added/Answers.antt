use Rattle.std.proofs.Common.{◌≡◌, ◌∙◌, ◌∷◌, ◌++◌, [], List, refl, ap}
use Rattle.plain_model.specs.declared.event.PlainEvent.{PlainEvent}
use Rattle.plain_model.specs.declared.id.AnyId.TheVariants as any
use Rattle.plain_model.specs.declared.operation.FileOp.{FileOp}
use Rattle.event_arena.specs.Changes.{changed, with_ops}
use Rattle.event_arena.specs.Graphs.{Change}
use Rattle.event_arena.specs.Plans.{leaving}
use Rattle.commit_laws.specs.Selected.{node_of}
use Rattle.reparent_laws.specs.Operations.{adds}
use Rattle.reparent_rebase.proofs.Rewritten.{ops_given}
use Rattle.reparent_rebase.proofs.adding.added.Goals as goal

pub returns : goal.returns
returns c =
    let events = c.args.events.now.list in
    let own = node_of events c.args.commit in
    let ops : c.push.new.self ≡ own.ops ++ c.args.op ∷ [] = c.in_ok-push.ensures.ok ∙ ap (λ (l : List FileOp). l ++ c.args.op ∷ []) (c.in_ok-ops.ensures ∙ c.ops_of.ensures.node) in
    c.in_ok-give_ops.ensures
    ∙ (λ i. record (c.in_ok-plan.ensures i) { after = changed (any.Commit c.args.commit) (with_ops (ops i)) ((c.in_ok-plan.ensures i).after) })
    ∙ ap (λ (es : List PlainEvent). leaving c.args.events.now es) (ops_given c.args.commit (adds c.args.op) events c.count-count.ensures.sound refl)
