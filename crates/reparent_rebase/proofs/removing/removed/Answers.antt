use Rattle.std.proofs.Common.{◌≡◌, ◌∙◌, List, refl, ap}
use Rattle.plain_model.specs.declared.event.PlainEvent.{PlainEvent}
use Rattle.plain_model.specs.declared.id.AnyId.TheVariants as any
use Rattle.edit_laws.specs.Sweeping.{swept}
use Rattle.event_arena.specs.Changes.{changed, with_ops}
use Rattle.event_arena.specs.Graphs.{Change}
use Rattle.event_arena.specs.Plans.{leaving}
use Rattle.commit_laws.specs.Rewriting.{rewritten_all}
use Rattle.commit_laws.specs.Selected.{node_of}
use Rattle.reparent_laws.specs.Operations.{ops_without, removal_fault, removes}
use Rattle.reparent_rebase.proofs.Rewritten.{ops_given}
use Rattle.reparent_rebase.proofs.removing.removed.Goals as goal

pub ops_without-requires : goal.ops_without-requires
ops_without-requires c = ap (removal_fault c.args.what.now) c.ops_of.ensures.node ∙ c.requires

pub returns : goal.returns
returns c =
    let events = c.args.events.now.list in
    let what = c.args.what.now in
    let ops : c.in_ok-ops.ops ≡ ops_without what (node_of events c.args.commit).ops = c.in_ok-ops.ensures ∙ ap (ops_without what) c.ops_of.ensures.node in
    let given : c.give_ops.new.plan ≡ leaving c.args.events.now (rewritten_all c.args.commit (removes what) events) =
    c.in_ok-give_ops.ensures
    ∙ (λ i. record (c.in_ok-plan.ensures i) { after = changed (any.Commit c.args.commit) (with_ops (ops i)) ((c.in_ok-plan.ensures i).after) })
    ∙ ap (λ (es : List PlainEvent). leaving c.args.events.now es) (ops_given c.args.commit (removes what) events c.count-count.ensures.sound refl) in
    c.in_ok-sweep.ensures.swept ∙ ap (λ (p : Change). record p { after = swept p.before p.after }) given
