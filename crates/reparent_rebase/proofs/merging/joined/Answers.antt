use Rattle.std.proofs.Common.{◌≡◌, ◌∙◌, ◌∷◌, [], List, ℕ, length, eqb-true, sym, ap}
use Rattle.std.specs.Prelude.{nat_eq}
use Rattle.plain_model.specs.declared.event.PlainEvent.{PlainEvent}
use Rattle.plain_model.specs.declared.id.AnyId.TheVariants as any
use Rattle.plain_model.specs.declared.operation.FileOp.{FileOp}
use Rattle.plain_model.specs.declared.operation.FileOp.TheVariants.{DeleteAll}
use Rattle.event_arena.specs.Changes.{changed, with_ops, with_parents}
use Rattle.event_arena.specs.Graphs.{Change}
use Rattle.event_arena.specs.Plans.{leaving}
use Rattle.commit_laws.specs.Selected.{node_of}
use Rattle.reparent_laws.specs.Merge.{merges, ops_with_parent, with_parent}
use Rattle.plan_steps.proofs.SweepLemmas.{nil_of}
use Rattle.reparent_rebase.proofs.Answered.{no_root}
use Rattle.reparent_rebase.proofs.Rewritten.{both_given, parents_given}
use Rattle.reparent_rebase.proofs.merging.joined.Goals as goal
use Rattle.reparent_rebase.proofs.merging.joined.Goals.{then-is_empty+in_ok-anew+in_ok-give_ops, else-is_empty}

pub returns : goal.returns
returns c =
    let events = c.args.events.now.list in
    let sound = c.count-count.ensures.sound in
    let low = c.args.low in
    let high = c.args.high in
    let own = node_of events high in
    let parents : c.parents_of-parents.result.now ≡ own.parents = c.parents_of-parents.ensures.node in
    let more : c.in_ok-with_parent.field-0 ≡ with_parent low own.parents = c.in_ok-with_parent.ensures ∙ ap (with_parent low) parents in
    let given : c.give_parents.new.plan ≡ leaving c.args.events.now (changed (any.Commit high) (with_parents (with_parent low own.parents)) events) =
    c.in_ok-give_parents.ensures ∙ (λ i. record (c.in_ok-plan.ensures i) { after = changed (any.Commit high) (with_parents (more i)) ((c.in_ok-plan.ensures i).after) }) in
    elim c.if-is_empty.branch [
      | then-is_empty+in_ok-anew+in_ok-give_ops w ↦
          let none : own.parents ≡ [] = sym parents ∙ nil_of c.parents_of-parents.result.now (eqb-true (length c.parents_of-parents.result.now) 0 (sym c.is_empty.ensures ∙ w.if-is_empty.true)) in
          let ops : w.in_ok-anew.field-0 ≡ ops_with_parent own.parents own.ops =
          w.in_ok-anew.ensures ∙ ap (λ (l : List FileOp). DeleteAll ∷ l) w.ops_of.ensures.node ∙ ap (λ (ps : List ℕ). ops_with_parent ps own.ops) (sym none) in
          w.plan-is ∙ w.in_ok-give_ops.ensures
          ∙ (λ i. record (given i) { after = changed (any.Commit high) (with_ops (ops i)) ((given i).after) })
          ∙ ap (λ (es : List PlainEvent). leaving c.args.events.now es) (both_given high (merges low) events sound)
      | else-is_empty w ↦
          w.plan-is ∙ given
          ∙ ap (λ (es : List PlainEvent). leaving c.args.events.now es)
          (parents_given high (merges low) events sound (no_root own.parents own.ops (ap (λ (ps : List ℕ). nat_eq (length ps) 0) (sym parents) ∙ sym c.is_empty.ensures ∙ w.if-is_empty.false)))
    ]
