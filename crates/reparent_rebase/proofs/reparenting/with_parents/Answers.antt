use Rattle.std.proofs.Common.{◌≡◌, ◌∙◌, true, inl, inr, ◌⊎◌, List, ℕ, ap, sym, subst}
use Rattle.std.specs.List.{AllByRecursion}
use Rattle.plain_model.specs.declared.event.PlainEvent.{PlainEvent}
use Rattle.plain_model.specs.declared.id.AnyId.TheVariants as any
use Rattle.plain_model.specs.Soundness.{IsCommitOf}
use Rattle.event_arena.specs.Changes.{changed, with_ops, with_parents}
use Rattle.event_arena.specs.Graphs.{Change}
use Rattle.event_arena.specs.Plans.{leaving}
use Rattle.commit_laws.specs.Selected.{node_of}
use Rattle.reparent_laws.specs.Reparent.{have_same_first, reparents}
use Rattle.reparent_laws.specs.WrittenOut.{written_out}
use Rattle.reparent_rebase.proofs.Answered.{ops_stay, tree_written}
use Rattle.plan_steps.proofs.Nodes.{parents_there}
use Rattle.reparent_rebase.proofs.Rewritten.{both_given, parents_given}
use Rattle.reparent_rebase.proofs.reparenting.with_parents.Goals as goal
use Rattle.reparent_rebase.proofs.reparenting.with_parents.Goals.{then-rebase-via-then-rebase, then-rebase-via-else-rebase+then-have_same_first}

pub written_out-requires-clause-there : goal.written_out-requires-clause-there
written_out-requires-clause-there c =
    subst (AllByRecursion (IsCommitOf c.args.events.now.list)) (sym c.parents_of-old.ensures.node) (parents_there c.args.events.now.list c.count-count.ensures.sound c.args.commit)

pub returns-then-rebase-clause-made : goal.returns-then-rebase-clause-made
returns-then-rebase-clause-made c =
    let events = c.args.events.now.list in
    let commit = c.args.commit in
    let new = c.args.parents.now in
    let rebase = c.args.rebase in
    let own = node_of events commit in
    let old : c.parents_of-old.result.now ≡ own.parents = c.parents_of-old.ensures.node in
    let stay : (rebase ≡ true) ⊎ (have_same_first own.parents new ≡ true) = elim c.then-rebase.branch [
      | then-rebase-via-then-rebase w ↦ inl w.if-rebase.true
      | then-rebase-via-else-rebase+then-have_same_first w ↦ inr (ap (λ (ps : List ℕ). have_same_first ps new) (sym old) ∙ sym w.have_same_first.ensures ∙ w.if-have_same_first.true)
    ] in
    c.in_ok-give_parents.ensures
    ∙ (λ i. record (c.in_ok-plan.ensures i) { after = changed (any.Commit commit) (with_parents (c.in_ok-of.ensures i)) ((c.in_ok-plan.ensures i).after) })
    ∙ ap (λ (es : List PlainEvent). leaving c.args.events.now es)
    (parents_given commit (reparents rebase events new) events c.count-count.ensures.sound (ops_stay rebase events commit new own.parents own.ops stay))

pub returns-clause-made : goal.returns-clause-made
returns-clause-made c =
    let events = c.args.events.now.list in
    let commit = c.args.commit in
    let new = c.args.parents.now in
    let rebase = c.args.rebase in
    let own = node_of events commit in
    let how = reparents rebase events new in
    let old : c.parents_of-old.result.now ≡ own.parents = c.parents_of-old.ensures.node in
    let its : c.ops_of.result.now ≡ own.ops = c.ops_of.ensures.node in
    let other = ap (λ (ps : List ℕ). have_same_first ps new) (sym old) ∙ sym c.have_same_first.ensures ∙ c.if-have_same_first.false in
    let ops : c.in_ok-ops.ops ≡ how.ops own.parents own.ops =
    c.in_ok-ops.ensures.made ∙ (λ i. written_out events (old i) (its i)) ∙ sym (tree_written rebase events commit new own.parents own.ops c.if-rebase.false other) in
    let given : c.give_parents.new.plan ≡ leaving c.args.events.now (changed (any.Commit commit) (with_parents new) events) =
    c.in_ok-give_parents.ensures ∙ (λ i. record (c.in_ok-plan.ensures i) { after = changed (any.Commit commit) (with_parents (c.in_ok-of.ensures i)) ((c.in_ok-plan.ensures i).after) }) in
    c.in_ok-give_ops.ensures
    ∙ (λ i. record (given i) { after = changed (any.Commit commit) (with_ops (ops i)) ((given i).after) })
    ∙ ap (λ (es : List PlainEvent). leaving c.args.events.now es) (both_given commit how events c.count-count.ensures.sound)
