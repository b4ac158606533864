use Rattle.std.proofs.Common.{◌≡◌, ◌∙◌, true, false, ap, sym, subst}
use Rattle.std.specs.List.{AllByRecursion}
use Rattle.plain_model.specs.declared.id.AnyId.TheVariants as any
use Rattle.plain_model.specs.Soundness.{IsCommitOf}
use Rattle.event_arena.specs.Changes.{changed, with_ops, with_parents}
use Rattle.event_arena.specs.Graphs.{Change}
use Rattle.commit_laws.specs.Selected.{node_of}
use Rattle.reparent_laws.specs.Reparent.{have_same_first, ops_onto}
use Rattle.reparent_laws.specs.WrittenOut.{written_out}
use Rattle.divide_laws.specs.Divide.{loses, without_parent}
use Rattle.plan_steps.proofs.Nodes.{parents_there}
use Rattle.repo_divide.proofs.DividingLemmas.{is_written, stays}
use Rattle.reparent_rebase.proofs.Rewritten.{both_given, parents_given}
use Rattle.repo_divide.proofs.parting.parted.Goals as goal

pub written_out-requires-clause-there : goal.written_out-requires-clause-there
written_out-requires-clause-there c =
    subst (AllByRecursion (IsCommitOf c.args.events.now.list)) (sym c.parents_of-old.ensures.node) (parents_there c.args.events.now.list c.count-count.ensures.sound c.args.cut.child)

pub returns-then-same-clause-after : goal.returns-then-same-clause-after
returns-then-same-clause-after c =
    let events = c.args.events.now.list in
    let cut = c.args.cut in
    let own = node_of events cut.child in
    let old : c.parents_of-old.result.now ≡ own.parents = c.parents_of-old.ensures.node in
    let left : c.in_ok-parents.parents ≡ without_parent cut.parent own.parents = c.in_ok-parents.ensures ∙ ap (without_parent cut.parent) old in
    let same : have_same_first own.parents (without_parent cut.parent own.parents) ≡ true =
    (λ i. have_same_first (sym old i) (sym (c.as_slice.ensures ∙ left) i)) ∙ sym c.have_same_first-same.ensures ∙ c.if-same.true in
    ap (λ (p : Change). p.after) c.in_ok-give_parents.ensures
    ∙ (λ i. changed (any.Commit cut.child) (with_parents (left i)) (ap (λ (p : Change). p.after) c.in_ok-plan.ensures i))
    ∙ parents_given cut.child (loses events cut.parent) events c.count-count.ensures.sound (stays events own.parents (without_parent cut.parent own.parents) own.ops same)

pub returns-clause-after : goal.returns-clause-after
returns-clause-after c =
    let events = c.args.events.now.list in
    let cut = c.args.cut in
    let own = node_of events cut.child in
    let fewer = without_parent cut.parent own.parents in
    let old : c.parents_of-old.result.now ≡ own.parents = c.parents_of-old.ensures.node in
    let its : c.ops_of.result.now ≡ own.ops = c.ops_of.ensures.node in
    let left : c.in_ok-parents.parents ≡ fewer = c.in_ok-parents.ensures ∙ ap (without_parent cut.parent) old in
    let other : have_same_first own.parents fewer ≡ false =
    (λ i. have_same_first (sym old i) (sym (c.as_slice.ensures ∙ left) i)) ∙ sym c.have_same_first-same.ensures ∙ c.if-same.false in
    let ops : c.in_ok-ops.ops ≡ ops_onto events fewer own.parents own.ops =
    c.in_ok-ops.ensures.made ∙ (λ i. written_out events (old i) (its i)) ∙ sym (is_written events own.parents fewer own.ops other) in
    let given : c.give_parents.new.plan.after ≡ changed (any.Commit cut.child) (with_parents fewer) events =
    ap (λ (p : Change). p.after) c.in_ok-give_parents.ensures ∙ (λ i. changed (any.Commit cut.child) (with_parents (left i)) (ap (λ (p : Change). p.after) c.in_ok-plan.ensures i)) in
    ap (λ (p : Change). p.after) c.in_ok-give_ops.ensures
    ∙ (λ i. changed (any.Commit cut.child) (with_ops (ops i)) (given i))
    ∙ both_given cut.child (loses events cut.parent) events c.count-count.ensures.sound
