use Rattle.std.proofs.Common.{◌≡◌, ◌∙◌, ℕ, List, [], Some, refl, sym, ap, subst}
use Rattle.std.specs.List.{AllByRecursion, list_any}
use Rattle.std.specs.Prelude.{IsSome, unwrap_or}
use Rattle.plain_model.specs.declared.operation.FileOp.{FileOp}
use Rattle.plain_model.specs.declared.event.PlainEvent.{PlainEvent}
use Rattle.plain_model.specs.declared.event.PlainEvent.TheVariants.{Commit}
use Rattle.plain_model.specs.Histories.{begun, folded, tree}
use Rattle.plain_model.specs.Soundness.{IsCommitOf}
use Rattle.plain_model.specs.Trees.{Tree}
use Rattle.event_arena.specs.Changes.{with_ops}
use Rattle.expunge_laws.specs.Expunged.{replaced_event}
use Rattle.expunge_laws.specs.Replaced.{replaced_all}
use Rattle.expunge_laws.specs.Untouched.{may_be_touched, may_touch}
use Rattle.expunge_laws.specs.Matching.{Matches, matched_by}
use Rattle.path_expunge.proofs.Nodes.{begins_with, begun_tree, has_tree_from, no_commit, parents_known, stays_by_name}
use Rattle.plan_steps.proofs.Steps.{alike_of, kept_of}
use Rattle.path_expunge.proofs.commits.replace_at.Goals as goal

pub returns-in_default : goal.returns-in_default
returns-in_default c =
    let m = matched_by c.args.matching.now in
    let g = replaced_event m c.args.events.now.list in
    let still = no_commit m c.args.events.now.list c.args.event.now c.in_default.not-Commit in
    record {
      changed = kept_of c.args.plan.now c.args.event.now c.args.event.now g refl c.requires.found still.0;
      touched = sym still.1;
      same = refl;
      kept = c.requires.agrees;
    }

pub returns-then-not-may_any_touch-clause-changed : goal.returns-then-not-may_any_touch-clause-changed
returns-then-not-may_any_touch-clause-changed c =
    let x = c.in-Commit in
    let m = matched_by c.args.matching.now in
    let e = Commit x.id x.mark x.branch x.author x.committer x.encoding x.comment x.parents x.ops x.aliases in
    let stays = stays_by_name m c.args.events.now.list c.count-count.ensures.sound c.args.place e (c.requires.at ∙ ap Some x.is)
    (sym (c.may_any_touch.ensures.touched ∙ ap (λ (ops : List FileOp). list_any (may_touch m) ops) c.as_slice.ensures) ∙ c.if-not-may_any_touch.true) in
    kept_of c.args.plan.now c.args.event.now e (replaced_event m c.args.events.now.list) x.is c.requires.found stays

pub begun-requires-clause-there : goal.begun-requires-clause-there
begun-requires-clause-there c =
    let x = c.in-Commit in
    subst (AllByRecursion (IsCommitOf c.args.events.now.list)) (sym c.as_slice-2.ensures)
    (parents_known c.args.events.now.list c.count-count.ensures.sound c.args.place x.id x.mark x.branch x.author x.committer x.encoding x.comment x.parents x.ops x.aliases (c.requires.at ∙ ap Some x.is))

pub replaced_all-requires-clause-trees : goal.replaced_all-requires-clause-trees
replaced_all-requires-clause-trees c =
    let x = c.in-Commit in
    let begins = subst (λ (ps : List ℕ). begun (tree c.args.events.now.list) ps ≡ Some c.in_ok-begun.begun) c.as_slice-2.ensures c.in_ok-begun.ensures.tree in
    subst (λ (ops : List FileOp). IsSome (folded ops (Some c.in_ok-begun.begun))) (sym c.as_slice-3.ensures)
    (has_tree_from c.args.events.now.list c.count-count.ensures.sound c.args.place x.id x.mark x.branch x.author x.committer x.encoding x.comment x.parents x.ops x.aliases (c.requires.at ∙ ap Some x.is) c.in_ok-begun.begun begins)

pub returns-clause-changed : goal.returns-clause-changed
returns-clause-changed c =
    let x = c.in-Commit in
    let plan = c.args.plan.now in
    let m = matched_by c.args.matching.now in
    let e = Commit x.id x.mark x.branch x.author x.committer x.encoding x.comment x.parents x.ops x.aliases in
    let begins = subst (λ (ps : List ℕ). begun (tree c.args.events.now.list) ps ≡ Some c.in_ok-begun.begun) c.as_slice-2.ensures c.in_ok-begun.ensures.tree in
    let with_tree = begins_with c.args.events.now.list c.count-count.ensures.sound c.args.place x.id x.mark x.branch x.author x.committer x.encoding x.comment x.parents x.ops x.aliases (c.requires.at ∙ ap Some x.is) c.in_ok-begun.begun begins in
    let ops : c.in_ok-made.made ≡ replaced_all m x.ops (unwrap_or (begun (tree c.args.events.now.list) x.parents) []) =
    c.in_ok-made.ensures.made
    ∙ ap (λ (ms : List Matches). replaced_all (matched_by ms) c.as_slice-3.result.now c.in_ok-begun.begun) c.may_any_touch.ensures.same
    ∙ ap (λ (l : List FileOp). replaced_all m l c.in_ok-begun.begun) c.as_slice-3.ensures
    ∙ ap (λ (t : Tree). replaced_all m x.ops t) (sym with_tree) in
    c.in_ok-set_ops.ensures.ok ∙ ap (λ (es : List PlainEvent). record plan { after = es })
    (alike_of plan.after c.args.event.now e (with_ops c.in_ok-made.made) (replaced_event m c.args.events.now.list) x.is c.requires.found
    (ap (λ (l : List FileOp). Commit x.id x.mark x.branch x.author x.committer x.encoding x.comment x.parents l x.aliases) ops))

pub replaced_all-requires-clause-tree : goal.replaced_all-requires-clause-tree
replaced_all-requires-clause-tree c = begun_tree c.args.events.now.list c.as_slice-2.result.now c.in_ok-begun.begun c.in_ok-begun.ensures.tree

pub returns-then-not-may_any_touch-clause-touched : goal.returns-then-not-may_any_touch-clause-touched
returns-then-not-may_any_touch-clause-touched c =
    let m = matched_by c.args.matching.now in
    sym (ap (may_be_touched m) c.in-Commit.is ∙ sym (c.may_any_touch.ensures.touched ∙ ap (list_any (may_touch m)) c.as_slice.ensures) ∙ c.if-not-may_any_touch.true)

pub returns-clause-touched : goal.returns-clause-touched
returns-clause-touched c =
    let m = matched_by c.args.matching.now in
    sym (ap (may_be_touched m) c.in-Commit.is ∙ sym (c.may_any_touch.ensures.touched ∙ ap (list_any (may_touch m)) c.as_slice.ensures) ∙ c.if-not-may_any_touch.false)
