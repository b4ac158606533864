use Rattle.std.proofs.Common.{◌≡◌, ◌∙◌, List, [], Some, Option, Ok, refl, sym, ap, subst}
use Rattle.std.specs.Prelude.{IsOk, slice_get, unwrap_or}
use Rattle.std.proofs.lemmas.Option.{none-some, same_Some, slice_get_within}
use Rattle.plain_model.specs.declared.event.PlainEvent.{PlainEvent}
use Rattle.plain_model.specs.declared.event.PlainEvent.TheVariants.{Commit}
use Rattle.plain_model.specs.declared.operation.FileOp.{FileOp}
use Rattle.plain_model.specs.Histories.{begun, if_ok, tree}
use Rattle.plain_model.specs.Lookups.{commit_id, event_ops, event_parents, find_event, id_of}
use Rattle.plain_model.specs.Trees.{Tree, apply_all}
use Rattle.event_arena.specs.Changes.{with_ops}
use Rattle.path_move_laws.specs.Apart.{MayMove}
use Rattle.path_move_laws.specs.MovedOps.{moved_all}
use Rattle.path_move_laws.specs.Moves.{moved_event}
use Rattle.path_move_laws.specs.PathMaps.{image_of}
use Rattle.plan_steps.proofs.Steps.{alike_of, kept_of}
use Rattle.path_moves.proofs.CommitLemmas.{first_ready, may_more, no_commit, ops_apply, tree_from}
use Rattle.path_moves.proofs.commits.move_at.Goals as goal

pub returns-in_default : goal.returns-in_default
returns-in_default c =
    let f = image_of c.args.map.now in
    let events = c.args.events.now.list in
    let e = c.args.event.now in
    let none = no_commit f events e c.in_default.not-Commit in
    record {
      changed = kept_of c.args.plan.now e e (moved_event f events) refl c.requires.found none.0;
      calm = none.1;
      fault = tt;
      may = may_more f events c.args.place e c.requires.at c.requires.may (λ i own. absurd (none-some i (sym none.2 ∙ own)));
      pairs = c.requires.pairs;
      due = c.requires.due;
      agrees = c.requires.agrees;
    }

pub begun-requires-clause-first : goal.begun-requires-clause-first
begun-requires-clause-first c = λ p first.
    first_ready (image_of c.args.map.now) c.args.events.now.list c.count-count.ensures.sound c.args.place c.args.event.now c.requires.at c.requires.may p
    (ap (λ ps. slice_get ps 0) (ap event_parents c.in-Commit.is ∙ sym c.as_slice.ensures) ∙ first)

pub moved_ops-requires-clause-applies : goal.moved_ops-requires-clause-applies
moved_ops-requires-clause-applies c =
    let x = c.in-Commit in
    let events = c.args.events.now.list in
    let begins = subst (λ ps. begun (tree events) ps ≡ Some c.in_ok-begun.begun.tree) c.as_slice.ensures c.in_ok-begun.ensures.tree in
    subst (λ (ops : List FileOp). IsOk (apply_all ops c.in_ok-begun.begun.tree)) (sym c.as_slice-2.ensures)
    (ops_apply events c.count-count.ensures.sound c.args.place x.id x.mark x.branch x.author x.committer x.encoding x.comment x.parents x.ops x.aliases (c.requires.at ∙ ap Some x.is) c.in_ok-begun.begun.tree begins)

pub keep-requires-clause-own : goal.keep-requires-clause-own
keep-requires-clause-own c = λ e at i own.
    let x = c.in-Commit in
    let events = c.args.events.now.list in
    let begun_tree = c.in_ok-begun.begun.tree in
    let begins = subst (λ ps. begun (tree events) ps ≡ Some begun_tree) c.as_slice.ensures c.in_ok-begun.ensures.tree in
    let same : e ≡ c.args.event.now = same_Some e c.args.event.now (sym at ∙ c.requires.at) in
    let is : i ≡ x.id = same_Some i x.id (sym own ∙ ap commit_id (same ∙ x.is)) in
    let applied : apply_all x.ops begun_tree ≡ Ok c.in_ok-moved.moved.pair.tree = ap (λ (ops : List FileOp). apply_all ops begun_tree) (sym c.as_slice-2.ensures) ∙ c.in_ok-moved.ensures.moved.applied in
    let own_tree : tree events x.id ≡ Some c.in_ok-moved.moved.pair.tree =
    tree_from events c.count-count.ensures.sound c.args.place x.id x.mark x.branch x.author x.committer x.encoding x.comment x.parents x.ops x.aliases (c.requires.at ∙ ap Some x.is) begun_tree begins ∙ ap if_ok applied in
    (subst (λ j. tree events j ≡ Some c.in_ok-moved.moved.pair.tree) (sym is) own_tree, c.in_ok-moved.ensures.moved.paired)

pub keep-requires-clause-place : goal.keep-requires-clause-place
keep-requires-clause-place c = slice_get_within c.args.events.now.list c.args.place c.args.event.now c.requires.at

pub give_ops-requires : goal.give_ops-requires
give_ops-requires c =
    let x = c.in-Commit in (
      c.args.event.now,
      ap (λ (e : PlainEvent). find_event (id_of e) c.args.plan.now.after) (sym x.is) ∙ c.requires.found,
      ap event_ops x.is ∙ sym c.as_slice-3.ensures,
    )

pub returns-clause-may : goal.returns-clause-may
returns-clause-may c =
    let x = c.in-Commit in
    let f = image_of c.args.map.now in
    let events = c.args.events.now.list in
    let begun_tree = c.in_ok-begun.begun.tree in
    let begins = subst (λ ps. begun (tree events) ps ≡ Some begun_tree) c.as_slice.ensures c.in_ok-begun.ensures.tree in
    let applied : apply_all x.ops begun_tree ≡ Ok c.in_ok-moved.moved.pair.tree = ap (λ (ops : List FileOp). apply_all ops begun_tree) (sym c.as_slice-2.ensures) ∙ c.in_ok-moved.ensures.moved.applied in
    let own_tree : tree events x.id ≡ Some c.in_ok-moved.moved.pair.tree =
    tree_from events c.count-count.ensures.sound c.args.place x.id x.mark x.branch x.author x.committer x.encoding x.comment x.parents x.ops x.aliases (c.requires.at ∙ ap Some x.is) begun_tree begins ∙ ap if_ok applied in
    may_more f events c.args.place c.args.event.now c.requires.at c.requires.may (λ i own t is.
    let same : i ≡ x.id = same_Some i x.id (sym own ∙ ap commit_id x.is) in
    subst (λ (u : Tree). MayMove f u) (same_Some c.in_ok-moved.moved.pair.tree t (sym own_tree ∙ ap (tree events) (sym same) ∙ is)) c.in_ok-moved.ensures.moved.paired.moves)

pub returns-clause-changed : goal.returns-clause-changed
returns-clause-changed c =
    let x = c.in-Commit in
    let f = image_of c.args.map.now in
    let events = c.args.events.now.list in
    let plan = c.args.plan.now in
    let begins = subst (λ ps. begun (tree events) ps ≡ Some c.in_ok-begun.begun.tree) c.as_slice.ensures c.in_ok-begun.ensures.tree in
    let e = Commit x.id x.mark x.branch x.author x.committer x.encoding x.comment x.parents x.ops x.aliases in
    let ops : c.in_ok-moved.moved.ops ≡ moved_all f x.ops (unwrap_or (begun (tree events) x.parents) []) =
    c.in_ok-moved.ensures.moved.whole
    ∙ ap (λ (l : List FileOp). moved_all f l c.in_ok-begun.begun.tree) c.as_slice-2.ensures
    ∙ ap (λ (o : Option Tree). moved_all f x.ops (unwrap_or o [])) (sym begins) in
    c.in_ok-give_ops.ensures
    ∙ ap (λ (es : List PlainEvent). record plan { after = es })
    (alike_of plan.after c.args.event.now e (with_ops c.in_ok-moved.moved.ops) (moved_event f events) x.is c.requires.found
    (ap (λ (l : List FileOp). Commit x.id x.mark x.branch x.author x.committer x.encoding x.comment x.parents l x.aliases) ops))
