use Rattle.std.proofs.Common.{refl, sym, ap, subst, ◌∙◌, option_map}
use Rattle.std.specs.Prelude.{Result}
use Rattle.plain_model.specs.Trees.{Tree, Refusal, change, put_all, cleared_for, within_paths}
use Rattle.plain_model.specs.Trees.Refusal.{MissingSource, PathBytes}
use Rattle.path_tree.specs.Answers.{moves, IsAnswer}
use Rattle.path_tree.specs.Folders.{prefixed}
use Rattle.path_tree.specs.Inside.{member_of}
use Rattle.path_tree.specs.PathMaps.{IsInOrder}
use Rattle.path_tree.specs.Setting.{suffixes, Finds}
use Rattle.path_tree.proofs.Suffixes.{subtree_is, some_suffixes, moves_none, moves_long, moves_made, base_in_order, tells}
use Rattle.path_tree.proofs.operations.move_to.Goals as goal

pub returns-then-is_missing : goal.returns-then-is_missing
returns-then-is_missing c =
    let old = c.args.root.now.value in
    let s = c.args.source.now in
    let t = c.args.target.now in
    let m = option_map member_of c.in_ok-node.node in
    let found = subst (λ (x : Tree). Finds s m x) c.deref.ensures c.in_ok-node.ensures.found in
    let is = subtree_is s m old c.requires.form.in_order c.in_ok-node.ensures.fits found in
    record {
      done = tt;
      refused = tells (change (moves c.args.keep s t) old) MissingSource _ (moves_none c.args.keep s t old m is (sym c.if-is_missing.ensures)) refl;
      unchanged = refl;
    }

pub returns-then-is_long : goal.returns-then-is_long
returns-then-is_long c =
    let old = c.args.root.now.value in
    let s = c.args.source.now in
    let t = c.args.target.now in
    let m = option_map member_of c.in_ok-node.node in
    let found = subst (λ (x : Tree). Finds s m x) c.deref.ensures c.in_ok-node.ensures.found in
    let is = subtree_is s m old c.requires.form.in_order c.in_ok-node.ensures.fits found in
    let some = some_suffixes m c.in_ok-node.ensures.fits (sym c.if-is_missing.ensures) in
    record {
      done = tt;
      refused = tells (change (moves c.args.keep s t) old) PathBytes _ (moves_long c.args.keep s t old m is some (sym c.if-is_long.ensures)) refl;
      unchanged = refl;
    }

pub placed-requires-clause-order : goal.placed-requires-clause-order
placed-requires-clause-order c =
    subst (λ (x : Tree). IsInOrder x) (sym c.in_ok-base.ensures) (base_in_order c.args.keep c.args.source.now c.args.root.now.value c.requires.form.in_order)

pub returns : goal.returns
returns c =
    let old = c.args.root.now.value in
    let s = c.args.source.now in
    let t = c.args.target.now in
    let m = option_map member_of c.in_ok-node.node in
    let found = subst (λ (x : Tree). Finds s m x) c.deref.ensures c.in_ok-node.ensures.found in
    let is = subtree_is s m old c.requires.form.in_order c.in_ok-node.ensures.fits found in
    let some = some_suffixes m c.in_ok-node.ensures.fits (sym c.if-is_missing.ensures) in
    let made = c.in_ok-made.ensures ∙ ap (λ (x : Tree). put_all (prefixed t (suffixes m)) (cleared_for t x)) c.in_ok-base.ensures in
    let expected = moves_made c.args.keep s t old m is some (sym c.if-is_long.ensures) ∙ ap (λ (x : Tree). within_paths x) (sym made) in
    subst (λ (e : Result Tree Refusal). IsAnswer e old c.take_within.result c.take_within.new.root.value) (sym expected) c.take_within.ensures
