use Rattle.std.proofs.Common.{◌≡◌, ◌∙◌, ℕ, List, Option, Some, Err, refl, sym, ap, subst}
use Rattle.std.specs.Prelude.{IfSome, IsSome, is_some}
use Rattle.lru.specs.LruCache.{LruCache}
use Rattle.plain_model.specs.declared.operation.FileOp.{FileOp}
use Rattle.plain_model.specs.Histories.{folded, tree}
use Rattle.plain_model.specs.Lookups.{event_ops, id_of}
use Rattle.plain_model.specs.Trees.{Tree}
use Rattle.manifest_cache.specs.Checking.{Applies}
use Rattle.manifest_cache.specs.Kept.{AgreesWith}
use Rattle.manifest_cache.proofs.Checked.{IsMarked, made_here, no_commit, one_more, parent_tree, refused_checks}
use Rattle.manifest_cache.proofs.KeptTrees.{agrees_put}
use Rattle.manifest_cache.proofs.checking.check_event.Goals as goal

pub begun-requires-clause-there : goal.begun-requires-clause-there
begun-requires-clause-there c =
    let after = c.args.plan.now.after in
    subst (λ (o : Option ℕ). IfSome o (λ p. IsSome (tree after p))) (sym c.first_parent.ensures)
    (parent_tree after c.count.ensures.once c.requires.earlier c.args.place c.nth-event.result.now c.nth-event.ensures.event c.requires.checked)

pub returns-in_ok-put-in-Ok-clause-checks : goal.returns-in_ok-put-in-Ok-clause-checks
returns-in_ok-put-in-Ok-clause-checks c =
    let after = c.args.plan.now.after in
    let e = c.nth-event.result.now in
    let ops = c.as_slice.ensures ∙ sym (ap event_ops c.in-Commit.is) in
    one_more after c.count.ensures.once c.requires.earlier c.args.place e c.nth-event.ensures.event c.requires.checked
    (λ d own. ap is_some (made_here after c.count.ensures.once c.requires.earlier c.args.place e c.nth-event.ensures.event c.first_parent.result c.in_ok-tree-in-Commit.tree c.apply_all.new.tree d
    c.first_parent.ensures c.in_ok-tree-in-Commit.ensures (subst (λ (os : List FileOp). folded os (Some c.in_ok-tree-in-Commit.tree) ≡ Some c.apply_all.new.tree) ops c.in-Ok.ensures) own))

pub returns-in_ok-put-in-Ok-clause-made : goal.returns-in_ok-put-in-Ok-clause-made
returns-in_ok-put-in-Ok-clause-made c =
    let after = c.args.plan.now.after in
    let e = c.nth-event.result.now in
    let ops = c.as_slice.ensures ∙ sym (ap event_ops c.in-Commit.is) in
    let own = sym (ap id_of c.in-Commit.is) in
    let is = made_here after c.count.ensures.once c.requires.earlier c.args.place e c.nth-event.ensures.event c.first_parent.result c.in_ok-tree-in-Commit.tree c.apply_all.new.tree c.in-Commit.id
    c.first_parent.ensures c.in_ok-tree-in-Commit.ensures (subst (λ (os : List FileOp). folded os (Some c.in_ok-tree-in-Commit.tree) ≡ Some c.apply_all.new.tree) ops c.in-Ok.ensures) own in
    subst (λ (m : LruCache ℕ Tree). AgreesWith after m.entries) (sym c.in_ok-put-in-Ok.ensures.ok)
    (agrees_put after c.args.made.now c.in-Commit.id c.apply_all.new.tree c.requires.made is)

pub returns-in-Err-clause-checks : goal.returns-in-Err-clause-checks
returns-in-Err-clause-checks c =
    let after = c.args.plan.now.after in
    let e = c.nth-event.result.now in
    let ops = c.as_slice.ensures ∙ sym (ap event_ops c.in-Commit.is) in
    refused_checks after c.count.ensures.once c.requires.earlier c.args.place e c.nth-event.ensures.event c.requires.place c.requires.checked
    c.first_parent.result c.in_ok-tree-in-Commit.tree c.apply_all.new.tree c.in-Commit.mark c.first_parent.ensures c.in_ok-tree-in-Commit.ensures
    (subst (IsMarked c.in-Commit.mark) (sym c.in-Commit.is) refl) c.in-Err.halt
    (subst (λ (os : List FileOp). Applies c.in-Commit.mark os c.in_ok-tree-in-Commit.tree (Err c.in-Err.halt) c.apply_all.new.tree) ops c.in-Err.ensures)

pub returns-in_default : goal.returns-in_default
returns-in_default c =
    let e = c.nth-event.result.now in
    record {
      checks = one_more c.args.plan.now.after c.count.ensures.once c.requires.earlier c.args.place e c.nth-event.ensures.event c.requires.checked
          (λ d own. absurd (no_commit e c.in_default.not-Commit d own));
      made = c.requires.made;
    }
