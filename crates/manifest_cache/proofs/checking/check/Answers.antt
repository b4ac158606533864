use Rattle.std.proofs.Common.{◌∙◌, ℕ, sym, ap, subst, arith}
use Rattle.std.specs.Prelude.{is_some}
use Rattle.lru.specs.LruCache.{LruCache}
use Rattle.plain_model.specs.declared.id.AnyId.TheVariants as any
use Rattle.plain_model.specs.Trees.{Tree}
use Rattle.history_laws.proofs.SoundOnce.{has_id_find}
use Rattle.manifest_cache.specs.Kept.{AgreesWith}
use Rattle.manifest_cache.proofs.Checked.{all_checked}
use Rattle.manifest_cache.proofs.Lines.{tree_along, tree_line}
use Rattle.manifest_cache.proofs.Prefixes.{found_before, front_same}
use Rattle.manifest_cache.proofs.Sound.{distinct, live_tree}
use Rattle.manifest_cache.proofs.checking.check.Goals as goal

pub loop-place-init : goal.loop-place-init
loop-place-init c =
    let before = c.args.plan.now.before in
    let after = c.args.plan.now.after in
    let once = distinct before c.old_count.ensures.sound in
    let front = c.first_changed-front.result in
    let alike = c.first_changed-front.ensures.alike in
    record {
      have = λ d h.
          let has = live_tree before d c.old_count.ensures.sound (found_before before after once c.count-place-end.ensures.once front alike d h) in
          let same = front_same before after once c.count-place-end.ensures.once front alike d h in
          ap is_some (tree_line after d ∙ ap tree_along (sym same) ∙ sym (tree_line before d)) ∙ has;
      made = subst (λ (m : LruCache ℕ Tree). AgreesWith after m.entries) (sym c.in_ok-made.ensures) tt;
    }

pub returns-clause-checked : goal.returns-clause-checked
returns-clause-checked c =
    let after = c.args.plan.now.after in
    let end = c.count-place-end.ensures.count in
    let over = c.loop-place-test.false in
    (all_checked after c.count-place-end.ensures.once c.requires.earlier c.loop-place.place (omega (arith, end, over)) c.loop-place.invariant.have).1

pub returns-clause-trees : goal.returns-clause-trees
returns-clause-trees c = λ d there.
    let after = c.args.plan.now.after in
    let end = c.count-place-end.ensures.count in
    let over = c.loop-place-test.false in
    (all_checked after c.count-place-end.ensures.once c.requires.earlier c.loop-place.place (omega (arith, end, over)) c.loop-place.invariant.have).0 d (sym (has_id_find after (any.Commit d)) ∙ there)
