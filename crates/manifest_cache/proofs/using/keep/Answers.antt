use Rattle.std.proofs.Common.{◌∙◌, sym, ap}
use Rattle.manifest_cache.specs.Kept.{is_kept}
use Rattle.manifest_cache.proofs.KeptTrees.{promoted_cache, put_cache}
use Rattle.manifest_cache.proofs.Sound.{live_tree}
use Rattle.manifest_cache.proofs.using.keep.Goals as goal

pub returns-then-contains-clause-ok : goal.returns-then-contains-clause-ok
returns-then-contains-clause-ok g c =
    let made = promoted_cache c.args.events.now.list c.args.kept.now c.number-then-contains.result c.args.commit c.requires.cap c.number-then-contains.ensures c.requires.agrees
    (ap (λ n. is_kept c.args.kept.now.entries n) (c.number-then-contains.ensures ∙ sym c.number.ensures) ∙ sym c.if-contains.ensures) in
    (made.0, made.1, c.promote.ensures.entries ∙ made.2)

pub tree_of-requires-clause-there : goal.tree_of-requires-clause-there
tree_of-requires-clause-there g c = live_tree c.args.events.now.list c.args.commit c.count.ensures.sound c.requires.live

pub returns-clause-ok : goal.returns-clause-ok
returns-clause-ok g c = (
  c.in_ok-tree.tree,
  c.in_ok-tree.ensures.tree,
  c.in_ok-put.ensures.entries
      ∙ put_cache c.args.kept.now c.number.result c.number-2.result c.args.commit c.in_ok-tree.tree c.requires.cap c.number.ensures c.number-2.ensures (sym c.if-contains.ensures),
)
