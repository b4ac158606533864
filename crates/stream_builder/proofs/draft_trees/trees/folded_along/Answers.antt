use Rattle.std.proofs.Common.{◌≡◌, ◌<◌, ◌+◌, ◌-◌, suc, length, drop, ap, get_or, sym, ◌∙◌, arith}
use Rattle.stream_builder.specs.Lines.{along}
use Rattle.stream_builder.proofs.FirstParents.{one_newer, tree_at}
use Rattle.stream_builder.proofs.draft_trees.trees.folded_along.Goals as goal

pub loop-after-preserved : goal.loop-after-preserved
loop-after-preserved c =
    let events = c.args.drafts.now in
    let line = c.args.line.now in
    let n = length line in
    let k = c.loop-after.after in
    let m = n - (k + 1) in
    let at = c.index-line-place.result in
    let more : k < n = c.loop-after-test.true in
    let within : m < n = omega (arith, more) in
    let is = c.index-line-place.is ∙ ap (λ i. get_or line i at) (let same : n - 1 - k ≡ m = omega (arith, more) in same) in
    let so_far = c.loop-after.invariant.made ∙ ap (λ i. along events (drop i line) c.args.base) (let same : n - k ≡ suc m = omega (arith, more) in same) in
    let made = one_newer events line m at c.args.base c.loop-after.made c.in_ok-made.made within is so_far c.in_ok-made.ensures in
    let own = tree_at events line m at c.args.base within is c.requires.each in
    record {
      made = made;
      earlier = c.keep_on_way.ensures events c.loop-after.invariant.earlier (own.0 ∙ sym made, own.1);
    }
