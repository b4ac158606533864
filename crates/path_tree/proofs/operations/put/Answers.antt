use Rattle.std.proofs.Common.{sym, ap, ◌∙◌}
use Rattle.std.specs.Prelude.{Ok}
use Rattle.plain_model.specs.Trees.{Tree}
use Rattle.path_tree.proofs.PathEnds.{put_within}
use Rattle.path_tree.proofs.Suffixes.{put_is}
use Rattle.path_tree.proofs.operations.put.Goals as goal

pub returns : goal.returns
returns c =
    let old = c.args.root.now.value in
    let new = c.set_shared.new.folder.value in
    let is = put_is c.args.path.now c.args.entry old new c.requires.form.in_order c.in_ok-set_shared.ensures.order c.in_ok-set_shared.ensures.places in
    record {
      done = put_within c.args.path.now c.args.entry old c.requires.room ∙ ap (λ (t : Tree). Ok t) (sym is);
      refused = tt;
      unchanged = tt;
    }
