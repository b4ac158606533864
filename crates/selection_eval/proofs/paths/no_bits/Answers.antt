use Rattle.std.proofs.Common.{◌∙◌, ap, false}
use Rattle.std.specs.Prelude.{replicate}
use Rattle.event_sets.proofs.BitLemmas.{no-bits}
use Rattle.selection_eval.proofs.paths.no_bits.Goals as goal

pub returns : goal.returns
returns c =
    c.in_ok-vec.ensures.items_if_clones_equal (λ y e. e) ∙ ap (λ n. replicate n false) c.count.ensures.count
    ∙ no-bits c.args.events.now.list
