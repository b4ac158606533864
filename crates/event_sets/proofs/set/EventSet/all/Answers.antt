use Rattle.std.proofs.Common.{◌∙◌, ap, true}
use Rattle.std.specs.Prelude.{replicate}
use Rattle.event_sets.proofs.SetLemmas.{all_bits, passing_all}
use Rattle.event_sets.proofs.set.EventSet.all.Goals as goal

pub returns-clause-ids : goal.returns-clause-ids
returns-clause-ids c =
    let es = c.args.events.now.list in
    c.of_bits.ensures.passing (λ e. true) (c.in_ok-bits.ensures.items_if_clones_equal (λ y e. e)
    ∙ ap (λ n. replicate n true) c.count.ensures.count ∙ all_bits es) ∙ passing_all es
