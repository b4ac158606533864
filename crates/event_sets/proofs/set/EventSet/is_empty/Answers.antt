use Rattle.std.proofs.Common.{◌∙◌, ap, sym}
use Rattle.std.proofs.lemmas.Bool.{OnFalse_from, OnTrue_from}
use Rattle.std.specs.List.{list_any}
use Rattle.event_sets.proofs.SetLemmas.{all_empty, none_set, not_not}
use Rattle.event_sets.proofs.set.EventSet.is_empty.Goals as goal

pub returns-in-None-clause-empty : goal.returns-in-None-clause-empty
returns-in-None-clause-empty c = OnTrue_from _ _ (λ is. all_empty c.args.self.now.events c.args.self.now.ids c.bits-bits.ensures.live
    (ap (list_any (λ bit. bit)) (sym c.bits-bits.ensures.tied) ∙ sym c.is_any_set.ensures ∙ not_not c.is_any_set.result is))

pub returns-in-None-clause-filled : goal.returns-in-None-clause-filled
returns-in-None-clause-filled c = OnFalse_from _ _ (λ is. none_set c.args.self.now.events c.args.self.now.ids
    (ap (list_any (λ bit. bit)) (sym c.bits-bits.ensures.tied) ∙ sym c.is_any_set.ensures ∙ not_not c.is_any_set.result is))
