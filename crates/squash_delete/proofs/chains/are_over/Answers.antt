use Rattle.std.proofs.Common.{◌∙◌, length, ap, refl, sym}
use Rattle.std.proofs.lemmas.Option.{slice_get_read}
use Rattle.std.specs.List.{list_all}
use Rattle.std.proofs.lemmas.Bool.{not-true}
use Rattle.plain_model.specs.Histories.{past}
use Rattle.edit_laws.specs.Removal.{expand}
use Rattle.event_arena.proofs.ListLemmas.{take_all}
use Rattle.squash_laws.specs.Removed.{is_removed}
use Rattle.squash_laws.specs.Takings.{is_none}
use Rattle.squash_delete.proofs.ChainLemmas.{not_all, over_each}
use Rattle.squash_delete.proofs.chains.are_over.Goals as goal

pub returns-then-not-link_of : goal.returns-then-not-link_of
returns-then-not-link_of c =
    let removed = is_removed c.args.removal.now.set in
    let older = past c.args.removal.now.events in
    let ps = c.args.parents.now in
    let item = slice_get_read ps (length ps) c.loop-parent.parent-index c.parent-item.result refl c.loop-parent-test.true c.parent-item.is in
    sym (over_each removed older ps ∙ not_all (λ p. is_none (expand removed older p)) ps c.loop-parent.parent-index c.parent-item.result item (sym c.link_of.ensures.is_over ∙ not-true c.link_of.result.is_over c.if-not-link_of.true))

pub returns : goal.returns
returns c =
    let removed = is_removed c.args.removal.now.set in
    let older = past c.args.removal.now.events in
    let ps = c.args.parents.now in
    sym (over_each removed older ps ∙ ap (list_all (λ p. is_none (expand removed older p))) (sym (take_all ps c.loop-parent.parent-index c.loop-parent-test.false)) ∙ c.loop-parent.invariant)
