use Rattle.std.proofs.Common.{◌∙◌, ◌∷◌, [], arith, ap, sym, subst}
use Rattle.std.proofs.lemmas.Option.{same_Some}
use Rattle.plain_model.specs.declared.event.PlainEvent.{PlainEvent}
use Rattle.squash_delete.specs.Fates.{FateIs, has_many_parents, left_some}
use Rattle.plan_steps.proofs.Tables.{any_default}
use Rattle.squash_delete.specs.declared.fates.Fate.{Fate}
use Rattle.squash_delete.specs.declared.fates.Fate.TheVariants.{Same}
use Rattle.squash_delete.proofs.ForwardLemmas.{listed_left, stays_left}
use Rattle.squash_delete.proofs.judging.is_many_at.Goals as goal

pub returns-then-has_at : goal.returns-then-has_at
returns-then-has_at c comments tags event table at =
    (listed_left c.args.removal.now.set c.args.removal.now.events comments tags event (sym (c.has_at.ensures event at) ∙ c.if-has_at.true)).1

pub returns : goal.returns
returns c comments tags event table at =
    let set = c.args.removal.now.set in
    let events = c.args.removal.now.events in
    let e = c.nth.result.now in
    let low = c.requires.place in
    let long = c.requires.count in
    let its = c.index-fates-place.is ∙ any_default c.args.fates.now c.args.place c.index-fates-place.result Same (omega arith) in
    let fate = subst (λ (f : Fate). FateIs set events comments tags e f) (sym its) (table.entry c.args.place e c.nth.ensures.event) in
    c.is_many_given.ensures ∙ (stays_left set events comments tags e c.index-fates-place.result (sym (c.has_at.ensures e c.nth.ensures.event) ∙ c.if-has_at.false) fate).1
    ∙ ap (λ (x : PlainEvent). has_many_parents (left_some set events comments tags (x ∷ []))) (same_Some e event (sym c.nth.ensures.event ∙ at))
