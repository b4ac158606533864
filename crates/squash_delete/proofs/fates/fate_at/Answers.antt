use Rattle.std.proofs.Common.{◌≡◌, ◌∙◌, Some, false, ap, sym, subst}
use Rattle.std.proofs.lemmas.Option.{same_Some}
use Rattle.plain_model.specs.declared.event.PlainEvent.{PlainEvent}
use Rattle.plain_model.specs.declared.event.PlainEvent.TheVariants.{Commit}
use Rattle.plain_model.specs.declared.policy.Push.TheVariants as push
use Rattle.plain_model.specs.Lookups.{commit_id, id_of, is_listed}
use Rattle.graph_walk.proofs.FlagLemmas.{if_ok}
use Rattle.squash_laws.specs.Takings.{target_after}
use Rattle.plan_steps.specs.Targets.{target_for}
use Rattle.squash_delete.specs.declared.fates.Fate.{Fate}
use Rattle.squash_delete.specs.Fates.{fated, given, target_fate}
use Rattle.squash_delete.proofs.FateLemmas.{listed_fated, target_fated}
use Rattle.squash_delete.proofs.fates.fate_at.Goals as goal

pub returns-then-has_at : goal.returns-then-has_at
returns-then-has_at c tags event moves at =
    listed_fated c.args.removal.now.set c.args.removal.now.events c.args.comments tags event (sym (c.has_at.ensures event at) ∙ c.if-has_at.true)

pub returns-in-Commit : goal.returns-in-Commit
returns-in-Commit c =
    let x = c.in-Commit in
    let e = Commit x.id x.mark x.branch x.author x.committer x.encoding x.comment x.parents x.ops x.aliases in
    let here = c.nth-event.ensures.event ∙ ap Some x.is in
    if_ok c.commit_fate.result _ _ (λ fate its tags event moves at.
    its tags event x.id at (ap commit_id (same_Some event e (sym at ∙ here))) (sym (c.has_at.ensures e here) ∙ c.if-has_at.false)) c.commit_fate.ensures

pub returns-in_default : goal.returns-in_default
returns-in_default c tags event moves at =
    let events = c.args.removal.now.events in
    let set = c.args.removal.now.set in
    let e = c.nth-event.result.now in
    let here = c.nth-event.ensures.event in
    let fate : c.target_fate.result ≡ target_fate (target_for Some e) (target_for (target_after set events push.Forward tags) e) =
    c.target_fate.ensures ∙ (λ i. target_fate (c.target_of.ensures i) (c.target_in.ensures tags e moves here i)) in
    let out : is_listed (id_of e) set ≡ false = sym (c.has_at.ensures e here) ∙ c.if-has_at.false in
    subst (λ (y : PlainEvent). given c.target_fate.result y ≡ fated set events c.args.comments tags y) (same_Some e event (sym here ∙ at))
    (ap (λ (f : Fate). given f e) fate ∙ target_fated set events c.args.comments tags e out c.in_default.not-Commit)
