use Rattle.std.proofs.Common.{◌≡◌, ◌∙◌, ℕ, List, Some, false, ap, sym, subst}
use Rattle.std.specs.Prelude.{IsSome}
use Rattle.std.specs.List.{AllByRecursion}
use Rattle.std.proofs.lemmas.Option.{same_Some}
use Rattle.plain_model.specs.declared.id.AnyId.TheVariants as any
use Rattle.plain_model.specs.declared.event.PlainEvent.{PlainEvent}
use Rattle.plain_model.specs.declared.event.PlainEvent.TheVariants.{Commit}
use Rattle.plain_model.specs.Lookups.{find_event, id_of, is_listed}
use Rattle.edit_laws.proofs.Lists.{OfNodes, nodes_of_events}
use Rattle.expunge_laws.specs.InLine.{IsInLine}
use Rattle.graph_walk.proofs.FlagLemmas.{if_ok}
use Rattle.graph_walk.proofs.TurnLemmas.{all_at}
use Rattle.squash_laws.specs.Removed.{is_removed}
use Rattle.plain_model.specs.declared.policy.Lean.TheVariants as lean
use Rattle.plan_steps.specs.Targets.{moving, target_for}
use Rattle.plan_steps.proofs.NodeLemmas.{parents_there}
use Rattle.path_expunge.specs.declared.fates.Fate.{Fate}
use Rattle.path_expunge.specs.Fates.{IsCommitFate, fated, given_way, target_fate}
use Rattle.path_expunge.proofs.FateLemmas.{commit_fated, target_fated}
use Rattle.path_expunge.proofs.fates.fate_at.Goals as goal

pub commit_fate-requires-clause-there : goal.commit_fate-requires-clause-there
commit_fate-requires-clause-there c =
    let x = c.in-Commit in
    let events = c.args.removal.now.events in
    let e = Commit x.id x.mark x.branch x.author x.committer x.encoding x.comment x.parents x.ops x.aliases in
    subst (AllByRecursion (λ p. IsSome (find_event (any.Commit p) events))) (sym c.as_slice.ensures)
    (parents_there events c.count-count.ensures.sound c.args.place e (c.nth-event.ensures.event ∙ ap Some x.is))

pub returns-in-Commit : goal.returns-in-Commit
returns-in-Commit c =
    let x = c.in-Commit in
    let events = c.args.removal.now.events in
    let set = c.args.removal.now.set in
    let place = c.args.place in
    let e = Commit x.id x.mark x.branch x.author x.committer x.encoding x.comment x.parents x.ops x.aliases in
    let here = c.nth-event.ensures.event ∙ ap Some x.is in
    let line = all_at (OfNodes (IsInLine set events)) events place e (nodes_of_events (IsInLine set events) events c.requires.line) here in
    let stays : is_removed set x.id ≡ false = sym (c.has_at.ensures e here) ∙ c.if-has_at.false in
    if_ok c.commit_fate.result _ _ (λ fate its event at.
    subst (λ (y : PlainEvent). given_way fate y ≡ fated set events y) (same_Some e event (sym here ∙ at))
    (commit_fated set events x.id x.mark x.branch x.author x.committer x.encoding x.comment x.parents x.ops x.aliases line.0 stays fate
    (subst (λ (ps : List ℕ). IsCommitFate set events ps fate) c.as_slice.ensures its))) c.commit_fate.ensures

pub returns-in_default : goal.returns-in_default
returns-in_default c event at =
    let events = c.args.removal.now.events in
    let set = c.args.removal.now.set in
    let e = c.nth-event.result.now in
    let here = c.nth-event.ensures.event in
    let fate : c.target_fate.result ≡ target_fate (target_for Some e) (target_for (moving set events lean.Forward) e) =
    c.target_fate.ensures ∙ (λ i. target_fate (c.target_of.ensures i) (c.target_in.ensures e here i)) in
    let out : is_listed (id_of e) set ≡ false = sym (c.has_at.ensures e here) ∙ c.if-has_at.false in
    subst (λ (y : PlainEvent). given_way c.target_fate.result y ≡ fated set events y) (same_Some e event (sym here ∙ at))
    (ap (λ (f : Fate). given_way f e) fate ∙ target_fated set events e out c.in_default.not-Commit)
