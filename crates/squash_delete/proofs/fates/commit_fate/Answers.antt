use Rattle.std.proofs.Common.{◌≡◌, ◌∙◌, ℕ, List, Some, false, true, ap, sym, subst}
use Rattle.std.specs.Prelude.{IsSome}
use Rattle.std.specs.List.{AllByRecursion, list_any}
use Rattle.std.proofs.lemmas.Option.{same_Some}
use Rattle.plain_model.specs.declared.id.AnyId.TheVariants as any
use Rattle.plain_model.specs.declared.operation.FileOp.{FileOp}
use Rattle.plain_model.specs.declared.event.PlainEvent.{PlainEvent}
use Rattle.plain_model.specs.declared.event.PlainEvent.TheVariants.{Commit}
use Rattle.plain_model.specs.Lookups.{commit_id, event_parents, find_event}
use Rattle.plain_model.specs.Paths.{Bytes}
use Rattle.plain_model.specs.Soundness.{are_distinct}
use Rattle.history_laws.proofs.SoundOnce.{sound_once}
use Rattle.graph_walk.proofs.FlagLemmas.{if_ok}
use Rattle.graph_walk.proofs.TurnLemmas.{all_at}
use Rattle.squash_laws.specs.Removed.{is_removed}
use Rattle.plan_steps.proofs.NodeLemmas.{parents_there}
use Rattle.squash_delete.specs.Fates.{IsCommitFate, fated, given}
use Rattle.squash_delete.specs.declared.fates.Fate.TheVariants.{Same}
use Rattle.squash_delete.proofs.FateLemmas.{apart_fate, commit_fated}
use Rattle.squash_delete.proofs.fates.commit_fate.Goals as goal

pub is_any_removed-requires : goal.is_any_removed-requires
is_any_removed-requires c =
    let x = c.in-Commit in
    let events = c.args.removal.now.events in
    let e = Commit x.id x.mark x.branch x.author x.committer x.encoding x.comment x.parents x.ops x.aliases in
    subst (AllByRecursion (λ p. IsSome (find_event (any.Commit p) events))) (sym c.as_slice-parents.ensures)
    (parents_there events c.count-count.ensures.sound c.args.place e (c.nth.ensures.event ∙ ap Some x.is))

pub taken_fate-requires-clause-there : goal.taken_fate-requires-clause-there
taken_fate-requires-clause-there c =
    let x = c.in-Commit in
    let events = c.args.removal.now.events in
    let e = Commit x.id x.mark x.branch x.author x.committer x.encoding x.comment x.parents x.ops x.aliases in
    subst (AllByRecursion (λ p. IsSome (find_event (any.Commit p) events))) (sym c.as_slice-parents.ensures)
    (parents_there events c.count-count.ensures.sound c.args.place e (c.nth.ensures.event ∙ ap Some x.is))

pub returns-then-not-is_any_removed : goal.returns-then-not-is_any_removed
returns-then-not-is_any_removed c tags event own at is stays =
    let x = c.in-Commit in
    let events = c.args.removal.now.events in
    let set = c.args.removal.now.set in
    let e = Commit x.id x.mark x.branch x.author x.committer x.encoding x.comment x.parents x.ops x.aliases in
    let here = c.nth.ensures.event ∙ ap Some x.is in
    let same : e ≡ event = same_Some e event (sym here ∙ at) in
    let its : is_removed set x.id ≡ false = ap (is_removed set) (same_Some x.id own (ap commit_id same ∙ is)) ∙ stays in
    let once : are_distinct x.parents ≡ true = all_at (λ y. are_distinct (event_parents y) ≡ true) events c.args.place e (sound_once events c.count-count.ensures.sound).parents here in
    let apart : list_any (is_removed set) x.parents ≡ false =
    ap (list_any (is_removed set)) (sym c.as_slice-parents.ensures) ∙ sym c.is_any_removed.ensures ∙ c.if-not-is_any_removed.true in
    subst (λ (y : PlainEvent). y ≡ fated set events c.args.comments tags y) same
    (commit_fated set events c.args.comments tags x.id x.mark x.branch x.author x.committer x.encoding x.comment x.parents x.ops x.aliases its Same
    (apart_fate set events c.args.comments tags x.id x.parents x.ops x.comment once apart))

pub returns : goal.returns
returns c =
    let x = c.in-Commit in
    let events = c.args.removal.now.events in
    let set = c.args.removal.now.set in
    let e = Commit x.id x.mark x.branch x.author x.committer x.encoding x.comment x.parents x.ops x.aliases in
    let here = c.nth.ensures.event ∙ ap Some x.is in
    if_ok c.taken_fate.result _ _ (λ fate its tags event own at is stays.
    let same : e ≡ event = same_Some e event (sym here ∙ at) in
    let kept : is_removed set x.id ≡ false = ap (is_removed set) (same_Some x.id own (ap commit_id same ∙ is)) ∙ stays in
    subst (λ (y : PlainEvent). given fate y ≡ fated set events c.args.comments tags y) same
    (commit_fated set events c.args.comments tags x.id x.mark x.branch x.author x.committer x.encoding x.comment x.parents x.ops x.aliases kept fate
    (subst (λ (ps : List ℕ). IsCommitFate set events c.args.comments tags x.id ps x.ops x.comment fate) c.as_slice-parents.ensures
    (subst (λ (os : List FileOp). IsCommitFate set events c.args.comments tags x.id c.as_slice-parents.result.now os x.comment fate) c.as_slice.ensures
    (subst (λ (text : Bytes). IsCommitFate set events c.args.comments tags x.id c.as_slice-parents.result.now c.as_slice.result.now text fate) c.as_slice-2.ensures
    (its tags x.id)))))) c.taken_fate.ensures
