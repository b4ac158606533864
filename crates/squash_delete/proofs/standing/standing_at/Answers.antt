use Rattle.std.proofs.Common.{◌≡◌, ◌∙◌, ℕ, List, ap, sym, true≢false}
use Rattle.std.proofs.lemmas.Option.{same_Some}
use Rattle.plain_model.specs.declared.id.AnyId.{AnyId}
use Rattle.plain_model.specs.declared.id.AnyId.TheVariants as any
use Rattle.plain_model.specs.Histories.{past}
use Rattle.plain_model.specs.Lookups.{find_event, id_of}
use Rattle.edit_laws.specs.Removal.{expand_all}
use Rattle.graph_walk.proofs.FlagLemmas.{if_ok}
use Rattle.squash_laws.specs.Removed.{is_removed}
use Rattle.plan_steps.proofs.WayLemmas.{own_commit, removed_at}
use Rattle.squash_delete.proofs.ChainLemmas.{own_before}
use Rattle.squash_delete.proofs.StandingLemmas.{stands_gone}
use Rattle.squash_delete.proofs.standing.standing_at.Goals as goal

pub returns-then-not-has_at : goal.returns-then-not-has_at
returns-then-not-has_at c event at own is gone =
    absurd (true≢false (sym gone ∙ sym (removed_at c.args.removal.now.set own event c.has_at.result is (c.has_at.ensures event at)) ∙ c.if-not-has_at.true))

pub standing-requires-clause-before : goal.standing-requires-clause-before
standing-requires-clause-before c =
    own_before c.args.removal.now.events c.count-count.ensures.sound c.args.place _ c.nth.result.now c.parents.result.now c.nth.ensures.event c.requires.rows.count c.parents.ensures

pub returns : goal.returns
returns c =
    let events = c.args.removal.now.events in
    let set = c.args.removal.now.set in
    let e = c.nth.result.now in
    if_ok c.standing.result _ _ (λ made its event at own is gone.
    let same : event ≡ e = same_Some event e (sym at ∙ c.nth.ensures.event) in
    let found : find_event (any.Commit own) events ≡ _ = ap (λ (id : AnyId). find_event id events) (own_commit own event is ∙ ap id_of same) ∙ c.nth.ensures.found in
    its ∙ ap (λ (ps : List ℕ). expand_all (is_removed set) (past events) ps) c.parents.ensures
    ∙ stands_gone set events c.count-count.ensures.sound own e found gone) c.standing.ensures
