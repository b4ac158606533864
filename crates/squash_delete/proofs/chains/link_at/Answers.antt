use Rattle.std.proofs.Common.{◌≡◌, ◌∙◌, ◌&&◌, ◌||◌, ◌⊎◌, ℕ, true, inl, inr, List, Some, [], ap, refl, subst, sym}
use Rattle.std.proofs.lemmas.Option.{same_Some}
use Rattle.std.specs.Option.{option_map_or}
use Rattle.plain_model.specs.declared.id.AnyId.TheVariants as any
use Rattle.plain_model.specs.Lookups.{commit_id, event_ops, event_parents, find_event, place_of}
use Rattle.edit_laws.specs.Removal.{expand_all}
use Rattle.plain_model.specs.Histories.{past}
use Rattle.history_laws.proofs.SoundOnce.{sound_once}
use Rattle.graph_walk.proofs.PlaceLemmas.{place_found}
use Rattle.squash_laws.specs.Comments.{comment_of}
use Rattle.squash_laws.specs.Removed.{is_removed}
use Rattle.squash_laws.specs.Takings.{is_from_root, is_none, links}
use Rattle.squash_delete.specs.Chains.{IsNearest, Notes}
use Rattle.squash_delete.specs.Taking.{event_comment}
use Rattle.squash_delete.proofs.ChainLemmas.{comment_found, notes_gone, notes_stays, own_before}
use Rattle.plan_steps.proofs.WayLemmas.{own_commit, removed_at}
use Rattle.squash_delete.proofs.chains.link_at.Goals as goal
use Rattle.squash_delete.proofs.chains.link_at.Goals.{then-is_idle, else-is_idle}

pub returns-then-not-has_at : goal.returns-then-not-has_at
returns-then-not-has_at c event at own is =
    let events = c.args.removal.now.events in
    let set = c.args.removal.now.set in
    let stays = sym (removed_at set own event c.has_at.result is (c.has_at.ensures event at)) ∙ c.if-not-has_at.true in
    subst (Notes set events own) (sym c.no_link.ensures) (notes_stays set events own stays)

pub nearest-nearest-requires-clause-before : goal.nearest-nearest-requires-clause-before
nearest-nearest-requires-clause-before c =
    own_before c.args.removal.now.events c.count-count.ensures.sound c.args.place _ c.nth-event.result.now _ c.nth-event.ensures.event c.requires.next c.parents-parents.ensures

pub ends_at_root-requires-clause-before : goal.ends_at_root-requires-clause-before
ends_at_root-requires-clause-before c =
    own_before c.args.removal.now.events c.count-count.ensures.sound c.args.place _ c.nth-event.result.now _ c.nth-event.ensures.event c.requires.next c.parents-parents.ensures

pub are_over-requires-clause-before : goal.are_over-requires-clause-before
are_over-requires-clause-before c =
    own_before c.args.removal.now.events c.count-count.ensures.sound c.args.place _ c.nth-event.result.now _ c.nth-event.ensures.event c.requires.next c.parents-parents.ensures

pub returns : goal.returns
returns c event at own is =
    let events = c.args.removal.now.events in
    let set = c.args.removal.now.set in
    let sound = c.count-count.ensures.sound in
    let place = c.args.place in
    let e = c.nth-event.result.now in
    let here = c.nth-event.ensures.event in
    let same : event ≡ e = same_Some event e (sym at ∙ here) in
    let own_e : commit_id e ≡ Some own = ap commit_id (sym same) ∙ is in
    let found : find_event (any.Commit own) events ≡ Some e = ap (λ id. find_event id events) (own_commit own e own_e) ∙ c.nth-event.ensures.found in
    let there : place_of (any.Commit own) events ≡ Some place = ap (λ id. place_of id events) (own_commit own e own_e) ∙ (place_found events place e here (sound_once events sound).ids).0 in
    let gone = sym (removed_at set own e c.has_at.result own_e (c.has_at.ensures e here)) ∙ c.if-not-has_at.false in
    let ops : c.as_slice.result.now ≡ event_ops e = c.as_slice.ensures ∙ sym (ap event_ops c.in-Commit.is) in
    let comment : c.as_slice-2.result.now ≡ comment_of events own = c.as_slice-2.ensures ∙ sym (comment_found events own ∙ ap (λ o. option_map_or event_comment o []) found ∙ ap event_comment c.in-Commit.is) in
    let idle : c.is_idle.result ≡ is_none (event_ops e) && is_none (comment_of events own) = c.is_idle.ensures ∙ ap (λ os. is_none os && is_none c.as_slice-2.result.now) ops ∙ ap (λ (x : List ℕ). is_none (event_ops e) && is_none x) comment in
    let how : ((is_none (event_ops e) && is_none (comment_of events own) ≡ true) × IsNearest set events place (event_parents e) c.if-is_idle.nearest) ⊎ (c.if-is_idle.nearest ≡ Some own) =
    elim c.if-is_idle.branch [
      | then-is_idle w ↦ inl (
        sym idle ∙ w.if-is_idle.true,
        subst (IsNearest set events place (event_parents e)) (sym w.nearest-is)
            (subst (λ ps. IsNearest set events place ps w.nearest-nearest.result) c.parents-parents.ensures (w.nearest-nearest.ensures place (own_before events sound place place e _ here refl c.parents-parents.ensures))),
      )
      | else-is_idle w ↦ inr (w.nearest-is ∙ sym (ap commit_id c.in-Commit.is) ∙ own_e)
    ] in
    notes_gone set events sound own place e c.if-is_idle.nearest c.ends_at_root.result c.are_over.result here found there gone how
    (c.ends_at_root.ensures ∙ ap (λ ps. is_none ps || is_from_root (links set events ps)) c.parents-parents.ensures)
    (c.are_over.ensures ∙ ap (λ ps. is_none (expand_all (is_removed set) (past events) ps)) c.parents-parents.ensures)
