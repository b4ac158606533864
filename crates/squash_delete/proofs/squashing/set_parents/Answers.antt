use Rattle.std.proofs.Common.{◌≡◌, ◌∙◌, List, ℕ, ap, refl, subst, sym, Option, Some, None}
use Rattle.std.specs.Prelude.{MatchOption}
use Rattle.plain_model.specs.declared.id.AnyId.{AnyId}
use Rattle.plain_model.specs.declared.event.PlainEvent.{PlainEvent}
use Rattle.history_laws.proofs.SoundOnce.{sound_once}
use Rattle.graph_walk.specs.Expansions.{AreFew, parent_changes}
use Rattle.squash_laws.specs.Removed.{parents_after}
use Rattle.squash_delete.specs.Judged.{AreMany}
use Rattle.plan_steps.specs.Leaving.{staying, with_all_parents}
use Rattle.plan_steps.proofs.LeavingLemmas.{parents_given, same_parents}
use Rattle.squash_delete.proofs.squashing.set_parents.Goals as goal

-- what is found of the parents that commits get
abbrev IsFound : Option (List (ℕ × List ℕ)) → List PlainEvent → List AnyId → Type 0
IsFound found events set = MatchOption found (AreMany (parent_changes events set)) (λ changes. (changes ≡ parent_changes events set) × AreFew (parent_changes events set))

pub returns-in_ok-give_parents-in-Some : goal.returns-in_ok-give_parents-in-Some
returns-in_ok-give_parents-in-Some c takes h =
    let events = c.args.removal.now.events in
    let set = c.args.removal.now.set in
    let p = c.args.plan.now in
    let once = sound_once events c.count-count.ensures.sound in
    let there = subst (λ (o : Option (List (ℕ × List ℕ))). IsFound o c.args.events.now.list c.set.result.now) c.in-Some.is c.in_ok-changes.ensures in
    let found = subst (λ (es : List PlainEvent). IsFound (Some c.in-Some.changes) es set) c.requires (subst (λ (ids : List AnyId). IsFound (Some c.in-Some.changes) c.args.events.now.list ids) c.set.ensures there) in (
      parents_after set events takes,
      (refl, found.1),
      c.in_ok-give_parents-in-Some.ensures
          ∙ ap (λ (es : List PlainEvent). record p { after = es })
          (ap (λ changes. with_all_parents changes p.after) found.0 ∙ ap (with_all_parents (parent_changes events set)) h ∙ parents_given set takes events once.ids once.parents),
    )

pub returns-in-None : goal.returns-in-None
returns-in-None c takes h =
    let events = c.args.removal.now.events in
    let set = c.args.removal.now.set in
    let p = c.args.plan.now in
    let there = subst (λ (o : Option (List (ℕ × List ℕ))). IsFound o c.args.events.now.list c.set.result.now) c.in-None.is c.in_ok-changes.ensures in
    let found = subst (λ (es : List PlainEvent). IsFound None es set) c.requires (subst (λ (ids : List AnyId). IsFound None c.args.events.now.list ids) c.set.ensures there) in (
      (λ parents. parents),
      (refl, found),
      ap (λ (es : List PlainEvent). record p { after = es }) (h ∙ sym (same_parents (staying set takes events))),
    )
