use Rattle.std.proofs.Common.{◌≡◌, ◌∙◌, ℕ, List, Some, None, ap, sym, take}
use Rattle.std.proofs.lemmas.Option.{same_Some}
use Rattle.std.specs.Prelude.{slice_get}
use Rattle.plain_model.specs.declared.id.AnyId.TheVariants as any
use Rattle.plain_model.specs.Lookups.{commit_id, event_parents, find_event}
use Rattle.plain_model.specs.Soundness.{IsCommitOf}
use Rattle.history_laws.proofs.SoundOnce.{sound_once}
use Rattle.plan_steps.proofs.NodeLemmas.{earlier_there}
use Rattle.plan_steps.proofs.WayLemmas.{back_earlier, back_parent, back_root, first_known, is_early, own_commit}
use Rattle.plan_steps.proofs.ways.back_from.Goals as goal

pub returns-in_err-parent : goal.returns-in_err-parent
returns-in_err-parent c event at commit is gone =
    let events = c.args.removal.now.events in
    let set = c.args.removal.now.set in
    let e = c.nth.result.now in
    let own : commit_id e ≡ Some commit = ap commit_id (same_Some e event (sym c.nth.ensures.event ∙ at)) ∙ is in
    let found : find_event (any.Commit commit) events ≡ Some e = ap (λ id. find_event id events) (own_commit commit e own) ∙ c.nth.ensures.found in
    let none : slice_get (event_parents e) 0 ≡ None = ap (λ (ps : List ℕ). slice_get ps 0) (sym c.parents.ensures) ∙ sym c.in_err-parent.ensures.value in
    c.from_residual.ensures ∙ sym (back_root set events c.count-count.ensures.sound commit e found gone none)

pub place-requires : goal.place-requires
place-requires c =
    let events = c.args.removal.now.events in
    let sound = c.count-count.ensures.sound in
    let e = c.nth.result.now in
    let parent = c.in_ok-parent.parent.now in
    let first : slice_get (event_parents e) 0 ≡ Some parent = ap (λ (ps : List ℕ). slice_get ps 0) (sym c.parents.ensures) ∙ sym c.in_ok-parent.ensures.value in
    earlier_there events sound c.args.place parent (first_known events sound c.args.place parent e c.nth.ensures.event first)

pub returns : goal.returns
returns c event at commit is gone =
    let events = c.args.removal.now.events in
    let set = c.args.removal.now.set in
    let sound = c.count-count.ensures.sound in
    let e = c.nth.result.now in
    let parent = c.in_ok-parent.parent.now in
    let own : commit_id e ≡ Some commit = ap commit_id (same_Some e event (sym c.nth.ensures.event ∙ at)) ∙ is in
    let found : find_event (any.Commit commit) events ≡ Some e = ap (λ id. find_event id events) (own_commit commit e own) ∙ c.nth.ensures.found in
    let first : slice_get (event_parents e) 0 ≡ Some parent = ap (λ (ps : List ℕ). slice_get ps 0) (sym c.parents.ensures) ∙ sym c.in_ok-parent.ensures.value in
    let earlier : IsCommitOf (take c.args.place events) parent = first_known events sound c.args.place parent e c.nth.ensures.event first in
    let b = is_early events c.args.place parent c.place.result (sound_once events sound).ids earlier c.place.ensures.place in
    c.stand_in.ensures b.event b.at b.own
    ∙ back_earlier set events sound c.args.place parent c.place.result c.args.ways.now earlier c.place.ensures.place c.requires.ways
    ∙ sym (back_parent set events sound commit parent e found gone first)
