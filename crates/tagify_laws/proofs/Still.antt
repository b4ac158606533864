-- Where no commit becomes a tag, nothing changes.
use Rattle.std.proofs.Common.{◌≡◌, ℕ, ◌+◌, Bool, true, false, cond, List, [], ◌∷◌, filter, map, refl, ap, ◌∙◌, Some, None, Ok, Err}
use Rattle.std.specs.Prelude.{◌&&◌, IsTrue}
use Rattle.std.specs.List.{AllByRecursion}
use Rattle.plain_model.specs.declared.fault.Fault.TheVariants as fault
use Rattle.plain_model.specs.declared.id.AnyId.{AnyId}
use Rattle.plain_model.specs.declared.id.AnyId.TheVariants as any
use Rattle.plain_model.specs.declared.event.PlainEvent.{PlainEvent}
use Rattle.plain_model.specs.declared.event.PlainEvent.TheVariants.{Blob, Commit, Tag, Reset, Pass}
use Rattle.plain_model.specs.Histories.{knows, past}
use Rattle.plain_model.specs.Lookups.{event_parents, id_of}
use Rattle.plain_model.specs.Soundness.{IsSound, are_distinct, has_id}
use Rattle.ancestry_laws.proofs.Pasts.{known_past}
use Rattle.history_laws.proofs.SoundOnce.{sound_once}
use Rattle.edit_laws.specs.Removal.{once_each}
use Rattle.edit_laws.specs.Settling.{is_ready}
use Rattle.edit_laws.proofs.Fine.{ready_parents}
use Rattle.edit_laws.proofs.Lists.{all_true}
use Rattle.edit_laws.proofs.Repeats.{distinct_once}
use Rattle.edit_laws.proofs.Settles.{sound_settles}
use Rattle.squash_laws.specs.Removed.{is_removed}
use Rattle.tagify_laws.specs.InPlace.{in_place, moved}
use Rattle.tagify_laws.specs.Tagify.{base_of, becomes_tag, has_tag_named, name_for, new_tag, or_as_it_was, tagged, tagify_of, taken_name}
use Rattle.tagify_laws.proofs.InOrder.{tagified_is}
use Rattle.tagify_laws.proofs.Tagged.{base_itself}

module _ (selected : List AnyId) (events : List PlainEvent) where
  -- no event becomes one
  abbrev AllStay : List PlainEvent → Type 0
  AllStay es = AllByRecursion (λ e. becomes_tag selected e ≡ false) es

  all_stay : (es : List PlainEvent) → tagged selected es ≡ [] → AllStay es
  all_stay [] none = tt
  all_stay (e ∷ es) none = go (becomes_tag selected e) refl none (all_stay es)
    where
      go : (b : Bool) → becomes_tag selected e ≡ b → map id_of (cond b (e ∷ filter (becomes_tag selected) es) (filter (becomes_tag selected) es)) ≡ [] → (tagged selected es ≡ [] → AllStay es) → AllStay (e ∷ es)
      go true is none rest = absurd cc
      go false is none rest = (is, rest none)

  -- so no name is wanted
  none_taken : (es : List PlainEvent) → AllStay es → taken_name selected events es ≡ None
  none_taken [] stay = refl
  none_taken (e ∷ es) stay = λ i. cond (stay.0 i && has_tag_named events (name_for e)) (Some (name_for e)) (none_taken es stay.1 i)

  module _ (h : IsSound events) (none : tagged selected events ≡ []) where
    abbrev base : ℕ → ℕ
    base c = base_of selected events c

    same_base : (c : ℕ) → knows (past events) c ≡ true → base c ≡ c
    same_base c known = base_itself selected events h c (ap (λ set. is_removed set c) none) known

    same_bases : (ps : List ℕ) → AllByRecursion (λ p. IsTrue (knows (past events) p)) ps → map base ps ≡ ps
    same_bases [] known = refl
    same_bases (p ∷ ps) known = λ i. same_base p known.0 i ∷ same_bases ps known.1 i

    same_target : (target : ℕ) → has_id events (any.Commit target) ≡ true → base target ≡ target
    same_target target there = same_base target (known_past events target ∙ there)

    same_event : (e : PlainEvent) → is_ready events e ≡ true → are_distinct (event_parents e) ≡ true → moved selected events e ≡ e
    same_event (Commit id mark branch author committer encoding comment parents ops aliases) ready once =
        ap (λ ps. Commit id mark branch author committer encoding comment ps ops aliases)
        (ap once_each (same_bases parents (ready_parents events parents ops ready)) ∙ distinct_once parents once)
    same_event (Tag id name target tagger comment mark) ready once =
        ap (λ t. Tag id name t tagger comment mark) (same_target target (all_true (has_id events) (any.Commit target ∷ []) ready).0)
    same_event (Reset id branch (Some target)) ready once =
        ap (λ t. Reset id branch (Some t)) (same_target target (all_true (has_id events) (any.Commit target ∷ []) ready).0)
    same_event (Reset id branch None) ready once = refl
    same_event (Blob id mark bytes) ready once = refl
    same_event (Pass id line) ready once = refl

    same_list : (k : ℕ) (es : List PlainEvent) → AllStay es → AllByRecursion (λ e. IsTrue (is_ready events e)) es → AllByRecursion (λ e. IsTrue (are_distinct (event_parents e))) es
        → in_place selected events k es ≡ es
    same_list k [] stay ready once = refl
    same_list k (e ∷ es) stay ready once =
        (λ i. cond (stay.0 i) (new_tag selected events k e ∷ in_place selected events (k + 1) es) (same_event e ready.0 once.0 i ∷ same_list k es stay.1 ready.1 once.1 i))

    pub nothing_changes : (next : ℕ) → tagify_of next selected events ≡ Ok events
    nothing_changes next =
        let stay = all_stay events none in
        let done = tagified_is selected events h next ∙ ap Ok (same_list next events stay (sound_settles events h).complete (sound_once events h).parents) in
        λ i. elim (none_taken events stay i) [
          | Some name ↦ Err (fault.NameTaken name)
          | None ↦ or_as_it_was events (done i)
        ]
