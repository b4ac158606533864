-- A history in which one commit is cut in two, and what was on it is on the second.
use Rattle.std.proofs.Common.{◌≡◌, ◌∙◌, ℕ, ◌<◌, true, false, List, [], ◌∷◌, ◌++◌, Option, Some, None, refl, sym, ap, subst, inl, inr, map, take, drop, arith, eq-eqb, eqb-true}
use Rattle.std.specs.Prelude.{◌==◌, is_some}
use Rattle.std.specs.List.{AllByRecursion, list_any}
use Rattle.std.proofs.lemmas.Bool.{cases_Bool, cond-false, or_parts}
use Rattle.std.proofs.lemmas.Option.{none-some, same_Some}
use Rattle.plain_model.specs.declared.id.AnyId.TheVariants as any
use Rattle.plain_model.specs.declared.operation.FileOp.{FileOp}
use Rattle.plain_model.specs.declared.person.Signed.{Signed}
use Rattle.plain_model.specs.declared.event.PlainEvent.{PlainEvent}
use Rattle.plain_model.specs.declared.event.PlainEvent.TheVariants.{Blob, Commit, Tag, Reset, Pass}
use Rattle.plain_model.specs.Lookups.{AreIdsBelow, find_event, id_of, same_id}
use Rattle.plain_model.proofs.Numbers.{eqb_turned}
use Rattle.event_arena.specs.Changes.{changed, put_after, with_ops}
use Rattle.history_laws.specs.Once.{AreDistinct}
use Rattle.history_laws.proofs.SoundOnce.{sound_once}
use Rattle.plain_model.specs.Soundness.{IsSound}
use Rattle.history_laws.proofs.Ids.{absent_cons}
use Rattle.commit_laws.proofs.Given.{rank}
use Rattle.split_laws.specs.Split.{onto, split_event, split_list}
use Rattle.split_reorder.specs.Copies.{put_onto}
use Rattle.plan_steps.proofs.Nodes.{given}

-- parents among which the commit isn't stay
pub unmoved : (c copy : ℕ) (ps : List ℕ) → list_any (λ p. p == c) ps ≡ false → map (onto c copy) ps ≡ ps
unmoved c copy [] h = refl
unmoved c copy (p ∷ ps) h =
    let parts = or_parts (p == c) (list_any (λ q. q == c) ps) h in
    λ i. cond-false (p == c) copy p parts.0 i ∷ unmoved c copy ps parts.1 i

-- ids stay
pub onto_id : (c copy : ℕ) (e : PlainEvent) → id_of (put_onto c copy e) ≡ id_of e
onto_id c copy (Commit id mark branch author committer encoding comment parents ops aliases) = refl
onto_id c copy (Blob id mark bytes) = refl
onto_id c copy (Tag id name target tagger comment mark) = refl
onto_id c copy (Reset id branch target) = refl
onto_id c copy (Pass id line) = refl

-- a commit isn't its own parent
pub no_own_parent : (number : ℕ → ℕ) (c : ℕ) (ps : List ℕ) → AllByRecursion (λ p. number p < number c) ps → list_any (λ p. p == c) ps ≡ false
no_own_parent number c [] a = refl
no_own_parent number c (p ∷ ps) a = elim (cases_Bool (p == c)) [
  | inl it ↦ let low : number c < number c = subst (λ x. number x < number c) (eqb-true p c it) a.0 in absurd (omega arith)
  | inr other ↦ rw other (no_own_parent number c ps a.1)
]

-- an id that was never given isn't there
pub never_given : (n : ℕ) (es : List PlainEvent) → AreIdsBelow n es → find_event (any.Commit n) es ≡ None
never_given n es below = go (find_event (any.Commit n) es) refl
  where
    go : (o : Option PlainEvent) → find_event (any.Commit n) es ≡ o → o ≡ None
    go None is = refl
    go (Some e) is = let low = below (any.Commit n) (ap is_some is) in absurd (omega arith)

module _ (c copy mark kept : ℕ) where
  -- an event that isn't the commit
  split_other : (e : PlainEvent) → same_id (any.Commit c) (id_of e) ≡ false → split_event c copy mark kept e ≡ put_onto c copy e ∷ []
  split_other (Commit id its branch author committer encoding comment parents ops aliases) h =
      cond-false (id == c) _ _ (eqb_turned id c ∙ h)
  split_other (Blob id its bytes) h = refl
  split_other (Tag id name target tagger comment its) h = refl
  split_other (Reset id branch target) h = refl
  split_other (Pass id line) h = refl

  -- and events that aren't
  split_others : (es : List PlainEvent) → find_event (any.Commit c) es ≡ None → map (put_onto c copy) es ≡ split_list c copy mark kept es
  split_others [] h = refl
  split_others (e ∷ es) h =
      let rest = absent_cons (any.Commit c) e es h in
      ap (λ (l : List PlainEvent). put_onto c copy e ∷ l) (split_others es rest.1)
      ∙ ap (λ (l : List PlainEvent). l ++ split_list c copy mark kept es) (sym (split_other e rest.0))

  module _ (its : ℕ) (branch : List ℕ) (author committer : Signed) (encoding : Option (List ℕ)) (comment : List ℕ) (parents : List ℕ) (ops : List FileOp) (aliases : List ℕ) (stay : map (onto c copy) parents ≡ parents) where
    abbrev whole : PlainEvent
    whole = Commit c its branch author committer encoding comment parents ops aliases

    abbrev second : PlainEvent
    second = Commit copy mark branch author committer encoding comment (c ∷ []) (drop kept ops) []

    -- the commit is cut where it stands
    pub cut_in_two : (es : List PlainEvent) → AreDistinct es → find_event (any.Commit c) es ≡ Some whole →
        put_after (any.Commit c) second (changed (any.Commit c) (with_ops (take kept ops)) (map (put_onto c copy) es)) ≡ split_list c copy mark kept es
    cut_in_two [] once h = absurd (none-some whole h)
    cut_in_two (x ∷ es) once h = elim (cases_Bool (same_id (any.Commit c) (id_of x))) [
      | inl it ↦ here x (same_Some x whole (rw it at h)) once.0
      | inr other ↦ rw (onto_id c copy x, other) (rw (onto_id c copy x, other) (
          ap (λ (l : List PlainEvent). put_onto c copy x ∷ l) (cut_in_two es once.1 (rw other at h))
          ∙ ap (λ (l : List PlainEvent). l ++ split_list c copy mark kept es) (sym (split_other x other))))
    ]
      where
        own : (c == c) ≡ true
        own = eq-eqb c c refl

        here : (y : PlainEvent) → y ≡ whole → find_event (id_of y) es ≡ None →
            put_after (any.Commit c) second (changed (any.Commit c) (with_ops (take kept ops)) (map (put_onto c copy) (y ∷ es))) ≡ split_list c copy mark kept (y ∷ es)
        here y is none = subst (λ (z : PlainEvent). find_event (id_of z) es ≡ None → put_after (any.Commit c) second (changed (any.Commit c) (with_ops (take kept ops)) (map (put_onto c copy) (z ∷ es))) ≡ split_list c copy mark kept (z ∷ es)) (sym is)
            (λ absent. rw own (rw own (λ i. Commit c its branch author committer encoding comment (stay i) (take kept ops) aliases ∷ second ∷ split_others es absent i))) none

-- a commit of a sound history that is found is cut there
pub cut_found : (c copy mark kept : ℕ) (events : List PlainEvent) (sound : IsSound events) (its : ℕ) (branch : List ℕ) (author committer : Signed) (encoding : Option (List ℕ)) (comment : List ℕ) (parents : List ℕ) (ops : List FileOp) (aliases : List ℕ) →
    find_event (any.Commit c) events ≡ Some (Commit c its branch author committer encoding comment parents ops aliases) →
    put_after (any.Commit c) (Commit copy mark branch author committer encoding comment (c ∷ []) (drop kept ops) []) (changed (any.Commit c) (with_ops (take kept ops)) (map (put_onto c copy) events))
    ≡ split_list c copy mark kept events
cut_found c copy mark kept events sound its branch author committer encoding comment parents ops aliases found =
    let g = given events sound (any.Commit c) (Commit c its branch author committer encoding comment parents ops aliases) found in
    let stay = unmoved c copy parents (no_own_parent (rank events sound) c parents g.low.0) in
    cut_in_two c copy mark kept its branch author committer encoding comment parents ops aliases stay events (sound_once events sound).ids found
