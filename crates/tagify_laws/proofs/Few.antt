-- No more commits become tags than there are numbers below all of which are spent: each commit has one of them.
use Rattle.std.proofs.Common.{◌≡◌, ℕ, ◌≤◌, Bool, true, false, cond, List, [], ◌∷◌, filter, length, map, sym, subst, ◌∙◌, inl, inr, None}
use Rattle.std.specs.List.{AllByRecursion, IsDistinct, list_any}
use Rattle.std.proofs.Math.Dec.{eqb}
use Rattle.std.proofs.lemmas.Bool.{or_cases, or_left, or_right}
use Rattle.std.proofs.lemmas.List.{length-map}
use Rattle.std.proofs.lemmas.Map.Steps.{length-le_from_distinct_below}
use Rattle.plain_model.specs.declared.id.AnyId.{AnyId}
use Rattle.plain_model.specs.declared.id.AnyId.TheVariants as any
use Rattle.plain_model.specs.declared.event.PlainEvent.{PlainEvent}
use Rattle.plain_model.specs.declared.event.PlainEvent.TheVariants.{Blob, Commit, Tag, Reset, Pass}
use Rattle.plain_model.specs.Lookups.{AreIdsBelow, find_event, id_number, id_of, same_id}
use Rattle.plain_model.specs.Soundness.{IsSound, has_id}
use Rattle.history_laws.specs.Once.{AreDistinct}
use Rattle.history_laws.proofs.Ids.{absent_cons, has_id_cons}
use Rattle.history_laws.proofs.SoundOnce.{has_id_find, sound_once}
use Rattle.tagify_laws.specs.Tagify.{becomes_tag, tagged}

module _ (selected : List AnyId) where
  abbrev numbers : List PlainEvent → List ℕ
  numbers es = map id_number (tagged selected es)

  -- their numbers are those of commits
  there : (q : ℕ) (es : List PlainEvent) → list_any (eqb q) (numbers es) ≡ true → has_id es (any.Commit q) ≡ true
  there q [] h = h
  there q (Commit id mark branch author committer encoding comment parents ops aliases ∷ es) h = go (becomes_tag selected e) h (there q es)
    where
      e : PlainEvent
      e = Commit id mark branch author committer encoding comment parents ops aliases

      go : (b : Bool) → list_any (eqb q) (map id_number (map id_of (cond b (e ∷ filter (becomes_tag selected) es) (filter (becomes_tag selected) es)))) ≡ true → (list_any (eqb q) (numbers es) ≡ true → has_id es (any.Commit q) ≡ true) → has_id (e ∷ es) (any.Commit q) ≡ true
      go true h f = has_id_cons e es (any.Commit q) ∙ elim (or_cases (eqb q id) (list_any (eqb q) (numbers es)) h) [
        | inl own ↦ or_left (same_id (any.Commit q) (any.Commit id)) (has_id es (any.Commit q)) own
        | inr later ↦ or_right (same_id (any.Commit q) (any.Commit id)) (has_id es (any.Commit q)) (f later)
      ]
      go false h f = has_id_cons e es (any.Commit q) ∙ or_right (same_id (any.Commit q) (any.Commit id)) (has_id es (any.Commit q)) (f h)
  there q (Blob id mark bytes ∷ es) h = there q es h
  there q (Tag id name target tagger comment mark ∷ es) h = there q es h
  there q (Reset id branch target ∷ es) h = there q es h
  there q (Pass id line ∷ es) h = there q es h

  -- a commit that isn't there has none of them
  apart : (q : ℕ) (es : List PlainEvent) → find_event (any.Commit q) es ≡ None → AllByRecursion (λ y. eqb q y ≡ false) (numbers es)
  apart q [] h = tt
  apart q (Commit id mark branch author committer encoding comment parents ops aliases ∷ es) h =
      let e : PlainEvent = Commit id mark branch author committer encoding comment parents ops aliases in
      let parts = absent_cons (any.Commit q) e es h in
      let rest = apart q es parts.1 in
      elim (becomes_tag selected e) as (λ b. AllByRecursion (λ y. eqb q y ≡ false) (map id_number (map id_of (cond b (e ∷ filter (becomes_tag selected) es) (filter (becomes_tag selected) es))))) [
        | true ↦ (parts.0, rest)
        | false ↦ rest
      ]
  apart q (Blob id mark bytes ∷ es) h = apart q es h
  apart q (Tag id name target tagger comment mark ∷ es) h = apart q es h
  apart q (Reset id branch target ∷ es) h = apart q es h
  apart q (Pass id line ∷ es) h = apart q es h

  distinct : (es : List PlainEvent) → AreDistinct es → IsDistinct eqb (numbers es)
  unfolding IsDistinct
  distinct [] d = tt
  distinct (Commit id mark branch author committer encoding comment parents ops aliases ∷ es) d =
      let e : PlainEvent = Commit id mark branch author committer encoding comment parents ops aliases in
      let first = apart id es d.0 in
      let rest = distinct es d.1 in
      elim (becomes_tag selected e) as (λ b. IsDistinct eqb (map id_number (map id_of (cond b (e ∷ filter (becomes_tag selected) es) (filter (becomes_tag selected) es))))) [
        | true ↦ (first, rest)
        | false ↦ rest
      ]
  distinct (Blob id mark bytes ∷ es) d = distinct es d.1
  distinct (Tag id name target tagger comment mark ∷ es) d = distinct es d.1
  distinct (Reset id branch target ∷ es) d = distinct es d.1
  distinct (Pass id line ∷ es) d = distinct es d.1

  pub no_more_than_numbers : (next : ℕ) (events : List PlainEvent) → IsSound events → AreIdsBelow next events → length (tagged selected events) ≤ next
  no_more_than_numbers next events h below =
      subst (λ n. n ≤ next) (length-map (tagged selected events) id_number)
      (length-le_from_distinct_below (numbers events) next (distinct events (sound_once events h).ids)
      (λ q k. below (any.Commit q) (sym (has_id_find events (any.Commit q)) ∙ there q events k)))
