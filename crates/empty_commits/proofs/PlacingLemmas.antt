-- Tags in the place of commits: the events that stay and the new tags, in the order of the list.
use Rattle.std.proofs.Common.{◌≡◌, ◌∙◌, ℕ, ◌+◌, Bool, true, false, cond, not, List, [], ◌∷◌, ◌++◌, map, filter, refl, sym, ap, subst, Some}
use Rattle.std.specs.Prelude.{option_to_list, slice_index_or}
use Rattle.std.specs.List.{All, AllByRecursion}
use Rattle.std.specs.List.Sorted.{IsPermutation}
use Rattle.std.proofs.lemmas.List.Elements.{All-head, All-tail, filter-append}
use Rattle.std.proofs.lemmas.List.Sorted.{All-permutation, IsPermutation-cons, IsPermutation-middle, IsPermutation-refl, IsPermutation-trans}
use Rattle.std.proofs.lemmas.Option.{slice_get-get_or}
use Rattle.plain_model.specs.declared.id.AnyId.{AnyId}
use Rattle.plain_model.specs.declared.event.PlainEvent.{PlainEvent}
use Rattle.plain_model.specs.declared.event.PlainEvent.TheVariants.{Blob, Commit, Tag, Reset, Pass}
use Rattle.plain_model.specs.Lookups.{find_event, id_of, is_listed}
use Rattle.plain_model.specs.Soundness.{IsSound}
use Rattle.history_laws.specs.Once.{AreDistinct}
use Rattle.event_arena.specs.Changes.{in_order, without_all}
use Rattle.event_arena.proofs.OnceLemmas.{found_at}
use Rattle.tagify_laws.specs.InPlace.{in_place, moved}
use Rattle.tagify_laws.specs.Tagify.{becomes_tag, new_tag, tagged}
use Rattle.tagify_laws.proofs.InOrder.{same_moved}
use Rattle.tagify_laws.proofs.Tagged.{no_tag, tagged_each}
use Rattle.empty_commits.specs.Tagging.{new_tags}

-- ---- the order of another list that has the same events

abbrev IsIn : List PlainEvent → PlainEvent → Type 0
IsIn es e = find_event (id_of e) es ≡ Some e

each_found : (es : List PlainEvent) → AreDistinct es → All (IsIn es) es
each_found es once k d low = found_at es k (slice_index_or es k d) once (slice_get-get_or es k d low)

in_order_found : (order es : List PlainEvent) → All (IsIn es) order → in_order (map id_of order) es ≡ order
in_order_found [] es found = refl
in_order_found (e ∷ order) es found =
    let first = All-head (IsIn es) e order found in
    let rest = in_order_found order es (All-tail (IsIn es) e order found) in
    λ i. option_to_list (first i) ++ rest i

-- events in another order, by their ids in that order
pub in_order_of : (es order : List PlainEvent) → AreDistinct es → IsPermutation es order → in_order (map id_of order) es ≡ order
in_order_of es order once same = in_order_found order es (All-permutation (IsIn es) es order same (each_found es once))

module _ (selected : List AnyId) (events : List PlainEvent) where
  abbrev tags : ℕ → List PlainEvent → List PlainEvent
  tags k es = new_tags selected events k es

  abbrev stays : PlainEvent → Bool
  stays e = not (becomes_tag selected e)

  -- what stays, and the tags
  abbrev parts : ℕ → List PlainEvent → List PlainEvent
  parts k es = map (moved selected events) (filter stays es) ++ tags k es

  -- these are the events with each tag in its place
  pub same_events : (k : ℕ) (es : List PlainEvent) → IsPermutation (parts k es) (in_place selected events k es)
  same_events k [] = IsPermutation-refl []
  same_events k (e ∷ es) = go (becomes_tag selected e) (same_events (k + 1) es) (same_events k es)
    where
      tag : PlainEvent
      tag = new_tag selected events k e

      own : PlainEvent
      own = moved selected events e

      go : (b : Bool) → IsPermutation (parts (k + 1) es) (in_place selected events (k + 1) es) → IsPermutation (parts k es) (in_place selected events k es)
          → IsPermutation (map (moved selected events) (cond (not b) (e ∷ filter stays es) (filter stays es)) ++ cond b (tag ∷ tags (k + 1) es) (tags k es)) (cond b (tag ∷ in_place selected events (k + 1) es) (own ∷ in_place selected events k es))
      go true more same =
          let kept = map (moved selected events) (filter stays es) in
          IsPermutation-trans (kept ++ tag ∷ tags (k + 1) es) (tag ∷ parts (k + 1) es) (tag ∷ in_place selected events (k + 1) es)
          (IsPermutation-middle kept tag (tags (k + 1) es))
          (IsPermutation-cons tag (parts (k + 1) es) (in_place selected events (k + 1) es) more)
      go false more same = IsPermutation-cons own (parts k es) (in_place selected events k es) same

  module _ (h : IsSound events) where
    abbrev gone : List AnyId
    gone = tagged selected events

    abbrev left : PlainEvent → Bool
    left e = not (is_listed (id_of e) gone)

    -- no new tag goes
    tag_left : (k : ℕ) (e : PlainEvent) (es : List PlainEvent) → filter left (tags (k + 1) es) ≡ tags (k + 1) es → filter left (tags k es) ≡ tags k es
        → filter left (tags k (e ∷ es)) ≡ tags k (e ∷ es)
    tag_left k (Commit id mark branch author committer encoding comment parents ops aliases) es more same =
        go (becomes_tag selected (Commit id mark branch author committer encoding comment parents ops aliases))
      where
        tag : PlainEvent
        tag = new_tag selected events k (Commit id mark branch author committer encoding comment parents ops aliases)

        go : (b : Bool) → filter left (cond b (tag ∷ tags (k + 1) es) (tags k es)) ≡ cond b (tag ∷ tags (k + 1) es) (tags k es)
        go true = (λ i. cond (not (no_tag selected events k i)) (tag ∷ filter left (tags (k + 1) es)) (filter left (tags (k + 1) es))) ∙ ap (λ l. tag ∷ l) more
        go false = same
    tag_left k (Blob id mark bytes) es more same = same
    tag_left k (Tag id name target tagger comment mark) es more same = same
    tag_left k (Reset id branch target) es more same = same
    tag_left k (Pass id line) es more same = same

    tags_left : (k : ℕ) (es : List PlainEvent) → filter left (tags k es) ≡ tags k es
    tags_left k [] = refl
    tags_left k (e ∷ es) = tag_left k e es (tags_left (k + 1) es) (tags_left k es)

    -- of the others the commits that become tags
    moved_left : (es : List PlainEvent) → AllByRecursion (λ e. is_listed (id_of e) gone ≡ becomes_tag selected e) es → filter left (map (moved selected events) es) ≡ map (moved selected events) (filter stays es)
    moved_left [] each = refl
    moved_left (e ∷ es) each =
        (λ i. cond (not ((ap (λ id. is_listed id gone) (same_moved selected events e) ∙ each.0) i)) (moved selected events e ∷ filter left (map (moved selected events) es)) (filter left (map (moved selected events) es)))
        ∙ go (becomes_tag selected e) (moved_left es each.1)
      where
        go : (b : Bool) → filter left (map (moved selected events) es) ≡ map (moved selected events) (filter stays es)
            → cond (not b) (moved selected events e ∷ filter left (map (moved selected events) es)) (filter left (map (moved selected events) es)) ≡ map (moved selected events) (cond (not b) (e ∷ filter stays es) (filter stays es))
        go true rest = rest
        go false rest = ap (λ l. moved selected events e ∷ l) rest

    pub parts_left : (k : ℕ) → without_all gone (map (moved selected events) events ++ tags k events) ≡ parts k events
    parts_left k =
        filter-append left (map (moved selected events) events) (tags k events)
        ∙ (λ i. moved_left events (tagged_each selected events h) i ++ tags_left k events i)

    -- what is left has the events in the place of which it comes
    pub placed : (k : ℕ) → IsPermutation (without_all gone (map (moved selected events) events ++ tags k events)) (in_place selected events k events)
    placed k = subst (λ l. IsPermutation l (in_place selected events k events)) (sym (parts_left k)) (same_events k events)
