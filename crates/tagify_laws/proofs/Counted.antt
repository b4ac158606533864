-- How many tags and events there are, which ids, and how many parents.
use Rattle.std.proofs.Common.{◌≡◌, ℕ, suc, ◌+◌, ◌≤◌, ◌<◌, Bool, true, false, cond, List, [], ◌∷◌, ◌++◌, length, map, filter, refl, sym, ap, subst, ◌∙◌, inl, inr, ◌⊎◌, arith, le_trans, true≢false, Some, None}
use Rattle.std.specs.Prelude.{◌&&◌}
use Rattle.std.specs.List.{AllByRecursion}
use Rattle.std.proofs.lemmas.Bool.{or_cases, or_left, or_right}
use Rattle.std.proofs.lemmas.List.{length-map}
use Rattle.plain_model.specs.declared.limit.TheConstants.{MAX_PARENTS}
use Rattle.plain_model.specs.declared.id.AnyId.{AnyId}
use Rattle.plain_model.specs.declared.id.AnyId.TheVariants as any
use Rattle.plain_model.specs.declared.event.PlainEvent.{PlainEvent}
use Rattle.plain_model.specs.declared.event.PlainEvent.TheVariants.{Blob, Commit, Tag, Reset, Pass}
use Rattle.plain_model.specs.Histories.{nodes}
use Rattle.plain_model.specs.Lookups.{AreIdsBelow, alias_count, id_number, id_of, is_listed, same_id}
use Rattle.plain_model.specs.Soundness.{has_id}
use Rattle.history_laws.specs.FirstParents.{ops_along}
use Rattle.history_laws.proofs.Ids.{has_id_cons, ids_below, same_id_true}
use Rattle.edit_laws.specs.Parts.{HasFewParents}
use Rattle.edit_laws.specs.Removal.{once_each}
use Rattle.edit_laws.proofs.Repeats.{shorter_once}
use Rattle.squash_laws.specs.Removed.{is_removed}
use Rattle.tagify_laws.specs.InPlace.{in_place, moved}
use Rattle.tagify_laws.specs.Remaining.{IsNewTag, tag_count}
use Rattle.tagify_laws.specs.Tagify.{base_of, becomes_tag, has_one_parent, new_tag, tagged}
use Rattle.tagify_laws.proofs.InOrder.{same_moved}
use Rattle.tagify_laws.proofs.Tagged.{no_ops}
use Rattle.history_laws.proofs.SoundOnce.{has_id_find}
use Rattle.squash_laws.specs.Takings.{is_none}

few_none : 0 ≤ MAX_PARENTS
few_none = omega arith

-- ---- few parents

module _ (selected : List AnyId) (events : List PlainEvent) where
  abbrev base : ℕ → ℕ
  base c = base_of selected events c

  few_moved : (e : PlainEvent) → HasFewParents e → HasFewParents (moved selected events e)
  few_moved (Commit id mark branch author committer encoding comment parents ops aliases) f =
      let fewer = shorter_once (map base parents) in
      let same = length-map parents base in
      le_trans (let all : length (once_each (map base parents)) ≤ length parents = omega arith in all) f
  few_moved (Blob id mark bytes) f = few_none
  few_moved (Tag id name target tagger comment mark) f = few_none
  few_moved (Reset id branch None) f = few_none
  few_moved (Reset id branch (Some target)) f = few_none
  few_moved (Pass id line) f = few_none

  few_tag : (k : ℕ) (e : PlainEvent) → HasFewParents e → HasFewParents (new_tag selected events k e)
  few_tag k (Commit id mark branch author committer encoding comment parents ops aliases) f = few_none
  few_tag k (Blob id mark bytes) f = f
  few_tag k (Tag id name target tagger comment mark) f = f
  few_tag k (Reset id branch target) f = f
  few_tag k (Pass id line) f = f

  -- a fact of what is in the place of each event
  pub all_in_place : (P Q : PlainEvent → Type 0) → ((e : PlainEvent) → P e → Q (moved selected events e)) → ((k : ℕ) (e : PlainEvent) → P e → Q (new_tag selected events k e)) → (k : ℕ) (es : List PlainEvent) → AllByRecursion P es → AllByRecursion Q (in_place selected events k es)
  all_in_place P Q own its k [] a = tt
  all_in_place P Q own its k (e ∷ es) a =
      let more = all_in_place P Q own its (k + 1) es a.1 in
      let same = all_in_place P Q own its k es a.1 in
      elim (becomes_tag selected e) as (λ b. AllByRecursion Q (cond b (new_tag selected events k e ∷ in_place selected events (k + 1) es) (moved selected events e ∷ in_place selected events k es))) [
        | true ↦ (its k e a.0, more)
        | false ↦ (own e a.0, same)
      ]

  pub few_in_place : (k : ℕ) (es : List PlainEvent) → AllByRecursion HasFewParents es → AllByRecursion HasFewParents (in_place selected events k es)
  few_in_place k es a = all_in_place HasFewParents HasFewParents few_moved few_tag k es a

  -- ---- how many

  pub same_length : (k : ℕ) (es : List PlainEvent) → length (in_place selected events k es) ≡ length es
  same_length k [] = refl
  same_length k (e ∷ es) =
      let more = same_length (k + 1) es in
      let same = same_length k es in
      elim (becomes_tag selected e) as (λ b. length (cond b (new_tag selected events k e ∷ in_place selected events (k + 1) es) (moved selected events e ∷ in_place selected events k es)) ≡ suc (length es)) [
        | true ↦ ap suc more
        | false ↦ ap suc same
      ]

  -- so many commits become tags
  abbrev count : List PlainEvent → ℕ
  count es = length (filter (becomes_tag selected) es)

  pub counted : (es : List PlainEvent) → length (tagged selected es) ≡ count es
  counted es = length-map (filter (becomes_tag selected) es) id_of

  pub tags_more : (k : ℕ) (es : List PlainEvent) → tag_count (in_place selected events k es) ≡ tag_count es + count es
  tags_more k [] = refl
  tags_more k (Commit id mark branch author committer encoding comment parents ops aliases ∷ es) =
      let e = Commit id mark branch author committer encoding comment parents ops aliases in
      let more = tags_more (k + 1) es in
      let same = tags_more k es in
      elim (becomes_tag selected e) as (λ b. tag_count (cond b (new_tag selected events k e ∷ in_place selected events (k + 1) es) (moved selected events e ∷ in_place selected events k es)) ≡ tag_count es + length (cond b (e ∷ filter (becomes_tag selected) es) (filter (becomes_tag selected) es))) [
        | true ↦ omega arith
        | false ↦ same
      ]
  tags_more k (Blob id mark bytes ∷ es) = tags_more k es
  tags_more k (Tag id name target tagger comment mark ∷ es) = let same = tags_more k es in omega arith
  tags_more k (Reset id branch None ∷ es) = tags_more k es
  tags_more k (Reset id branch (Some target) ∷ es) = tags_more k es
  tags_more k (Pass id line ∷ es) = tags_more k es

  -- ---- operations and aliases

  pub same_ops : (k : ℕ) (es : List PlainEvent) → ops_along (nodes (in_place selected events k es)) ≡ ops_along (nodes es)
  same_ops k [] = refl
  same_ops k (Commit id mark branch author committer encoding comment parents ops aliases ∷ es) =
      go (becomes_tag selected (Commit id mark branch author committer encoding comment parents ops aliases)) refl (same_ops (k + 1) es) (same_ops k es)
    where
      go : (b : Bool) → is_removed selected id && is_none ops && has_one_parent parents ≡ b → ops_along (nodes (in_place selected events (k + 1) es)) ≡ ops_along (nodes es) → ops_along (nodes (in_place selected events k es)) ≡ ops_along (nodes es)
          → ops_along (nodes (cond b (new_tag selected events k (Commit id mark branch author committer encoding comment parents ops aliases) ∷ in_place selected events (k + 1) es) (moved selected events (Commit id mark branch author committer encoding comment parents ops aliases) ∷ in_place selected events k es)))
          ≡ ops ++ ops_along (nodes es)
      go true is more same = more ∙ ap (λ o. o ++ ops_along (nodes es)) (sym (no_ops selected id parents ops is))
      go false is more same = ap (λ o. ops ++ o) same
  same_ops k (Blob id mark bytes ∷ es) = same_ops k es
  same_ops k (Tag id name target tagger comment mark ∷ es) = same_ops k es
  same_ops k (Reset id branch None ∷ es) = same_ops k es
  same_ops k (Reset id branch (Some target) ∷ es) = same_ops k es
  same_ops k (Pass id line ∷ es) = same_ops k es

  pub fewer_aliases : (k : ℕ) (es : List PlainEvent) → alias_count (in_place selected events k es) ≤ alias_count es
  fewer_aliases k [] = omega arith
  fewer_aliases k (Commit id mark branch author committer encoding comment parents ops aliases ∷ es) =
      let e = Commit id mark branch author committer encoding comment parents ops aliases in
      let more = fewer_aliases (k + 1) es in
      let same = fewer_aliases k es in
      elim (becomes_tag selected e) as (λ b. alias_count (cond b (new_tag selected events k e ∷ in_place selected events (k + 1) es) (moved selected events e ∷ in_place selected events k es)) ≤ length aliases + alias_count es) [
        | true ↦ omega arith
        | false ↦ omega arith
      ]
  fewer_aliases k (Blob id mark bytes ∷ es) = fewer_aliases k es
  fewer_aliases k (Tag id name target tagger comment mark ∷ es) = fewer_aliases k es
  fewer_aliases k (Reset id branch None ∷ es) = fewer_aliases k es
  fewer_aliases k (Reset id branch (Some target) ∷ es) = fewer_aliases k es
  fewer_aliases k (Pass id line ∷ es) = fewer_aliases k es

  -- ---- ids

  -- one event stays, and what is of the others stays
  ids_stay : (id : AnyId) (set : List AnyId) → is_listed id set ≡ false → (k : ℕ) (es : List PlainEvent) → AllByRecursion (λ e. is_listed (id_of e) set ≡ becomes_tag selected e) es → has_id es id ≡ true → has_id (in_place selected events k es) id ≡ true
  ids_stay id set s k [] t there = there
  ids_stay id set s k (e ∷ es) t there =
      go (becomes_tag selected e) t.0 (or_cases (same_id id (id_of e)) (has_id es id) (sym (has_id_cons e es id) ∙ there)) (ids_stay id set s (k + 1) es t.1) (ids_stay id set s k es t.1)
    where
      go : (b : Bool) → is_listed (id_of e) set ≡ b → (same_id id (id_of e) ≡ true) ⊎ (has_id es id ≡ true) → (has_id es id ≡ true → has_id (in_place selected events (k + 1) es) id ≡ true) → (has_id es id ≡ true → has_id (in_place selected events k es) id ≡ true)
          → has_id (cond b (new_tag selected events k e ∷ in_place selected events (k + 1) es) (moved selected events e ∷ in_place selected events k es)) id ≡ true
      go true is (inl own) more same = absurd (true≢false (sym is ∙ ap (λ d. is_listed d set) (sym (same_id_true id (id_of e) own)) ∙ s))
      go true is (inr later) more same = has_id_cons (new_tag selected events k e) (in_place selected events (k + 1) es) id ∙ or_right (same_id id (id_of (new_tag selected events k e))) (has_id (in_place selected events (k + 1) es) id) (more later)
      go false is (inl own) more same =
          has_id_cons (moved selected events e) (in_place selected events k es) id
          ∙ or_left (same_id id (id_of (moved selected events e))) (has_id (in_place selected events k es) id) (ap (same_id id) (same_moved selected events e) ∙ own)
      go false is (inr later) more same = has_id_cons (moved selected events e) (in_place selected events k es) id ∙ or_right (same_id id (id_of (moved selected events e))) (has_id (in_place selected events k es) id) (same later)

  pub nothing_goes : (set : List AnyId) → AllByRecursion (λ e. is_listed (id_of e) set ≡ becomes_tag selected e) events → (next : ℕ) (id : AnyId) → is_listed id set ≡ false → has_id events id ≡ true → has_id (in_place selected events next events) id ≡ true
  nothing_goes set t next id s there = ids_stay id set s next events t there

  pub tag_number : (k : ℕ) (e : PlainEvent) → becomes_tag selected e ≡ true → id_of (new_tag selected events k e) ≡ any.Tag k
  tag_number k (Commit id mark branch author committer encoding comment parents ops aliases) b = refl
  tag_number k (Blob id mark bytes) b = absurd (true≢false (sym b))
  tag_number k (Tag id name target tagger comment mark) b = absurd (true≢false (sym b))
  tag_number k (Reset id branch target) b = absurd (true≢false (sym b))
  tag_number k (Pass id line) b = absurd (true≢false (sym b))

  -- what is there was there, or is a new tag
  pub comes_new : (id : AnyId) (k : ℕ) (es : List PlainEvent) → has_id (in_place selected events k es) id ≡ true → (has_id es id ≡ true) ⊎ IsNewTag k id
  comes_new id k [] there = inl there
  comes_new id k (e ∷ es) there =
      go (becomes_tag selected e) refl there (comes_new id (k + 1) es) (comes_new id k es)
    where
      later : {N : Type 0} → (N → IsNewTag k id) → (has_id es id ≡ true) ⊎ N → (has_id (e ∷ es) id ≡ true) ⊎ IsNewTag k id
      later f (inl was) = inl (has_id_cons e es id ∙ or_right (same_id id (id_of e)) (has_id es id) was)
      later f (inr new) = inr (f new)

      go : (b : Bool) → becomes_tag selected e ≡ b → has_id (cond b (new_tag selected events k e ∷ in_place selected events (k + 1) es) (moved selected events e ∷ in_place selected events k es)) id ≡ true
          → (has_id (in_place selected events (k + 1) es) id ≡ true → (has_id es id ≡ true) ⊎ IsNewTag (k + 1) id) → (has_id (in_place selected events k es) id ≡ true → (has_id es id ≡ true) ⊎ IsNewTag k id)
          → (has_id (e ∷ es) id ≡ true) ⊎ IsNewTag k id
      go true is x more same =
          elim (or_cases (same_id id (id_of (new_tag selected events k e))) (has_id (in_place selected events (k + 1) es) id) (sym (has_id_cons (new_tag selected events k e) (in_place selected events (k + 1) es) id) ∙ x)) [
            | inl own ↦ inr (k, same_id_true id (id_of (new_tag selected events k e)) own ∙ tag_number k e is, omega arith)
            | inr behind ↦ later (λ new. (new.0, new.1, let high = new.2 in omega arith)) (more behind)
          ]
      go false is x more same =
          elim (or_cases (same_id id (id_of (moved selected events e))) (has_id (in_place selected events k es) id) (sym (has_id_cons (moved selected events e) (in_place selected events k es) id) ∙ x)) [
            | inl own ↦ inl (has_id_cons e es id ∙ or_left (same_id id (id_of e)) (has_id es id) (ap (same_id id) (sym (same_moved selected events e)) ∙ own))
            | inr behind ↦ later (λ new. new) (same behind)
          ]

  -- all numbers are below the next one after the tags
  below_each : (k : ℕ) (es : List PlainEvent) (top : ℕ) → k + count es ≤ top → AllByRecursion (λ e. id_number (id_of e) < top) es → AllByRecursion (λ e. id_number (id_of e) < top) (in_place selected events k es)
  below_each k [] top high low = tt
  below_each k (e ∷ es) top high low =
      go (becomes_tag selected e) refl high (below_each (k + 1) es top) (below_each k es top)
    where
      go : (b : Bool) → becomes_tag selected e ≡ b → k + length (cond b (e ∷ filter (becomes_tag selected) es) (filter (becomes_tag selected) es)) ≤ top
          → ((k + 1) + count es ≤ top → AllByRecursion (λ d. id_number (id_of d) < top) es → AllByRecursion (λ d. id_number (id_of d) < top) (in_place selected events (k + 1) es))
          → (k + count es ≤ top → AllByRecursion (λ d. id_number (id_of d) < top) es → AllByRecursion (λ d. id_number (id_of d) < top) (in_place selected events k es))
          → AllByRecursion (λ d. id_number (id_of d) < top) (cond b (new_tag selected events k e ∷ in_place selected events (k + 1) es) (moved selected events e ∷ in_place selected events k es))
      go true is up more same =
          (subst (λ d. id_number d < top) (sym (tag_number k e is)) (let fits : k < top = omega arith in fits), more (omega arith) low.1)
      go false is up more same = (subst (λ d. id_number d < top) (sym (same_moved selected events e)) low.0, same up low.1)

  ids_low : (next : ℕ) → AreIdsBelow next events → (xs es : List PlainEvent) → AllByRecursion (λ e. has_id events (id_of e) ≡ true) es → AllByRecursion (λ e. id_number (id_of e) < next + count events) es
  ids_low next below xs [] own = tt
  ids_low next below xs (e ∷ es) own =
      let low = below (id_of e) (sym (has_id_find events (id_of e)) ∙ own.0) in
      ((let its : id_number (id_of e) < next + count events = omega arith in its), ids_low next below xs es own.1)

  pub all_below : (next : ℕ) → AllByRecursion (λ e. has_id events (id_of e) ≡ true) events → AreIdsBelow next events → AreIdsBelow (next + length (tagged selected events)) (in_place selected events next events)
  all_below next own below =
      subst (λ n. AreIdsBelow (next + n) (in_place selected events next events)) (sym (counted events))
      (ids_below (next + count events) (in_place selected events next events) (below_each next events (next + count events) (omega arith) (ids_low next below [] events own)))
