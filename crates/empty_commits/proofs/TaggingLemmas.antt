-- New tags, and the events in place, one event after another.
use Rattle.std.proofs.Common.{◌≡◌, ◌∙◌, ℕ, suc, ◌+◌, ◌≤◌, Bool, true, false, cond, List, [], ◌∷◌, ◌++◌, drop, length, map, filter, refl, sym, ap, subst, take, arith, append-nil, append_assoc, ne_eqb, Option, Some, None}
use Rattle.std.specs.Prelude.{is_some, slice_get}
use Rattle.std.proofs.lemmas.List.{map-append, take-append-drop}
use Rattle.plain_model.specs.declared.id.AnyId.{AnyId}
use Rattle.plain_model.specs.declared.id.AnyId.TheVariants as any
use Rattle.plain_model.specs.declared.event.PlainEvent.{PlainEvent}
use Rattle.plain_model.specs.declared.event.PlainEvent.TheVariants.{Blob, Commit, Tag, Reset, Pass}
use Rattle.plain_model.specs.Lookups.{AreIdsBelow, find_event, id_of}
use Rattle.history_laws.proofs.Ids.{absent_cons, cons_absent}
use Rattle.event_arena.specs.Graphs.{Change}
use Rattle.event_arena.proofs.ListLemmas.{take_item}
use Rattle.tagify_laws.specs.InPlace.{in_place, moved}
use Rattle.tagify_laws.specs.Tagify.{becomes_tag, new_tag, tagged}
use Rattle.tagify_laws.proofs.Counted.{tag_number}
use Rattle.tagify_laws.proofs.InOrder.{same_moved}
use Rattle.plan_steps.proofs.Steps.{absent_mapped}
use Rattle.empty_commits.specs.Tagging.{new_tags, with_tag_of}

-- what isn't there isn't found
absent_below : (next n : ℕ) (es : List PlainEvent) → AreIdsBelow next es → next ≤ n → find_event (any.Tag n) es ≡ None
absent_below next n es below high = go (find_event (any.Tag n) es) refl
  where
    go : (o : Option PlainEvent) → find_event (any.Tag n) es ≡ o → o ≡ None
    go None is = refl
    go (Some e) is = let low = below (any.Tag n) (ap is_some is) in absurd (omega arith)

absent_join : (id : AnyId) (xs ys : List PlainEvent) → find_event id xs ≡ None → find_event id ys ≡ None → find_event id (xs ++ ys) ≡ None
absent_join id [] ys a b = b
absent_join id (x ∷ xs) ys a b = let rest = absent_cons id x xs a in cons_absent id x (xs ++ ys) rest.0 (absent_join id xs ys rest.1 b)

module _ (selected : List AnyId) (events : List PlainEvent) where
  -- so many become tags
  abbrev pub count : List PlainEvent → ℕ
  count es = length (tagged selected es)

  abbrev tags : ℕ → List PlainEvent → List PlainEvent
  tags k es = new_tags selected events k es

  abbrev placed : ℕ → List PlainEvent → List PlainEvent
  placed k es = in_place selected events k es

  -- one event more

  pub count_push : (xs : List PlainEvent) (e : PlainEvent) → count (xs ++ e ∷ []) ≡ count xs + count (e ∷ [])
  count_push [] e = omega arith
  count_push (x ∷ xs) e = go (becomes_tag selected x) (count_push xs e)
    where
      go : (b : Bool) → count (xs ++ e ∷ []) ≡ count xs + count (e ∷ []) → length (map id_of (cond b (x ∷ filter (becomes_tag selected) (xs ++ e ∷ [])) (filter (becomes_tag selected) (xs ++ e ∷ [])))) ≡ length (map id_of (cond b (x ∷ filter (becomes_tag selected) xs) (filter (becomes_tag selected) xs))) + count (e ∷ [])
      go true rest = omega arith
      go false rest = rest

  tags_push : (k : ℕ) (xs : List PlainEvent) (e : PlainEvent) → tags k (xs ++ e ∷ []) ≡ tags k xs ++ tags (k + count xs) (e ∷ [])
  tags_push k [] e = ap (λ n. tags n (e ∷ [])) (let none : k ≡ k + 0 = omega arith in none)
  tags_push k (x ∷ xs) e = go (becomes_tag selected x) (tags_push (k + 1) xs e) (tags_push k xs e)
    where
      own : PlainEvent
      own = new_tag selected events k x

      go : (b : Bool) → tags (k + 1) (xs ++ e ∷ []) ≡ tags (k + 1) xs ++ tags (k + 1 + count xs) (e ∷ []) → tags k (xs ++ e ∷ []) ≡ tags k xs ++ tags (k + count xs) (e ∷ [])
          → cond b (own ∷ tags (k + 1) (xs ++ e ∷ [])) (tags k (xs ++ e ∷ []))
          ≡ cond b (own ∷ tags (k + 1) xs) (tags k xs) ++ tags (k + length (map id_of (cond b (x ∷ filter (becomes_tag selected) xs) (filter (becomes_tag selected) xs)))) (e ∷ [])
      go true more same =
          ap (λ l. own ∷ l) more ∙ ap (λ n. own ∷ (tags (k + 1) xs ++ tags n (e ∷ []))) (let sums : k + 1 + count xs ≡ k + suc (count xs) = omega arith in sums)
      go false more same = same

  pub placed_push : (k : ℕ) (xs : List PlainEvent) (e : PlainEvent) → placed k (xs ++ e ∷ []) ≡ placed k xs ++ placed (k + count xs) (e ∷ [])
  placed_push k [] e = ap (λ n. placed n (e ∷ [])) (let none : k ≡ k + 0 = omega arith in none)
  placed_push k (x ∷ xs) e = go (becomes_tag selected x) (placed_push (k + 1) xs e) (placed_push k xs e)
    where
      own : PlainEvent
      own = new_tag selected events k x

      left : PlainEvent
      left = moved selected events x

      go : (b : Bool) → placed (k + 1) (xs ++ e ∷ []) ≡ placed (k + 1) xs ++ placed (k + 1 + count xs) (e ∷ []) → placed k (xs ++ e ∷ []) ≡ placed k xs ++ placed (k + count xs) (e ∷ [])
          → cond b (own ∷ placed (k + 1) (xs ++ e ∷ [])) (left ∷ placed k (xs ++ e ∷ []))
          ≡ cond b (own ∷ placed (k + 1) xs) (left ∷ placed k xs) ++ placed (k + length (map id_of (cond b (x ∷ filter (becomes_tag selected) xs) (filter (becomes_tag selected) xs)))) (e ∷ [])
      go true more same =
          ap (λ l. own ∷ l) more ∙ ap (λ n. own ∷ (placed (k + 1) xs ++ placed n (e ∷ []))) (let sums : k + 1 + count xs ≡ k + suc (count xs) = omega arith in sums)
      go false more same = ap (λ l. left ∷ l) same

  -- ---- a plan with the tags of the first events at its end

  abbrev pub behind : Change → List PlainEvent → Change
  behind plan xs = record plan { after = plan.after ++ tags plan.next xs; next = plan.next + count xs }

  pub behind_more : (plan : Change) (xs : List PlainEvent) (e : PlainEvent) → with_tag_of selected events e (behind plan xs) ≡ behind plan (xs ++ e ∷ [])
  behind_more plan xs e =
      go (becomes_tag selected e)
      ∙ (λ i. record plan { after = plan.after ++ sym (tags_push plan.next xs e) i; next = plan.next + sym (count_push xs e) i })
    where
      tag : PlainEvent
      tag = new_tag selected events (plan.next + count xs) e

      go : (b : Bool) → cond b (record plan { after = (plan.after ++ tags plan.next xs) ++ tag ∷ []; next = plan.next + count xs + 1 }) (behind plan xs)
          ≡ record plan { after = plan.after ++ (tags plan.next xs ++ cond b (tag ∷ []) []); next = plan.next + (count xs + length (map id_of (cond b (e ∷ []) []))) }
      go true = λ i. record plan { after = append_assoc plan.after (tags plan.next xs) (tag ∷ []) i; next = (let sums : plan.next + count xs + 1 ≡ plan.next + (count xs + 1) = omega arith in sums) i }
      go false = λ i. record plan { after = plan.after ++ sym (append-nil (tags plan.next xs)) i; next = (let sums : plan.next + count xs ≡ plan.next + (count xs + 0) = omega arith in sums) i }

  -- ---- the next number is no tag's

  tag_absent : (k n : ℕ) (e : PlainEvent) (es : List PlainEvent) → k + count (e ∷ es) ≤ n → (k + 1 + count es ≤ n → find_event (any.Tag n) (tags (k + 1) es) ≡ None) → (k + count es ≤ n → find_event (any.Tag n) (tags k es) ≡ None)
      → find_event (any.Tag n) (tags k (e ∷ es)) ≡ None
  tag_absent k n (Commit id mark branch author committer encoding comment parents ops aliases) es high more same =
      go (becomes_tag selected (Commit id mark branch author committer encoding comment parents ops aliases)) high
    where
      own : PlainEvent
      own = new_tag selected events k (Commit id mark branch author committer encoding comment parents ops aliases)

      go : (b : Bool) → k + length (map id_of (cond b (Commit id mark branch author committer encoding comment parents ops aliases ∷ filter (becomes_tag selected) es) (filter (becomes_tag selected) es))) ≤ n
          → find_event (any.Tag n) (cond b (own ∷ tags (k + 1) es) (tags k es)) ≡ None
      go true high = cons_absent (any.Tag n) own (tags (k + 1) es) (ne_eqb n k (λ e. absurd (omega arith))) (more (omega arith))
      go false high = same high
  tag_absent k n (Blob id mark bytes) es high more same = same high
  tag_absent k n (Tag id name target tagger comment mark) es high more same = same high
  tag_absent k n (Reset id branch target) es high more same = same high
  tag_absent k n (Pass id line) es high more same = same high

  tags_absent : (k n : ℕ) (es : List PlainEvent) → k + count es ≤ n → find_event (any.Tag n) (tags k es) ≡ None
  tags_absent k n [] high = refl
  tags_absent k n (e ∷ es) high = tag_absent k n e es high (tags_absent (k + 1) n es) (tags_absent k n es)

  pub next_unknown : (plan : Change) (xs : List PlainEvent) → plan.after ≡ map (moved selected events) events → AreIdsBelow plan.next events
      → find_event (any.Tag (behind plan xs).next) (behind plan xs).after ≡ None
  next_unknown plan xs is below =
      absent_join (any.Tag (plan.next + count xs)) plan.after (tags plan.next xs)
      (ap (find_event (any.Tag (plan.next + count xs))) is
      ∙ absent_mapped (moved selected events) (same_moved selected events) (any.Tag (plan.next + count xs)) events (absent_below plan.next (plan.next + count xs) events below (omega arith)))
      (tags_absent plan.next (plan.next + count xs) xs (omega arith))

  -- the first events become no more tags than all
  pub fewer : (xs ys : List PlainEvent) → count xs ≤ count (xs ++ ys)
  fewer [] ys = omega arith
  fewer (x ∷ xs) ys = go (becomes_tag selected x) (fewer xs ys)
    where
      go : (b : Bool) → count xs ≤ count (xs ++ ys) → length (map id_of (cond b (x ∷ filter (becomes_tag selected) xs) (filter (becomes_tag selected) xs))) ≤ length (map id_of (cond b (x ∷ filter (becomes_tag selected) (xs ++ ys)) (filter (becomes_tag selected) (xs ++ ys))))
      go true rest = omega arith
      go false rest = rest

  pub few_so_far : (k : ℕ) → count (take k events) ≤ count events
  few_so_far k = subst (λ l. count (take k events) ≤ count l) (take-append-drop k events) (fewer (take k events) (drop k events))

  -- ---- the order of ids, and how many tags there are, after one event more

  module _ (k : ℕ) (e : PlainEvent) (at : slice_get events k ≡ Some e) where
    pub count_more : count (take (suc k) events) ≡ count (take k events) + count (e ∷ [])
    count_more = ap count (take_item events k e at) ∙ count_push (take k events) e

    pub count_tag : becomes_tag selected e ≡ true → count (take (suc k) events) ≡ count (take k events) + 1
    count_tag b = count_more ∙ ap (λ t. count (take k events) + length (map id_of (cond t (e ∷ []) []))) b

    pub count_other : becomes_tag selected e ≡ false → count (take (suc k) events) ≡ count (take k events)
    count_other b = count_more ∙ ap (λ t. count (take k events) + length (map id_of (cond t (e ∷ []) []))) b ∙ (let none : count (take k events) + 0 ≡ count (take k events) = omega arith in none)

    ids_more : (next : ℕ) → map id_of (placed next (take (suc k) events)) ≡ map id_of (placed next (take k events)) ++ map id_of (placed (next + count (take k events)) (e ∷ []))
    ids_more next =
        ap (λ l. map id_of (placed next l)) (take_item events k e at)
        ∙ ap (map id_of) (placed_push next (take k events) e)
        ∙ map-append id_of (placed next (take k events)) (placed (next + count (take k events)) (e ∷ []))

    pub ids_tag : (next : ℕ) → becomes_tag selected e ≡ true → map id_of (placed next (take (suc k) events)) ≡ map id_of (placed next (take k events)) ++ any.Tag (next + count (take k events)) ∷ []
    ids_tag next b =
        let n = next + count (take k events) in
        ids_more next
        ∙ ap (λ t. map id_of (placed next (take k events)) ++ map id_of (cond t (new_tag selected events n e ∷ []) (moved selected events e ∷ []))) b
        ∙ ap (λ id. map id_of (placed next (take k events)) ++ id ∷ []) (tag_number selected events n e b)

    pub ids_other : (next : ℕ) → becomes_tag selected e ≡ false → map id_of (placed next (take (suc k) events)) ≡ map id_of (placed next (take k events)) ++ id_of e ∷ []
    ids_other next b =
        let n = next + count (take k events) in
        ids_more next
        ∙ ap (λ t. map id_of (placed next (take k events)) ++ map id_of (cond t (new_tag selected events n e ∷ []) (moved selected events e ∷ []))) b
        ∙ ap (λ id. map id_of (placed next (take k events)) ++ id ∷ []) (same_moved selected events e)
