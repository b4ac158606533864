-- A sound history stays sound with the new tags put in.
use Rattle.std.proofs.Common.{◌≡◌, ℕ, ◌+◌, ◌≤◌, Bool, true, false, cond, List, [], ◌∷◌, ◌++◌, length, reverse, refl, sym, ap, subst, ◌∙◌, inl, inr, arith, append_assoc, eqb-true, leb-true, le-leb, true≢false}
use Rattle.std.specs.Prelude.{◌||◌, ◌==◌, nat_le, IsSome}
use Rattle.std.specs.List.{AllByRecursion}
use Rattle.std.proofs.lemmas.Bool.{cases_Bool, false_from_ne_true, or_cases}
use Rattle.plain_model.specs.declared.limit.TheConstants.{MAX_PARENTS}
use Rattle.plain_model.specs.declared.id.AnyId.{AnyId}
use Rattle.plain_model.specs.declared.id.AnyId.TheVariants as any
use Rattle.plain_model.specs.declared.event.PlainEvent.{PlainEvent}
use Rattle.plain_model.specs.declared.event.PlainEvent.TheVariants.{Blob, Commit, Tag, Reset, Pass}
use Rattle.plain_model.specs.Histories.{Node, Past, knows, nodes, past, tree, tree_in}
use Rattle.plain_model.specs.Lookups.{AreIdsBelow, alias_count, id_of, referents_of}
use Rattle.plain_model.specs.Soundness.{IsFormedEvent, IsSound, has_id}
use Rattle.ancestry_laws.proofs.Pasts.{known_past}
use Rattle.history_laws.proofs.Ids.{has_id_append, has_id_after, has_id_still, has_own}
use Rattle.history_laws.proofs.Lists.{all_imply}
use Rattle.edit_laws.specs.Parts.{AreInOrder, HasFewParents, IsLawful, of_id, of_mark, one_if, tally}
use Rattle.edit_laws.specs.Settling.{is_ready}
use Rattle.edit_laws.proofs.Lists.{all_true, none_passing, true_all}
use Rattle.edit_laws.proofs.Sound.{from_parts, in_parts}
use Rattle.tagify_laws.specs.Tagify.{base_of, becomes_tag, new_tag, with_tags}
use Rattle.tagify_laws.proofs.Names.{tag_is_named}
use Rattle.tagify_laws.proofs.Tagged.{base_before}
use Rattle.history_laws.proofs.SoundOnce.{has_id_find}

few_none : 0 ≤ MAX_PARENTS
few_none = omega arith

-- ---- more events before

-- what is there is there
abbrev pub Includes : List PlainEvent → List PlainEvent → Type 0
Includes xs ys = (id : AnyId) → has_id xs id ≡ true → has_id ys id ≡ true

ready_more : (xs ys : List PlainEvent) → Includes xs ys → (e : PlainEvent) → is_ready xs e ≡ true → is_ready ys e ≡ true
ready_more xs ys i e r =
    true_all (has_id ys) (referents_of e)
    (all_imply (λ id. has_id xs id ≡ true) (λ id. has_id ys id ≡ true) i (referents_of e) (all_true (has_id xs) (referents_of e) r))

includes_both : (xs ys : List PlainEvent) (e : PlainEvent) → Includes xs ys → Includes (xs ++ e ∷ []) (ys ++ e ∷ [])
includes_both xs ys e i id k =
    elim (or_cases (has_id xs id) (has_id (e ∷ []) id) (sym (has_id_append xs (e ∷ []) id) ∙ k)) [
      | inl before ↦ has_id_still ys (e ∷ []) id (i id before)
      | inr own ↦ has_id_after ys (e ∷ []) id own
    ]

includes_one : (xs ys : List PlainEvent) (e : PlainEvent) → Includes xs ys → Includes xs (ys ++ e ∷ [])
includes_one xs ys e i id k = has_id_still ys (e ∷ []) id (i id k)

-- ---- numbers of new tags

-- a tag from this number on
abbrev is_new : ℕ → AnyId → Bool
is_new k (any.Tag n) = nat_le k n
is_new k (any.Blob n) = false
is_new k (any.Commit n) = false
is_new k (any.Reset n) = false
is_new k (any.Pass n) = false

new_step : (k n : ℕ) → one_if ((k == n) || false) + one_if (nat_le (k + 1) n) ≤ one_if (nat_le k n)
new_step k n =
    elim (cases_Bool (k == n)) [
      | inl it ↦
          let is : k ≡ n = eqb-true k n it in
          let own : one_if ((k == n) || false) ≡ 1 = ap (λ b. one_if (b || false)) it in
          let low : one_if (nat_le k n) ≡ 1 = ap one_if (le-leb k n (omega arith)) in
          let no : one_if (nat_le (k + 1) n) ≡ 0 = ap one_if (false_from_ne_true (nat_le (k + 1) n) (λ y. let l = leb-true (k + 1) n y in absurd (omega arith))) in
          omega arith
      | inr other ↦
          let own : one_if ((k == n) || false) ≡ 0 = ap (λ b. one_if (b || false)) other in
          let rest = later (nat_le (k + 1) n) refl in
          omega arith
    ]
  where
    later : (b : Bool) → nat_le (k + 1) n ≡ b → one_if b ≤ one_if (nat_le k n)
    later true y =
        let l = leb-true (k + 1) n y in
        let low : one_if (nat_le k n) ≡ 1 = ap one_if (le-leb k n (omega arith)) in
        omega arith
    later false y = omega arith

module _ (selected : List AnyId) (events : List PlainEvent) where
  -- ---- what the tags leave alone

  pub same_nodes : (k : ℕ) (es : List PlainEvent) → nodes (with_tags selected events k es) ≡ nodes es
  same_nodes k [] = refl
  same_nodes k (Commit id mark branch author committer encoding comment parents ops aliases ∷ es) =
      let e = Commit id mark branch author committer encoding comment parents ops aliases in
      let n : Node = record { id = id; parents = parents; ops = ops } in
      elim (becomes_tag selected e) as (λ b. nodes (cond b (e ∷ new_tag selected events k e ∷ with_tags selected events (k + 1) es) (e ∷ with_tags selected events k es)) ≡ n ∷ nodes es) [
        | true ↦ ap (λ ns. n ∷ ns) (same_nodes (k + 1) es)
        | false ↦ ap (λ ns. n ∷ ns) (same_nodes k es)
      ]
  same_nodes k (Blob id mark bytes ∷ es) = same_nodes k es
  same_nodes k (Tag id name target tagger comment mark ∷ es) = same_nodes k es
  same_nodes k (Reset id branch target ∷ es) = same_nodes k es
  same_nodes k (Pass id line ∷ es) = same_nodes k es

  pub same_aliases : (k : ℕ) (es : List PlainEvent) → alias_count (with_tags selected events k es) ≡ alias_count es
  same_aliases k [] = refl
  same_aliases k (Commit id mark branch author committer encoding comment parents ops aliases ∷ es) =
      let e = Commit id mark branch author committer encoding comment parents ops aliases in
      elim (becomes_tag selected e) as (λ b. alias_count (cond b (e ∷ new_tag selected events k e ∷ with_tags selected events (k + 1) es) (e ∷ with_tags selected events k es)) ≡ length aliases + alias_count es) [
        | true ↦ ap (λ n. length aliases + n) (same_aliases (k + 1) es)
        | false ↦ ap (λ n. length aliases + n) (same_aliases k es)
      ]
  same_aliases k (Blob id mark bytes ∷ es) = same_aliases k es
  same_aliases k (Tag id name target tagger comment mark ∷ es) = same_aliases k es
  same_aliases k (Reset id branch target ∷ es) = same_aliases k es
  same_aliases k (Pass id line ∷ es) = same_aliases k es

  pub same_past : (k : ℕ) (es : List PlainEvent) → past (with_tags selected events k es) ≡ past es
  same_past k es = ap reverse (same_nodes k es)

  pub same_tree : (k : ℕ) (es : List PlainEvent) (c : ℕ) → tree (with_tags selected events k es) c ≡ tree es c
  same_tree k es c = ap (λ (a : Past). tree_in a c) (same_past k es)

  pub same_commits : (k : ℕ) (es : List PlainEvent) (c : ℕ) → has_id (with_tags selected events k es) (any.Commit c) ≡ has_id es (any.Commit c)
  same_commits k es c = sym (known_past (with_tags selected events k es) c) ∙ ap (λ (a : Past). knows a c) (same_past k es) ∙ known_past es c

  -- ---- a fact of each event

  -- what holds of commits and of the tags that they become
  pub all_put : (P Q : PlainEvent → Type 0) → ((e : PlainEvent) → P e → Q e) → ((k : ℕ) (e : PlainEvent) → P e → Q (new_tag selected events k e)) → (k : ℕ) (es : List PlainEvent) → AllByRecursion P es → AllByRecursion Q (with_tags selected events k es)
  all_put P Q own its k [] a = tt
  all_put P Q own its k (e ∷ es) a =
      let more = all_put P Q own its (k + 1) es a.1 in
      let same = all_put P Q own its k es a.1 in
      elim (becomes_tag selected e) as (λ b. AllByRecursion Q (cond b (e ∷ new_tag selected events k e ∷ with_tags selected events (k + 1) es) (e ∷ with_tags selected events k es))) [
        | true ↦ (own e a.0, (its k e a.0, more))
        | false ↦ (own e a.0, same)
      ]

  abbrev IsRight : PlainEvent → Type 0
  IsRight e = IsLawful e × IsFormedEvent e

  both_right : (es : List PlainEvent) → AllByRecursion IsLawful es → AllByRecursion IsFormedEvent es → AllByRecursion IsRight es
  both_right [] l f = tt
  both_right (e ∷ es) l f = ((l.0, f.0), both_right es l.1 f.1)

  tag_lawful : (k : ℕ) (e : PlainEvent) → IsRight e → IsLawful (new_tag selected events k e)
  tag_lawful k (Commit id mark branch author committer encoding comment parents ops aliases) r = (tag_is_named mark r.1.0, r.0.2)
  tag_lawful k (Blob id mark bytes) r = r.0
  tag_lawful k (Tag id name target tagger comment mark) r = r.0
  tag_lawful k (Reset id branch target) r = r.0
  tag_lawful k (Pass id line) r = r.0

  tag_formed : (k : ℕ) (e : PlainEvent) → IsFormedEvent e → IsFormedEvent (new_tag selected events k e)
  tag_formed k (Commit id mark branch author committer encoding comment parents ops aliases) f = tt
  tag_formed k (Blob id mark bytes) f = f
  tag_formed k (Tag id name target tagger comment mark) f = f
  tag_formed k (Reset id branch target) f = f
  tag_formed k (Pass id line) f = f

  tag_few : (k : ℕ) (e : PlainEvent) → HasFewParents e → HasFewParents (new_tag selected events k e)
  tag_few k (Commit id mark branch author committer encoding comment parents ops aliases) f = few_none
  tag_few k (Blob id mark bytes) f = f
  tag_few k (Tag id name target tagger comment mark) f = f
  tag_few k (Reset id branch target) f = f
  tag_few k (Pass id line) f = f

  -- ---- ids and marks stand once

  commit_ids : (id : AnyId) (k : ℕ) (es : List PlainEvent) (e : PlainEvent) → of_id id (new_tag selected events k e) + one_if (is_new (k + 1) id) ≤ one_if (is_new k id)
      → tally (of_id id) (with_tags selected events (k + 1) es) ≤ tally (of_id id) es + one_if (is_new (k + 1) id)
      → tally (of_id id) (with_tags selected events k es) ≤ tally (of_id id) es + one_if (is_new k id)
      → (b : Bool) → tally (of_id id) (cond b (e ∷ new_tag selected events k e ∷ with_tags selected events (k + 1) es) (e ∷ with_tags selected events k es)) ≤ (of_id id e + tally (of_id id) es) + one_if (is_new k id)
  commit_ids id k es e step more same true = omega arith
  commit_ids id k es e step more same false = omega arith

  own_step : (id : AnyId) (k mark : ℕ) (e : PlainEvent) (i : ℕ) → id_of e ≡ any.Commit i → of_id id (new_tag selected events k e) + one_if (is_new (k + 1) id) ≤ one_if (is_new k id)
  own_step (any.Tag n) k m (Commit id mark branch author committer encoding comment parents ops aliases) i is = new_step k n
  own_step (any.Blob n) k m (Commit id mark branch author committer encoding comment parents ops aliases) i is = omega arith
  own_step (any.Commit n) k m (Commit id mark branch author committer encoding comment parents ops aliases) i is = omega arith
  own_step (any.Reset n) k m (Commit id mark branch author committer encoding comment parents ops aliases) i is = omega arith
  own_step (any.Pass n) k m (Commit id mark branch author committer encoding comment parents ops aliases) i is = omega arith
  own_step id k m (Blob j mark bytes) i is = absurd cc
  own_step id k m (Tag j name target tagger comment mark) i is = absurd cc
  own_step id k m (Reset j branch target) i is = absurd cc
  own_step id k m (Pass j line) i is = absurd cc

  tag_ids : (id : AnyId) (k : ℕ) (es : List PlainEvent) → tally (of_id id) (with_tags selected events k es) ≤ tally (of_id id) es + one_if (is_new k id)
  tag_ids id k [] = omega arith
  tag_ids id k (Commit i mark branch author committer encoding comment parents ops aliases ∷ es) =
      let e = Commit i mark branch author committer encoding comment parents ops aliases in
      commit_ids id k es e (own_step id k mark e i refl) (tag_ids id (k + 1) es) (tag_ids id k es) (becomes_tag selected e)
  tag_ids id k (Blob i mark bytes ∷ es) = let same = tag_ids id k es in omega arith
  tag_ids id k (Tag i name target tagger comment mark ∷ es) = let same = tag_ids id k es in omega arith
  tag_ids id k (Reset i branch target ∷ es) = let same = tag_ids id k es in omega arith
  tag_ids id k (Pass i line ∷ es) = let same = tag_ids id k es in omega arith

  tag_marks : (m k : ℕ) (es : List PlainEvent) → tally (of_mark m) (with_tags selected events k es) ≡ tally (of_mark m) es
  tag_marks m k [] = refl
  tag_marks m k (Commit i mark branch author committer encoding comment parents ops aliases ∷ es) =
      let e = Commit i mark branch author committer encoding comment parents ops aliases in
      let more = tag_marks m (k + 1) es in
      let same = tag_marks m k es in
      elim (becomes_tag selected e) as (λ b. tally (of_mark m) (cond b (e ∷ new_tag selected events k e ∷ with_tags selected events (k + 1) es) (e ∷ with_tags selected events k es)) ≡ of_mark m e + tally (of_mark m) es) [
        | true ↦ omega arith
        | false ↦ omega arith
      ]
  tag_marks m k (Blob i mark bytes ∷ es) = ap (λ n. of_mark m (Blob i mark bytes) + n) (tag_marks m k es)
  tag_marks m k (Tag i name target tagger comment mark ∷ es) = ap (λ n. of_mark m (Tag i name target tagger comment mark) + n) (tag_marks m k es)
  tag_marks m k (Reset i branch target ∷ es) = ap (λ n. of_mark m (Reset i branch target) + n) (tag_marks m k es)
  tag_marks m k (Pass i line ∷ es) = ap (λ n. of_mark m (Pass i line) + n) (tag_marks m k es)

  -- the numbers from the next one on are free
  new_absent : (next : ℕ) → AreIdsBelow next events → (id : AnyId) → is_new next id ≡ true → has_id events id ≡ false
  new_absent next below (any.Tag n) new =
      false_from_ne_true (has_id events (any.Tag n)) (λ k.
      let low = below (any.Tag n) (sym (has_id_find events (any.Tag n)) ∙ k) in
      let high = leb-true next n new in
      absurd (omega arith))
  new_absent next below (any.Blob n) new = absurd (true≢false (sym new))
  new_absent next below (any.Commit n) new = absurd (true≢false (sym new))
  new_absent next below (any.Reset n) new = absurd (true≢false (sym new))
  new_absent next below (any.Pass n) new = absurd (true≢false (sym new))

  module _ (h : IsSound events) where
    ids_once : (next : ℕ) → AreIdsBelow next events → (id : AnyId) → tally (of_id id) (with_tags selected events next events) ≤ 1
    ids_once next below id =
        elim (cases_Bool (is_new next id)) [
          | inl new ↦
              let none : tally (of_id id) events ≡ 0 = none_passing (λ l. has_id l id) (λ xs ys. has_id_append xs ys id) refl events (new_absent next below id new) in
              let one : one_if (is_new next id) ≡ 1 = ap one_if new in
              let all = tag_ids id next events in
              omega arith
          | inr old ↦
              let once = (in_parts events h).once.ids id in
              let none : one_if (is_new next id) ≡ 0 = ap one_if old in
              let all = tag_ids id next events in
              omega arith
        ]

    -- ---- each tag is after its commit

    -- a new tag is ready where the commit before is
    pub tag_ready : (zs : List PlainEvent) (k : ℕ) (e : PlainEvent) → becomes_tag selected e ≡ true
        → ((c : ℕ) → id_of e ≡ any.Commit c → has_id zs (any.Commit (base_of selected events c)) ≡ true) → is_ready zs (new_tag selected events k e) ≡ true
    tag_ready zs k (Commit id mark branch author committer encoding comment parents ops aliases) b f =
        true_all (has_id zs) (any.Commit (base_of selected events id) ∷ []) (f id refl, tt)
    tag_ready zs k (Blob id mark bytes) b f = absurd (true≢false (sym b))
    tag_ready zs k (Tag id name target tagger comment mark) b f = absurd (true≢false (sym b))
    tag_ready zs k (Reset id branch target) b f = absurd (true≢false (sym b))
    tag_ready zs k (Pass id line) b f = absurd (true≢false (sym b))

    tags_in_order : (k : ℕ) (xs ys es : List PlainEvent) → events ≡ xs ++ es → Includes xs ys → AreInOrder xs es → AreInOrder ys (with_tags selected events k es)
    tags_in_order k xs ys [] is i s = tt
    tags_in_order k xs ys (e ∷ es) is i s =
        go (becomes_tag selected e) refl (λ m zs j. tags_in_order m (xs ++ e ∷ []) zs es next j s.1)
      where
        next : events ≡ (xs ++ e ∷ []) ++ es
        next = is ∙ sym (append_assoc xs (e ∷ []) es)

        go : (b : Bool) → becomes_tag selected e ≡ b → ((m : ℕ) (zs : List PlainEvent) → Includes (xs ++ e ∷ []) zs → AreInOrder zs (with_tags selected events m es))
            → AreInOrder ys (cond b (e ∷ new_tag selected events k e ∷ with_tags selected events (k + 1) es) (e ∷ with_tags selected events k es))
        go true b rest = (
          ready_more xs ys i e s.0,
          (
            tag_ready (ys ++ e ∷ []) k e b (λ c own. includes_both xs ys e i (any.Commit (base_of selected events c)) (base_before selected events h (xs ++ e ∷ []) es next c (ap (has_id (xs ++ e ∷ [])) (sym own) ∙ has_own xs [] e)).0),
            rest (k + 1) ((ys ++ e ∷ []) ++ new_tag selected events k e ∷ []) (includes_one (xs ++ e ∷ []) (ys ++ e ∷ []) (new_tag selected events k e) (includes_both xs ys e i)),
          ),
        )
        go false b rest = (ready_more xs ys i e s.0, rest k (ys ++ e ∷ []) (includes_both xs ys e i))

    pub put_sound : (next : ℕ) → AreIdsBelow next events → IsSound (with_tags selected events next events)
    put_sound next below =
        let parts = in_parts events h in
        let right = both_right events parts.lawful parts.spelled in
        from_parts (with_tags selected events next events) (record {
          lawful = all_put IsRight IsLawful (λ e r. r.0) tag_lawful next events right;
          spelled = all_put IsFormedEvent IsFormedEvent (λ e f. f) tag_formed next events parts.spelled;
          few = all_put HasFewParents HasFewParents (λ e f. f) tag_few next events parts.few;
          once = record {
            ids = λ id. ids_once next below id;
            marks = λ m. let one = parts.once.marks m in let same = tag_marks m next events in omega arith;
          };
          in_order = tags_in_order next [] [] events refl (λ id k. k) parts.in_order;
          trees = λ c there. subst IsSome (sym (same_tree next events c)) (h.trees c (sym (same_commits next events c) ∙ there));
        })
