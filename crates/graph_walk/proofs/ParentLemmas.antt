-- From entries and flags to the changes of parents.
use Rattle.std.proofs.Common.{◌≡◌, ◌∙◌, ℕ, suc, ◌<◌, ◌≤◌, Bool, true, false, cond, not, ◌&&◌, inl, inr, List, [], ◌∷◌, ◌++◌, Option, Some, None, refl, sym, ap, subst, length, get_or, take, drop, arith, append-nil}
use Rattle.std.proofs.lemmas.Bool.{and_right, cases_Bool}
use Rattle.std.proofs.lemmas.Bool.Decides.{nat_tests}
use Rattle.std.proofs.lemmas.Option.{none-some, same_Some}
use Rattle.std.specs.List.{AllByRecursion, list_any}
use Rattle.std.specs.Prelude.{IsSome, flat_map, is_some, map, nat_le, slice_get}
use Rattle.plain_model.specs.declared.fault.Halt.{Halt}
use Rattle.plain_model.specs.declared.fault.Halt.TheVariants.{Refused, Memory}
use Rattle.plain_model.specs.declared.limit.TheConstants.{MAX_PARENTS}
use Rattle.plain_model.specs.declared.id.AnyId.{AnyId}
use Rattle.plain_model.specs.declared.event.PlainEvent.{PlainEvent}
use Rattle.plain_model.specs.declared.event.PlainEvent.TheVariants.{Blob, Commit, Tag, Reset, Pass}
use Rattle.plain_model.specs.Histories.{past}
use Rattle.plain_model.specs.Lookups.{event_parents, find_event, id_of, is_listed, place_of}
use Rattle.plain_model.specs.Soundness.{IsCommitOf, IsSound}
use Rattle.history_laws.specs.Once.{AreDistinct}
use Rattle.event_arena.proofs.ListLemmas.{drop_item, flat_split, flat_take_item}
use Rattle.history_laws.proofs.SoundOnce.{has_id_find}
use Rattle.graph_walk.specs.Children.{AreChildrenOf, children_of_all}
use Rattle.graph_walk.specs.Expansions.{AreFew, IsCauseOfMany, is_removed, new_parents, own_change, parent_changes}
use Rattle.graph_walk.specs.Joined.{AreExpansions, Expanded, IsBeforePlace, IsTooMany, PushesChange, PushesIf, flagged_change, entry_at, entry_of, joined_from, kept}
use Rattle.graph_walk.specs.Flags.{FlagsOf, is_flagged_commit}
use Rattle.edit_laws.specs.Removal.{expand}
use Rattle.graph_walk.proofs.ChildLemmas.{no_child}
use Rattle.graph_walk.proofs.EarlierLemmas.{any_on, parents_before, is_earlier}
use Rattle.graph_walk.proofs.FlagLemmas.{flag_of}
use Rattle.graph_walk.proofs.ExpandingLemmas.{expand_once, from_kept, map_on, none_fits, of_commit_at}
use Rattle.graph_walk.proofs.PlaceLemmas.{event_placed, has_id_place, place_found}

pub placed_within : (events : List PlainEvent) (k n : ℕ) → k ≤ n → (ps : List ℕ) →
    AllByRecursion (IsBeforePlace events k) ps → AllByRecursion (IsBeforePlace events n) ps
placed_within events k n h [] all = tt
placed_within events k n h (p ∷ ps) all =
    ((all.0.0, (let low = all.0.1 in omega arith), all.0.2), placed_within events k n h ps all.1)

-- a commit that is there has a place
pub found_place : (events : List PlainEvent) (id : AnyId) → IsSome (find_event id events) →
    is_some (place_of id events) ≡ true
found_place events id h = sym (has_id_place events id) ∙ has_id_find events id ∙ h

-- the event at a commit's place is the commit
pub place_event : (events : List PlainEvent) (id : AnyId) (k : ℕ) (e : PlainEvent) → AreDistinct events →
    place_of id events ≡ Some k → slice_get events k ≡ Some e → find_event id events ≡ Some e
place_event events id k e once there at =
    let p = event_placed events id k there in
    let is : p.event ≡ e = same_Some p.event e (sym p.at ∙ at) in
    ap (λ i. find_event i events) (p.own ∙ ap id_of is) ∙ (place_found events k e at once).1

-- a commit none of whose parents has a flag doesn't change
pub unchanged : (events : List PlainEvent) (flags : List Bool) (s : Expanded) (k : ℕ) (e : PlainEvent) (old : List (ℕ × List ℕ)) →
    list_any (is_flagged_commit flags events) (event_parents e) ≡ false → PushesChange events flags s k e old old
unchanged events flags s k (Commit id mark branch author committer encoding comment parents ops aliases) old none =
    subst (λ change. PushesIf change old old)
    (sym (ap (λ b. cond b (Some (id, joined_from s.bounded [] (map (entry_of s.entries events) parents))) None) (and_right (not (get_or flags k false)) (list_any (is_flagged_commit flags events) parents) none))) refl
unchanged events flags s k (Blob id mark bytes) old none = refl
unchanged events flags s k (Tag id name target tagger comment mark) old none = refl
unchanged events flags s k (Reset id branch target) old none = refl
unchanged events flags s k (Pass id line) old none = refl

module _ (events : List PlainEvent) (sound : IsSound events) (once : AreDistinct events) (removed : List AnyId) where
  -- what the parents of an event expand to by their entries
  pub joined_parents : (s : Expanded) → AreExpansions events removed s → (k : ℕ) (e : PlainEvent) →
      slice_get events k ≡ Some e →
      joined_from s.bounded [] (map (entry_of s.entries events) (event_parents e)) ≡ kept s.bounded (new_parents events removed (event_parents e))
  joined_parents s a k e at =
      ap (joined_from s.bounded []) (map_on (entry_of s.entries events) (λ p. kept s.bounded (expand (is_removed removed) (past events) p)) (IsCommitOf (take k events)) one (event_parents e) (parents_before [] events k e sound.formed at))
      ∙ from_kept s.bounded (expand (is_removed removed) (past events)) (expand_once (is_removed removed) (past events)) [] (event_parents e) (none_fits s.bounded)
    where
      one : (p : ℕ) → IsCommitOf (take k events) p →
          entry_of s.entries events p ≡ kept s.bounded (expand (is_removed removed) (past events) p)
      one p h =
          let b = is_earlier events k p h in
          ap (entry_at s.entries) (ap (λ id. place_of id events) b.own ∙ (place_found events b.place b.event b.at once).0)
          ∙ of_commit_at events sound once removed (λ c. get_or s.entries b.place None ≡ kept s.bounded (expand (is_removed removed) (past events) c)) b.event p b.own (a.entry b.place b.event b.at)

  -- the removed among the parents by their flags
  removed_parents : (flags : List Bool) → FlagsOf events removed flags → (k : ℕ) (e : PlainEvent) →
      slice_get events k ≡ Some e →
      list_any (is_flagged_commit flags events) (event_parents e) ≡ list_any (is_removed removed) (event_parents e)
  removed_parents flags f k e at =
      any_on (is_flagged_commit flags events) (is_removed removed) (IsCommitOf (take k events)) one (event_parents e) (parents_before [] events k e sound.formed at)
    where
      one : (p : ℕ) → IsCommitOf (take k events) p → is_flagged_commit flags events p ≡ is_removed removed p
      one p h =
          let b = is_earlier events k p h in
          flag_of flags events b.place p b.event once b.at b.own ∙ f.flag b.place b.event b.at ∙ ap (λ id. is_listed id removed) (sym b.own)

  -- those that are no children of removed commits by their flags
  pub children_flagged : (flags children : List Bool) → FlagsOf events removed flags → FlagsOf events (children_of_all events removed) children →
      AreChildrenOf flags events children
  children_flagged flags children f c = record {
    count = c.count;
    none = λ k e at off. removed_parents flags f k e at ∙ no_child k e events removed at (sym (c.flag k e at) ∙ off);
  }

  -- the change of an event, with a list that may be too long
  abbrev pub change_of : List (ℕ × List ℕ) → Option (ℕ × Option (List ℕ))
  change_of [] = None
  change_of (change ∷ changes) = Some (change.0, kept true change.1)

  change_is : (flags : List Bool) (s : Expanded) → FlagsOf events removed flags → AreExpansions events removed s →
      s.bounded ≡ true → (k : ℕ) (e : PlainEvent) → slice_get events k ≡ Some e →
      flagged_change events flags s k e ≡ change_of (own_change events removed e)
  change_is flags s f a bounded k (Commit id mark branch author committer encoding comment parents ops aliases) at =
      let e : PlainEvent = Commit id mark branch author committer encoding comment parents ops aliases in
      let own : get_or flags k false ≡ is_removed removed id = f.flag k e at in
      let some : list_any (is_flagged_commit flags events) parents ≡ list_any (is_removed removed) parents = removed_parents flags f k e at in
      let joined : joined_from s.bounded [] (map (entry_of s.entries events) parents) ≡ kept true (new_parents events removed parents) = joined_parents s a k e at ∙ ap (λ b. kept b (new_parents events removed parents)) bounded in
      rw (own, some, joined) (either (not (is_removed removed id) && list_any (is_removed removed) parents) id (new_parents events removed parents))
    where
      either : (b : Bool) (id : ℕ) (list : List ℕ) →
          cond b (Some (id, kept true list)) None ≡ change_of (cond b ((id, list) ∷ []) [])
      either true id list = refl
      either false id list = refl
  change_is flags s f a bounded k (Blob id mark bytes) at = refl
  change_is flags s f a bounded k (Tag id name target tagger comment mark) at = refl
  change_is flags s f a bounded k (Reset id branch target) at = refl
  change_is flags s f a bounded k (Pass id line) at = refl

  one_change : (e : PlainEvent) → length (own_change events removed e) ≤ 1
  one_change (Commit id mark branch author committer encoding comment parents ops aliases) =
      either (not (is_removed removed id) && list_any (is_removed removed) parents) id (new_parents events removed parents)
    where
      either : (b : Bool) (id : ℕ) (list : List ℕ) →
          (let own : List (ℕ × List ℕ) = cond b ((id, list) ∷ []) [] in length own ≤ 1)
      either true id list = omega arith
      either false id list = omega arith
  one_change (Blob id mark bytes) = omega arith
  one_change (Tag id name target tagger comment mark) = omega arith
  one_change (Reset id branch target) = omega arith
  one_change (Pass id line) = omega arith

  kept_some : (xs list : List ℕ) → kept true xs ≡ Some list → (xs ≡ list) × (length xs ≤ MAX_PARENTS)
  kept_some xs list h = elim (cases_Bool (nat_le (length xs) MAX_PARENTS)) [
    | inl it ↦ (same_Some xs list (rw it at h), at_most (length xs) it)
    | inr no_it ↦ absurd (none-some list (rw no_it at h))
  ]
    where
      at_most : (n : ℕ) → nat_le n MAX_PARENTS ≡ true → n ≤ MAX_PARENTS
      at_most n t = grind (arith, nat_tests)

  kept_none : (xs : List ℕ) → kept true xs ≡ None → MAX_PARENTS < length xs
  kept_none xs h = elim (cases_Bool (nat_le (length xs) MAX_PARENTS)) [
    | inl it ↦ absurd (none-some xs (sym (rw it at h)))
    | inr no_it ↦ above (length xs) no_it
  ]
    where
      above : (n : ℕ) → nat_le n MAX_PARENTS ≡ false → MAX_PARENTS < n
      above n t = grind (arith, nat_tests)

  pushed : (own old new : List (ℕ × List ℕ)) → length own ≤ 1 → PushesIf (change_of own) old new →
      (new ≡ old ++ own) × AreFew own
  pushed [] old new one h = (h ∙ sym (append-nil old), tt)
  pushed (x ∷ []) old new one h =
      let k = kept_some x.1 h.0 h.1 in
      (h.2 ∙ ap (λ list. old ++ (x.0, list) ∷ []) (sym k.0), (k.1, tt))
  pushed (x ∷ y ∷ own) old new one h = absurd (omega arith)

  few_append : (xs ys : List (ℕ × List ℕ)) → AreFew xs → AreFew ys → AreFew (xs ++ ys)
  few_append [] ys h i = i
  few_append (x ∷ xs) ys h i = (h.0, few_append xs ys h.1 i)

  pub changes_more : (flags : List Bool) (s : Expanded) → FlagsOf events removed flags →
      AreExpansions events removed s → s.bounded ≡ true → (k : ℕ) (e : PlainEvent) (old new : List (ℕ × List ℕ)) →
      slice_get events k ≡ Some e →
      PushesIf (flagged_change events flags s k e) old new →
      old ≡ flat_map (own_change events removed) (take k events) → AreFew old →
      (new ≡ flat_map (own_change events removed) (take (suc k) events)) × AreFew new
  changes_more flags s f a bounded k e old new at h was few =
      let p = pushed (own_change events removed e) old new (one_change e) (subst (λ change. PushesIf change old new) (change_is flags s f a bounded k e at) h) in (
        p.0 ∙ ap (λ xs. xs ++ own_change events removed e) was ∙ sym (flat_take_item (own_change events removed) events k e at),
        subst AreFew (sym p.0) (few_append old (own_change events removed e) few p.1),
      )

  too_many : (own : List (ℕ × List ℕ)) (id : ℕ) → change_of own ≡ Some (id, None) →
      (change : ℕ × List ℕ) × (others : List (ℕ × List ℕ)) × (own ≡ change ∷ others) × (MAX_PARENTS < length change.1)
  too_many [] id h = absurd (none-some (id, None) h)
  too_many (x ∷ own) id h =
      let both = same_Some (x.0, kept true x.1) (id, None) h in
      (x, own, refl, kept_none x.1 (ap (λ (p : ℕ × Option (List ℕ)). p.1) both))

  get_after : (xs ys : List (ℕ × List ℕ)) (y : ℕ × List ℕ) → slice_get (xs ++ y ∷ ys) (length xs) ≡ Some y
  get_after [] ys y = refl
  get_after (x ∷ xs) ys y = get_after xs ys y

  pub cause_more : (flags : List Bool) (s : Expanded) → FlagsOf events removed flags → AreExpansions events removed s →
      s.bounded ≡ true → (k : ℕ) (e : PlainEvent) (halt : Halt) → slice_get events k ≡ Some e →
      IsTooMany events flags s k e halt → IsCauseOfMany (parent_changes events removed) halt
  cause_more flags s f a bounded k e Memory at h = tt
  cause_more flags s f a bounded k e (Refused fault) at h =
      let own = own_change events removed e in
      let m = too_many own h.1.0 (sym (change_is flags s f a bounded k e at) ∙ h.1.1) in
      let before = flat_map (own_change events removed) (take k events) in
      let after = flat_map (own_change events removed) (drop (suc k) events) in
      let parts : parent_changes events removed ≡ before ++ m.0 ∷ (m.1 ++ after) =
      sym (flat_split (own_change events removed) events k)
      ∙ ap (λ es. before ++ flat_map (own_change events removed) es) (drop_item events k e at)
      ∙ ap (λ xs. before ++ (xs ++ after)) m.2 in
      (h.0, (length before, m.0, ap (λ xs. slice_get xs (length before)) parts ∙ get_after before (m.1 ++ after) m.0, m.3))
