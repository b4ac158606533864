-- What is left of a history adds nothing, whatever the commits that stay take over: no event, id, mark or alias; and what stays of a squash
-- is as it was, but for its links and comments.
use Rattle.std.proofs.Common.{◌≡◌, ℕ, ◌≤◌, not, List, refl, sym, ap, ◌∙◌, arith, Some, None, Ok}
use Rattle.std.specs.List.{AllByRecursion}
use Rattle.plain_model.specs.declared.id.AnyId.{AnyId}
use Rattle.plain_model.specs.declared.id.AnyId.TheVariants as any
use Rattle.plain_model.specs.declared.event.PlainEvent.{PlainEvent}
use Rattle.plain_model.specs.declared.event.PlainEvent.TheVariants.{Blob, Commit, Tag, Reset, Pass}
use Rattle.plain_model.specs.Lookups.{AreIdsBelow, find_event, id_of, is_listed}
use Rattle.plain_model.specs.Soundness.{IsSound, has_id}
use Rattle.plain_model.specs.Streams.{is_marked}
use Rattle.history_laws.proofs.Ids.{each_found, has_id_append, is_marked_append}
use Rattle.history_laws.proofs.SoundOnce.{sound_once}
use Rattle.edit_laws.specs.Keeping.{AddsNothing}
use Rattle.edit_laws.specs.Parts.{of_id, of_mark, tally}
use Rattle.edit_laws.specs.Settling.{settle}
use Rattle.edit_laws.specs.Sweeping.{is_left_over, swept}
use Rattle.edit_laws.proofs.Edits.{fewer_below}
use Rattle.edit_laws.proofs.Lists.{all_filter, all_flat, tally_filter, tally_flat}
use Rattle.edit_laws.proofs.Settles.{settled_all, settled_sums}
use Rattle.edit_laws.proofs.Tallies.{aliases_counted, counted, moved_no_greater, no_greater, none_new, one, own_aliases}
use Rattle.squash_laws.specs.Squash.{squash_of}
use Rattle.squash_laws.specs.Remaining.{IsBareOneOf, bare}
use Rattle.squash_laws.specs.Removed.{Takings, all_left, is_removed, left_of, parents_after, without_set}
use Rattle.squash_laws.specs.Takings.{takes}
use Rattle.plain_model.specs.declared.policy.Policy.{Policy}
use Rattle.squash_laws.proofs.Done.{done_parts}
use Rattle.squash_laws.proofs.Left.{ids_left, marks_left, one_left, one_moved}

-- ---- sums

-- what differs in links and comments alone has as many aliases
own_alike : (x e : PlainEvent) → bare x ≡ bare e → own_aliases x ≡ own_aliases e
own_alike x e same = sym (its x) ∙ ap own_aliases same ∙ its e
  where
    its : (x : PlainEvent) → own_aliases (bare x) ≡ own_aliases x
    its (Commit id mark branch author committer encoding comment parents ops aliases) = refl
    its (Blob id mark bytes) = refl
    its (Tag id name target tagger comment mark) = refl
    its (Reset id branch (Some target)) = refl
    its (Reset id branch None) = refl
    its (Pass id line) = refl

module _ (set : List AnyId) (events : List PlainEvent) (taking : Takings) where
  -- what counts alike for events that differ in their links alone
  each_no_greater : (f : PlainEvent → ℕ) → ((x e : PlainEvent) → bare x ≡ bare e → f x ≡ f e) → (e : PlainEvent) →
      tally f (left_of set events taking e) ≤ f e
  each_no_greater f alike (Commit id mark branch author committer encoding comment parents ops aliases) =
      let x = Commit id mark branch author committer encoding (taking.comment id parents comment) (parents_after set events taking parents) (taking.ops id parents ops) aliases in
      let e = Commit id mark branch author committer encoding comment parents ops aliases in
      no_greater f (is_removed set id) x e (alike x e refl)
  each_no_greater f alike (Blob id mark bytes) = omega arith
  each_no_greater f alike (Tag id name target tagger comment mark) =
      moved_no_greater f (is_listed (any.Tag id) set) (λ t. Tag id name t tagger comment mark) (taking.target target)
      (Tag id name target tagger comment mark) (λ t. alike (Tag id name t tagger comment mark) (Tag id name target tagger comment mark) refl)
  each_no_greater f alike (Reset id branch None) = no_greater f (is_listed (any.Reset id) set) (Reset id branch None) (Reset id branch None) refl
  each_no_greater f alike (Reset id branch (Some target)) =
      moved_no_greater f (is_listed (any.Reset id) set) (λ t. Reset id branch (Some t)) (taking.target target)
      (Reset id branch (Some target)) (λ t. alike (Reset id branch (Some t)) (Reset id branch (Some target)) refl)
  each_no_greater f alike (Pass id line) = no_greater f (is_listed (any.Pass id) set) (Pass id line) (Pass id line) refl

  module _ (before new : List PlainEvent) (is : settle (swept before (all_left set events taking)) ≡ Ok new) where
    no_more : (f : PlainEvent → ℕ) → ((e : PlainEvent) → tally f (left_of set events taking e) ≤ f e) → tally f new ≤ tally f events
    no_more f each =
        let left = all_left set events taking in
        let same = settled_sums (swept before left) new is f in
        let fewer = tally_filter f (λ e. not (is_left_over before left e)) left in
        let all = tally_flat f (left_of set events taking) each events in
        omega arith

    pub adds_nothing : AddsNothing events new
    adds_nothing = record {
      events =
          let fewer = no_more one (each_no_greater one (λ x e same. refl)) in
          let was = counted events in
          let now = counted new in
          omega arith;
      ids = λ id there. none_new (λ l. has_id l id) (λ xs ys. has_id_append xs ys id) refl events new (no_more (of_id id) (ids_left set events taking id)) there;
      marks = λ m there. none_new (λ l. is_marked l m) (λ xs ys. is_marked_append xs ys m) refl events new (no_more (of_mark m) (marks_left set events taking m)) there;
      aliases =
          let fewer = no_more own_aliases (each_no_greater own_aliases own_alike) in
          let was = aliases_counted events in
          let now = aliases_counted new in
          omega arith;
    }

  -- ---- what stays

  abbrev IsFound : PlainEvent → Type 0
  IsFound e = find_event (id_of e) events ≡ Some e

  each_one : (e : PlainEvent) → IsFound e → AllByRecursion (IsBareOneOf events) (left_of set events taking e)
  each_one (Commit id mark branch author committer encoding comment parents ops aliases) f =
      one_left (IsBareOneOf events) (is_removed set id)
      (Commit id mark branch author committer encoding (taking.comment id parents comment) (parents_after set events taking parents) (taking.ops id parents ops) aliases)
      (λ stays. (Commit id mark branch author committer encoding comment parents ops aliases, f, refl))
  each_one (Blob id mark bytes) f = ((Blob id mark bytes, f, refl), tt)
  each_one (Tag id name target tagger comment mark) f =
      one_moved (IsBareOneOf events) (is_listed (any.Tag id) set) (λ t. Tag id name t tagger comment mark) (taking.target target)
      (λ t is. (Tag id name target tagger comment mark, f, refl))
  each_one (Reset id branch None) f =
      one_left (IsBareOneOf events) (is_listed (any.Reset id) set) (Reset id branch None) (λ stays. (Reset id branch None, f, refl))
  each_one (Reset id branch (Some target)) f =
      one_moved (IsBareOneOf events) (is_listed (any.Reset id) set) (λ t. Reset id branch (Some t)) (taking.target target)
      (λ t is. (Reset id branch (Some target), f, refl))
  each_one (Pass id line) f =
      one_left (IsBareOneOf events) (is_listed (any.Pass id) set) (Pass id line) (λ stays. (Pass id line, f, refl))

  pub all_one : AllByRecursion IsFound events → (before new : List PlainEvent) → settle (swept before (all_left set events taking)) ≡ Ok new →
      AllByRecursion (IsBareOneOf events) new
  all_one found before new is =
      let left = all_left set events taking in
      settled_all (IsBareOneOf events) (swept before left) new
      (all_filter (IsBareOneOf events) (λ e. not (is_left_over before left e)) left
      (all_flat IsFound (IsBareOneOf events) (left_of set events taking) each_one events found)) is

-- ---- a squash

module _ (how : Policy) (set : List AnyId) (events new : List PlainEvent) (h : IsSound events) (d : squash_of how set events ≡ Ok new) where
  abbrev taking_of : Takings
  taking_of = takes set events how

  abbrev settled_to : settle (without_set set events taking_of) ≡ Ok new
  settled_to = (done_parts how set events new h d).is

  pub nothing_added : AddsNothing events new
  nothing_added = adds_nothing set events taking_of events new settled_to

  pub still_below : (next : ℕ) → AreIdsBelow next events → AreIdsBelow next new
  still_below next below = fewer_below events new next nothing_added.ids below

  pub each_as_it_was : AllByRecursion (IsBareOneOf events) new
  each_as_it_was = all_one set events taking_of (each_found events (sound_once events h).ids) events new settled_to
