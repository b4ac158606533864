-- The ids of what a split leaves.
use Rattle.std.proofs.Common.{◌≡◌, ℕ, ◌+◌, ◌-◌, ◌<◌, Bool, true, false, List, [], ◌∷◌, drop, map, take, refl, subst, Option, Some, None, Result, Ok, Err, arith}
use Rattle.std.specs.Prelude.{◌==◌, IsSome, if◌then◌else◌}
use Rattle.std.specs.List.{AllByRecursion}
use Rattle.plain_model.specs.declared.fault.Fault.{Fault}
use Rattle.plain_model.specs.declared.fault.Fault.TheVariants as fault
use Rattle.plain_model.specs.declared.id.AnyId.{AnyId}
use Rattle.plain_model.specs.declared.event.PlainEvent.{PlainEvent}
use Rattle.plain_model.specs.declared.event.PlainEvent.TheVariants.{Blob, Commit, Tag, Reset, Pass}
use Rattle.plain_model.specs.Lookups.{AreIdsBelow, find_event, id_number, id_of, same_id}
use Rattle.plain_model.specs.Paths.{Bytes}
use Rattle.history_laws.proofs.Ids.{ids_below, same_id_refl}
use Rattle.history_laws.proofs.Lists.{all_imply, all_join}
use Rattle.commit_laws.specs.Selected.{node_of, the_commit}
use Rattle.split_laws.specs.Split.{first_touch, onto, split_at_of, split_by_of, split_event, split_from, split_list}
use Rattle.split_laws.proofs.SplitDone.{from_done}

abbrev IsBelow : ℕ → PlainEvent → Type 0
IsBelow bound e = id_number (id_of e) < bound

each_below : (bound : ℕ) (es : List PlainEvent) → AreIdsBelow bound es → AllByRecursion (IsBelow bound) es
each_below bound [] h = tt
each_below bound (e ∷ es) h = (h (id_of e) (rw (same_id_refl (id_of e)) refl), each_below bound es (λ id there. h id (later id there)))
  where
    later : (id : AnyId) → IsSome (find_event id es) → IsSome (find_event id (e ∷ es))
    later id there = go (same_id id (id_of e))
      where
        go : (b : Bool) → IsSome (if b then Some e else find_event id es)
        go true = refl
        go false = there

module _ (c copy mark kept bound : ℕ) (above : copy < bound) where
  split_below : (e : PlainEvent) → IsBelow bound e → AllByRecursion (IsBelow bound) (split_event c copy mark kept e)
  split_below (Commit id its_mark branch author committer encoding comment parents ops aliases) h = go (id == c)
    where
      go : (b : Bool) → AllByRecursion (IsBelow bound)
          (if b then
          Commit id its_mark branch author committer encoding comment parents (take kept ops) aliases
          ∷ Commit copy mark branch author committer encoding comment (id ∷ []) (drop kept ops) []
          ∷ []
          else Commit id its_mark branch author committer encoding comment (map (onto c copy) parents) ops aliases ∷ [])
      go true = (h, (above, tt))
      go false = (h, tt)
  split_below (Blob id its_mark bytes) h = (h, tt)
  split_below (Tag id name target tagger comment its_mark) h = (h, tt)
  split_below (Reset id branch target) h = (h, tt)
  split_below (Pass id line) h = (h, tt)

  list_below : (es : List PlainEvent) → AllByRecursion (IsBelow bound) es → AllByRecursion (IsBelow bound) (split_list c copy mark kept es)
  list_below [] h = tt
  list_below (e ∷ es) h = all_join (IsBelow bound) (split_event c copy mark kept e) (split_list c copy mark kept es) (split_below e h.0) (list_below es h.1)

from_ids : (copy c number : ℕ) (events new : List PlainEvent) → split_from copy c number events ≡ Ok new → AreIdsBelow copy events → AreIdsBelow (copy + 1) new
from_ids copy c number events new d below =
    let done = from_done copy c number events new d in
    let more : copy < copy + 1 = omega arith in
    let each = all_imply (IsBelow copy) (IsBelow (copy + 1)) (λ e low. (let l = low in omega arith)) events (each_below copy events below) in
    ids_below (copy + 1) new (subst (AllByRecursion (IsBelow (copy + 1))) done.is (list_below c copy done.mark (number - 1) (copy + 1) more events each))

pub at_ids : (copy number : ℕ) (set : List AnyId) (events new : List PlainEvent) → split_at_of copy number set events ≡ Ok new → AreIdsBelow copy events → AreIdsBelow (copy + 1) new
at_ids copy number set events new d below = go (the_commit events set) d
  where
    go : (r : Result ℕ Fault) → ◌≡◌ {A = Result (List PlainEvent) Fault} (elim r [ Ok c ↦ split_from copy c number events | Err why ↦ Err why ]) (Ok new) → AreIdsBelow (copy + 1) new
    go (Ok c) d = from_ids copy c number events new d below
    go (Err why) d = absurd cc

pub by_ids : (copy : ℕ) (path : Bytes) (set : List AnyId) (events new : List PlainEvent) → split_by_of copy path set events ≡ Ok new → AreIdsBelow copy events → AreIdsBelow (copy + 1) new
by_ids copy path set events new d below = go (the_commit events set) d
  where
    found : (c : ℕ) (o : Option ℕ) → ◌≡◌ {A = Result (List PlainEvent) Fault} (elim o [ Some number ↦ split_from copy c number events | None ↦ Err (fault.NoSuchPath path) ]) (Ok new) → AreIdsBelow (copy + 1) new
    found c (Some number) d = from_ids copy c number events new d below
    found c None d = absurd cc

    go : (r : Result ℕ Fault)
        → ◌≡◌ {A = Result (List PlainEvent) Fault} (elim r [
          | Ok c ↦ elim (first_touch path 1 (node_of events c).ops) [ Some number ↦ split_from copy c number events | None ↦ Err (fault.NoSuchPath path) ]
          | Err why ↦ Err why
        ]) (Ok new) → AreIdsBelow (copy + 1) new
    go (Ok c) d = found c (first_touch path 1 (node_of events c).ops) d
    go (Err why) d = absurd cc
