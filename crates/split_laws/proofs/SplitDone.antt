-- What a split that isn't refused leaves.
use Rattle.std.proofs.Common.{◌≡◌, ℕ, ◌-◌, Bool, true, false, cond, List, [], ◌∷◌, length, refl, subst, Option, Some, None, Result, Ok, Err}
use Rattle.std.specs.Prelude.{◌&&◌, nat_le}
use Rattle.plain_model.specs.declared.fault.Fault.{Fault}
use Rattle.plain_model.specs.declared.fault.Fault.TheVariants as fault
use Rattle.plain_model.specs.declared.id.AnyId.TheVariants as any
use Rattle.plain_model.specs.declared.event.PlainEvent.{PlainEvent}
use Rattle.plain_model.specs.Lookups.{next_mark}
use Rattle.plain_model.specs.Paths.{Bytes}
use Rattle.plain_model.specs.Soundness.{IsCommitOf, IsSound, has_id}
use Rattle.edit_laws.specs.Passing.{IsWithinLimits, limit_fault}
use Rattle.edit_laws.proofs.Limits.{limits_hold}
use Rattle.commit_laws.specs.Selected.{node_of}
use Rattle.commit_laws.proofs.Greatest.{next_a_mark, next_unmarked}
use Rattle.split_laws.specs.Split.{first_touch, split_at_of, split_by_of, split_from, split_list, unless_limit}
use Rattle.split_laws.specs.SplitTrees.{IsFirstTouch, IsInHalves, KeepsOtherTrees}
use Rattle.split_laws.proofs.Halves.{copy_here, copy_tree, other_tree, split_shown, split_sound, still_here}

-- what is true where a split isn't refused
pub record IsDone (copy c number : ℕ) (events new : List PlainEvent) : Type 0 where
  pub mark : ℕ
  pub next : next_mark events ≡ Some mark
  pub is : split_list c copy mark (number - 1) events ≡ new
  pub low : limit_fault (split_list c copy mark (number - 1) events) ≡ None

within : (x new : List PlainEvent) → unless_limit x ≡ Ok new → (x ≡ new) × (limit_fault x ≡ None)
within x new h = go (limit_fault x) refl h
  where
    go : (o : Option Fault) → limit_fault x ≡ o → ◌≡◌ {A = Result (List PlainEvent) Fault} (elim o [ Some why ↦ Err why | None ↦ Ok x ]) (Ok new) → (x ≡ new) × (limit_fault x ≡ None)
    go None is h = (cc, is)
    go (Some why) is h = absurd cc

pub from_done : (copy c number : ℕ) (events new : List PlainEvent) → split_from copy c number events ≡ Ok new → IsDone copy c number events new
from_done copy c number events new h = go (nat_le 2 number && nat_le number (length (node_of events c).ops)) h
  where
    marked : (o : Option ℕ) → next_mark events ≡ o
        → ◌≡◌ {A = Result (List PlainEvent) Fault} (elim o [ Some mark ↦ unless_limit (split_list c copy mark (number - 1) events) | None ↦ Err fault.MarksSpent ]) (Ok new) → IsDone copy c number events new
    marked None e h = absurd cc
    marked (Some mark) e h =
        let w = within (split_list c copy mark (number - 1) events) new h in
        record { mark = mark; next = e; is = w.0; low = w.1 }

    go : (b : Bool)
        → ◌≡◌ {A = Result (List PlainEvent) Fault} (cond b (elim (next_mark events) [ Some mark ↦ unless_limit (split_list c copy mark (number - 1) events) | None ↦ Err fault.MarksSpent ]) (Err (fault.BadIndex number))) (Ok new) → IsDone copy c number events new
    go true h = marked (next_mark events) refl h
    go false h = absurd cc

-- a split by a path is one by a number
by_from : (copy : ℕ) (path : Bytes) (c : ℕ) (events new : List PlainEvent) → split_by_of copy path (any.Commit c ∷ []) events ≡ Ok new → (number : ℕ) × (split_from copy c number events ≡ Ok new)
by_from copy path c events new h = go (first_touch path 1 (node_of events c).ops) h
  where
    go : (o : Option ℕ) → ◌≡◌ {A = Result (List PlainEvent) Fault} (elim o [ Some number ↦ split_from copy c number events | None ↦ Err (fault.NoSuchPath path) ]) (Ok new) → (number : ℕ) × (split_from copy c number events ≡ Ok new)
    go (Some number) h = (number, h)
    go None h = absurd cc

from_trees : (copy c number : ℕ) (events new : List PlainEvent) → IsSound events → IsCommitOf events c → has_id events (any.Commit copy) ≡ false → split_from copy c number events ≡ Ok new → KeepsOtherTrees c copy events new
from_trees copy c number events new h there fresh d =
    let done = from_done copy c number events new d in
    let mark = done.mark in
    let unmarked = next_unmarked events mark done.next in
    let formed = next_a_mark events mark h.spelled done.next in
    subst (KeepsOtherTrees c copy events) done.is (record {
      copied = copy_here c copy mark (number - 1) events h there fresh unmarked formed;
      copy_tree = copy_tree c copy mark (number - 1) events h there fresh unmarked formed;
      copy_shown = split_shown c copy mark (number - 1) events h there fresh unmarked formed copy c (copy_tree c copy mark (number - 1) events h there fresh unmarked formed);
      still = still_here c copy mark (number - 1) events h there fresh unmarked formed;
      trees = other_tree c copy mark (number - 1) events h there fresh unmarked formed;
      shown = λ e k other. split_shown c copy mark (number - 1) events h there fresh unmarked formed e e (other_tree c copy mark (number - 1) events h there fresh unmarked formed e k other);
    })

pub at_trees : (copy number c : ℕ) (events new : List PlainEvent) → IsSound events → IsCommitOf events c → has_id events (any.Commit copy) ≡ false → split_at_of copy number (any.Commit c ∷ []) events ≡ Ok new → KeepsOtherTrees c copy events new
at_trees copy number c events new h there fresh d = from_trees copy c number events new h there fresh d

pub by_trees : (copy : ℕ) (path : Bytes) (c : ℕ) (events new : List PlainEvent) → IsSound events → IsCommitOf events c → has_id events (any.Commit copy) ≡ false → split_by_of copy path (any.Commit c ∷ []) events ≡ Ok new → KeepsOtherTrees c copy events new
by_trees copy path c events new h there fresh d = let from = by_from copy path c events new d in from_trees copy c from.0 events new h there fresh from.1

from_sound : (copy c number : ℕ) (events new : List PlainEvent) → IsSound events → IsCommitOf events c → has_id events (any.Commit copy) ≡ false → split_from copy c number events ≡ Ok new → IsSound new
from_sound copy c number events new h there fresh d =
    let done = from_done copy c number events new d in
    let unmarked = next_unmarked events done.mark done.next in
    let formed = next_a_mark events done.mark h.spelled done.next in
    subst IsSound done.is (split_sound c copy done.mark (number - 1) events h there fresh unmarked formed)

pub at_sound : (copy number c : ℕ) (events new : List PlainEvent) → IsSound events → IsCommitOf events c → has_id events (any.Commit copy) ≡ false → split_at_of copy number (any.Commit c ∷ []) events ≡ Ok new → IsSound new
at_sound copy number c events new h there fresh d = from_sound copy c number events new h there fresh d

pub by_sound : (copy : ℕ) (path : Bytes) (c : ℕ) (events new : List PlainEvent) → IsSound events → IsCommitOf events c → has_id events (any.Commit copy) ≡ false → split_by_of copy path (any.Commit c ∷ []) events ≡ Ok new → IsSound new
by_sound copy path c events new h there fresh d = let from = by_from copy path c events new d in from_sound copy c from.0 events new h there fresh from.1

from_limits : (copy c number : ℕ) (events new : List PlainEvent) → split_from copy c number events ≡ Ok new → IsWithinLimits new
from_limits copy c number events new d = let done = from_done copy c number events new d in (limits_hold new).0 (subst (λ (es : List PlainEvent). limit_fault es ≡ None) done.is done.low)

pub at_limits : (copy number c : ℕ) (events new : List PlainEvent) → split_at_of copy number (any.Commit c ∷ []) events ≡ Ok new → IsWithinLimits new
at_limits copy number c events new d = from_limits copy c number events new d

pub by_limits : (copy : ℕ) (path : Bytes) (c : ℕ) (events new : List PlainEvent) → split_by_of copy path (any.Commit c ∷ []) events ≡ Ok new → IsWithinLimits new
by_limits copy path c events new d = let from = by_from copy path c events new d in from_limits copy c from.0 events new from.1

-- ---- halves

pub at_halves : (copy number c : ℕ) (events new : List PlainEvent) → split_at_of copy number (any.Commit c ∷ []) events ≡ Ok new → IsInHalves c copy number events new
at_halves copy number c events new d =
    let done = from_done copy c number events new d in
    record { mark = done.mark; its_mark = done.next; halves = done.is }

pub by_halves : (copy : ℕ) (path : Bytes) (c : ℕ) (events new : List PlainEvent) → split_by_of copy path (any.Commit c ∷ []) events ≡ Ok new
    → (number : ℕ) × IsFirstTouch path c events number × IsInHalves c copy number events new
by_halves copy path c events new d = go (first_touch path 1 (node_of events c).ops) refl d
  where
    go : (o : Option ℕ) → first_touch path 1 (node_of events c).ops ≡ o
        → ◌≡◌ {A = Result (List PlainEvent) Fault} (elim o [ Some number ↦ split_from copy c number events | None ↦ Err (fault.NoSuchPath path) ]) (Ok new)
        → (number : ℕ) × IsFirstTouch path c events number × IsInHalves c copy number events new
    go (Some number) is d = (number, is, at_halves copy number c events new d)
    go None is d = absurd cc
