-- A change is of one commit, or a merge of two.
use Rattle.std.proofs.Common.{◌≡◌, ℕ, Bool, true, false, cond, List, [], ◌∷◌, length, Option, Some, None, Result, Ok, Err, refl}
use Rattle.std.specs.Prelude.{◌==◌}
use Rattle.plain_model.specs.declared.event.PlainEvent.{PlainEvent}
use Rattle.plain_model.specs.declared.fault.Fault.{Fault}
use Rattle.plain_model.specs.declared.fault.Fault.TheVariants as fault
use Rattle.plain_model.specs.declared.id.AnyId.{AnyId}
use Rattle.plain_model.specs.declared.id.AnyId.TheVariants as any
use Rattle.plain_model.specs.declared.operation.FileOp.{FileOp}
use Rattle.plain_model.specs.declared.raw.RawOp.{RawOp}
use Rattle.commit_laws.specs.Selected.{kind_fault, listed}
use Rattle.reparent_laws.specs.Merge.{merge_of, merge_these, unmerge_of}
use Rattle.reparent_laws.specs.Operations.{add_of, add_to, op_of, remove_of}
use Rattle.reparent_laws.specs.declared.removal.Removal.{Removal}

pub added_to_one : (spelled : RawOp) (set : List AnyId) (events new : List PlainEvent) → add_of spelled set events ≡ Ok new
    → (c : ℕ) × (op : FileOp) × (set ≡ any.Commit c ∷ []) × (op_of events spelled ≡ Ok op)
added_to_one spelled [] events new d = absurd cc
added_to_one spelled (any.Commit c ∷ []) events new d = go (op_of events spelled) refl d
  where
    go : (r : Result FileOp Fault) → op_of events spelled ≡ r
        → ◌≡◌ {A = Result (List PlainEvent) Fault} (elim r [ Ok op ↦ add_to events c op | Err why ↦ Err why ]) (Ok new)
        → (k : ℕ) × (op : FileOp) × (any.Commit c ∷ [] ≡ any.Commit k ∷ []) × (op_of events spelled ≡ Ok op)
    go (Ok op) is d = (c, op, refl, is)
    go (Err why) is d = absurd cc
added_to_one spelled (any.Blob b ∷ []) events new d = absurd cc
added_to_one spelled (any.Tag t ∷ []) events new d = absurd cc
added_to_one spelled (any.Reset r ∷ []) events new d = absurd cc
added_to_one spelled (any.Pass p ∷ []) events new d = absurd cc
added_to_one spelled (id ∷ other ∷ set) events new d = absurd cc

pub removed_from_one : (what : Removal) (set : List AnyId) (events new : List PlainEvent) → remove_of what set events ≡ Ok new → (c : ℕ) × (set ≡ any.Commit c ∷ [])
removed_from_one what [] events new d = absurd cc
removed_from_one what (any.Commit c ∷ []) events new d = (c, refl)
removed_from_one what (any.Blob b ∷ []) events new d = absurd cc
removed_from_one what (any.Tag t ∷ []) events new d = absurd cc
removed_from_one what (any.Reset r ∷ []) events new d = absurd cc
removed_from_one what (any.Pass p ∷ []) events new d = absurd cc
removed_from_one what (id ∷ other ∷ set) events new d = absurd cc

pub unmerged_of_one : (set : List AnyId) (events new : List PlainEvent) → unmerge_of set events ≡ Ok new → (c : ℕ) × (set ≡ any.Commit c ∷ [])
unmerged_of_one [] events new d = absurd cc
unmerged_of_one (any.Commit c ∷ []) events new d = (c, refl)
unmerged_of_one (any.Blob b ∷ []) events new d = absurd cc
unmerged_of_one (any.Tag t ∷ []) events new d = absurd cc
unmerged_of_one (any.Reset r ∷ []) events new d = absurd cc
unmerged_of_one (any.Pass p ∷ []) events new d = absurd cc
unmerged_of_one (id ∷ other ∷ set) events new d = absurd cc

-- two commits, in the order of the list
abbrev AreTwo : List ℕ → Type 0
AreTwo commits = (low : ℕ) × (high : ℕ) × (commits ≡ low ∷ high ∷ [])

two_merged : (events new : List PlainEvent) (commits : List ℕ) → merge_these events commits ≡ Ok new → AreTwo commits
two_merged events new [] d = absurd cc
two_merged events new (low ∷ []) d = absurd cc
two_merged events new (low ∷ high ∷ []) d = (low, high, refl)
two_merged events new (low ∷ high ∷ other ∷ commits) d = absurd cc

pub merged_of_two : (set : List AnyId) (events new : List PlainEvent) → merge_of set events ≡ Ok new → AreTwo (listed set events)
merged_of_two set events new d = go (length set == 2) d
  where
    of_commits : (o : Option Fault) → ◌≡◌ {A = Result (List PlainEvent) Fault} (elim o [ Some why ↦ Err why | None ↦ merge_these events (listed set events) ]) (Ok new) → AreTwo (listed set events)
    of_commits None d = two_merged events new (listed set events) d
    of_commits (Some why) d = absurd cc

    go : (b : Bool)
        → ◌≡◌ {A = Result (List PlainEvent) Fault} (cond b (elim (kind_fault events set) [ Some why ↦ Err why | None ↦ merge_these events (listed set events) ]) (Err (fault.WrongCount (length set)))) (Ok new)
        → AreTwo (listed set events)
    go true d = of_commits (kind_fault events set) d
    go false d = absurd cc
