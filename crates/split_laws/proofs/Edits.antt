-- A split is an edit.
use Rattle.std.proofs.Common.{◌≡◌, ◌∙◌, ℕ, ◌+◌, List, [], ◌∷◌, Some, None, Result, Ok, Err, refl, sym, ap, subst, arith}
use Rattle.std.specs.Prelude.{IsTrue}
use Rattle.std.specs.List.{AllByRecursion}
use Rattle.plain_model.specs.declared.fault.Fault.{Fault}
use Rattle.plain_model.specs.declared.fault.Fault.TheVariants as fault
use Rattle.plain_model.specs.declared.id.AnyId.{AnyId}
use Rattle.plain_model.specs.declared.id.AnyId.TheVariants as any
use Rattle.plain_model.specs.declared.event.PlainEvent.{PlainEvent}
use Rattle.plain_model.specs.Paths.{Bytes}
use Rattle.plain_model.specs.Soundness.{IsCommitOf, has_id}
use Rattle.edit_laws.specs.Editing.{IsEdit, with_number}
use Rattle.edit_laws.specs.Selecting.{IsSelection}
use Rattle.edit_laws.proofs.Edits.{edit_with, unspent}
use Rattle.commit_laws.specs.Selected.{node_of, the_commit}
use Rattle.split_laws.specs.Split.{first_touch, split_at_of, split_by_of, split_from}
use Rattle.split_laws.proofs.NewIds.{at_ids, by_ids}
use Rattle.split_laws.proofs.SplitDone.{at_limits, at_sound, by_limits, by_sound}

-- what is done for one commit alone was done for one
one_commit : (events : List PlainEvent) (set : List AnyId) (for : ℕ → Result (List PlainEvent) Fault) (after : List PlainEvent)
    → ◌≡◌ {A = Result (List PlainEvent) Fault} (elim (the_commit events set) [ Ok c ↦ for c | Err why ↦ Err why ]) (Ok after) → (c : ℕ) × (set ≡ any.Commit c ∷ [])
one_commit events [] for after e = absurd cc
one_commit events (any.Commit c ∷ []) for after e = (c, refl)
one_commit events (any.Blob b ∷ []) for after e = absurd cc
one_commit events (any.Tag t ∷ []) for after e = absurd cc
one_commit events (any.Reset r ∷ []) for after e = absurd cc
one_commit events (any.Pass p ∷ []) for after e = absurd cc
one_commit events (id ∷ other ∷ set) for after e = absurd cc

-- a split by a path, where the commit is known
abbrev by_path : ℕ → Bytes → ℕ → List PlainEvent → Result (List PlainEvent) Fault
by_path copy path c events = elim (first_touch path 1 (node_of events c).ops) [
  | Some number ↦ split_from copy c number events
  | None ↦ Err (fault.NoSuchPath path)
]

-- the one commit of a selection is there
commit_there : (events : List PlainEvent) (set : List AnyId) (c : ℕ) → IsSelection events set → set ≡ any.Commit c ∷ [] → IsCommitOf events c
commit_there events set c selection only = (subst (AllByRecursion (λ id. IsTrue (has_id events id))) only selection.there).0

pub at_one : (copy number : ℕ) (set : List AnyId) (events new : List PlainEvent) → split_at_of copy number set events ≡ Ok new → (c : ℕ) × (set ≡ any.Commit c ∷ [])
at_one copy number set events new e = one_commit events set (λ c. split_from copy c number events) new e

pub by_one : (copy : ℕ) (path : Bytes) (set : List AnyId) (events new : List PlainEvent) → split_by_of copy path set events ≡ Ok new → (c : ℕ) × (set ≡ any.Commit c ∷ [])
by_one copy path set events new e = one_commit events set (λ c. by_path copy path c events) new e

pub at_edit : (number : ℕ) → IsEdit (λ set next events. with_number (next + 1) (split_at_of next number set events))
at_edit number =
    edit_with (λ next. next + 1) (λ set next events. split_at_of next number set events) (λ next. omega arith)
    (λ set next events new h below selection e.
    let only = at_one next number set events new e in
    let same : split_at_of next number (any.Commit only.0 ∷ []) events ≡ Ok new = sym (ap (λ (s : List AnyId). split_at_of next number s events) only.1) ∙ e in
    let there = commit_there events set only.0 selection only.1 in (
      record {
        sound = at_sound next number only.0 events new h.sound there (unspent events next below) same;
        within = at_limits next number only.0 events new same;
      },
      at_ids next number set events new e below,
    ))

pub by_edit : (path : Bytes) → IsEdit (λ set next events. with_number (next + 1) (split_by_of next path set events))
by_edit path =
    edit_with (λ next. next + 1) (λ set next events. split_by_of next path set events) (λ next. omega arith)
    (λ set next events new h below selection e.
    let only = by_one next path set events new e in
    let same : split_by_of next path (any.Commit only.0 ∷ []) events ≡ Ok new = sym (ap (λ (s : List AnyId). split_by_of next path s events) only.1) ∙ e in
    let there = commit_there events set only.0 selection only.1 in (
      record {
        sound = by_sound next path only.0 events new h.sound there (unspent events next below) same;
        within = by_limits next path only.0 events new same;
      },
      by_ids next path set events new e below,
    ))
