-- Edits by what they make of a history, with the number that comes next.
use Rattle.std.proofs.Common.{◌≡◌, ◌∙◌, ℕ, ◌≤◌, Bool, true, false, List, None, Result, Ok, Err, refl, sym, arith}
use Rattle.std.specs.Prelude.{IsFalse, IsTrue}
use Rattle.plain_model.specs.declared.fault.Fault.{Fault}
use Rattle.plain_model.specs.declared.id.AnyId.{AnyId}
use Rattle.plain_model.specs.declared.id.AnyId.TheVariants as any
use Rattle.plain_model.specs.declared.event.PlainEvent.{PlainEvent}
use Rattle.plain_model.specs.Lookups.{AreIdsBelow}
use Rattle.plain_model.specs.Soundness.{has_id}
use Rattle.history_laws.proofs.SoundOnce.{has_id_find}
use Rattle.edit_laws.specs.Editing.{IsEdit, IsLawfulHistory, LeavesLawful, with_number}
use Rattle.edit_laws.specs.Selecting.{IsSelection}

-- a number above all ids is no commit's
pub unspent : (events : List PlainEvent) (next : ℕ) → AreIdsBelow next events → IsFalse (has_id events (any.Commit next))
unspent events next below = go (has_id events (any.Commit next)) refl
  where
    go : (b : Bool) → has_id events (any.Commit next) ≡ b → b ≡ false
    go false e = refl
    go true e = let low = below (any.Commit next) (sym (has_id_find events (any.Commit next)) ∙ e) in absurd (omega arith)

-- a bound of the ids is one where no event comes
pub fewer_below : (events new : List PlainEvent) (next : ℕ) → ((id : AnyId) → IsTrue (has_id new id) → IsTrue (has_id events id)) → AreIdsBelow next events → AreIdsBelow next new
fewer_below events new next nothing below id there = below id (sym (has_id_find events id) ∙ nothing id (has_id_find new id ∙ there))

-- an edit that gives ids below a number
pub edit_with : (number : ℕ → ℕ) (edit : List AnyId → ℕ → List PlainEvent → Result (List PlainEvent) Fault) → ((next : ℕ) → next ≤ number next)
    → ((set : List AnyId) (next : ℕ) (events new : List PlainEvent) → IsLawfulHistory events → AreIdsBelow next events → IsSelection events set → edit set next events ≡ Ok new
    → IsLawfulHistory new × AreIdsBelow (number next) new)
    → IsEdit (λ set next events. with_number (number next) (edit set next events))
edit_with number edit grows leaves set next events h below selection = go (edit set next events) refl
  where
    go : (r : Result (List PlainEvent) Fault) → edit set next events ≡ r → LeavesLawful next (with_number (number next) r)
    go (Err why) e = tt
    go (Ok new) e = let left = leaves set next events new h below selection e in (left.0, left.1, grows next)

-- an edit that gives none
pub edit_without : (edit : List AnyId → List PlainEvent → Result (List PlainEvent) Fault)
    → ((set : List AnyId) (events new : List PlainEvent) → IsLawfulHistory events → IsSelection events set → edit set events ≡ Ok new
    → IsLawfulHistory new × ((next : ℕ) → AreIdsBelow next events → AreIdsBelow next new))
    → IsEdit (λ set next events. with_number next (edit set events))
edit_without edit leaves =
    edit_with (λ next. next) (λ set next events. edit set events) (λ next. omega arith)
    (λ set next events new h below selection e. let left = leaves set events new h selection e in (left.0, left.1 next below))
