-- Events of a sound history, found by their ids.
use Rattle.std.proofs.Common.{◌≡◌, ℕ, zero, suc, inl, inr, List, [], ◌∷◌, ◌++◌, Option, Some, None, refl}
use Rattle.std.proofs.lemmas.Bool.{cases_Bool}
use Rattle.std.specs.Prelude.{IfSome, map, option_map, slice_get, unwrap_or}
use Rattle.plain_model.specs.declared.id.AnyId.{AnyId}
use Rattle.plain_model.specs.declared.id.AnyId.TheVariants as any
use Rattle.plain_model.specs.declared.event.PlainEvent.{PlainEvent}
use Rattle.plain_model.specs.declared.event.PlainEvent.TheVariants as plain
use Rattle.plain_model.specs.Lookups.{find_event, id_of, same_id}
use Rattle.plain_model.specs.Snapshots.{commit_mark}
use Rattle.plain_model.specs.Text.{blob_mark_in}
use Rattle.plain_model.specs.Soundness.{AreSoundAfter}
use Rattle.plain_model.proofs.NamedMarks.{blob_mark_found, commit_mark_found}
use Rattle.history_laws.specs.Finding.{IsDated}
use Rattle.history_laws.proofs.SoundDates.{dated_event}
use Rattle.listing.specs.Finding.{own_blob_mark, own_commit_mark}

-- ---- dates and marks

pub dated : (earlier events : List PlainEvent) (id : AnyId) → AreSoundAfter earlier events
    → IfSome (find_event id events) IsDated
dated earlier [] id h = tt
dated earlier (e ∷ es) id h = elim (cases_Bool (same_id id (id_of e))) [
  | inl it ↦ rw it (dated_event earlier e h.0)
  | inr no_it ↦ rw no_it (dated (earlier ++ e ∷ []) es id h.1)
]

-- the mark of a commit, and of a blob, is that of the event with its id
pub commit_found : (events : List PlainEvent) (c : ℕ) → commit_mark events c ≡ unwrap_or (option_map own_commit_mark (find_event (any.Commit c) events)) 0
commit_found = commit_mark_found own_commit_mark (λ id mark branch author committer encoding comment parents ops aliases. refl)

pub blob_found : (whole events : List PlainEvent) (b : ℕ) → blob_mark_in whole events b ≡ unwrap_or (option_map own_blob_mark (find_event (any.Blob b) events)) 0
blob_found = blob_mark_found own_blob_mark (λ id mark bytes. refl)

-- ---- options seen through a function

module _ {X Y : Type 0} (f : X → Y) where
  pub holds_through : (o : Option X) (P : Y → Type 0) → IfSome (option_map f o) P → IfSome o (λ x. P (f x))
  holds_through (Some x) P h = h
  holds_through None P h = tt

  pub get_map : (xs : List X) (k : ℕ) → slice_get (map f xs) k ≡ option_map f (slice_get xs k)
  get_map [] k = refl
  get_map (x ∷ xs) zero = refl
  get_map (x ∷ xs) (suc k) = get_map xs k
