-- Flags of a list of events, one for each place, of which those of blobs count.
use Rattle.std.specs.Prelude.{ℕ, ◌≡◌, Bool, false, ◌||◌, List, length, Some, flat_map, slice_get, slice_index_or}
use Rattle.std.specs.List.{list_any}
use Rattle.plain_model.specs.declared.id.AnyId.{AnyId}
use Rattle.plain_model.specs.declared.event.PlainEvent.{PlainEvent}
use Rattle.plain_model.specs.declared.event.PlainEvent.TheVariants.{Blob, Commit, Tag, Reset, Pass}
use Rattle.plain_model.specs.Lookups.{id_of, is_listed, op_blobs, event_ops}

-- the flag of a blob says whether it is one of these
abbrev pub IsBlobFlag : (ℕ → Bool) → Bool → PlainEvent → Type 0
IsBlobFlag blobs flag (Blob id mark bytes) = flag ≡ blobs id
IsBlobFlag blobs flag (Commit id mark branch author committer encoding comment parents ops aliases) = Unit {0}
IsBlobFlag blobs flag (Tag id name target tagger comment mark) = Unit {0}
IsBlobFlag blobs flag (Reset id branch target) = Unit {0}
IsBlobFlag blobs flag (Pass id line) = Unit {0}

-- these blobs have flags, and no others
pub record AreBlobFlags (events : List PlainEvent) (blobs : ℕ → Bool) (flags : List Bool) : Type 0 where
  pub count : length flags ≡ length events
  pub flag : (k : ℕ) (e : PlainEvent) → slice_get events k ≡ Some e → IsBlobFlag blobs (slice_index_or flags k false) e
