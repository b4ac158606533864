-- Moved dates leave ids, and events without dates.
use Rattle.std.proofs.Common.{◌≡◌, ℕ, List, Option, Some, None, refl}
use Rattle.std.specs.Prelude.{ℤ, unwrap_or}
use Rattle.plain_model.specs.declared.operation.FileOp.{FileOp}
use Rattle.plain_model.specs.declared.person.Signed.{Signed}
use Rattle.plain_model.specs.declared.person.When.{When}
use Rattle.plain_model.specs.declared.event.PlainEvent.{PlainEvent}
use Rattle.plain_model.specs.declared.event.PlainEvent.TheVariants.{Blob, Commit, Tag, Reset, Pass}
use Rattle.plain_model.specs.Paths.{Bytes}
use Rattle.plain_model.specs.Lookups.{id_of}
use Rattle.event_arena.specs.Changes.{with_signed}
use Rattle.event_arena.specs.declared.field.Role.TheVariants as role
use Rattle.event_fields.specs.Shifts.{PlainZone}
use Rattle.people_laws.specs.Dates.{dated, moved_when}
use Rattle.people_edit.proofs.OtherKinds.{NoCommit, NoTag}

-- who signs leaves the id
pub author_id : (who : Signed) (e : PlainEvent) → id_of (with_signed role.Author who e) ≡ id_of e
author_id who (Commit id mark branch author committer encoding comment parents ops aliases) = refl
author_id who (Blob id mark bytes) = refl
author_id who (Tag id name target tagger comment mark) = refl
author_id who (Reset id branch target) = refl
author_id who (Pass id line) = refl

-- ---- dates

module _ (seconds : ℤ) (zone : Option PlainZone) where
  -- an event with moved dates, if they stay in the range
  abbrev pub redated : PlainEvent → PlainEvent
  redated e = unwrap_or (dated seconds zone e) e

  -- what has no date stays
  pub undated_stays : (e : PlainEvent) → NoCommit e → NoTag e → redated e ≡ e
  undated_stays (Commit id mark branch author committer encoding comment parents ops aliases) c t =
      absurd (c id mark branch author committer encoding comment parents ops aliases refl)
  undated_stays (Tag id name target tagger comment mark) c t = absurd (t id name target tagger comment mark refl)
  undated_stays (Blob id mark bytes) c t = refl
  undated_stays (Reset id branch target) c t = refl
  undated_stays (Pass id line) c t = refl

  -- a commit of which a date can't move stays, and else both do
  module _ (id mark : ℕ) (branch : Bytes) (author committer : Signed) (encoding : Option Bytes) (comment : Bytes) (parents : List ℕ)
      (ops : List FileOp) (aliases : List ℕ) where
    abbrev own : PlainEvent
    own = Commit id mark branch author committer encoding comment parents ops aliases

    pub author_stuck : moved_when seconds zone author.when ≡ None → redated own ≡ own
    author_stuck h = rw h refl

    pub committer_stuck : (w : When) → moved_when seconds zone author.when ≡ Some w
        → moved_when seconds zone committer.when ≡ None → redated own ≡ own
    committer_stuck w h k = rw (h, k) refl

    pub both_moved : (w m : When) (wrote made : Signed) → wrote ≡ record author { when = w } → made ≡ record committer { when = m }
        → moved_when seconds zone author.when ≡ Some w → moved_when seconds zone committer.when ≡ Some m
        → with_signed role.Committer made (with_signed role.Author wrote own) ≡ redated own
    both_moved w m wrote made a b h k = rw (h, k, a, b) refl

  -- and so does a tag
  module _ (id : ℕ) (name : Bytes) (target : ℕ) (tagger : Signed) (comment : Bytes) (mark : Option ℕ) where
    pub tagger_stuck : moved_when seconds zone tagger.when ≡ None
        → redated (Tag id name target (Some tagger) comment mark) ≡ Tag id name target (Some tagger) comment mark
    tagger_stuck h = rw h refl

    pub tagger_moved : (m : When) (made : Signed) → made ≡ record tagger { when = m } → moved_when seconds zone tagger.when ≡ Some m
        → with_signed role.Tagger made (Tag id name target (Some tagger) comment mark) ≡ redated (Tag id name target (Some tagger) comment mark)
    tagger_moved m made b k = rw (k, b) refl
