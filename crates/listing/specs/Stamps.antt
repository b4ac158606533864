-- Stamps of commits: when and by whom they were committed, and which of several each is (reposurgeon manual, `stamp`;
-- the form: own)
use Rattle.std.specs.Prelude.{ℕ, Bool, false, List, [], ◌++◌, take, codes, decimal, bytes_eq, nat_lt, if◌then◌else◌}
use Rattle.std.specs.List.{count_by}
use Rattle.plain_model.specs.declared.id.AnyId.{AnyId}
use Rattle.plain_model.specs.declared.person.Signed.{Signed}
use Rattle.plain_model.specs.declared.event.PlainEvent.{PlainEvent}
use Rattle.plain_model.specs.declared.event.PlainEvent.TheVariants.{Blob, Commit, Tag, Reset, Pass}
use Rattle.plain_model.specs.Paths.{Bytes}
use Rattle.plain_model.specs.Text.{line}
use Rattle.civil_dates.specs.Dates.{date_text}
use Rattle.listing.specs.Listings.{lines_of}

-- the date and the email
abbrev pub stamp_of : Signed → Bytes
stamp_of signed = date_text signed.when.seconds ++ codes "!" ++ signed.person.email

-- a commit whose committer has the stamp
abbrev pub is_stamped : Bytes → PlainEvent → Bool
is_stamped stamp (Commit id mark branch author committer encoding comment parents ops aliases) =
    bytes_eq stamp (stamp_of committer)
is_stamped stamp (Blob id mark bytes) = false
is_stamped stamp (Tag id name target tagger comment mark) = false
is_stamped stamp (Reset id branch target) = false
is_stamped stamp (Pass id bytes) = false

-- how many commits have the stamp
abbrev pub sharing : Bytes → List PlainEvent → ℕ
sharing stamp events = count_by (is_stamped stamp) events

-- which one it is, where there are several
abbrev pub which_text : ℕ → ℕ → Bytes
which_text several which = if nat_lt 1 several then codes "#" ++ decimal which else []

-- a commit with its stamp, and, where several of the whole history share that, which of them it is, from 1; other
-- events have no line
abbrev pub stamp_line : List PlainEvent → ℕ → PlainEvent → Bytes
stamp_line whole n (Commit id mark branch author committer encoding comment parents ops aliases) =
    let stamp = stamp_of committer in
    line (stamp ++ which_text (sharing stamp whole) (sharing stamp (take n whole)))
stamp_line whole n (Blob id mark bytes) = []
stamp_line whole n (Tag id name target tagger comment mark) = []
stamp_line whole n (Reset id branch target) = []
stamp_line whole n (Pass id bytes) = []

unfoldable pub stamp_text : List PlainEvent → List AnyId → Bytes
stamp_text events ids = lines_of (stamp_line events) events ids
