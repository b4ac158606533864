-- Messages with the events that they are for, and what they make of these. (own)
use Rattle.std.specs.Prelude.{◌≡◌, ℕ, ◌≤◌, List, [], ◌∷◌, length, take, Option, Some, None, option_map, unwrap_or, IsSome, IsTrue, MatchOption}
use Rattle.std.specs.Borrow.{Bor}
use Rattle.plain_model.specs.declared.id.AnyId.{AnyId}
use Rattle.plain_model.specs.declared.person.Person.{Person}
use Rattle.plain_model.specs.declared.person.Signed.{Signed}
use Rattle.plain_model.specs.declared.person.When.{When}
use Rattle.plain_model.specs.declared.event.PlainEvent.{PlainEvent}
use Rattle.plain_model.specs.declared.event.PlainEvent.TheVariants.{Commit, Tag}
use Rattle.plain_model.specs.Lookups.{find_event, id_of}
use Rattle.plain_model.specs.Parts.{◌>>=◌}
use Rattle.plain_model.specs.Paths.{Bytes}
use Rattle.event_arena.specs.Changes.{changed, has_comment, has_signed, with_comment, with_signed}
use Rattle.event_arena.specs.declared.field.Role.{Role}
use Rattle.event_arena.specs.declared.field.Role.TheVariants.{Author, Committer, Tagger}
use Rattle.mailbox_laws.specs.Boxes.{comment_in, lines_in}
use Rattle.mailbox_laws.specs.Headers.{identity_in, moment_in}
use Rattle.mailbox_laws.specs.Landing.{meant_by}
use Rattle.mailbox_reader.specs.Reading.{value_of}
use Rattle.mailbox_reader.specs.declared.reading.Header.{Header}
use Rattle.mailbox_reader.specs.declared.reading.Said.{Said}
use Rattle.mailbox_edit.specs.declared.landing.Landing.{Landing}

-- ---- which event

-- the event that headers name
abbrev pub id_meant : List PlainEvent → Said → Option AnyId
id_meant events said = option_map id_of (meant_by events (value_of said.mark) (value_of said.name))

-- a message for an event, if it is for one
abbrev pub landings_on : Option AnyId → Said → Bor Bytes → ℕ → List Landing
landings_on None said body count = []
landings_on (Some id) said body count = record { id = id; said = said; body = body; count = count } ∷ []

-- its event is there and has a comment, and its body has so many lines
pub record IsLandable (events : List PlainEvent) (l : Landing) : Type 0 where
  pub there : IsSome (find_event l.id events)
  pub field : IsTrue (has_comment l.id)
  pub fits : l.count ≤ length (lines_in l.body.now)

-- ---- what headers give

-- the person of a header, or the old one
abbrev pub given_person : Option Header → Person → Person
given_person who old = unwrap_or (value_of who >>= λ value. identity_in value.1) old

-- the moment of a header, or the old one
abbrev pub given_moment : Option Header → When → When
given_moment when old = unwrap_or (value_of when >>= λ value. moment_in value.1) old

-- who and when
abbrev pub given : Option Header → Option Header → Signed → Signed
given who when old = record { person = given_person who old.person; when = given_moment when old.when }

-- who has a role of an event, and when
abbrev pub signed_in : Role → PlainEvent → Option Signed
signed_in Author (Commit id mark branch author committer encoding comment parents ops aliases) = Some author
signed_in Committer (Commit id mark branch author committer encoding comment parents ops aliases) = Some committer
signed_in Tagger (Tag id name target tagger comment mark) = tagger
signed_in role other = None

-- an event with what headers give in a role that it has
abbrev pub with_given : Role → Option Header → Option Header → PlainEvent → PlainEvent
with_given Author who when (Commit id mark branch author committer encoding comment parents ops aliases) =
    Commit id mark branch (given who when author) committer encoding comment parents ops aliases
with_given Committer who when (Commit id mark branch author committer encoding comment parents ops aliases) =
    Commit id mark branch author (given who when committer) encoding comment parents ops aliases
with_given Tagger who when (Tag id name target tagger comment mark) =
    Tag id name target (option_map (given who when) tagger) comment mark
with_given role who when other = other

-- What is to be put into a role of an event, so that it has what headers give: nothing where it has that already.
abbrev pub IsGiven : Role → Option Header → Option Header → Option Signed → PlainEvent → Type 0
IsGiven role who when made e =
    MatchOption made (with_given role who when e ≡ e)
    (λ new. (with_signed role new e ≡ with_given role who when e) × IsTrue (has_signed role (id_of e)))

-- ---- what lands

-- an event with what a message says
abbrev pub landed_as : Landing → PlainEvent → PlainEvent
landed_as l e =
    with_comment (comment_in (take l.count (lines_in l.body.now)))
    (with_given Tagger l.said.tagger l.said.tagger_date
    (with_given Committer l.said.committer l.said.committer_date
    (with_given Author l.said.author l.said.author_date e)))

-- messages that land one after another
abbrev pub landed_all : List Landing → List PlainEvent → List PlainEvent
landed_all [] now = now
landed_all (l ∷ ls) now = landed_all ls (changed l.id (landed_as l) now)
