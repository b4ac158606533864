-- `authors read`: names and emails in the place of emails (reposurgeon manual, `authors`; which lines are right: own).
use Rattle.std.specs.Prelude.{ℕ, ◌+◌, ◌==◌, Bool, true, List, [], ◌∷◌, codes, drop, length, map, bytes_eq, Option, Some, None, option_map, unwrap_or, Result, Ok, Err, if◌then◌else◌}
use Rattle.std.specs.Option.{option_or}
use Rattle.plain_model.specs.declared.fault.Fault.{Fault}
use Rattle.plain_model.specs.declared.fault.Fault.TheVariants as fault
use Rattle.plain_model.specs.declared.person.Person.{Person}
use Rattle.plain_model.specs.declared.person.Signed.{Signed}
use Rattle.plain_model.specs.declared.event.PlainEvent.{PlainEvent}
use Rattle.plain_model.specs.declared.event.PlainEvent.TheVariants.{Blob, Commit, Tag, Reset, Pass}
use Rattle.plain_model.specs.Parts.{◌>>=◌, begins}
use Rattle.plain_model.specs.Paths.{Bytes, is_empty}
use Rattle.mailbox_laws.specs.Boxes.{lines_in}
use Rattle.mailbox_laws.specs.Headers.{identity_in}

-- ---- one line

-- an empty line, or one that begins with `#`
abbrev pub is_passed_over : Bytes → Bool
is_passed_over [] = true
is_passed_over (b ∷ bs) = b == 35

-- what is before the first place of a text in the bytes, and what is after it
abbrev pub cut_by : Bytes → Bytes → Option (Bytes × Bytes)
cut_by text [] = None
cut_by text (b ∷ bs) =
    if begins text (b ∷ bs) then Some ([], drop (length text) (b ∷ bs))
    else option_map (λ parts. (b ∷ parts.0, parts.1)) (cut_by text bs)

-- who is put in the place of whoever has an email, the key
pub record Author : Type 0 where
  pub key : Bytes
  pub person : Person

-- the author with this key, if the person has a name
abbrev pub named : Bytes → Person → Option Author
named key person = if is_empty person.name then None else Some (record { key = key; person = person })

-- the author with a key that isn't empty, and what is said of the person
abbrev pub author_by : Bytes × Bytes → Option Author
author_by parts = if is_empty parts.0 then None else identity_in parts.1 >>= named parts.0

-- `KEY = NAME <EMAIL>`
unfoldable pub author_of : Bytes → Option Author
author_of line = cut_by (codes " = ") line >>= author_by

-- ---- all lines

abbrev pub and_then : Author → Result (List Author) ℕ → Result (List Author) ℕ
and_then author (Ok authors) = Ok (author ∷ authors)
and_then author (Err line) = Err line

-- an author, or the line that is none, and then the others
abbrev pub author_and : ℕ → Option Author → Result (List Author) ℕ → Result (List Author) ℕ
author_and n None others = Err n
author_and n (Some author) others = and_then author others

-- the authors of the lines from the n-th on, or the number of the first line that is none
abbrev pub authors_from : ℕ → List Bytes → Result (List Author) ℕ
authors_from n [] = Ok []
authors_from n (line ∷ lines) =
    if is_passed_over line then authors_from (n + 1) lines else author_and n (author_of line) (authors_from (n + 1) lines)

-- those of a file, whose lines end at LF alone
abbrev pub authors_in : Bytes → Result (List Author) ℕ
authors_in bytes = authors_from 1 (lines_in bytes)

-- ---- the history

-- who is put in the place of an email, if one is; of two lines with one email the later counts
abbrev pub person_for : List Author → Bytes → Option Person
person_for [] email = None
person_for (author ∷ authors) email =
    option_or (person_for authors email) (if bytes_eq email author.key then Some author.person else None)

module _ (find : Bytes → Option Person) where
  -- whoever is found for the email, at the same date
  abbrev pub resigned : Signed → Signed
  resigned who = record who { person = unwrap_or (find who.person.email) who.person }

  abbrev pub authored : PlainEvent → PlainEvent
  authored (Commit id mark branch author committer encoding comment parents ops aliases) =
      Commit id mark branch (resigned author) (resigned committer) encoding comment parents ops aliases
  authored (Tag id name target tagger comment mark) = Tag id name target (option_map resigned tagger) comment mark
  authored (Blob id mark bytes) = Blob id mark bytes
  authored (Reset id branch target) = Reset id branch target
  authored (Pass id line) = Pass id line

  abbrev pub all_authored : List PlainEvent → List PlainEvent
  all_authored events = map authored events

-- with these authors, or the fault at the line that is none
abbrev pub authored_by : Result (List Author) ℕ → List PlainEvent → Result (List PlainEvent) Fault
authored_by (Ok authors) events = Ok (all_authored (person_for authors) events)
authored_by (Err line) events = Err (fault.BadAuthors line)

-- the history with the authors of a file, or the first line that is none
abbrev pub authors_of : Bytes → List PlainEvent → Result (List PlainEvent) Fault
authors_of bytes events = authored_by (authors_in bytes) events
