-- Who is put in the place of whom, as a table by email holds it. (own)
use Rattle.std.specs.Prelude.{ℕ, List, [], ◌∷◌, map, bytes_eq, Option, Some, None, Result, Ok, Err, if◌then◌else◌}
use Rattle.std.specs.Borrow.{Bor}
use Rattle.plain_model.specs.declared.fault.Fault.{Fault}
use Rattle.plain_model.specs.declared.fault.Fault.TheVariants as fault
use Rattle.plain_model.specs.declared.person.Person.{Person}
use Rattle.plain_model.specs.Paths.{Bytes}
use Rattle.mailbox_laws.specs.Boxes.{lines_in}
use Rattle.people_laws.specs.Authors.{Author, authors_from}

-- ---- tables

-- with a person for an email, in the place of an older one or after all others
abbrev pub with_author : Bytes → Person → List Author → List Author
with_author key person [] = record { key = key; person = person } ∷ []
with_author key person (a ∷ authors) =
    if bytes_eq key a.key then record { key = a.key; person = person } ∷ authors else a ∷ with_author key person authors

-- the person for an email
abbrev pub said_for : List Author → Bytes → Option Person
said_for [] email = None
said_for (a ∷ authors) email = if bytes_eq email a.key then Some a.person else said_for authors email

-- with all of these, one after another
abbrev pub put_all : List Author → List Author → List Author
put_all [] table = table
put_all (a ∷ authors) table = put_all authors (with_author a.key a.person table)

-- the authors of the entries of a map
abbrev pub author_at : Bor Bytes × Person → Author
author_at e = record { key = e.0.now; person = e.1 }

abbrev pub authors_at : List (Bor Bytes × Person) → List Author
authors_at entries = map author_at entries

-- ---- files

-- a table with these authors, or the fault at the line that is none
abbrev pub tabled : List Author → Result (List Author) ℕ → Result (List Author) Fault
tabled table (Ok authors) = Ok (put_all authors table)
tabled table (Err line) = Err (fault.BadAuthors line)

-- a table with the authors of these lines, which count from a number on
abbrev pub table_from : ℕ → List Bytes → List Author → Result (List Author) Fault
table_from n lines table = tabled table (authors_from n lines)

-- the table of a file
abbrev pub table_of : Bytes → Result (List Author) Fault
table_of bytes = table_from 1 (lines_in bytes) []
