-- A small history, an authors file, and what the commands make of it, written out.
use Rattle.std.specs.Prelude.{ℕ, false, true, List, [], ◌∷◌, ◌++◌, codes, Option, Some, None}
use Rattle.plain_model.specs.declared.operation.FileOp.{FileOp}
use Rattle.plain_model.specs.declared.person.Person.{Person}
use Rattle.plain_model.specs.declared.person.Signed.{Signed}
use Rattle.plain_model.specs.declared.event.PlainEvent.{PlainEvent}
use Rattle.plain_model.specs.declared.event.PlainEvent.TheVariants.{Blob, Commit, Tag, Reset}
use Rattle.plain_model.specs.Paths.{Bytes}
use Rattle.history_laws.specs.Examples.{lines, master, put, someone_at}
use Rattle.people_laws.specs.Authors.{Author}

-- so many seconds after the beginning of 1970
abbrev pub signed_at : Person → ℕ → Signed
signed_at who seconds = record { person = who; when = record { seconds = seconds; minus = false; offset = 0 } }

abbrev pub ann : Person
ann = record { name = codes "Ann"; email = codes "ann@x" }

-- a commit on a branch
abbrev pub commit_by : Signed → Bytes → ℕ → Bytes → List ℕ → List FileOp → PlainEvent
commit_by who branch id comment parents ops = Commit id id branch who who None comment parents ops []

-- two commits, a reset, and a tag of the second commit
abbrev pub signed : Signed → Signed → Bytes → Bytes → Bytes → List PlainEvent
signed first second comment branch name =
    Blob 1 1 (codes "1")
    ∷ commit_by first master 2 (codes "c2") [] (put 1 (codes "f") ∷ [])
    ∷ commit_by second branch 3 comment (2 ∷ []) (put 1 (codes "g") ∷ [])
    ∷ Reset 4 branch (Some 3)
    ∷ Tag 5 name 3 (Some second) (codes "first") None
    ∷ []

-- A <a@x> wrote all
abbrev pub by_a : List PlainEvent
by_a = signed (someone_at 100) (someone_at 200) (codes "c3") master (codes "v1")

-- Ann did
abbrev pub by_ann : List PlainEvent
by_ann = signed (signed_at ann 100) (signed_at ann 200) (codes "c3") master (codes "v1")

-- the first commit 50 seconds later
abbrev pub later : List PlainEvent
later = signed (someone_at 150) (someone_at 200) (codes "c3") master (codes "v1")

-- the first commit as late as a date can be
abbrev pub latest : List PlainEvent
latest = signed (someone_at 250000000000) (someone_at 200) (codes "c3") master (codes "v1")

-- the second commit and its tag 50 seconds earlier, in another zone
abbrev pub earlier : List PlainEvent
earlier =
    signed (someone_at 100)
    (record { person = (someone_at 0).person; when = record { seconds = 150; minus = true; offset = 330 } })
    (codes "c3") master (codes "v1")

-- ---- authors files

-- a comment, an empty line, and two lines with one email
abbrev pub authors_file : Bytes
authors_file = lines (codes "# who" ∷ codes "a@x = B <b@x>" ∷ [] ∷ codes "a@x = Ann <ann@x>" ∷ codes "ann@x = C <c@x>" ∷ [])

-- the second line is no author
abbrev pub bad_file : Bytes
bad_file = lines (codes "a@x = Ann <ann@x>" ∷ codes "x" ∷ codes "y" ∷ [])

-- lines that are authors
abbrev pub right_lines : List Bytes
right_lines = codes "A B <c> = Ann Other <ann@x>" ∷ codes "a = b = C <>" ∷ []

-- what they say
abbrev pub right_authors : List (Option Author)
right_authors =
    Some (record { key = codes "A B <c>"; person = record { name = codes "Ann Other"; email = codes "ann@x" } })
    ∷ Some (record { key = codes "a"; person = record { name = codes "b = C"; email = [] } })
    ∷ []

-- lines that are none
abbrev pub no_authors : List Bytes
no_authors =
    codes "a@x = <ann@x>"
    ∷ codes "a@x =  <ann@x>"
    ∷ codes " = Ann <ann@x>"
    ∷ codes "a@x = Ann <ann@x> "
    ∷ codes "a@x = Ann ann@x>"
    ∷ codes "a@x = Ann<ann@x>"
    ∷ codes "a@x = A>n <ann@x>"
    ∷ codes "a@x=Ann <ann@x>"
    ∷ (codes "a@x = Ann <ann@x>" ++ 13 ∷ [])
    ∷ codes "  "
    ∷ []

-- for each line nothing
abbrev pub none_of : List Bytes → List (Option Author)
none_of [] = []
none_of (line ∷ each) = None ∷ none_of each
