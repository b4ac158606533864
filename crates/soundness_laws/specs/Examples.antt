-- A worked stream and its history.
use Rattle.std.specs.Prelude.{List, [], ◌∷◌, ◌++◌, codes, None, Some}
use Rattle.plain_model.specs.declared.operation.Content.TheVariants.{Blob as OfBlob}
use Rattle.plain_model.specs.declared.operation.FileOp.TheVariants.{Modify, Copy}
use Rattle.plain_model.specs.declared.operation.Mode.TheVariants.{Plain}
use Rattle.plain_model.specs.declared.event.PlainEvent.{PlainEvent}
use Rattle.plain_model.specs.declared.event.PlainEvent.TheVariants.{Blob, Commit, Tag}
use Rattle.plain_model.specs.Paths.{Bytes}
use Rattle.stream_grammar.specs.Worked.{ann, commit_on_b, lines, of_ann}

-- a root with bytes after its operation, a commit on it that copies the file, an alias of the root, and a marked tag of it by the alias
abbrev pub stream_of_two : Bytes
stream_of_two =
    lines (commit_on_b ++ [] ∷ codes "M 100644 inline f" ∷ codes "data 1" ∷ codes "x" ∷ codes "alias" ∷ codes "mark :7" ∷ codes "to refs/heads/b"
    ∷ commit_on_b ++ [] ∷ codes "C f g" ∷ codes "tag t" ∷ codes "mark :9" ∷ codes "from :7" ∷ codes "data 0" ∷ [] ∷ [])

-- ids are places; what has no mark gets the next numbers
abbrev pub history_of_two : List PlainEvent
history_of_two =
    Blob 1 10 (codes "x")
    ∷ Commit 2 11 (codes "refs/heads/b") ann ann None [] [] (Modify Plain (OfBlob 1) (codes "f") ∷ []) (7 ∷ [])
    ∷ of_ann 3 12 (2 ∷ []) (Copy (codes "f") (codes "g") ∷ [])
    ∷ Tag 4 (codes "t") 2 None [] (Some 9)
    ∷ []
