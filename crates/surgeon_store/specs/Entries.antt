-- Lists of files, and files with more bytes.
use Rattle.std.specs.Prelude.{List, [], ◌∷◌, ◌++◌, ℕ, Option, Some, None, unwrap_or, map, nat_eq, if◌then◌else◌}
use Rattle.std.specs.Cmp.Lexicographic.{pointwise}
use Rattle.std.specs.FinMap.{get, insert, from_entries}
use Rattle.plain_model.specs.Files.{Files}
use Rattle.surgeon_store.specs.declared.entry.FileEntry.{FileEntry}

-- the files of a list, in which the first of two entries with one name counts
abbrev pub files_of : List FileEntry → Files
files_of entries = from_entries (map (λ e. (e.name, e.bytes)) entries)

-- the bytes of the first entry with a name
abbrev pub lookup : List ℕ → List FileEntry → Option (List ℕ)
lookup name [] = None
lookup name (e ∷ es) = if pointwise nat_eq name e.name then Some e.bytes else lookup name es

-- the bytes of a file, none where there is no such file
abbrev pub bytes_in : Files → List ℕ → List ℕ
bytes_in files name = unwrap_or (get files name) []

-- files with bytes at the end of one
abbrev pub appended : Files → List ℕ → List ℕ → Files
appended files name bytes = insert files name (bytes_in files name ++ bytes)

-- entries, the first with bytes at its end
abbrev pub grown : List ℕ → List FileEntry → List FileEntry
grown bytes [] = []
grown bytes (e ∷ es) = record { name = e.name; bytes = e.bytes ++ bytes } ∷ es
