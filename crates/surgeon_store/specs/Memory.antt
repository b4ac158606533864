-- Stores and sinks in memory, which tell all that they hold.
use Rattle.std.specs.Prelude.{ℕ, List, [], ◌∷◌, Bool, if◌then◌else◌, Option, Some, None, refl}
use Rattle.std.specs.Coded.{Coded, code_by, coded×, coded_ℕ, coded_list, coded_option}
use Rattle.std.specs.FinMap as map
use Rattle.plain_model.specs.Files.{Files, name_cmp}
use Rattle.surgeon_store.specs.declared.entry.FileEntry.{FileEntry}
use Rattle.surgeon_store.specs.Entries.{files_of}
use Rattle.surgeon_store.specs.Outside.{StoreState, SinkState, alone}

-- files, of which one may be read and one written
pub record FilesInMemory : Type 0 where
  pub files : Files
  pub rest : List ℕ
  pub writing : Option (List ℕ)
  pub misses : ℕ

abbrev bytes_code : Coded (List ℕ)
bytes_code = coded_list coded_ℕ

-- they are stored as the tuple of their fields
abbrev pub memory_code : Coded FilesInMemory
memory_code =
    code_by (Files × (List ℕ × (Option (List ℕ) × ℕ)))
    (coded× (map.code {R = name_cmp} bytes_code bytes_code) (coded× bytes_code (coded× (coded_option bytes_code) coded_ℕ)))
    (λ m. (m.files, (m.rest, (m.writing, m.misses))))
    (λ p. record { files = p.0; rest = p.1.0; writing = p.1.1.0; misses = p.1.1.1 })
    (λ _. refl)

-- the files of a list, none of which is begun
abbrev pub unopened : List FileEntry → FilesInMemory
unopened entries = record { files = files_of entries; rest = []; writing = None; misses = 0 }

-- what is reported of them, beside two counts of faults
abbrev pub store_of : FilesInMemory → ℕ → ℕ → StoreState
store_of memory read_faults write_faults = record {
  files = Some memory.files;
  rest = Some memory.rest;
  writing = memory.writing;
  read_faults = read_faults;
  write_faults = write_faults;
  misses = memory.misses;
}

-- what is reported of bytes in memory, beside a count of faults
abbrev pub output_of : List ℕ → ℕ → SinkState
output_of bytes faults = record { written = Some bytes; faults = faults; around = alone }

-- the name of the first entry, if that one is written
abbrev pub begun_name : Bool → List FileEntry → Option (List ℕ)
begun_name is_begun [] = None
begun_name is_begun (e ∷ es) = if is_begun then Some e.name else None
