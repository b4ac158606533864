-- What is reported of stores and sinks, and what their calls do to it.
use Rattle.std.specs.Prelude.{◌≡◌, ℕ, ◌≤◌, ◌<◌, List, [], ◌++◌, length, take, drop, Option, Some, None, IfSome, IsSome, option_and_then, is_some}
use Rattle.std.specs.Option.{option_map}
use Rattle.std.specs.Borrow.{GName}
use Rattle.std.specs.FinMap.{empty, get, insert, remove}
use Rattle.plain_model.specs.Files.{Files}
use Rattle.surgeon_store.specs.Entries.{appended}

-- ---- stores

-- what is reported of a store
pub record StoreState : Type 0 where
  -- the files, where it tells them
  pub files : Option Files
  -- what is left of the file that is read, where it tells that
  pub rest : Option (List ℕ)
  -- the name of the file that is begun for writing and not finished
  pub writing : Option (List ℕ)
  pub read_faults : ℕ
  pub write_faults : ℕ
  pub misses : ℕ

-- where the files are reported, what is left of the one that is read is reported too
abbrev pub TellsRest : StoreState → Type 0
TellsRest state = IfSome state.files (λ _. IsSome state.rest)

-- no fault is counted; a miss may be
pub record CountsNoFault (old new : StoreState) : Type 0 where
  pub read_faults : new.read_faults ≡ old.read_faults
  pub write_faults : new.write_faults ≡ old.write_faults

-- a call that reads leaves the files and what is written, and no count falls
pub record Reads (old new : StoreState) : Type 0 where
  pub files : new.files ≡ old.files
  pub writing : new.writing ≡ old.writing
  pub write_faults : new.write_faults ≡ old.write_faults
  pub read_faults : old.read_faults ≤ new.read_faults
  pub misses : old.misses ≤ new.misses

-- a call that writes leaves the counts of reading, and no count falls
pub record Writes (old new : StoreState) : Type 0 where
  pub read_faults : new.read_faults ≡ old.read_faults
  pub misses : new.misses ≡ old.misses
  pub write_faults : old.write_faults ≤ new.write_faults
  -- it goes on to tell its files, or not to
  pub reports : is_some new.files ≡ is_some old.files

-- the file is there, and the rest is its bytes
abbrev pub Opens : StoreState → List ℕ → StoreState → Type 0
Opens old name new = IfSome old.files (λ files. IsSome (get files name) × (new.rest ≡ get files name))

-- no file has the name
abbrev pub Misses : StoreState → List ℕ → Type 0
Misses old name = IfSome old.files (λ files. get files name ≡ None)

-- n bytes come from the front of the rest, and none only at its end
abbrev pub Takes : StoreState → ℕ → List ℕ → StoreState → Type 0
Takes old n piece new =
    IfSome old.rest (λ rest. (n ≤ length rest) × (take n piece ≡ take n rest) × (new.rest ≡ Some (drop n rest)) × (n ≡ 0 → 0 < length piece → rest ≡ []))

-- nothing is left of the file that is read
abbrev pub IsSpent : StoreState → Type 0
IsSpent state = IfSome state.rest (λ rest. rest ≡ [])

-- the file is there and empty, and it is the one that is written
abbrev pub Begins : StoreState → List ℕ → StoreState → Type 0
Begins old name new = (new.writing ≡ Some name) × IfSome old.files (λ files. new.files ≡ Some (insert files name []))

-- the bytes go to the end of the file that is written
abbrev pub Appends : StoreState → List ℕ → StoreState → Type 0
Appends old bytes new = IfSome old.files (λ files. IfSome old.writing (λ name. new.files ≡ Some (appended files name bytes)))

-- ---- sinks

-- what is beside a sink, which no call of it changes
pub record Around : Type 0 where
  pub files : Option Files
  pub writing : Option (List ℕ)
  pub read_faults : ℕ
  pub misses : ℕ
  -- the value that it writes through, if it holds a borrow of one
  pub place : Option GName

-- what is reported of a sink
pub record SinkState : Type 0 where
  -- the bytes that it took, where it tells them
  pub written : Option (List ℕ)
  pub faults : ℕ
  pub around : Around

-- nothing is beside it
abbrev pub alone : Around
alone = record { files = Some empty; writing = None; read_faults = 0; misses = 0; place = None }

-- the bytes go to the end
abbrev pub Puts : SinkState → List ℕ → SinkState → Type 0
Puts old bytes new = IfSome old.written (λ before. new.written ≡ Some (before ++ bytes))

-- a first part of the bytes goes to the end
abbrev pub PutsSome : SinkState → List ℕ → SinkState → Type 0
PutsSome old bytes new = IfSome old.written (λ before. (n : ℕ) × (new.written ≡ Some (before ++ take n bytes)))

-- ---- the file that a store writes, as a sink

-- all files but one
abbrev pub others : Files → List ℕ → Files
others files name = remove files name

-- the bytes of the file that is written
abbrev pub written_of : StoreState → Option (List ℕ)
written_of state = option_and_then (λ files. option_and_then (get files) state.writing) state.files

-- the files beside it
abbrev pub beside_of : StoreState → Option Files
beside_of state = option_and_then (λ files. option_map (others files) state.writing) state.files

abbrev pub sink_of : GName → StoreState → SinkState
sink_of place state = record {
  written = written_of state;
  faults = state.write_faults;
  around = record {
    files = beside_of state;
    writing = state.writing;
    read_faults = state.read_faults;
    misses = state.misses;
    place = Some place;
  };
}
