-- What is reported of the system's files.
use Rattle.std.specs.Prelude.{ℕ, List, [], Bool, false, if◌then◌else◌, Option, Some, None}
use Rattle.surgeon_store.specs.Outside.{StoreState}

-- no bytes: whether a file is read, which one is written, and the counts
pub record DiskState : Type 0 where
  pub is_reading : Bool
  pub writing : Option (List ℕ)
  pub read_faults : ℕ
  pub write_faults : ℕ
  pub misses : ℕ

-- no file is begun, and nothing went wrong
abbrev pub untouched : DiskState
untouched = record { is_reading = false; writing = None; read_faults = 0; write_faults = 0; misses = 0 }

-- nothing is left where no file is read, and nothing is reported where one is
abbrev pub disk_store_of : DiskState → StoreState
disk_store_of disk = record {
  files = None;
  rest = if disk.is_reading then None else Some [];
  writing = disk.writing;
  read_faults = disk.read_faults;
  write_faults = disk.write_faults;
  misses = disk.misses;
}
