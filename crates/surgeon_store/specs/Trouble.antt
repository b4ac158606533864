-- What is said of a fault of the outside: a line for standard error. (own)
use Rattle.std.specs.Prelude.{ℕ, ℤ, List, [], ◌∷◌, ◌++◌, Option, Some, None, codes, unsigned_abs, unwrap_or, if◌then◌else◌, ◌==◌}
use Rattle.std.specs.Fmt.{decimal}
use Rattle.std.specs.IoError.{error_kind, raw_os_error}
use Rattle.std.specs.declared.io.Error.{Error}
use Rattle.std.specs.declared.io.ErrorKind.{ErrorKind}
use Rattle.std.specs.declared.io.ErrorKind.TheVariants as kind
use Rattle.surgeon_store.specs.declared.trouble.Doing.{Doing}
use Rattle.surgeon_store.specs.declared.trouble.Doing.TheVariants as doing
use Rattle.surgeon_store.specs.declared.trouble.Trouble.{Trouble}

-- the reasons that have words here
abbrev pub kind_text : ErrorKind → Option (List ℕ)
kind_text kind.PermissionDenied = Some (codes "permission denied")
kind_text kind.NotFound = Some (codes "no such file or folder")
kind_text kind.NotADirectory = Some (codes "a part of its path is no folder")
kind_text kind.IsADirectory = Some (codes "it is a folder")
kind_text kind.InvalidFilename = Some (codes "its name is too long")
kind_text kind.FilesystemLoop = Some (codes "too many links in its path")
kind_text kind.ReadOnlyFilesystem = Some (codes "the file system is read-only")
kind_text kind.AlreadyExists = Some (codes "no name is left for a new file beside it")
kind_text kind.StorageFull = Some (codes "no space left on the device")
kind_text kind.QuotaExceeded = Some (codes "the quota is used up")
kind_text kind.FileTooLarge = Some (codes "the file is too large")
kind_text kind.BrokenPipe = Some (codes "broken pipe")
kind_text kind.WouldBlock = Some (codes "it isn't ready")
kind_text kind.WriteZero = Some (codes "it takes no bytes")
kind_text kind.Interrupted = Some (codes "interrupted too often")
kind_text kind.TimedOut = Some (codes "timed out")
kind_text kind.ResourceBusy = Some (codes "it is in use")
kind_text kind.ExecutableFileBusy = Some (codes "it is a program that runs")
kind_text kind.StaleNetworkFileHandle = Some (codes "stale network file handle")
kind_text kind.InvalidInput = Some (codes "invalid argument")
kind_text kind.Unsupported = Some (codes "not supported")
kind_text kind.OutOfMemory = Some (codes "out of memory")
kind_text _ = None

-- the system's number of an error; 0 where it has none
abbrev pub error_number : Option ℤ → ℕ
error_number (Some code) = unsigned_abs code
error_number None = 0

-- an error of a kind without words: two are distinguished by their numbers on Linux
abbrev pub error_text : ℕ → List ℕ
error_text number =
    if number == 5 then codes "input or output error"
    else if number == 9 then codes "it is closed"
    else codes "error " ++ decimal number ++ codes " of the system"

-- why a call failed
abbrev pub reason_text : Error → List ℕ
reason_text error = unwrap_or (kind_text (error_kind error)) (error_text (error_number (raw_os_error error)))

-- what was done, and with which file, if its name is known
abbrev pub doing_text : Doing → Option (List ℕ) → List ℕ
doing_text doing.Reading name = codes "read " ++ unwrap_or name (codes "a file")
doing_text doing.Writing name = codes "write " ++ unwrap_or name (codes "a file")
doing_text doing.Printing _ = codes "write to standard output"

-- the line
abbrev pub trouble_line : Trouble → List ℕ
trouble_line trouble = codes "surgeon: can't " ++ doing_text trouble.doing trouble.name
    ++ codes ": " ++ reason_text trouble.reason ++ 10 ∷ []
