-- What `clap` has found of the command line.
use Rattle.std.specs.Prelude.{◌≡◌, ◌⊎◌, List, Option, Some, None, Result, MatchResult, codes, if◌then◌else◌}
use Rattle.clap.specs.Words.{Row, first_of, found_of, kind_of, one_of, rows_of}
use Rattle.clap.specs.declared.error.Error.{Error}
use Rattle.clap.specs.declared.error.kind.ErrorKind.TheVariants.{OutOfMemory}
use Rattle.clap.specs.declared.parser.matches.ArgMatches.{ArgMatches}
use Rattle.history_machine.specs.Words.{Asked}

-- the rows have the script, and say whether the flag is there
pub record Holds (asked : Asked) (rows : List Row) : Type 0 where
  pub script_is : first_of (codes "script") rows ≡ Some asked.script
  pub flag_is : one_of (codes "keep-going") rows ≡ Some (if asked.keep_going then codes "true" else codes "false")

-- what is found is what the words ask for; there is none where they aren't right, or memory is out
abbrev pub Parses : Option Asked → Result ArgMatches Error → Type 0
Parses line result = MatchResult result (λ m. (asked : Asked) × (line ≡ Some asked) × Holds asked (rows_of (found_of m))) (λ e. (kind_of e ≡ OutOfMemory) ⊎ (line ≡ None))
