-- The rule of the command line word by word: whether `--` came, whether the flag came, and the script.
use Rattle.std.specs.Prelude.{Bool, true, false, List, [], ◌∷◌, Option, Some, None, if◌then◌else◌}
use Rattle.plain_model.specs.Paths.{Bytes}
use Rattle.history_machine.specs.Words.{Asked, is_dashes, is_flag, is_option}

pub data Kind : Type 0 where
  Dashes : Kind
  Flag : Kind
  -- an option that isn't the flag
  Fault : Kind
  Name : Kind

-- what a word is before the first `--`
abbrev pub kind_of : Bytes → Kind
kind_of word = if is_dashes word then Dashes else if is_flag word then Flag else if is_option word then Fault else Name

-- a name is the script, unless there is one
abbrev pub as_name : Bytes → Option Bytes → (Option Bytes → Option Asked) → Option Asked
as_name word None next = next (Some word)
as_name word (Some script) next = None

-- the flag comes once at most
abbrev pub as_flag : Bool → (Bool → Option Asked) → Option Asked
as_flag false next = next true
as_flag true next = None

abbrev pub by_kind : Kind → Bool → Option Bytes → Bytes → (Bool → Bool → Option Bytes → Option Asked) → Option Asked
by_kind Dashes keep script word next = next true keep script
by_kind Flag keep script word next = as_flag keep (λ k. next false k script)
by_kind Fault keep script word next = None
by_kind Name keep script word next = as_name word script (next false keep)

abbrev pub with_found : Bool → Option Bytes → Option Asked
with_found keep None = None
with_found keep (Some script) = Some (record { keep_going = keep; script = script })

-- what the words ask for from here on
abbrev pub asked_from : List Bytes → Bool → Bool → Option Bytes → Option Asked
asked_from [] after keep script = with_found keep script
asked_from (word ∷ words) false keep script = by_kind (kind_of word) keep script word (asked_from words)
asked_from (word ∷ words) true keep script = as_name word script (asked_from words true keep)
