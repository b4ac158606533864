-- Aliases that are kept beside the events: each with the commit that it names, in the order in which they came.
use Rattle.std.specs.Prelude.{◌≡◌, ℕ, ◌==◌, List, [], Option, unwrap_or}
use Rattle.std.specs.Map.{lookup}
use Rattle.plain_model.specs.declared.event.PlainEvent.{PlainEvent}
use Rattle.stream_grammar.specs.Known.{Known, aliases_for}
use Rattle.stream_grammar.specs.Known.Open.{Nothing}

-- each mark finds the commit of the first alias that has it
abbrev pub IsIndex : List (ℕ × ℕ) → (ℕ → Option ℕ) → Type 0
IsIndex aliases commit = (mark : ℕ) → commit mark ≡ lookup (λ a. a == mark) aliases

-- each commit has its aliases
abbrev pub AreGrouped : List (ℕ × ℕ) → (ℕ → Option (List ℕ)) → Type 0
AreGrouped aliases group = (commit : ℕ) → unwrap_or (group commit) [] ≡ aliases_for commit aliases

-- what is known at the end of a stream, where no event is being read
abbrev pub finished : List PlainEvent → List (ℕ × ℕ) → Known
finished events aliases = record { events = events; current = Nothing; aliases = aliases }
