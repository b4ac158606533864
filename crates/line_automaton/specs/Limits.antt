-- An automaton that looks besides whether a line passes a limit.
use Rattle.std.specs.Prelude.{◌≡◌, ℕ, true, ◌∷◌, ◌++◌, Option, Some, None, Result, Ok, Err}
use Rattle.plain_model.specs.Paths.{Bytes}
use Rattle.line_automaton.specs.Machine.{Next, Automaton, all, begun, run, first_lines}
use Rattle.line_automaton.specs.Machine.Mode.{InLine}
use Rattle.line_automaton.specs.Machine.Machine.{At, Stopped}

-- why a line is refused: it has a defect, or it passes a limit
pub data Cause (Why Limit : Type 0) : Type 0 where
  Defect : Why → Cause Why Limit
  Exceeds : Limit → Cause Why Limit

-- by a line and the state after it, the limit that it passes, if it passes one
module _ {State Why Limit : Type 0} (a : Automaton State Why)
    (passed : Bytes → State → Option Limit) where
  -- a step that was made is where it passes no limit
  abbrev pub within : State × Next → Option Limit → Result (State × Next) (Cause Why Limit)
  within made None = Ok made
  within made (Some limit) = Err (Exceeds limit)

  -- a defect comes before a limit
  abbrev pub limited_step : Bytes → Result (State × Next) Why
      → Result (State × Next) (Cause Why Limit)
  limited_step line (Err why) = Err (Defect why)
  limited_step line (Ok made) = within made (passed line made.0)

  -- the automaton with its limits
  abbrev pub limited : Automaton State (Cause Why Limit)
  limited = record {
    start = a.start;
    step = λ judge s line. limited_step line (a.step judge s line);
    arrived = a.arrived;
    is_expected = a.is_expected;
  }

  -- no line through n is refused
  abbrev pub IsReadThrough : ℕ → Bytes → Type 0
  IsReadThrough n bytes =
      (k : ℕ) (why : Why) → run a all (begun a) (first_lines n bytes) ≡ Stopped k why → ⊥

  -- Line n of a text passes the limit, though the lines through n are read: after these bytes the
  -- line has come in the state old, it makes the state new of it, and this step passes the limit.
  pub record ExceedsLimit (bytes : Bytes) (n : ℕ) (limit : Limit) : Type 0 where
    pub is_read : IsReadThrough n bytes
    pub before : Bytes
    pub line : Bytes
    pub after : Bytes
    pub old : State
    pub new : State
    pub next : Next
    pub is_there : first_lines n bytes ≡ before ++ 10 ∷ after
    pub reached : run a all (begun a) before ≡ At n (InLine line) old
    pub made : a.step true old line ≡ Ok (new, next)
    pub passes : passed line new ≡ Some limit
