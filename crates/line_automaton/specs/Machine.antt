-- Texts that are read line by line, with blocks of bytes between the lines, whatever the lines
-- mean; and the first defect of such a text (own; blocks as in git-fast-import, `data`).
use Rattle.std.specs.Prelude.{◌≡◌, ℕ, zero, suc, pred, ◌+◌, Bool, true, false, not, [], ◌∷◌, ◌++◌, drop, Result, Ok, Err, nat_le, bytes_eq, if◌then◌else◌}
use Rattle.plain_model.specs.Paths.{Bytes}
use Rattle.plain_model.specs.Parts.{is_lf}

-- ---- what lines mean

-- What follows a line: the next line; a block of so many bytes; a block of lines up to one that
-- equals what this line has from that place on; or nothing that is looked at.
pub data Next : Type 0 where
  More : Next
  Block : ℕ → Next
  Until : ℕ → Next
  Over : Next

-- The meaning of lines. What was read so far is a state; a line makes another of it, or has a
-- defect.
pub record Automaton (State Why : Type 0) : Type 0 where
  -- the state before the first line
  pub start : State
  -- what a line does; with the flag `judge` its fields are looked at, and else only whether such a
  -- line may be there
  pub step : Bool → State → Bytes → Result (State × Next) Why
  -- the state when the block after a line is there
  pub arrived : State → Bytes → State
  -- a text can't end here: a line must follow
  pub is_expected : State → Bool

-- ---- the machine that reads

-- Where in a text the next byte is:
--   in a line, of which this has come;
--   in a block that follows the line of this number, wants one byte and so many more, and of which
--   these have come;
--   after a block, where a line has begun unless the block ended in an LF;
--   in a block up to a delimiter that follows the line of this number: the delimiter, the lines
--   that have come, and what has come of the next one;
--   after everything that is looked at.
pub data Mode : Type 0 where
  InLine : Bytes → Mode
  InBlock : ℕ → ℕ → Bytes → Mode
  After : Bool → Mode
  InDelimited : ℕ → Bytes → Bytes → Bytes → Mode
  Ended : Mode

-- the number of the line that the next byte is in, where it is, and what was read so far;
-- or the number of the first line that is refused, and why
pub data Machine (State Why : Type 0) : Type 0 where
  At : ℕ → Mode → State → Machine State Why
  Stopped : ℕ → Why → Machine State Why

-- A text is read; or its line of this number is refused; or it ends too early, in the block after
-- the line of this number or where a line of this number is expected.
pub data Outcome (State Why : Type 0) : Type 0 where
  Reads : State → Outcome State Why
  Refuses : ℕ → Why → Outcome State Why
  Misses : ℕ → Outcome State Why

-- the number of the line in which the byte after a byte of line n is
abbrev pub number_past : ℕ → ℕ → ℕ
number_past n b = if is_lf b then n + 1 else n

module _ {State Why : Type 0} (a : Automaton State Why) where
  -- where the machine goes after line n, by what follows it
  abbrev pub entered : ℕ → Bytes → Next → State → Mode × State
  entered n line More s = (InLine [], s)
  entered n line (Block zero) s = (After false, a.arrived s [])
  entered n line (Block (suc k)) s = (InBlock n k [], s)
  entered n line (Until k) s = (InDelimited n (drop k line) [] [], s)
  entered n line Over s = (Ended, s)

  -- the same, unless the line is refused
  abbrev pub answered : ℕ → Bytes → Result (State × Next) Why → Result (Mode × State) Why
  answered n line (Err why) = Err why
  answered n line (Ok made) = Ok (entered n line made.1 made.0)

  -- where it goes after a line of a block up to a delimiter: that line, or one more of the block
  abbrev pub compared : ℕ → Bytes → Bytes → Bytes → State → Mode × State
  compared from delimiter bytes line s =
      if bytes_eq line delimiter then (After false, a.arrived s bytes)
      else (InDelimited from delimiter (bytes ++ line ++ 10 ∷ []) [], s)

  -- what a byte of line n does
  abbrev pub act : Bool → ℕ → Mode → State → ℕ → Result (Mode × State) Why
  act judge n (InLine text) s b =
      if is_lf b then answered n text (a.step judge s text) else Ok (InLine (text ++ b ∷ []), s)
  act judge n (InBlock from zero bytes) s b =
      Ok (After (not (is_lf b)), a.arrived s (bytes ++ b ∷ []))
  act judge n (InBlock from (suc k) bytes) s b = Ok (InBlock from k (bytes ++ b ∷ []), s)
  act judge n (After inside) s b = Ok (InLine (if is_lf b then [] else b ∷ []), s)
  act judge n (InDelimited from delimiter bytes text) s b =
      if is_lf b then Ok (compared from delimiter bytes text s)
      else Ok (InDelimited from delimiter bytes (text ++ b ∷ []), s)
  act judge n Ended s b = Ok (Ended, s)

  -- from line n the machine goes on in line m, or it stops at line n
  abbrev pub moved : ℕ → ℕ → Result (Mode × State) Why → Machine State Why
  moved n m (Ok place) = At m place.0 place.1
  moved n m (Err why) = Stopped n why

  -- one byte more; the lines whose numbers pass the test are judged
  abbrev pub feed : (ℕ → Bool) → Machine State Why → ℕ → Machine State Why
  feed judged (At n mode s) b = moved n (number_past n b) (act (judged n) n mode s b)
  feed judged (Stopped n why) b = Stopped n why

  -- one byte after another
  abbrev pub run : (ℕ → Bool) → Machine State Why → Bytes → Machine State Why
  run judged m [] = m
  run judged m (b ∷ bs) = run judged (feed judged m b) bs

  -- at the end of a text: where its last line misses an LF, it gets one
  abbrev pub closed : (ℕ → Bool) → Machine State Why → Machine State Why
  closed judged (At n (InLine (b ∷ bs)) s) = feed judged (At n (InLine (b ∷ bs)) s) 10
  closed judged (At n (InDelimited from delimiter bytes (b ∷ bs)) s) =
      feed judged (At n (InDelimited from delimiter bytes (b ∷ bs)) s) 10
  closed judged m = m

  -- what a text answers that ends here
  abbrev pub verdict : Machine State Why → Outcome State Why
  verdict (At n (InLine text) s) = if a.is_expected s then Misses n else Reads s
  verdict (At n (InBlock from k bytes) s) = Misses from
  verdict (At n (After inside) s) =
      if a.is_expected s then Misses (if inside then n + 1 else n) else Reads s
  verdict (At n (InDelimited from delimiter bytes text) s) = Misses from
  verdict (At n Ended s) = Reads s
  verdict (Stopped n why) = Refuses n why

  -- before the first byte
  abbrev pub begun : Machine State Why
  begun = At 1 (InLine []) a.start

  -- what the rest of a text answers, where the machine has come so far
  abbrev pub outcome_from : (ℕ → Bool) → Machine State Why → Bytes → Outcome State Why
  outcome_from judged m rest = verdict (closed judged (run judged m rest))

  -- what a text answers
  abbrev pub outcome : (ℕ → Bool) → Bytes → Outcome State Why
  outcome judged bytes = outcome_from judged begun bytes

-- ---- which lines are judged

-- each line: this is how a text is read
abbrev pub all : ℕ → Bool
all n = true

-- no line: only the form counts
abbrev pub none : ℕ → Bool
none n = false

-- the lines through n
abbrev pub up_to : ℕ → ℕ → Bool
up_to n k = nat_le k n

-- ---- the first lines of a text

-- the first n lines, each with its LF, which is put after a last line that misses it; the flag says
-- that the first of them has begun
abbrev pub through : Bool → ℕ → Bytes → Bytes
through inside zero bytes = []
through inside (suc n) [] = if inside then 10 ∷ [] else []
through inside (suc n) (b ∷ bs) =
    b ∷ (if is_lf b then through false n bs else through true (suc n) bs)

-- the first n lines, each with its LF
abbrev pub first_lines : ℕ → Bytes → Bytes
first_lines n bytes = through false n bytes

-- the texts have the same first n lines
abbrev pub HaveSameLines : ℕ → Bytes → Bytes → Type 0
HaveSameLines n x y = first_lines n x ≡ first_lines n y

-- ---- the first defect

module _ {State Why : Type 0} (a : Automaton State Why) where
  -- the text has the grammar's form to its end, and no field in its lines through n has a defect
  abbrev pub IsCleanThrough : ℕ → Bytes → Type 0
  IsCleanThrough n bytes = (s : State) × (outcome a (up_to n) bytes ≡ Reads s)

  -- the lines before n are read on, and line n isn't
  abbrev pub Refused : Bytes → ℕ → Why → Type 0
  Refused bytes n why = run a all (begun a) (first_lines n bytes) ≡ Stopped n why

  -- some text with the same lines before line n is clean through them
  abbrev pub IsCleanBefore : Bytes → ℕ → Type 0
  IsCleanBefore bytes n =
      (other : Bytes) × HaveSameLines (pred n) bytes other × IsCleanThrough (pred n) other

  -- no text with the same lines through line n is clean through them
  abbrev pub NoneIsClean : Bytes → ℕ → Type 0
  NoneIsClean bytes n = (other : Bytes) → HaveSameLines n bytes other → IsCleanThrough n other → ⊥

  -- The first defect of a text is in line n: what is before can be completed to a clean text;
  -- with line n it can't; and what is wrong is what the step says that refuses line n.
  pub record Stops (bytes : Bytes) (n : ℕ) (why : Why) : Type 0 where
    pub before : IsCleanBefore bytes n
    pub here : NoneIsClean bytes n
    pub entry : Refused bytes n why

  -- The text ends too early: what is before line n can be completed to a clean text, and the
  -- text misses line n, or the block after it.
  pub record EndsEarly (bytes : Bytes) (n : ℕ) : Type 0 where
    pub before : IsCleanBefore bytes n
    pub entry : outcome a all bytes ≡ Misses n

  -- What a grammar must have for this: from each state some lines lead to an end, as far as the
  -- form of lines goes. To a text that is read they needn't lead: a line may be expected whose fields
  -- can't be right, since they name what isn't there.
  pub record Completes : Type 0 where
    pub complete : State → Bytes
    pub completes : (n : ℕ) (s : State)
        → (last : State) × (outcome_from a none (At n (InLine []) s) (complete s) ≡ Reads last)
