-- A small grammar, at which the laws of machines are: items, each with its data.
--
--     item NAME     an item; no two have one name
--     data COUNT    its data are so many bytes after this line
--     until WORD    its data are the lines up to one that is this word
--     end           nothing after it is looked at
use Rattle.std.specs.Prelude.{ℕ, ◌&&◌, nat_le, Bool, true, false, List, [], ◌∷◌, length, drop, codes, Option, Some, None, Result, Ok, Err, bytes_eq, if◌then◌else◌}
use Rattle.std.specs.List.{list_any}
use Rattle.plain_model.specs.Paths.{Bytes}
use Rattle.plain_model.specs.Parts.{number_of}
use Rattle.plain_model.specs.Fields.{first_word}
use Rattle.line_automaton.specs.Machine.{Next, Automaton}
use Rattle.line_automaton.specs.Machine.Next.{More, Block, Until, Over}
use Rattle.line_automaton.specs.Limits.{Cause, limited}

-- no such line; an item's data are expected; another item has the name; no number
pub data ItemDefect : Type 0 where
  UnknownLine : ItemDefect
  MissingData : ItemDefect
  RepeatedName : ItemDefect
  BadCount : ItemDefect

-- more than two items
pub data ItemLimit : Type 0 where
  TooManyItems : ItemLimit

-- whether an item's data are expected; the names so far; and all lines and data as they are, the last
-- first
pub record ItemsRead : Type 0 where
  pub expected : Bool
  pub names : List Bytes
  pub parts : List Bytes

-- one line more
abbrev pub with_part : ItemsRead → Bytes → ItemsRead
with_part s part = record s { parts = part ∷ s.parts }

-- an item's line, where its name is the first such
abbrev pub item_step : Bool → ItemsRead → Bytes → Bytes → Result (ItemsRead × Next) ItemDefect
item_step judge s line name =
    if judge && list_any (bytes_eq name) s.names then Err RepeatedName
    else Ok (record { expected = true; names = name ∷ s.names; parts = line ∷ s.parts }, More)

-- a line between items
abbrev pub between_step : Bool → ItemsRead → Bytes → Result (ItemsRead × Next) ItemDefect
between_step judge s line =
    if bytes_eq (first_word line) (codes "item") then item_step judge s line (drop 5 line) else
    if bytes_eq line (codes "end") then Ok (with_part s line, Over) else Err UnknownLine

-- so many bytes
abbrev pub counted_step : ItemsRead → Bytes → Option ℕ → Result (ItemsRead × Next) ItemDefect
counted_step s line None = Err BadCount
counted_step s line (Some n) = Ok (with_part s line, Block n)

-- the line after an item's
abbrev pub data_step : ItemsRead → Bytes → Result (ItemsRead × Next) ItemDefect
data_step s line =
    let word = first_word line in
    if bytes_eq word (codes "data") then counted_step s line (number_of (drop 5 line)) else
    if bytes_eq word (codes "until") then Ok (with_part s line, Until 6) else Err MissingData

-- the grammar: a line is after an item's line, or between items
abbrev pub example : Automaton ItemsRead ItemDefect
example = record {
  start = record { expected = false; names = []; parts = [] };
  step = λ judge s line. if s.expected then data_step s line else between_step judge s line;
  arrived = λ s bytes. record { expected = false; names = s.names; parts = bytes ∷ s.parts };
  is_expected = λ s. s.expected;
}

-- the limit that a line passes after which there are these items
abbrev pub items_passed : Bytes → ItemsRead → Option ItemLimit
items_passed line new = if nat_le (length new.names) 2 then None else Some TooManyItems

-- the grammar with two items at most
abbrev pub two_items : Automaton ItemsRead (Cause ItemDefect ItemLimit)
two_items = limited example items_passed

-- items of these names are read, each with its data; these are all lines and data, the last first
abbrev pub items : List Bytes → List Bytes → ItemsRead
items names parts = record { expected = false; names = names; parts = parts }
