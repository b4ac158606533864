-- Boxes of messages: their lines, and where messages begin and end (reposurgeon manual, `msgout`, `msgin`; the form: own).
use Rattle.std.specs.Prelude.{ℕ, ◌+◌, ◌==◌, ◌&&◌, Bool, List, [], ◌∷◌, ◌++◌, map, replicate, Option, Some, None, option_map, bytes_eq, if◌then◌else◌}
use Rattle.plain_model.specs.Paths.{Bytes, is_empty}

-- ---- lines

-- a byte in front of the first of some lines
abbrev pub in_first : ℕ → List Bytes → List Bytes
in_first b [] = (b ∷ []) ∷ []
in_first b (line ∷ lines) = (b ∷ line) ∷ lines

-- the lines of a text, cut at LF alone; a last one without LF counts where it has bytes
abbrev pub lines_in : Bytes → List Bytes
lines_in [] = []
lines_in (b ∷ bs) = if b == 10 then [] ∷ lines_in bs else in_first b (lines_in bs)

-- lines with one LF between two
abbrev pub joined : List Bytes → Bytes
joined [] = []
joined (line ∷ []) = line
joined (line ∷ next ∷ lines) = line ++ 10 ∷ joined (next ∷ lines)

-- ---- lines of hyphens

-- the line that begins a message: 78 hyphens
unfoldable pub rule : Bytes
rule = replicate 78 45

abbrev pub is_rule : Bytes → Bool
is_rule line = bytes_eq line rule

-- any number of `>` and then 78 hyphens
abbrev pub is_ruled : Bytes → Bool
is_ruled [] = is_rule []
is_ruled (b ∷ bs) = if b == 62 then is_ruled bs else is_rule (b ∷ bs)

-- how a line of a comment is written in a body: such a line gets one more `>` in front
abbrev pub quoted : Bytes → Bytes
quoted line = if is_ruled line then 62 ∷ line else line

-- the line of a comment that a line of a body stands for: one `>` is taken away where more, and then 78 hyphens, may follow
abbrev pub unquoted : Bytes → Bytes
unquoted [] = []
unquoted (b ∷ bs) = if (b == 62) && is_ruled bs then bs else b ∷ bs

-- the comment that the lines of a body stand for: the last LF is no part of it
abbrev pub comment_in : List Bytes → Bytes
comment_in lines = joined (map unquoted lines)

-- ---- messages

-- a message: the number of its line of hyphens, its header lines with their numbers, and the lines of its body; none where the
-- box ends before the empty line
pub record Message : Type 0 where
  pub line : ℕ
  pub headers : List (ℕ × Bytes)
  pub body : Option (List Bytes)

-- where a line of a box is: among the header lines of a message, or in its body. What is before the first line of hyphens counts as
-- a body.
pub data Part : Type 0 where
  InHeaders : Part
  InBody : Part

-- what is from some line on: the rest of the header lines or of the body, and the messages after it
pub record Rest : Type 0 where
  pub headers : List (ℕ × Bytes)
  pub body : Option (List Bytes)
  pub later : List Message

-- the end of a box
abbrev pub at_end : Part → Rest
at_end InHeaders = record { headers = []; body = None; later = [] }
at_end InBody = record { headers = []; body = Some []; later = [] }

-- an empty line ends header lines, and a line of hyphens ends a body
abbrev pub part_after : Part → Bytes → Part
part_after InHeaders line = if is_empty line then InBody else InHeaders
part_after InBody line = if is_rule line then InHeaders else InBody

-- the n-th line, before what is after it
abbrev pub before : Part → ℕ → Bytes → Rest → Rest
before InHeaders n line rest = if is_empty line then rest else record rest { headers = (n, line) ∷ rest.headers }
before InBody n line rest =
    if is_rule line then record {
      headers = [];
      body = Some [];
      later = record { line = n; headers = rest.headers; body = rest.body } ∷ rest.later;
    }
    else record rest { body = option_map (λ lines. line ∷ lines) rest.body }

-- what is from the n-th line on
abbrev pub rest_from : Part → ℕ → List Bytes → Rest
rest_from part n [] = at_end part
rest_from part n (line ∷ lines) = before part n line (rest_from (part_after part line) (n + 1) lines)

-- a box: its messages, and what is before the first of them
unfoldable pub box_in : Bytes → Rest
box_in bytes = rest_from InBody 1 (lines_in bytes)
