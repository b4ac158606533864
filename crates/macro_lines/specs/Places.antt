-- Places for words in a line, `{0}` to `{99}`. (reposurgeon manual, `define`, `do`; which places are filled: own)
use Rattle.std.specs.Prelude.{ℕ, zero, suc, ◌+◌, ◌==◌, ◌&&◌, Bool, false, List, [], ◌∷◌, ◌++◌, length, slice_get, Option, Some, None, Result, Ok, Err, if◌then◌else◌}
use Rattle.plain_model.specs.Numbers.{is_digit, value_after}
use Rattle.plain_model.specs.Paths.{Bytes}
use Rattle.plain_model.specs.declared.fault.Fault.{Fault}
use Rattle.plain_model.specs.declared.fault.Fault.TheVariants as fault
use Rattle.script_lines.specs.Answering.{◌>>=◌}

abbrev pub begins_close : Bytes → Bool
begins_close [] = false
begins_close (b ∷ bs) = b == 125

-- after one digit: it is alone before a `}`, or another comes before it
abbrev pub digits_with : ℕ → Bytes → Option Bytes
digits_with a [] = None
digits_with a (b ∷ bs) = if b == 125 then Some (a ∷ []) else if is_digit b && begins_close bs then Some (a ∷ b ∷ []) else None

-- the one or two digits with a `}` after them that a text begins with
abbrev pub digits_at : Bytes → Option Bytes
digits_at [] = None
digits_at (a ∷ bs) = if is_digit a then digits_with a bs else None

-- the digits of the place that begins with this byte, if it does
abbrev pub place_at : ℕ → Bytes → Option Bytes
place_at b bs = if b == 123 then digits_at bs else None

-- how many bytes of the place are after its `{`
abbrev pub left_of : Option Bytes → ℕ
left_of None = 0
left_of (Some digits) = length digits + 1

-- the word of these digits; words are counted from 0, and one that is missing is reported as its place is spelled
abbrev pub word_of : Bytes → Option Bytes → Result Bytes Fault
word_of digits None = Err (fault.BadWords (123 ∷ (digits ++ 125 ∷ [])))
word_of digits (Some word) = Ok word

-- what is there for a byte: itself, or the word of the place that it begins
abbrev pub filled_at : List Bytes → ℕ → Option Bytes → Result Bytes Fault
filled_at words b None = Ok (b ∷ [])
filled_at words b (Some digits) = word_of digits (slice_get words (value_after 0 digits))

-- a text before another that may be refused
abbrev pub before : Bytes → Result Bytes Fault → Result Bytes Fault
before front rest = rest >>= λ more. Ok (front ++ more)

-- the rest of a line whose first bytes are passed over; what a word puts in isn't looked at again
abbrev pub filled_from : List Bytes → ℕ → Bytes → Result Bytes Fault
filled_from words n [] = Ok []
filled_from words (suc n) (b ∷ bs) = filled_from words n bs
filled_from words zero (b ∷ bs) =
    filled_at words b (place_at b bs) >>= λ front. before front (filled_from words (left_of (place_at b bs)) bs)

-- a line with words in its places
unfoldable pub filled : List Bytes → Bytes → Result Bytes Fault
filled words line = filled_from words 0 line
