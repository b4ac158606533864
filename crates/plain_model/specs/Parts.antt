-- Parts of a text, each cut off where it is there: lines, words, numbers, and who and when.
use Rattle.std.specs.Prelude.{◌≡◌, ◌⊎◌, ◌≤◌, ◌++◌, IsTrue, ℕ, ◌+◌, ◌-◌, ◌*◌, ◌==◌, ◌&&◌, ◌||◌, not, nat_le, nat_eq, Bool, true, false, [], ◌∷◌, length, take, drop, get_or, Option, Some, None, codes, if◌then◌else◌}
use Rattle.std.specs.List.{position, list_all}
use Rattle.std.specs.Cmp.Lexicographic.{pointwise}
use Rattle.plain_model.specs.declared.limit.TheConstants.{MAX_MARK, MAX_SECONDS}
use Rattle.plain_model.specs.declared.person.When.{When}
use Rattle.plain_model.specs.Marks.{as_mark}
use Rattle.plain_model.specs.Numbers.{is_digit}
use Rattle.plain_model.specs.Paths.{Bytes, is_empty}
use Rattle.plain_model.specs.People.{is_clean}

-- a step that may not be possible
infixl 10 ◌>>=◌
abbrev pub ◌>>=◌ : {A B : Type 0} → Option A → (A → Option B) → Option B
(Some x) >>= f = f x
None >>= f = None

-- ---- parts of a text

abbrev pub has_no_lf : Bytes → Bool
has_no_lf line = list_all (λ b. not (b == 10)) line

-- the text begins with the word
abbrev pub begins : Bytes → Bytes → Bool
begins [] text = true
begins (w ∷ word) [] = false
begins (w ∷ word) (b ∷ text) = (w == b) && begins word text

abbrev pub cut_parts : Bytes → Option ℕ → Option (Bytes × Bytes)
cut_parts text (Some i) = Some (take i text, drop (i + 1) text)
cut_parts text None = None

-- what is before the first such byte, and what is after it
unfoldable pub cut_at : ℕ → Bytes → Option (Bytes × Bytes)
cut_at byte text = cut_parts text (position (λ b. b == byte) text)

abbrev pub is_lf : ℕ → Bool
is_lf b = b == 10

abbrev pub line_cut : Bytes → Option ℕ → Bytes × Bytes
line_cut text (Some i) = (take i text, drop (i + 1) text)
line_cut text None = (text, [])

-- the first line, and what follows it
unfoldable pub line_at : Bytes → Option (Bytes × Bytes)
line_at [] = None
line_at (b ∷ bs) = Some (line_cut (b ∷ bs) (position is_lf (b ∷ bs)))

-- a text begins with a line: an LF ends it, or the text does; what follows is the rest
abbrev pub IsLine : Bytes → Bytes → Bytes → Type 0
IsLine text line rest = IsTrue (has_no_lf line) × ((text ≡ line ++ 10 ∷ rest) ⊎ ((text ≡ line) × (rest ≡ []) × (1 ≤ length line)))

-- what is after a word
unfoldable pub rest_after : Bytes → Bytes → Option Bytes
rest_after word text = if pointwise nat_eq (take (length word) text) word then Some (drop (length word) text) else None

abbrev pub skip_lf : Bytes → Bytes
skip_lf [] = []
skip_lf (b ∷ bs) = if b == 10 then bs else b ∷ bs

-- ---- numbers and marks

-- the number that digits say after others, which say n
abbrev pub value_from : ℕ → Bytes → Option ℕ
value_from n [] = Some n
value_from n (d ∷ ds) = if is_digit d then value_from (10 * n + (d - 48)) ds else None

unfoldable pub number_of : Bytes → Option ℕ
number_of [] = None
number_of (d ∷ ds) = value_from 0 (d ∷ ds)

abbrev pub at_most : ℕ → ℕ → Option ℕ
at_most most n = if nat_le n most then Some n else None

-- the number that digits say, if it is no greater than one
unfoldable pub number_within : ℕ → Bytes → Option ℕ
number_within most digits = number_of digits >>= λ n. at_most most n

-- the mark that digits say
unfoldable pub mark_of : Bytes → Option ℕ
mark_of digits = number_within MAX_MARK digits >>= λ m. as_mark m

-- ---- people

-- the name before an email: nothing, or what is before a last space
unfoldable pub name_of : Bytes → Option Bytes
name_of part = if is_empty part then Some [] else if get_or part (length part - 1) 0 == 32 then Some (take (length part - 1) part) else None

-- a sign and four digits after seconds
unfoldable pub zone_of : ℕ → Bytes → Option When
zone_of seconds [] = None
zone_of seconds (sign ∷ zone) =
    if (sign == 43 || sign == 45) && (length zone == 4) then (number_within 9999 zone >>= λ offset. Some (record { seconds = seconds; minus = sign == 45; offset = offset })) else None

-- seconds, a sign and four digits
unfoldable pub when_of : Bytes → Option When
when_of text = cut_at 32 text >>= λ c. number_within MAX_SECONDS c.0 >>= λ seconds. zone_of seconds c.1

-- the moment after an email and a space
unfoldable pub when_after : Bytes → Option When
when_after tail = rest_after (codes " ") tail >>= λ text. when_of text

-- a name, an email and what follows the email
unfoldable pub person_parts : Bytes → Option (Bytes × Bytes × Bytes)
person_parts text = cut_at 60 text >>= λ a. cut_at 62 a.1 >>= λ b. name_of a.0 >>= λ name.
    if is_clean name && is_clean b.0 then Some (name, b.0, b.1) else None
