-- What the fields of a stream's lines spell: a value, or the kind of the defect. Of several defects in a line the one
-- furthest to the left decides (git-fast-import, "Input format"; the kinds of defects: own).
use Rattle.std.specs.Prelude.{ℕ, ◌+◌, ◌-◌, ◌*◌, ◌==◌, ◌&&◌, ◌||◌, nat_le, Bool, [], ◌∷◌, ◌++◌, length, take, drop, Option, Some, None, Result, Ok, Err, IsTrue, codes, bytes_eq, if◌then◌else◌}
use Rattle.std.specs.List.{list_all}
use Rattle.plain_model.specs.declared.fault.Why.{Why}
use Rattle.plain_model.specs.declared.fault.Why.TheVariants.{UnknownLine, BadMark, BadName, BadPath, BadMode, BadPerson, BadWhen, BadData, Truncated, LeftOut}
use Rattle.plain_model.specs.declared.operation.Mode.{Mode}
use Rattle.plain_model.specs.declared.operation.Mode.TheVariants.{Plain, Executable, Link, Gitlink}
use Rattle.plain_model.specs.declared.path.PathFault.{PathFault}
use Rattle.plain_model.specs.declared.path.PathFault.TheVariants.{Empty}
use Rattle.plain_model.specs.declared.person.Signed.{Signed}
use Rattle.plain_model.specs.declared.person.When.{When}
use Rattle.plain_model.specs.declared.raw.Place.{Place}
use Rattle.plain_model.specs.declared.raw.Place.TheVariants.{Last, Source}
use Rattle.plain_model.specs.declared.raw.RawContent.{RawContent}
use Rattle.plain_model.specs.declared.raw.RawContent.TheVariants.{Marked, Object, Inline}
use Rattle.plain_model.specs.declared.raw.RawOp.{RawOp}
use Rattle.plain_model.specs.declared.raw.RawOp.TheVariants.{Modify, Delete, Copy, Rename, DeleteAll}
use Rattle.plain_model.specs.Marks.{IsMark}
use Rattle.plain_model.specs.Names.{is_name}
use Rattle.plain_model.specs.Objects.{is_hex, is_object, as_object}
use Rattle.plain_model.specs.Paths.{Bytes, IsPath, is_empty, path_fault}
use Rattle.plain_model.specs.Parts.{begins, skip_lf, number_of, mark_of, person_parts, when_after}

-- the next field is looked at where this one has no defect
infixl 10 ◌>>=◌
abbrev pub ◌>>=◌ : {A B : Type 0} → Result A Why → (A → Result B Why) → Result B Why
(Ok x) >>= f = f x
(Err why) >>= f = Err why

-- what was found, or this defect
abbrev pub or_defect : {A : Type 0} → Why → Option A → Result A Why
or_defect why (Some x) = Ok x
or_defect why None = Err why

-- ---- words

-- what is before the first space, or all of it
abbrev pub first_word : Bytes → Bytes
first_word [] = []
first_word (b ∷ bs) = if b == 32 then [] else b ∷ first_word bs

-- what is after the first space, if there is one
abbrev pub after_space : Bytes → Option Bytes
after_space [] = None
after_space (b ∷ bs) = if b == 32 then Some bs else after_space bs

-- ---- marks, names, people

-- a colon and a mark
unfoldable pub mark_in : Bytes → Result ℕ Why
mark_in [] = Err BadMark
mark_in (c ∷ digits) = if c == 58 then or_defect BadMark (mark_of digits) else Err BadMark

-- the name of a branch or a tag
unfoldable pub name_in : Bytes → Result Bytes Why
name_in text = if is_name text then Ok text else Err BadName

abbrev pub signed : Bytes × Bytes × Bytes → When → Signed
signed p when = record { person = record { name = p.0; email = p.1 }; when = when }

-- who, up to the `>`, and when, after it
unfoldable pub person_in : Bytes → Result Signed Why
person_in text = or_defect BadPerson (person_parts text) >>= λ p. or_defect BadWhen (when_after p.2) >>= λ when. Ok (signed p when)

-- ---- paths

-- what an escaped byte stands for
abbrev pub escaped : ℕ → Option ℕ
escaped c =
    if c == 97 then Some 7 else
    if c == 98 then Some 8 else
    if c == 102 then Some 12 else
    if c == 110 then Some 10 else
    if c == 114 then Some 13 else
    if c == 116 then Some 9 else
    if c == 118 then Some 11 else
    if c == 92 then Some 92 else
    if c == 34 then Some 34 else None

abbrev pub is_octal : ℕ → Bool
is_octal d = nat_le 48 d && nat_le d 55

-- where a quoted text is: between spellings of bytes, after a backslash, or after one or two octal digits
pub data Quoting : Type 0 where
  Between : Quoting
  Escaping : Quoting
  OneDigit : ℕ → Quoting
  TwoDigits : ℕ → Quoting

-- what the next byte of a quoted text does: it ends it, completes the spelling of a byte, goes on with one, or doesn't fit
pub data Turn : Type 0 where
  Ends : Turn
  Says : ℕ → Turn
  GoesOn : Quoting → Turn
  Unfit : Turn

abbrev pub says_or_unfit : Option ℕ → Turn
says_or_unfit None = Unfit
says_or_unfit (Some b) = Says b

-- three octal digits, the first of them 0 to 3, say a byte
unfoldable pub turn : Quoting → ℕ → Turn
turn Between b = if b == 34 then Ends else if b == 92 then GoesOn Escaping else Says b
turn Escaping b = if nat_le 48 b && nat_le b 51 then GoesOn (OneDigit (b - 48)) else says_or_unfit (escaped b)
turn (OneDigit n) b = if is_octal b then GoesOn (TwoDigits (8 * n + (b - 48))) else Unfit
turn (TwoDigits n) b = if is_octal b then Says (8 * n + (b - 48)) else Unfit

abbrev pub with_byte : ℕ → Option (Bytes × Bytes) → Option (Bytes × Bytes)
with_byte b None = None
with_byte b (Some x) = Some (b ∷ x.0, x.1)

-- a quoted text after its first quote: the bytes that it stands for, and what follows the quote that ends it
abbrev pub unquoted : Quoting → Bytes → Option (Bytes × Bytes)
unquoted q [] = None
unquoted q (b ∷ bs) = elim (turn q b) [
  | Ends ↦ Some ([], bs)
  | Says x ↦ with_byte x (unquoted Between bs)
  | GoesOn r ↦ unquoted r bs
  | Unfit ↦ None
]

-- a path by its bytes; an empty one is left out
abbrev pub judged_path : Bytes → Option PathFault → Result Bytes Why
judged_path bytes None = Ok bytes
judged_path bytes (Some Empty) = Err LeftOut
judged_path bytes (Some fault) = Err BadPath

unfoldable pub path_by : Bytes → Result Bytes Why
path_by bytes = judged_path bytes (path_fault bytes)

-- after a quoted path nothing follows at the end of a line, and a space before another path
abbrev pub may_follow : Place → Bytes → Bool
may_follow Last rest = is_empty rest
may_follow Source rest = is_empty rest || begins (codes " ") rest

-- a path in quotes, where its last quote fits, and the bytes that its spelling takes of the text
unfoldable pub quoted_path : Place → Bytes → Option (Bytes × Bytes) → Result (Bytes × ℕ) Why
quoted_path place text None = Err BadPath
quoted_path place text (Some q) = if may_follow place q.1 then (path_by q.0 >>= λ path. Ok (path, length text - length q.1)) else Err BadPath

-- a path without quotes goes to the first space, or as the last to the end
abbrev pub plain_path : Place → Bytes → Bytes
plain_path Last text = text
plain_path Source text = first_word text

-- a path at the front of a text, and how many bytes its spelling takes, quotes included
unfoldable pub path_in : Place → Bytes → Result (Bytes × ℕ) Why
path_in place text =
    if begins (codes "\"") text then quoted_path place text (unquoted Between (drop 1 text))
    else (path_by (plain_path place text) >>= λ path. Ok (path, length (plain_path place text)))

-- ---- operations

unfoldable pub mode_in : Bytes → Result Mode Why
mode_in text =
    if bytes_eq text (codes "100644") || bytes_eq text (codes "644") then Ok Plain else
    if bytes_eq text (codes "100755") || bytes_eq text (codes "755") then Ok Executable else
    if bytes_eq text (codes "120000") then Ok Link else
    if bytes_eq text (codes "160000") then Ok Gitlink else
    if bytes_eq text (codes "040000") then Err LeftOut else Err BadMode

-- a mark; a link to another repository has none
abbrev pub marked_content : Mode → ℕ → Result RawContent Why
marked_content Gitlink mark = Err LeftOut
marked_content mode mark = Ok (Marked mark)

-- bytes that follow; a link to another repository has none
abbrev pub inline_content : Mode → Result RawContent Why
inline_content Gitlink = Err BadMode
inline_content mode = Ok Inline

-- a hexadecimal digit in either case
abbrev pub is_any_hex : ℕ → Bool
is_any_hex d = is_hex d || nat_le 65 d && nat_le d 70

-- 64 hexadecimal digits, or the id of no object
abbrev pub is_left_out_id : Bytes → Bool
is_left_out_id text =
    (length text == 64) && list_all is_any_hex text || (length text == 40) && list_all (λ d. d == 48) text

-- what a mode has: a mark, `inline`, or the digits of an object's id
unfoldable pub content_in : Mode → Bytes → Result RawContent Why
content_in mode text =
    if begins (codes ":") text then (mark_in text >>= λ mark. marked_content mode mark) else
    if bytes_eq text (codes "inline") then inline_content mode else
    if is_left_out_id text then Err LeftOut else (or_defect BadMark (as_object text) >>= λ digits. Ok (Object digits))

-- a path that ends its line, after a space
unfoldable pub last_path_in : Option Bytes → Result Bytes Why
last_path_in None = Err BadPath
last_path_in (Some text) = path_in Last text >>= λ p. Ok p.0

-- `MODE CONTENT PATH`
unfoldable pub modify_in : Bytes → Result RawOp Why
modify_in text =
    mode_in (first_word text) >>= λ mode.
    or_defect BadMark (after_space text) >>= λ fields.
    content_in mode (first_word fields) >>= λ content.
    last_path_in (after_space fields) >>= λ path.
    Ok (Modify mode content path)

-- `SOURCE TARGET`
unfoldable pub paths_in : Bytes → Result (Bytes × Bytes) Why
paths_in text =
    path_in Source text >>= λ source.
    last_path_in (after_space (drop source.1 text)) >>= λ target.
    Ok (source.0, target)

-- a line whose first word has a meaning elsewhere that is left out
abbrev pub is_left_out_word : Bytes → Bool
is_left_out_word word =
    bytes_eq word (codes "ls") || bytes_eq word (codes "cat-blob") || bytes_eq word (codes "get-mark")
    || bytes_eq word (codes "gpgsig") || bytes_eq word (codes "property")
    || bytes_eq word (codes "N")

-- the line of an operation
unfoldable pub op_in : Bytes → Result RawOp Why
op_in line =
    let word = first_word line in
    if bytes_eq line (codes "deleteall") then Ok DeleteAll else
    if bytes_eq word (codes "M") then (or_defect BadMode (after_space line) >>= λ text. modify_in text) else
    if bytes_eq word (codes "D") then (last_path_in (after_space line) >>= λ path. Ok (Delete path)) else
    if bytes_eq word (codes "C") then (or_defect BadPath (after_space line) >>= λ text. paths_in text >>= λ p. Ok (Copy p.0 p.1)) else
    if bytes_eq word (codes "R") then (or_defect BadPath (after_space line) >>= λ text. paths_in text >>= λ p. Ok (Rename p.0 p.1)) else
    if is_left_out_word word then Err LeftOut else Err UnknownLine

-- ---- data

-- how far a block of data goes: so many bytes, or lines up to one that equals the delimiter
pub data Extent : Type 0 where
  Counted : ℕ → Extent
  Delimited : Bytes → Extent

-- a delimiter of one byte or more, after `<<`
abbrev pub delimiter_in : Bytes → Result Bytes Why
delimiter_in (a ∷ b ∷ c ∷ cs) = if (a == 60) && (b == 60) then Ok (c ∷ cs) else Err BadData
delimiter_in other = Err BadData

abbrev pub extent_by : Bytes → Option ℕ → Result Extent Why
extent_by text (Some n) = Ok (Counted n)
extent_by text None = delimiter_in text >>= λ delimiter. Ok (Delimited delimiter)

-- what is after the word `data` and a space
unfoldable pub data_text : Bytes → Option Bytes
data_text line = if bytes_eq (first_word line) (codes "data") then after_space line else None

-- the line `data COUNT` or `data <<DELIMITER`
unfoldable pub extent_in : Bytes → Result Extent Why
extent_in line = or_defect BadData (data_text line) >>= λ text. extent_by text (number_of text)

-- The lines up to the first that equals the delimiter, and what is after it. Kept are the lines so far, and
-- what has begun of the next one.
unfoldable pub delimited : Bytes → Bytes → Bytes → Bytes → Option (Bytes × Bytes)
delimited delimiter kept begun [] = if bytes_eq begun delimiter then Some (kept, []) else None
delimited delimiter kept begun (b ∷ bs) =
    if b == 10 then (if bytes_eq begun delimiter then Some (kept, bs) else delimited delimiter (kept ++ begun ++ 10 ∷ []) [] bs)
    else delimited delimiter kept (begun ++ b ∷ []) bs

-- a block at the front of a text, and what is after it, if the text has all of it
abbrev pub block_at : Extent → Bytes → Option (Bytes × Bytes)
block_at (Counted n) text = if nat_le n (length text) then Some (take n text, drop n text) else None
block_at (Delimited delimiter) text = delimited delimiter [] [] text

-- a block of this extent
unfoldable pub block_after : Result Extent Why → Bytes → Result (Bytes × Bytes) Why
block_after extent text = extent >>= λ e. or_defect Truncated (block_at e text)

-- the block after its line, and what is after it and the LF that may follow
unfoldable pub block_in : Bytes → Bytes → Result (Bytes × Bytes) Why
block_in head text = block_after (extent_in head) text >>= λ x. Ok (x.0, skip_lf x.1)

-- ---- what can be spelled

-- the fields of an operation, each by its own rule
abbrev pub ContentFits : RawContent → Type 0
ContentFits (Marked mark) = IsMark mark
ContentFits (Object digits) = IsTrue (is_object digits)
ContentFits Inline = Unit {0}

abbrev pub OpFits : RawOp → Type 0
OpFits (Modify mode content path) = ContentFits content × IsPath path
OpFits (Delete path) = IsPath path
OpFits (Copy source target) = IsPath source × IsPath target
OpFits (Rename source target) = IsPath source × IsPath target
OpFits DeleteAll = Unit {0}

-- a link to another repository has an object's id
abbrev pub HasItsContent : RawOp → Type 0
HasItsContent (Modify Gitlink (Object digits) path) = Unit {0}
HasItsContent (Modify Gitlink (Marked mark) path) = ⊥
HasItsContent (Modify Gitlink Inline path) = ⊥
HasItsContent other = Unit {0}
