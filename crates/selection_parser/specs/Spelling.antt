-- How selections are spelled. (reposurgeon manual, "Selection syntax"; how many digits and how deep: own)
use Rattle.std.specs.Prelude.{◌≡◌, ℕ, zero, suc, ◌+◌, ◌-◌, ◌≤◌, ◌==◌, not, ◌⊎◌, Bool, true, false, List, [], ◌∷◌, ◌++◌, length, take, drop, replicate}
use Rattle.std.specs.Prelude.{Option, Some, None, IsTrue, codes, if◌then◌else◌}
use Rattle.std.specs.List.{list_all}
use Rattle.plain_model.specs.declared.limit.TheConstants.{MAX_NESTING}
use Rattle.plain_model.specs.Numbers.{IsNumeral}
use Rattle.plain_model.specs.Paths.{Bytes}
use Rattle.plain_model.specs.Blanks.{is_blank}
use Rattle.selection_parser.specs.declared.kind.KindSet.{KindSet}
use Rattle.selection_parser.specs.declared.field.FieldSet.{FieldSet}
use Rattle.selection_parser.specs.declared.function.Function.{Function}
use Rattle.selection_parser.specs.declared.function.Function.TheVariants as function
use Rattle.selection_parser.specs.declared.item.Item.{Item}
use Rattle.selection_parser.specs.declared.item.Item.TheVariants.{One, Span}
use Rattle.selection_parser.specs.declared.item.Spot.{Spot}
use Rattle.selection_parser.specs.declared.item.Spot.TheVariants.{Number, Marked, Last, Named}
use Rattle.selection_parser.specs.Plain.{PlainSelection, union_of, both_of, near}
use Rattle.selection_parser.specs.Plain.PlainSelection.{Not, Call, Kinds, Search, AtPath, AtPattern, Listed}

-- ---- bytes

abbrev pub comma : ℕ
comma = 44

abbrev pub ampersand : ℕ
ampersand = 38

abbrev pub bar : ℕ
bar = 124

abbrev pub question_mark : ℕ
question_mark = 63

abbrev pub angle_bracket : ℕ
angle_bracket = 62

abbrev pub square_bracket : ℕ
square_bracket = 93

abbrev pub slash : ℕ
slash = 47

abbrev pub backslash : ℕ
backslash = 92

-- ---- parts with a byte between them

module _ {A : Type 0} (byte : ℕ) (Spells : Bytes → A → Type 0) where
  -- a text spells one part and so many others, with the byte between two
  abbrev pub SpellsFrom : A → List A → Bytes → Type 0
  SpellsFrom x [] text = Spells text x
  SpellsFrom x (y ∷ ys) text =
      (part rest : Bytes) × Spells part x × SpellsFrom y ys rest × (text ≡ part ++ byte ∷ rest)

  -- a text spells these parts, one or more
  abbrev pub SpellsEach : List A → Bytes → Type 0
  SpellsEach [] text = ⊥
  SpellsEach (x ∷ xs) text = SpellsFrom x xs text

-- ---- items: item { "," item }

-- 1 to 19 digits of this number
pub record SpellsNumber (digits : Bytes) (n : ℕ) : Type 0 where
  pub numeral : IsNumeral digits n
  pub few : length digits ≤ 19

-- one or more bytes, none of which is this one
pub record IsWithout (byte : ℕ) (text : Bytes) : Type 0 where
  pub some : 1 ≤ length text
  pub without : IsTrue (list_all (λ b. not (b == byte)) text)

-- spot = digits | ":" digits | "$" | "<" text ">"
abbrev pub SpellsSpot : Bytes → Spot → Type 0
SpellsSpot text (Number n) = SpellsNumber text n
SpellsSpot text (Marked n) = (digits : Bytes) × SpellsNumber digits n × (text ≡ codes ":" ++ digits)
SpellsSpot text Last = text ≡ codes "$"
SpellsSpot text (Named name) = IsWithout angle_bracket name × (text ≡ codes "<" ++ name ++ codes ">")

-- item = spot [ ".." spot ]
abbrev pub SpellsItem : Bytes → Item → Type 0
SpellsItem text (One spot) = SpellsSpot text spot
SpellsItem text (Span start end) =
    (left right : Bytes) × SpellsSpot left start × SpellsSpot right end × (text ≡ left ++ codes ".." ++ right)

-- ---- functions, kinds and fields

abbrev pub name_of : Function → Bytes
name_of function.Min = codes "min"
name_of function.Max = codes "max"
name_of function.Amp = codes "amp"
name_of function.Par = codes "par"
name_of function.Chn = codes "chn"
name_of function.Dsc = codes "dsc"
name_of function.Anc = codes "anc"
name_of function.Pre = codes "pre"
name_of function.Suc = codes "suc"
name_of function.Srt = codes "srt"

-- no kind yet
abbrev pub no_kinds : KindSet
no_kinds = record {
  blobs = false;
  commits = false;
  tags = false;
  resets = false;
  passes = false;
  heads = false;
  roots = false;
  merges = false;
  forks = false;
  empties = false;
}

-- with the kind of one letter more, if it is one of `B C T R P H O M F Z`
unfoldable pub with_kind : KindSet → ℕ → Option KindSet
with_kind kinds b =
    if b == 66 then Some (record kinds { blobs = true }) else
    if b == 67 then Some (record kinds { commits = true }) else
    if b == 84 then Some (record kinds { tags = true }) else
    if b == 82 then Some (record kinds { resets = true }) else
    if b == 80 then Some (record kinds { passes = true }) else
    if b == 72 then Some (record kinds { heads = true }) else
    if b == 79 then Some (record kinds { roots = true }) else
    if b == 77 then Some (record kinds { merges = true }) else
    if b == 70 then Some (record kinds { forks = true }) else
    if b == 90 then Some (record kinds { empties = true }) else None

-- no field yet
abbrev pub no_fields : FieldSet
no_fields = record { authors = false; comments = false; names = false; taggers = false; branches = false }

-- with the field of one letter more, if it is one of `a c n t b`
unfoldable pub with_field : FieldSet → ℕ → Option FieldSet
with_field fields b =
    if b == 97 then Some (record fields { authors = true }) else
    if b == 99 then Some (record fields { comments = true }) else
    if b == 110 then Some (record fields { names = true }) else
    if b == 116 then Some (record fields { taggers = true }) else
    if b == 98 then Some (record fields { branches = true }) else None

-- letters make this set of that one, each adding to it
abbrev pub Adds : {A : Type 0} → (A → ℕ → Option A) → A → Bytes → A → Type 0
Adds with set [] new = set ≡ new
Adds {A = A} with set (b ∷ letters) new = (next : A) × (with set b ≡ Some next) × Adds with next letters new

-- ---- patterns

-- a slash is written after a backslash, and each other byte as it is
abbrev pub escaped : Bytes → Bytes
escaped [] = []
escaped (b ∷ bs) = if b == slash then backslash ∷ slash ∷ escaped bs else b ∷ escaped bs

-- the bytes end in a backslash
abbrev pub ends_in_backslash : Bytes → Bool
ends_in_backslash [] = false
ends_in_backslash (b ∷ []) = b == backslash
ends_in_backslash (b ∷ c ∷ bs) = ends_in_backslash (c ∷ bs)

-- A pattern isn't empty, and doesn't end in a backslash: the slash that ends it would belong to it.
pub record IsPattern (pattern : Bytes) : Type 0 where
  pub some : 1 ≤ length pattern
  pub ends : ends_in_backslash pattern ≡ false

-- a path's first byte
abbrev pub BeginsPath : Bytes → Type 0
BeginsPath [] = ⊥
BeginsPath (b ∷ bs) = (b == slash) ≡ false

-- `c`, which may follow the pattern of a path
abbrev pub whole_mark : Bool → Bytes
whole_mark true = codes "c"
whole_mark false = []

-- ---- primaries

-- primary = "(" selection ")" | "@" function "(" selection ")" | "=" kind { kind }
--         | "/" pattern "/" { scope } | "[" path "]" | "[/" pattern "/" [ "c" ] "]"
--         | item { "," item }
-- where this is how a selection in parentheses is spelled
pub data SpellsPrimary (Inner : Bytes → PlainSelection → Type 0) (text : Bytes) (x : PlainSelection) : Type 0 where
  group : (inner : Bytes) → Inner inner x → text ≡ codes "(" ++ inner ++ codes ")" → SpellsPrimary Inner text x
  call : (f : Function) (inner : Bytes) (y : PlainSelection) → Inner inner y
      → text ≡ codes "@" ++ name_of f ++ codes "(" ++ inner ++ codes ")" → x ≡ Call f y → SpellsPrimary Inner text x
  kinds : (b : ℕ) (letters : Bytes) (set : KindSet) → Adds with_kind no_kinds (b ∷ letters) set
      → text ≡ codes "=" ++ b ∷ letters → x ≡ Kinds set → SpellsPrimary Inner text x
  search : (pattern letters : Bytes) (fields : FieldSet) → IsPattern pattern → Adds with_field no_fields letters fields
      → text ≡ codes "/" ++ escaped pattern ++ codes "/" ++ letters → x ≡ Search pattern fields → SpellsPrimary Inner text x
  at_path : (path : Bytes) → BeginsPath path → IsWithout square_bracket path
      → text ≡ codes "[" ++ path ++ codes "]" → x ≡ AtPath path → SpellsPrimary Inner text x
  at_pattern : (pattern : Bytes) (whole : Bool) → IsPattern pattern
      → text ≡ codes "[/" ++ escaped pattern ++ codes "/" ++ whole_mark whole ++ codes "]"
      → x ≡ AtPattern pattern whole → SpellsPrimary Inner text x
  items : (list : List Item) → SpellsEach comma SpellsItem list text → x ≡ Listed list → SpellsPrimary Inner text x

-- ---- selections

-- near = primary { "?" }
abbrev pub SpellsNear : (Bytes → PlainSelection → Type 0) → Bytes → PlainSelection → Type 0
SpellsNear Inner text x =
    (primary : Bytes) × (times : ℕ) × (y : PlainSelection) × SpellsPrimary Inner primary y
    × (text ≡ primary ++ replicate times question_mark) × (x ≡ near times y)

module _ (Term : Bytes → PlainSelection → Type 0) where
  -- both = term { "&" term }
  abbrev pub SpellsBoth : Bytes → PlainSelection → Type 0
  SpellsBoth text x = (terms : List PlainSelection) × SpellsEach ampersand Term terms text × (x ≡ both_of terms)

  -- selection = both { "|" both }
  abbrev pub SpellsUnion : Bytes → PlainSelection → Type 0
  SpellsUnion text x = (boths : List PlainSelection) × SpellsEach bar SpellsBoth boths text × (x ≡ union_of boths)

-- "~" term
abbrev pub SpellsNot : (Bytes → PlainSelection → Type 0) → Bytes → PlainSelection → Type 0
SpellsNot Term text x = (rest : Bytes) × (y : PlainSelection) × Term rest y × (text ≡ codes "~" ++ rest) × (x ≡ Not y)

abbrev pub Nothing : Bytes → PlainSelection → Type 0
Nothing text x = ⊥

-- term = "~" term | near, where parentheses, functions and `~` nest so deep at most
unfoldable pub SpellsTerm : ℕ → Bytes → PlainSelection → Type 0
SpellsTerm zero text x = SpellsNear Nothing text x
SpellsTerm (suc deep) text x = SpellsNot (SpellsTerm deep) text x ⊎ SpellsNear (SpellsUnion (SpellsTerm deep)) text x

-- a selection, in which they nest so deep at most
abbrev pub SpellsWithin : ℕ → Bytes → PlainSelection → Type 0
SpellsWithin deep = SpellsUnion (SpellsTerm deep)

-- a selection
abbrev pub Spells : Bytes → PlainSelection → Type 0
Spells = SpellsWithin MAX_NESTING

-- ---- a selection at the front of a line

-- nothing, or a blank, is next
abbrev pub ends_here : Bytes → Bool
ends_here [] = true
ends_here (b ∷ bs) = is_blank b

-- so much of the text is a selection, which a blank or the end follows
pub record IsSelection (text : Bytes) (n : ℕ) (x : PlainSelection) : Type 0 where
  pub within : n ≤ length text
  pub spelled : Spells (take n text) x
  pub ends : ends_here (drop n text) ≡ true

-- the front of a selection that a blank follows
pub record IsFront (front : Bytes) : Type 0 where
  pub selection : Bytes
  pub value : PlainSelection
  pub spelled : Spells selection value
  pub blank : ℕ
  pub blanks : is_blank blank ≡ true
  pub rest : Bytes
  pub goes_on : front ++ rest ≡ selection ++ blank ∷ []

-- A selection is at the front of a text, with this length; and no other is, of any length.
pub record Finds (text : Bytes) (n : ℕ) (x : PlainSelection) : Type 0 where
  pub there : IsSelection text n x
  pub only : (m : ℕ) (y : PlainSelection) → IsSelection text m y → (m ≡ n) × (y ≡ x)

-- No selection is at the front of a text. What is before the column is the front of one that a blank follows, and
-- no longer front of the text is.
pub record Refuses (text : Bytes) (column : ℕ) : Type 0 where
  pub none : (m : ℕ) (y : PlainSelection) → IsSelection text m y → ⊥
  pub counts : 1 ≤ column
  pub within : column ≤ length text + 1
  pub front : IsFront (take (column - 1) text)
  pub longest : (m : ℕ) → column ≤ m → m ≤ length text → IsFront (take m text) → ⊥
