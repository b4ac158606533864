-- A selection is read byte by byte: where a reader is after each byte, and what it answers. (own)
use Rattle.std.specs.Prelude.{ℕ, ◌+◌, ◌-◌, ◌*◌, ◌==◌, ◌&&◌, not, nat_lt, Bool, true, false, List, [], ◌∷◌, ◌++◌, length, take, bytes_eq}
use Rattle.std.specs.Prelude.{Option, Some, None, Result, Ok, Err, if◌then◌else◌}
use Rattle.std.specs.List.{list_any}
use Rattle.plain_model.specs.Numbers.{is_digit}
use Rattle.plain_model.specs.Parts.{begins}
use Rattle.plain_model.specs.Paths.{Bytes, is_empty}
use Rattle.plain_model.specs.declared.fault.Fault.{Fault}
use Rattle.plain_model.specs.declared.fault.Fault.TheVariants as fault
use Rattle.plain_model.specs.declared.limit.TheConstants.{MAX_NESTING}
use Rattle.plain_model.specs.Blanks.{is_blank}
use Rattle.selection_parser.specs.declared.function.Function.{Function}
use Rattle.selection_parser.specs.declared.function.Function.TheVariants as function
use Rattle.selection_parser.specs.declared.item.Item.{Item}
use Rattle.selection_parser.specs.declared.item.Item.TheVariants.{One, Span}
use Rattle.selection_parser.specs.declared.item.Spot.{Spot}
use Rattle.selection_parser.specs.declared.item.Spot.TheVariants.{Number, Marked, Last, Named}
use Rattle.selection_parser.specs.declared.place.Place.{Place}
use Rattle.selection_parser.specs.declared.place.Place.TheVariants as place
use Rattle.selection_parser.specs.declared.place.SpotPlace.{SpotPlace}
use Rattle.selection_parser.specs.declared.place.SpotPlace.TheVariants as spot
use Rattle.selection_parser.specs.Plain.{PlainSelection, union_of, both_of, near}
use Rattle.selection_parser.specs.Plain.PlainSelection.{Not, Call, Kinds, Search, AtPath, AtPattern, Listed}
use Rattle.selection_parser.specs.Spelling.{name_of, with_kind, with_field, no_kinds, no_fields, ends_in_backslash, Finds, Refuses}

-- ---- inside a primary

-- an item whose last spot this is: a range, if it has a start
abbrev pub item_of : Option Spot → Spot → Item
item_of None here = One here
item_of (Some start) here = Span start here

-- the spot that digits are, after a colon or without one
abbrev pub number_spot : Bool → ℕ → Spot
number_spot true n = Marked n
number_spot false n = Number n

-- a place, unless there is none
abbrev pub placed : {A B : Type 0} → (A → B) → Option A → Option B
placed f None = None
placed f (Some x) = Some (f x)

-- the first byte of a spot
unfoldable pub spot_begun : ℕ → Option SpotPlace
spot_begun b =
    if is_digit b then Some (spot.Digits false (b - 48, 1)) else
    if b == 58 then Some spot.AfterColon else
    if b == 36 then Some (spot.After Last) else
    if b == 60 then Some (spot.InText []) else None

-- a point after a spot, unless it is the end of a range
abbrev pub one_point : List Item → Option Spot → Spot → Option Place
one_point before None here = Some (place.InItems before None (spot.AfterDot here))
one_point before (Some start) here = None

-- a byte after a spot of these items
unfoldable pub after_spot : List Item → Option Spot → Spot → ℕ → Option Place
after_spot before start here b =
    if b == 44 then Some (place.InItems (before ++ item_of start here ∷ []) None spot.Start) else
    if b == 46 then one_point before start here else None

-- a byte in a spot of these items
unfoldable pub in_spot : List Item → Option Spot → SpotPlace → ℕ → Option Place
in_spot before start spot.Start b = placed (place.InItems before start) (spot_begun b)
in_spot before start spot.AfterColon b =
    if is_digit b then Some (place.InItems before start (spot.Digits true (b - 48, 1))) else None
in_spot before start (spot.Digits marked (n, count)) b =
    if is_digit b && nat_lt count 19 then Some (place.InItems before start (spot.Digits marked (10 * n + (b - 48), count + 1)))
    else after_spot before start (number_spot marked n) b
in_spot before start (spot.InText text) b =
    if b == 62 then (if is_empty text then None else Some (place.InItems before start (spot.After (Named text))))
    else Some (place.InItems before start (spot.InText (text ++ b ∷ [])))
in_spot before start (spot.After here) b = after_spot before start here b
in_spot before start (spot.AfterDot here) b =
    if b == 46 then Some (place.InItems before (Some here) spot.Start) else None

-- the functions
abbrev pub functions : List Function
functions =
    function.Min ∷ function.Max ∷ function.Amp ∷ function.Par ∷ function.Chn ∷
    function.Dsc ∷ function.Anc ∷ function.Pre ∷ function.Suc ∷ function.Srt ∷ []

-- the one of these functions that has the name
abbrev pub named_among : List Function → Bytes → Option Function
named_among [] name = None
named_among (f ∷ fs) name = if bytes_eq name (name_of f) then Some f else named_among fs name

-- the function that has the name
unfoldable pub function_of : Bytes → Option Function
function_of name = named_among functions name

-- the front of a function's name
unfoldable pub begins_name : Bytes → Bool
begins_name front = list_any (λ f. begins front (name_of f)) functions

-- a byte in a pattern: a slash after a backslash belongs to it, and any other one ends it
unfoldable pub in_pattern : Bool → Bytes → ℕ → Option Place
in_pattern bracketed pattern b =
    if not (b == 47) then Some (place.InPattern bracketed (pattern ++ b ∷ [])) else
    if ends_in_backslash pattern then Some (place.InPattern bracketed (take (length pattern - 1) pattern ++ 47 ∷ [])) else
    if is_empty pattern then None else
    if bracketed then Some (place.AfterPathPattern pattern false) else Some (place.InFields pattern no_fields)

-- a byte in a path, or its first one, which may begin a pattern
unfoldable pub in_path : Bytes → ℕ → Option Place
in_path [] b =
    if b == 47 then Some (place.InPattern true []) else
    if b == 93 then None else Some (place.InPath (b ∷ []))
in_path (c ∷ cs) b = if b == 93 then Some (place.AfterPath (c ∷ cs)) else Some (place.InPath ((c ∷ cs) ++ b ∷ []))

-- a byte after the pattern of a path
unfoldable pub after_path_pattern : Bytes → Bool → ℕ → Option Place
after_path_pattern pattern whole b =
    if b == 93 then Some (place.AfterBracket pattern whole) else
    if (b == 99) && not whole then Some (place.AfterPathPattern pattern true) else None

-- where a byte leads that goes on in the same primary, or begins one without parentheses
unfoldable pub inside : Place → ℕ → Option Place
inside place.Start b =
    if b == 61 then Some place.AfterEquals else
    if b == 47 then Some (place.InPattern false []) else
    if b == 91 then Some (place.InPath []) else placed (place.InItems [] None) (spot_begun b)
inside (place.InName name) b = if begins_name (name ++ b ∷ []) then Some (place.InName (name ++ b ∷ [])) else None
inside place.AfterEquals b = placed place.InKinds (with_kind no_kinds b)
inside (place.InKinds kinds) b = placed place.InKinds (with_kind kinds b)
inside (place.InItems before start at) b = in_spot before start at b
inside (place.InPattern bracketed pattern) b = in_pattern bracketed pattern b
inside (place.InFields pattern fields) b = placed (place.InFields pattern) (with_field fields b)
inside (place.InPath path) b = in_path path b
inside (place.AfterPathPattern pattern whole) b = after_path_pattern pattern whole b
inside (place.AfterPath path) b = None
inside (place.AfterBracket pattern whole) b = None

-- the items, if they may end here
abbrev pub items_at : List Item → Option Spot → SpotPlace → Option PlainSelection
items_at before start (spot.Digits marked (n, count)) = Some (Listed (before ++ item_of start (number_spot marked n) ∷ []))
items_at before start (spot.After here) = Some (Listed (before ++ item_of start here ∷ []))
items_at before start spot.Start = None
items_at before start spot.AfterColon = None
items_at before start (spot.InText text) = None
items_at before start (spot.AfterDot here) = None

-- the primary, if it may end here
abbrev pub primary_at : Place → Option PlainSelection
primary_at (place.InKinds kinds) = Some (Kinds kinds)
primary_at (place.InItems before start at) = items_at before start at
primary_at (place.InFields pattern fields) = Some (Search pattern fields)
primary_at (place.AfterPath path) = Some (AtPath path)
primary_at (place.AfterBracket pattern whole) = Some (AtPattern pattern whole)
primary_at place.Start = None
primary_at (place.InName name) = None
primary_at place.AfterEquals = None
primary_at (place.InPattern bracketed pattern) = None
primary_at (place.InPath path) = None
primary_at (place.AfterPathPattern pattern whole) = None

-- ---- around a primary

-- What was read of a selection at one depth: its parts before the last `|`, and the terms between that and the
-- last `&`.
pub record Parts : Type 0 where
  pub unions : List PlainSelection
  pub boths : List PlainSelection

-- nothing yet
abbrev pub no_parts : Parts
no_parts = record { unions = []; boths = [] }

-- with one term more, which `&` follows
abbrev pub with_term : PlainSelection → Parts → Parts
with_term x parts = record parts { boths = parts.boths ++ x ∷ [] }

-- the last part, with its last term
abbrev pub last_part : PlainSelection → Parts → PlainSelection
last_part x parts = both_of (parts.boths ++ x ∷ [])

-- with one part more, whose last term this is, and which `|` follows
abbrev pub with_part : PlainSelection → Parts → Parts
with_part x parts = record { unions = parts.unions ++ last_part x parts ∷ []; boths = [] }

-- the whole selection, whose last term this is
abbrev pub whole : PlainSelection → Parts → PlainSelection
whole x parts = union_of (parts.unions ++ last_part x parts ∷ [])

-- What is open around the next byte: a `~`; or parentheses, those of a function if there is one, with what was
-- read before them.
pub data Frame : Type 0 where
  Negation : Frame
  Opened : Option Function → Parts → Frame

-- what is in parentheses, or a function of it
abbrev pub called : Option Function → PlainSelection → PlainSelection
called None x = x
called (Some f) x = Call f x

-- the next byte is inside a primary, or after one with so many question marks
pub data State : Type 0 where
  Inside : Place → State
  After : ℕ → PlainSelection → State

-- where the next byte is, what was read at this depth, and what is open, the innermost first
pub record Reader : Type 0 where
  pub state : State
  pub parts : Parts
  pub frames : List Frame

-- what a byte leads to: the reading goes on; or it ends with a selection; or it is refused
pub data Next : Type 0 where
  Goes : Reader → Next
  Ends : PlainSelection → Next
  Stops : Next

-- the primary that may end here, if one may, and before it how many question marks follow it
abbrev pub near_at : State → Option (ℕ × PlainSelection)
near_at (Inside at) = placed (λ x. (0, x)) (primary_at at)
near_at (After times x) = Some (times, x)

-- a term with each `~` that is directly before it
abbrev pub negated : PlainSelection → List Frame → PlainSelection
negated x [] = x
negated x (Negation ∷ frames) = negated (Not x) frames
negated x (Opened f parts ∷ frames) = x

-- what is open around such a term
abbrev pub around : List Frame → List Frame
around [] = []
around (Negation ∷ frames) = around frames
around (Opened f parts ∷ frames) = Opened f parts ∷ frames

-- a closing parenthesis after the last term
abbrev pub closed : PlainSelection → Parts → List Frame → Next
closed x parts [] = Stops
closed x parts (Negation ∷ frames) = Stops
closed x parts (Opened f outer ∷ frames) =
    Goes (record { state = After 0 (called f (whole x parts)); parts = outer; frames = frames })

-- a blank, or the end, after the last term
abbrev pub ended : PlainSelection → Parts → List Frame → Next
ended x parts [] = Ends (whole x parts)
ended x parts (frame ∷ frames) = Stops

-- a byte after a whole term
unfoldable pub after_term : PlainSelection → Parts → List Frame → ℕ → Next
after_term x parts frames b =
    if b == 38 then Goes (record { state = Inside place.Start; parts = with_term x parts; frames = frames }) else
    if b == 124 then Goes (record { state = Inside place.Start; parts = with_part x parts; frames = frames }) else
    if b == 41 then closed x parts frames else
    if is_blank b then ended x parts frames else Stops

-- a byte after a primary with so many question marks, if one may end here
abbrev pub after_near : Option (ℕ × PlainSelection) → Parts → List Frame → ℕ → Next
after_near None parts frames b = Stops
after_near (Some p) parts frames b =
    if b == 63 then Goes (record { state = After (p.0 + 1) p.1; parts = parts; frames = frames })
    else after_term (negated (near p.0 p.1) frames) parts (around frames) b

-- parentheses and `~` may still nest here
abbrev pub has_room : List Frame → Bool
has_room frames = nat_lt (length frames) MAX_NESTING

-- the reading goes on with this reader, if there is room
abbrev pub if_room : List Frame → Reader → Next
if_room frames reader = if has_room frames then Goes reader else Stops

-- a reader in a primary
abbrev pub reader_at : Place → Parts → List Frame → Reader
reader_at at parts frames = record { state = Inside at; parts = parts; frames = frames }

-- a reader where a term begins
abbrev pub before_term : Parts → List Frame → Reader
before_term parts frames = reader_at place.Start parts frames

-- parentheses after a name, if it names a function
abbrev pub called_by : Option Function → Parts → List Frame → Next
called_by None parts frames = Stops
called_by (Some f) parts frames = Goes (before_term no_parts (Opened (Some f) parts ∷ frames))

-- what a byte leads to that nests: a `~`, an opening parenthesis, or the sign of a function
unfoldable pub nesting : State → Parts → List Frame → ℕ → Option Next
nesting (Inside place.Start) parts frames b =
    if b == 126 then Some (if_room frames (before_term parts (Negation ∷ frames))) else
    if b == 40 then Some (if_room frames (before_term no_parts (Opened None parts ∷ frames))) else
    if b == 64 then Some (if_room frames (reader_at (place.InName []) parts frames)) else None
nesting (Inside (place.InName name)) parts frames b = if b == 40 then Some (called_by (function_of name) parts frames) else None
nesting _ parts frames b = None

-- where a byte leads inside a primary, if the reader is in one
abbrev pub within : State → ℕ → Option Place
within (Inside at) b = inside at b
within (After times x) b = None

-- a place inside the primary, or else what the byte is after it
abbrev pub or_after : Option Place → State → Parts → List Frame → ℕ → Next
or_after (Some at) state parts frames b = Goes (reader_at at parts frames)
or_after None state parts frames b = after_near (near_at state) parts frames b

-- the first of two, or else the second
abbrev pub or_else : Option Next → Next → Next
or_else (Some next) other = next
or_else None other = other

-- what a byte leads to
unfoldable pub step : Reader → ℕ → Next
step r b = or_else (nesting r.state r.parts r.frames b) (or_after (within r.state b) r.state r.parts r.frames b)

-- ---- a whole text

-- what is answered after so many bytes: where the next one is refused, its column
abbrev pub onward : ℕ → Next → (Reader → Result (PlainSelection × ℕ) ℕ) → Result (PlainSelection × ℕ) ℕ
onward n (Goes r) rest = rest r
onward n (Ends x) rest = Ok (x, n)
onward n Stops rest = Err (n + 1)

-- what is answered after so many bytes, with the rest of the text; its end is read as a blank
abbrev pub read_from : ℕ → Reader → Bytes → Result (PlainSelection × ℕ) ℕ
read_from n r [] = onward n (step r 32) (λ _. Err (n + 1))
read_from n r (b ∷ bs) = onward n (step r b) (λ next. read_from (n + 1) next bs)

-- The selection at the front of a text, with its length; or the column of the first byte that no selection
-- has there.
unfoldable pub selection_at : Bytes → Result (PlainSelection × ℕ) ℕ
selection_at text = read_from 0 (before_term no_parts []) text

-- a column as its fault
abbrev pub or_fault : Result (PlainSelection × ℕ) ℕ → Result (PlainSelection × ℕ) Fault
or_fault (Ok read) = Ok read
or_fault (Err column) = Err (fault.BadSelection column)

-- the selection at the front of a text, with its length, or the fault
abbrev pub parsed : Bytes → Result (PlainSelection × ℕ) Fault
parsed text = or_fault (selection_at text)

-- the answer is right: it is the selection at the front of the text, or the column where that is no selection
abbrev pub IsRightAnswer : Bytes → Result (PlainSelection × ℕ) ℕ → Type 0
IsRightAnswer text (Ok found) = Finds text found.1 found.0
IsRightAnswer text (Err column) = Refuses text column

-- how many question marks are directly before
abbrev pub times_of : State → ℕ
times_of (Inside at) = 0
times_of (After times x) = times
