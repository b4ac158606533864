-- What a reader has read.
use Rattle.std.proofs.Common.{◌≡◌, ℕ, zero, suc, ◌+◌, ◌≤◌, ◌==◌, Bool, true, false, List, [], ◌∷◌, ◌++◌, length, replicate, Option, Some, None, refl, sym}
use Rattle.std.proofs.Common.{◌∙◌, ap, subst, inl, inr, append_assoc, append-nil, arith}
use Rattle.std.specs.Prelude.{not, codes}
use Rattle.std.specs.List.{list_all}
use Rattle.plain_model.specs.Numbers.{IsNumeral}
use Rattle.plain_model.specs.Paths.{Bytes}
use Rattle.selection_parser.specs.declared.function.Function.{Function}
use Rattle.selection_parser.specs.declared.item.Item.{Item}
use Rattle.selection_parser.specs.declared.item.Spot.{Spot}
use Rattle.selection_parser.specs.declared.place.Place.{Place}
use Rattle.selection_parser.specs.declared.place.Place.TheVariants as place
use Rattle.selection_parser.specs.declared.place.SpotPlace.{SpotPlace}
use Rattle.selection_parser.specs.declared.place.SpotPlace.TheVariants as spot
use Rattle.selection_parser.specs.Plain.{PlainSelection}
use Rattle.selection_parser.specs.Plain.PlainSelection.{Not}
use Rattle.selection_parser.specs.Spelling.{SpellsFrom, SpellsEach, SpellsSpot, SpellsItem, SpellsPrimary, SpellsNear, SpellsBoth, SpellsTerm, SpellsWithin}
use Rattle.selection_parser.specs.Spelling.{Nothing, IsWithout, Adds, with_kind, with_field, no_kinds, no_fields, escaped, IsPattern, BeginsPath}
use Rattle.selection_parser.specs.Spelling.{whole_mark, name_of}
use Rattle.selection_parser.specs.Reading.{begins_name, negated, around, whole, last_part, with_term, with_part, State, Parts, Frame, Reader}
use Rattle.selection_parser.specs.Reading.State.{Inside, After}
use Rattle.selection_parser.specs.Reading.Frame.{Opened, Negation}
use Rattle.selection_parser.proofs.Selections.{IsOuter}

-- ---- parts, each followed by a byte

module _ {A : Type 0} (byte : ℕ) (Spells : Bytes → A → Type 0) where
  abbrev pub Followed : List A → Bytes → Type 0
  Followed [] text = text ≡ []
  Followed (x ∷ xs) text = (part rest : Bytes) × Spells part x × Followed xs rest × (text ≡ part ++ byte ∷ rest)

  pub followed_push : (xs : List A) (text part : Bytes) (x : A) → Followed xs text → Spells part x
      → Followed (xs ++ x ∷ []) (text ++ part ++ byte ∷ [])
  followed_push [] text part x h k = (part, [], k, refl, ap (λ t. t ++ part ++ byte ∷ []) h)
  followed_push (y ∷ ys) text part x h k = (
    h.0,
    h.1 ++ part ++ byte ∷ [],
    h.2,
    followed_push ys h.1 part x h.3 k,
    ap (λ t. t ++ part ++ byte ∷ []) h.4
        ∙ ap (λ t. t ++ byte ∷ []) (append_assoc h.0 (byte ∷ h.1) part)
        ∙ append_assoc h.0 (byte ∷ (h.1 ++ part)) (byte ∷ []),
  )

  each_more : (zs : List A) (y : A) (part rest : Bytes) → Spells part y → SpellsEach byte Spells zs rest
      → SpellsFrom byte Spells y zs (part ++ byte ∷ rest)
  each_more [] y part rest h k = absurd k
  each_more (z ∷ zs) y part rest h k = (part, rest, h, k, refl)

  pub followed_last : (xs : List A) (text part : Bytes) (x : A) → Followed xs text → Spells part x
      → SpellsEach byte Spells (xs ++ x ∷ []) (text ++ part)
  followed_last [] text part x h k = subst (λ t. Spells (t ++ part) x) (sym h) k
  followed_last (y ∷ ys) text part x h k =
      subst (SpellsFrom byte Spells y (ys ++ x ∷ []))
      (sym (ap (λ t. t ++ part) h.4 ∙ append_assoc h.0 (byte ∷ h.1) part))
      (each_more (ys ++ x ∷ []) y h.0 (h.1 ++ part) h.2 (followed_last ys h.1 part x h.3 k))

-- ---- a place

-- the byte with which the digits of a mark begin
abbrev pub mark_sign : Bool → Bytes
mark_sign true = 58 ∷ []
mark_sign false = []

abbrev pub SpotHasRead : SpotPlace → Bytes → Type 0
SpotHasRead spot.Start text = text ≡ []
SpotHasRead spot.AfterColon text = text ≡ 58 ∷ []
SpotHasRead (spot.Digits marked (n, count)) text =
    (digits : Bytes) × IsNumeral digits n × (length digits ≡ count) × (count ≤ 19) × (text ≡ mark_sign marked ++ digits)
SpotHasRead (spot.InText name) text = (list_all (λ b. not (b == 62)) name ≡ true) × (text ≡ 60 ∷ name)
SpotHasRead (spot.After s) text = SpellsSpot text s
SpotHasRead (spot.AfterDot s) text = (part : Bytes) × SpellsSpot part s × (text ≡ part ++ 46 ∷ [])

-- a point follows a spot only where no range was begun
abbrev pub DotFits : SpotPlace → Option Spot → Type 0
DotFits (spot.AfterDot s) start = start ≡ None
DotFits spot.Start start = Unit {0}
DotFits spot.AfterColon start = Unit {0}
DotFits (spot.Digits marked (n, count)) start = Unit {0}
DotFits (spot.InText name) start = Unit {0}
DotFits (spot.After s) start = Unit {0}

abbrev pub StartHasRead : Option Spot → Bytes → Type 0
StartHasRead None text = text ≡ []
StartHasRead (Some s) text = (part : Bytes) × SpellsSpot part s × (text ≡ part ++ codes "..")

pub record ItemsHaveRead (before : List Item) (start : Option Spot) (at : SpotPlace) (text : Bytes) : Type 0 where
  pub done : Bytes
  pub left : Bytes
  pub here : Bytes
  pub items : Followed 44 SpellsItem before done
  pub end : StartHasRead start left
  pub last : SpotHasRead at here
  pub alone : DotFits at start
  pub joined : text ≡ done ++ left ++ here

abbrev pub pattern_sign : Bool → Bytes
pattern_sign true = codes "[/"
pattern_sign false = codes "/"

abbrev pub PathHasRead : Bytes → Type 0
PathHasRead [] = Unit {0}
PathHasRead (b ∷ bs) = BeginsPath (b ∷ bs) × IsWithout 93 (b ∷ bs)

-- this was read of a primary, where so much may nest
abbrev pub PlaceHasRead : ℕ → Place → Bytes → Type 0
PlaceHasRead deep place.Start text = text ≡ []
PlaceHasRead deep (place.InName name) text = (less : ℕ) × (deep ≡ suc less) × (begins_name name ≡ true) × (text ≡ 64 ∷ name)
PlaceHasRead deep place.AfterEquals text = text ≡ 61 ∷ []
PlaceHasRead deep (place.InKinds set) text =
    (b : ℕ) × (letters : Bytes) × Adds with_kind no_kinds (b ∷ letters) set × (text ≡ 61 ∷ b ∷ letters)
PlaceHasRead deep (place.InItems before start at) text = ItemsHaveRead before start at text
PlaceHasRead deep (place.InPattern bracketed pattern) text = text ≡ pattern_sign bracketed ++ escaped pattern
PlaceHasRead deep (place.InFields pattern fields) text =
    IsPattern pattern × (letters : Bytes) × Adds with_field no_fields letters fields
    × (text ≡ codes "/" ++ escaped pattern ++ codes "/" ++ letters)
PlaceHasRead deep (place.InPath path) text = PathHasRead path × (text ≡ 91 ∷ path)
PlaceHasRead deep (place.AfterPathPattern pattern trees) text =
    IsPattern pattern × (text ≡ codes "[/" ++ escaped pattern ++ codes "/" ++ whole_mark trees)
PlaceHasRead deep (place.AfterPath path) text = BeginsPath path × IsWithout 93 path × (text ≡ codes "[" ++ path ++ codes "]")
PlaceHasRead deep (place.AfterBracket pattern trees) text =
    IsPattern pattern × (text ≡ codes "[/" ++ escaped pattern ++ codes "/" ++ whole_mark trees ++ codes "]")

-- ---- what is in parentheses

abbrev pub inner_at : ℕ → Bytes → PlainSelection → Type 0
inner_at zero = Nothing
inner_at (suc deep) = SpellsWithin deep

pub near_term : (deep : ℕ) (text : Bytes) (x : PlainSelection) → SpellsNear (inner_at deep) text x → SpellsTerm deep text x
unfolding SpellsTerm
near_term zero text x h = h
near_term (suc deep) text x h = inr h

pub not_term : (deep : ℕ) (text : Bytes) (x : PlainSelection) → SpellsTerm deep text x → SpellsTerm (suc deep) (126 ∷ text) (Not x)
unfolding SpellsTerm
not_term deep text x h = inl (text, x, h, refl, refl)

-- ---- the terms and parts of one depth

pub record PartsHaveRead (deep : ℕ) (parts : Parts) (text : Bytes) : Type 0 where
  pub front : Bytes
  pub back : Bytes
  pub unions : Followed 124 (SpellsBoth (SpellsTerm deep)) parts.unions front
  pub boths : Followed 38 (SpellsTerm deep) parts.boths back
  pub joined : text ≡ front ++ back

last_part_spelled : (deep : ℕ) (parts : Parts) (back here : Bytes) (x : PlainSelection) → Followed 38 (SpellsTerm deep) parts.boths back
    → SpellsTerm deep here x → SpellsBoth (SpellsTerm deep) (back ++ here) (last_part x parts)
last_part_spelled deep parts back here x h k =
    (parts.boths ++ x ∷ [], followed_last 38 (SpellsTerm deep) parts.boths back here x h k, refl)

pub whole_spelled : (deep : ℕ) (parts : Parts) (text here : Bytes) (x : PlainSelection) → PartsHaveRead deep parts text → SpellsTerm deep here x
    → SpellsWithin deep (text ++ here) (whole x parts)
whole_spelled deep parts text here x h k = (
  parts.unions ++ last_part x parts ∷ [],
  subst (SpellsEach 124 (SpellsBoth (SpellsTerm deep)) (parts.unions ++ last_part x parts ∷ []))
      (sym (ap (λ t. t ++ here) h.joined ∙ append_assoc h.front h.back here))
      (followed_last 124 (SpellsBoth (SpellsTerm deep)) parts.unions h.front (h.back ++ here) (last_part x parts) h.unions
      (last_part_spelled deep parts h.back here x h.boths k)),
  refl,
)

pub with_term_has_read : (deep : ℕ) (parts : Parts) (text here : Bytes) (x : PlainSelection) → PartsHaveRead deep parts text → SpellsTerm deep here x
    → PartsHaveRead deep (with_term x parts) (text ++ here ++ 38 ∷ [])
with_term_has_read deep parts text here x h k = record {
  front = h.front;
  back = h.back ++ here ++ 38 ∷ [];
  unions = h.unions;
  boths = followed_push 38 (SpellsTerm deep) parts.boths h.back here x h.boths k;
  joined = ap (λ t. t ++ here ++ 38 ∷ []) h.joined ∙ simp append_assoc;
}

pub with_part_has_read : (deep : ℕ) (parts : Parts) (text here : Bytes) (x : PlainSelection) → PartsHaveRead deep parts text → SpellsTerm deep here x
    → PartsHaveRead deep (with_part x parts) (text ++ here ++ 124 ∷ [])
with_part_has_read deep parts text here x h k = record {
  front = h.front ++ (h.back ++ here) ++ 124 ∷ [];
  back = [];
  unions = followed_push 124 (SpellsBoth (SpellsTerm deep)) parts.unions h.front (h.back ++ here) (last_part x parts) h.unions
      (last_part_spelled deep parts h.back here x h.boths k);
  boths = refl;
  joined = ap (λ t. t ++ here ++ 124 ∷ []) h.joined ∙ simp (append_assoc, append-nil);
}

-- ---- what is open

abbrev pub sign_of : Option Function → Bytes
sign_of None = codes "("
sign_of (Some f) = codes "@" ++ name_of f ++ codes "("

abbrev pub FramesHaveRead : ℕ → List Frame → Parts → Bytes → Type 0
FramesHaveRead deep [] parts text = (deep ≡ 64) × PartsHaveRead deep parts text
FramesHaveRead deep (Negation ∷ frames) parts text = (front : Bytes) × FramesHaveRead (suc deep) frames parts front × (text ≡ front ++ 126 ∷ [])
FramesHaveRead deep (Opened f outer ∷ frames) parts text =
    (front back : Bytes) × FramesHaveRead (suc deep) frames outer front × PartsHaveRead deep parts back × (text ≡ front ++ sign_of f ++ back)

pub frames_fit : (frames : List Frame) (deep : ℕ) (parts : Parts) (text : Bytes) → FramesHaveRead deep frames parts text → deep + length frames ≡ 64
frames_fit [] deep parts text h = let e = h.0 in omega arith
frames_fit (Negation ∷ frames) deep parts text h = let e = frames_fit frames (suc deep) parts h.0 h.1 in omega arith
frames_fit (Opened f outer ∷ frames) deep parts text h = let e = frames_fit frames (suc deep) outer h.0 h.2 in omega arith

-- a term after them, with each `~` that is directly before it
pub record Unwound (frames : List Frame) (parts : Parts) (text : Bytes) (x : PlainSelection) : Type 0 where
  pub deep : ℕ
  pub front : Bytes
  pub back : Bytes
  pub so_far : FramesHaveRead deep (around frames) parts front
  pub spelled : SpellsTerm deep back (negated x frames)
  pub joined : text ≡ front ++ back

pub unwound : (frames : List Frame) (deep : ℕ) (parts : Parts) (front back : Bytes) (x : PlainSelection)
    → FramesHaveRead deep frames parts front → SpellsTerm deep back x → Unwound frames parts (front ++ back) x
unwound [] deep parts front back x h k = record { deep = deep; front = front; back = back; so_far = h; spelled = k; joined = refl }
unwound (Negation ∷ frames) deep parts front back x h k =
    let rest = unwound frames (suc deep) parts h.0 (126 ∷ back) (Not x) h.1 (not_term deep back x k) in
    record {
      deep = rest.deep;
      front = rest.front;
      back = rest.back;
      so_far = rest.so_far;
      spelled = rest.spelled;
      joined = ap (λ t. t ++ back) h.2 ∙ append_assoc h.0 (126 ∷ []) back ∙ rest.joined;
    }
unwound (Opened f outer ∷ frames) deep parts front back x h k =
    record { deep = deep; front = front; back = back; so_far = h; spelled = k; joined = refl }

pub around_outer : (frames : List Frame) → IsOuter (around frames)
around_outer [] = tt
around_outer (Negation ∷ frames) = around_outer frames
around_outer (Opened f parts ∷ frames) = tt

-- the parts of the innermost depth, and that others may take their place
pub record Innermost (deep : ℕ) (frames : List Frame) (parts : Parts) (text : Bytes) : Type 0 where
  pub front : Bytes
  pub back : Bytes
  pub so_far : PartsHaveRead deep parts back
  pub joined : text ≡ front ++ back
  pub others : (other : Parts) (bytes : Bytes) → PartsHaveRead deep other bytes → FramesHaveRead deep frames other (front ++ bytes)

pub innermost : (frames : List Frame) (deep : ℕ) (parts : Parts) (text : Bytes) → IsOuter frames → FramesHaveRead deep frames parts text
    → Innermost deep frames parts text
innermost [] deep parts text outer h = record { front = []; back = text; so_far = h.1; joined = refl; others = λ other bytes k. (h.0, k) }
innermost (Negation ∷ frames) deep parts text outer h = absurd outer
innermost (Opened f out ∷ frames) deep parts text outer h = record {
  front = h.0 ++ sign_of f;
  back = h.1;
  so_far = h.3;
  joined = h.4;
  others = λ other bytes k. (h.0, bytes, h.2, k, refl);
}

-- ---- the whole

abbrev pub StateHasRead : ℕ → State → Bytes → Type 0
StateHasRead deep (Inside at) text = PlaceHasRead deep at text
StateHasRead deep (After times x) text =
    (primary : Bytes) × SpellsPrimary (inner_at deep) primary x × (text ≡ primary ++ replicate times 63)

-- the reader has read this text
pub record HasRead (r : Reader) (text : Bytes) : Type 0 where
  pub deep : ℕ
  pub front : Bytes
  pub back : Bytes
  pub frames : FramesHaveRead deep r.frames r.parts front
  pub state : StateHasRead deep r.state back
  pub joined : text ≡ front ++ back
