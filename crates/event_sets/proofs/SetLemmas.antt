-- Lists of ids, and the bits that make them.
use Rattle.std.proofs.Common.{◌≡◌, ◌∙◌, ℕ, zero, suc, ◌+◌, ◌<◌, Bool, true, false, not, List, [], ◌∷◌, ◌++◌, Option, Some, None, inl, inr, refl, sym, ap, length, get_or, take, map, nat_le, arith}
use Rattle.std.proofs.lemmas.Bool.{cases_Bool, or_right, true≢false}
use Rattle.std.proofs.lemmas.List.{map-append}
use Rattle.std.proofs.lemmas.Option.{none-some, same_Some}
use Rattle.std.specs.List.{list_any}
use Rattle.std.specs.Map.{lookup}
use Rattle.std.specs.Prelude.{◌&&◌, ◌||◌, ◌==◌, ◌≢◌, ◌⊎◌, filter, is_some, option_map, replicate, slice_get, unwrap_or, if◌then◌else◌, IsSome}
use Rattle.plain_model.specs.Lookups.{event_marks, find_event, find_mark, id_of, is_listed, marks_of, place_of, same_id}
use Rattle.plain_model.specs.declared.id.AnyId.{AnyId}
use Rattle.plain_model.specs.declared.event.PlainEvent.{PlainEvent}
use Rattle.history_laws.specs.Finding.{event_number}
use Rattle.history_laws.proofs.Ids.{same_id_comm, same_id_refl, same_id_true}
use Rattle.history_laws.proofs.Lists.{all_join, item_at}
use Rattle.history_laws.specs.Once.{AreDistinct}
use Rattle.event_arena.proofs.ChangeLemmas.{is_listed_append}
use Rattle.event_arena.proofs.ListLemmas.{take_item}
use Rattle.event_arena.proofs.OnceLemmas.{found_at}
use Rattle.event_sets.specs.Bits.{bits_of, both, picks}
use Rattle.event_sets.specs.Once.{AreLive}
use Rattle.event_sets.specs.Sets.{Ids, common, is_live, live, passing, rest, union}
use Rattle.event_sets.proofs.BitLemmas.{live_find}

-- ---- parts of lists, one item after another

module _ {X : Type 0} (p : X → Bool) where
  pub filter_keep : (xs : List X) (k : ℕ) (x : X) → k < length xs → x ≡ get_or xs k x → p x ≡ true →
      filter p (take (suc k) xs) ≡ filter p (take k xs) ++ x ∷ []
  filter_keep [] k x low at is = absurd (omega arith)
  filter_keep (y ∷ xs) zero x low at is = rw (← at, is) refl
  filter_keep (y ∷ xs) (suc k) x low at is = elim (cases_Bool (p y)) [
    | inl it ↦ rw it (ap (λ ys. y ∷ ys) (filter_keep xs k x (omega arith) at is))
    | inr no_it ↦ rw no_it (filter_keep xs k x (omega arith) at is)
  ]

  pub filter_skip : (xs : List X) (k : ℕ) (x : X) → k < length xs → x ≡ get_or xs k x → p x ≡ false →
      filter p (take (suc k) xs) ≡ filter p (take k xs)
  filter_skip [] k x low at is = absurd (omega arith)
  filter_skip (y ∷ xs) zero x low at is = rw (← at, is) refl
  filter_skip (y ∷ xs) (suc k) x low at is = elim (cases_Bool (p y)) [
    | inl it ↦ rw it (ap (λ ys. y ∷ ys) (filter_skip xs k x (omega arith) at is))
    | inr no_it ↦ rw no_it (filter_skip xs k x (omega arith) at is)
  ]

-- ---- none and all

pub passing_all : (es : List PlainEvent) → passing (λ e. true) es ≡ map id_of es
passing_all [] = refl
passing_all (e ∷ es) = ap (λ ids. id_of e ∷ ids) (passing_all es)

pub all_bits : (es : List PlainEvent) → replicate (length es) true ≡ map (λ e. true) es
all_bits [] = refl
all_bits (e ∷ es) = ap (λ bits. true ∷ bits) (all_bits es)

-- ---- two sets

-- what is set in both picks what the right list has too
pub picks_common : (left : List Bool) (es : List PlainEvent) (right : Ids) →
    picks (both left (bits_of es right)) es ≡ common (picks left es) right
picks_common [] es right = refl
picks_common (b ∷ left) [] right = refl
picks_common (false ∷ left) (e ∷ es) right = picks_common left es right
picks_common (true ∷ left) (e ∷ es) right = elim (cases_Bool (is_listed (id_of e) right)) [
  | inl it ↦ rw it (ap (λ ids. id_of e ∷ ids) (picks_common left es right))
  | inr no_it ↦ rw no_it (picks_common left es right)
]

pub other_bits : (es : List PlainEvent) (ids : Ids) →
    map not (bits_of es ids) ≡ map (λ e. not (is_listed (id_of e) ids)) es
other_bits [] ids = refl
other_bits (e ∷ es) ids = ap (λ bits. not (is_listed (id_of e) ids) ∷ bits) (other_bits es ids)

-- ---- events that are there

pub live_live : (es : List PlainEvent) (ids : Ids) → AreLive es (live es ids)
live_live es [] = tt
live_live es (id ∷ ids) = by (is_live es id) refl (live_live es ids)
  where
    by : (b : Bool) → is_live es id ≡ b → AreLive es (live es ids) →
        AreLive es (if b then id ∷ live es ids else live es ids)
    by true is rest = (is, rest)
    by false is rest = rest

-- a part of what is there is there
pub live_part : (es : List PlainEvent) (p : AnyId → Bool) (ids : Ids) → AreLive es ids → AreLive es (filter p ids)
live_part es p [] h = tt
live_part es p (id ∷ ids) h = by (p id) (live_part es p ids h.1)
  where
    by : (b : Bool) → AreLive es (filter p ids) → AreLive es (if b then id ∷ filter p ids else filter p ids)
    by true rest = (h.0, rest)
    by false rest = rest

pub live_union : (es : List PlainEvent) (left right : Ids) → AreLive es left → AreLive es right →
    AreLive es (union left right)
live_union es left right h k =
    all_join (λ id. is_live es id ≡ true) left (filter (λ id. not (is_listed id left)) right) h
    (live_part es (λ id. not (is_listed id left)) right k)

pub some_live : (es : List PlainEvent) (id : AnyId) → IsSome (find_event id es) → AreLive es (id ∷ [])
some_live es id there = (live_find es id ∙ there, tt)

pub live_place : (es : List PlainEvent) (id : AnyId) → is_live es id ≡ is_some (place_of id es)
live_place [] id = refl
live_place (e ∷ es) id = elim (cases_Bool (same_id id (id_of e))) [
  | inl it ↦ rw it refl
  | inr no_it ↦ rw no_it (live_place es id ∙ same (place_of id es))
]
  where
    same : (o : Option ℕ) → is_some o ≡ is_some (option_map suc o)
    same None = refl
    same (Some k) = refl

-- ---- numbers

-- the place of the event at a place
pub place_own : (es : List PlainEvent) (k : ℕ) (e : PlainEvent) → AreDistinct es → slice_get es k ≡ Some e →
    place_of (id_of e) es ≡ Some k
place_own [] k e once at = absurd (none-some e at)
place_own (x ∷ es) zero e once at =
    rw (ap (λ y. same_id (id_of e) (id_of y)) (same_Some x e at) ∙ same_id_refl (id_of e)) refl
place_own (x ∷ es) (suc k) e once at = elim (cases_Bool (same_id (id_of e) (id_of x))) [
  | inl it ↦ absurd (none-some e (sym once.0 ∙ ap (λ id. find_event id es) (sym (same_id_true (id_of e) (id_of x) it))
      ∙ found_at es k e once.1 at))
  | inr no_it ↦ rw no_it (ap (option_map suc) (place_own es k e once.1 at))
]

-- its number is one more
pub number_at : (es : List PlainEvent) (k : ℕ) (e : PlainEvent) → AreDistinct es → slice_get es k ≡ Some e →
    event_number es (id_of e) ≡ k + 1
number_at es k e once at = ap (λ o. unwrap_or (option_map (λ place. place + 1) o) 0) (place_own es k e once at)

-- one item more of what a function gives
pub map_more : {X Y : Type 0} (f : X → Y) (xs : List X) (k : ℕ) (x : X) → slice_get xs k ≡ Some x →
    map f (take (suc k) xs) ≡ map f (take k xs) ++ f x ∷ []
map_more f xs k x at = ap (map f) (take_item xs k x at) ∙ map-append f (take k xs) (x ∷ [])

-- the event's number is in a range
abbrev pub is_between : ℕ → ℕ → List PlainEvent → PlainEvent → Bool
is_between first last es e = nat_le first (event_number es (id_of e)) && nat_le (event_number es (id_of e)) last

-- one place more of a range
pub range_more : (first last : ℕ) (es : List PlainEvent) (k : ℕ) → AreDistinct es → k < length es →
    map (is_between first last es) (take (suc k) es)
    ≡ map (is_between first last es) (take k es) ++ (nat_le first (k + 1) && nat_le (k + 1) last) ∷ []
range_more first last es k once low =
    let item = item_at es k low in
    map_more (is_between first last es) es k item.0 item.1
    ∙ ap (λ n. map (is_between first last es) (take k es) ++ (nat_le first n && nat_le n last) ∷ [])
    (number_at es k item.0 once item.1)

-- ---- marks

own_or_later : (test : ℕ → Bool) (marks : List ℕ) (own : AnyId) (more : List (ℕ × AnyId)) (id : AnyId) →
    lookup test (map (λ mark. (mark, own)) marks ++ more) ≡ Some id
    → (own ≡ id) ⊎ (lookup test more ≡ Some id)
own_or_later test [] own more id h = inr h
own_or_later test (m ∷ marks) own more id h = elim (cases_Bool (test m)) [
  | inl it ↦ inl (same_Some own id (rw it at h))
  | inr no_it ↦ own_or_later test marks own more id (rw no_it at h)
]

-- the event with a mark is there
pub mark_there : (es : List PlainEvent) (mark : ℕ) (id : AnyId) → find_mark mark es ≡ Some id →
    IsSome (find_event id es)
mark_there [] mark id h = absurd (none-some id h)
mark_there (e ∷ es) mark id h = elim (own_or_later (λ m. mark == m) (event_marks e) (id_of e) (marks_of es) id h) [
  | inl own ↦ rw (ap (same_id id) own ∙ same_id_refl id) refl
  | inr later ↦ by (same_id id (id_of e)) (mark_there es mark id later)
]
  where
    by : (b : Bool) → IsSome (find_event id es) → IsSome (if b then Some e else find_event id es)
    by true there = refl
    by false there = there

-- ---- whether a set is empty

pub not_not : (a : Bool) {b : Bool} → not a ≡ b → a ≡ not b
not_not true h = ap not h
not_not false h = ap not h

pub none_set : (es : List PlainEvent) (ids : Ids) → list_any (λ bit. bit) (bits_of es ids) ≡ true → ids ≢ []
none_set es ids is = λ none. true≢false (sym is ∙ ap (λ l. list_any (λ bit. bit) (bits_of es l)) none ∙ off es)
  where
    off : (es : List PlainEvent) → list_any (λ bit. bit) (bits_of es []) ≡ false
    off [] = refl
    off (e ∷ es) = off es

pub all_empty : (es : List PlainEvent) (ids : Ids) → AreLive es ids → list_any (λ bit. bit) (bits_of es ids) ≡ false →
    ids ≡ []
all_empty es [] h is = refl
all_empty es (id ∷ ids) h is = absurd (true≢false (sym (on es h.0) ∙ is))
  where
    on : (es : List PlainEvent) → is_live es id ≡ true → list_any (λ bit. bit) (bits_of es (id ∷ ids)) ≡ true
    on [] there = there
    on (e ∷ es) there = elim (cases_Bool (same_id id (id_of e))) [
      | inl it ↦ rw (same_id_comm (id_of e) id ∙ it) refl
      | inr no_it ↦
          or_right (is_listed (id_of e) (id ∷ ids)) (list_any (λ bit. bit) (bits_of es (id ∷ ids)))
          (on es (rw no_it at there))
    ]

-- ---- members of what is made of lists

-- the members of a part
pub listed_part : (id : AnyId) (p : AnyId → Bool) (ids : Ids) → is_listed id (filter p ids) ≡ is_listed id ids && p id
listed_part id p [] = refl
listed_part id p (x ∷ ids) = elim (cases_Bool (same_id id x)) [
  | inl it ↦ elim (cases_Bool (p x)) [
    | inl on ↦ rw (on, it, ap p (same_id_true id x it) ∙ on) refl
    | inr off ↦
        let none : p id ≡ false = ap p (same_id_true id x it) ∙ off in
        rw (off, it) (listed_part id p ids ∙ rw none (and-false (is_listed id ids)))
  ]
  | inr no_it ↦ elim (cases_Bool (p x)) [
    | inl on ↦ rw (on, no_it) (listed_part id p ids)
    | inr off ↦ rw (off, no_it) (listed_part id p ids)
  ]
]
  where
    and-false : (b : Bool) → b && false ≡ false
    and-false true = refl
    and-false false = refl

pub listed_union : (id : AnyId) (left right : Ids) →
    is_listed id (union left right) ≡ is_listed id left || is_listed id right
listed_union id left right =
    is_listed_append left (filter (λ x. not (is_listed x left)) right) id
    ∙ ap (λ b. is_listed id left || b) (listed_part id (λ x. not (is_listed x left)) right)
    ∙ or_rest (is_listed id left) (is_listed id right)
  where
    or_rest : (a b : Bool) → a || (b && not a) ≡ a || b
    or_rest true b = refl
    or_rest false true = refl
    or_rest false false = refl

-- a test that ids alone decide passes a part of all ids
passing_ids : (p : AnyId → Bool) (es : List PlainEvent) → passing (λ e. p (id_of e)) es ≡ filter p (map id_of es)
passing_ids p [] = refl
passing_ids p (e ∷ es) = elim (cases_Bool (p (id_of e))) [
  | inl it ↦ rw it (ap (λ ids. id_of e ∷ ids) (passing_ids p es))
  | inr no_it ↦ rw no_it (passing_ids p es)
]

pub listed_rest : (id : AnyId) (es : List PlainEvent) (ids : Ids) →
    is_listed id (rest es ids) ≡ is_live es id && not (is_listed id ids)
listed_rest id es ids = ap (is_listed id) (passing_ids (λ x. not (is_listed x ids)) es)
    ∙ listed_part id (λ x. not (is_listed x ids)) (map id_of es)
