-- Bits, and the lists that they stand for.
use Rattle.std.proofs.Common.{◌≡◌, ◌∙◌, ℕ, zero, suc, ◌<◌, Bool, true, false, List, [], ◌∷◌, ◌++◌, Some, None, inl, inr, refl, sym, ap, length, get_or, take, map, append_assoc, arith}
use Rattle.std.proofs.lemmas.Bool.{cases_Bool, true≢false}
use Rattle.std.proofs.lemmas.Option.{none-some, same_Some}
use Rattle.std.specs.Prelude.{◌||◌, ◌&&◌, is_some, replicate, slice_get}
use Rattle.plain_model.specs.Lookups.{find_event, id_of, is_listed, place_of, same_id}
use Rattle.plain_model.specs.declared.id.AnyId.{AnyId}
use Rattle.plain_model.specs.declared.event.PlainEvent.{PlainEvent}
use Rattle.history_laws.proofs.Ids.{absent_cons, place_at, placeless, same_id_comm, same_id_refl, same_id_true}
use Rattle.history_laws.specs.Once.{AreDistinct}
use Rattle.event_arena.proofs.ListLemmas.{append-nil}
use Rattle.event_sets.specs.Bits.{Adds, bits_of, both, picks}
use Rattle.event_sets.specs.Once.{AreLive}
use Rattle.event_sets.specs.Sets.{Ids, is_live, passing}

-- ---- bits that are set one after another

-- no bit is set where no id is listed
pub no-bits : (es : List PlainEvent) → replicate (length es) false ≡ bits_of es []
no-bits [] = refl
no-bits (e ∷ es) = ap (λ bits. false ∷ bits) (no-bits es)

pub bits_count : (es : List PlainEvent) (ids : Ids) → length (bits_of es ids) ≡ length es
bits_count [] ids = refl
bits_count (e ∷ es) ids = ap suc (bits_count es ids)

pub adds_none : (es : List PlainEvent) (bits : List Bool) → Adds es [] bits bits
adds_none es bits = λ before is. is ∙ ap (bits_of es) (sym (append-nil before))

pub adds_more : (es : List PlainEvent) (a b : Ids) (old mid new : List Bool) → Adds es a old mid → Adds es b mid new →
    Adds es (a ++ b) old new
adds_more es a b old mid new f g =
    λ before is. g (before ++ a) (f before is) ∙ ap (bits_of es) (append_assoc before a b)

-- ---- the events that bits pick

-- the bits of a test pick the events that pass it
pub picks_passing : (test : PlainEvent → Bool) (es : List PlainEvent) → picks (map test es) es ≡ passing test es
picks_passing test [] = refl
picks_passing test (e ∷ es) = elim (cases_Bool (test e)) [
  | inl it ↦ rw it (ap (λ ids. id_of e ∷ ids) (picks_passing test es))
  | inr no_it ↦ rw no_it (picks_passing test es)
]

-- one place more, whose bit is set
pub picks_more : (bits : List Bool) (es : List PlainEvent) (k : ℕ) (e : PlainEvent) → slice_get es k ≡ Some e →
    get_or bits k false ≡ true →
    picks (take (suc k) bits) (take (suc k) es) ≡ picks (take k bits) (take k es) ++ id_of e ∷ []
picks_more [] es k e at is = absurd (true≢false (sym is))
picks_more (x ∷ bits) [] k e at is = absurd (none-some e at)
picks_more (x ∷ bits) (y ∷ es) zero e at is = rw is (ap (λ z. id_of z ∷ []) (same_Some y e at))
picks_more (true ∷ bits) (y ∷ es) (suc k) e at is = ap (λ ids. id_of y ∷ ids) (picks_more bits es k e at is)
picks_more (false ∷ bits) (y ∷ es) (suc k) e at is = picks_more bits es k e at is

-- or isn't
pub picks_skip : (bits : List Bool) (es : List PlainEvent) (k : ℕ) → get_or bits k false ≡ false →
    picks (take (suc k) bits) (take (suc k) es) ≡ picks (take k bits) (take k es)
picks_skip [] es zero is = refl
picks_skip [] es (suc k) is = refl
picks_skip (x ∷ bits) [] zero is = refl
picks_skip (x ∷ bits) [] (suc k) is = refl
picks_skip (x ∷ bits) (y ∷ es) zero is = rw is refl
picks_skip (true ∷ bits) (y ∷ es) (suc k) is = ap (λ ids. id_of y ∷ ids) (picks_skip bits es k is)
picks_skip (false ∷ bits) (y ∷ es) (suc k) is = picks_skip bits es k is

-- ---- two sets

pub both_more : (left right : List Bool) (k : ℕ) → k < length left → k < length right →
    both (take (suc k) left) (take (suc k) right)
    ≡ both (take k left) (take k right) ++ (get_or left k false && get_or right k false) ∷ []
both_more [] right k low also = absurd (omega arith)
both_more (l ∷ left) [] k low also = absurd (omega arith)
both_more (l ∷ left) (r ∷ right) zero low also = refl
both_more (l ∷ left) (r ∷ right) (suc k) low also =
    ap (λ bits. (l && r) ∷ bits) (both_more left right k (omega arith) (omega arith))

pub both_count : (left right : List Bool) → length left ≡ length right → length (both left right) ≡ length right
both_count [] [] is = refl
both_count [] (r ∷ right) is = absurd (omega arith)
both_count (l ∷ left) [] is = refl
both_count (l ∷ left) (r ∷ right) is = ap suc (both_count left right (omega arith))

-- an id that isn't there is in no list of picks
picks_misses : (bits : List Bool) (es : List PlainEvent) (id : AnyId) → find_event id es ≡ None →
    is_listed id (picks bits es) ≡ false
picks_misses [] es id h = refl
picks_misses (b ∷ bits) [] id h = refl
picks_misses (true ∷ bits) (e ∷ es) id h =
    let apart = absent_cons id e es h in rw apart.0 (picks_misses bits es id apart.1)
picks_misses (false ∷ bits) (e ∷ es) id h = let apart = absent_cons id e es h in picks_misses bits es id apart.1

-- nor does it set a bit
bits_beside : (es : List PlainEvent) (id : AnyId) (ids : Ids) → find_event id es ≡ None →
    bits_of es (id ∷ ids) ≡ bits_of es ids
bits_beside [] id ids h = refl
bits_beside (e ∷ es) id ids h =
    let apart = absent_cons id e es h in
    let other : same_id (id_of e) id ≡ false = same_id_comm (id_of e) id ∙ apart.0 in
    λ i. (other i || is_listed (id_of e) ids) ∷ bits_beside es id ids apart.1 i

-- bits are those of the events that they pick
pub picks_tied : (bits : List Bool) (es : List PlainEvent) → AreDistinct es → length bits ≡ length es →
    bits ≡ bits_of es (picks bits es)
picks_tied [] [] once is = refl
picks_tied [] (e ∷ es) once is = absurd (omega arith)
picks_tied (b ∷ bits) [] once is = absurd (omega arith)
picks_tied (true ∷ bits) (e ∷ es) once is =
    let rest = picks_tied bits es once.1 (omega arith) ∙ sym (bits_beside es (id_of e) (picks bits es) once.0) in
    λ i. (sym (same_id_refl (id_of e)) i || is_listed (id_of e) (picks bits es)) ∷ rest i
picks_tied (false ∷ bits) (e ∷ es) once is =
    let rest = picks_tied bits es once.1 (omega arith) in
    λ i. sym (picks_misses bits es (id_of e) once.0) i ∷ rest i

-- ---- events that are there

pub live_more : (e : PlainEvent) (es : List PlainEvent) (ids : Ids) → AreLive es ids → AreLive (e ∷ es) ids
live_more e es [] h = tt
live_more e es (id ∷ ids) h = (or_second (same_id id (id_of e)) (is_live es id) h.0, live_more e es ids h.1)
  where
    or_second : (a b : Bool) → b ≡ true → (a || b) ≡ true
    or_second true b h = refl
    or_second false b h = h

pub live_own : (e : PlainEvent) (es : List PlainEvent) → is_live (e ∷ es) (id_of e) ≡ true
live_own e es = rw (same_id_refl (id_of e)) refl

pub picks_live : (bits : List Bool) (es : List PlainEvent) → AreLive es (picks bits es)
picks_live [] es = tt
picks_live (b ∷ bits) [] = tt
picks_live (true ∷ bits) (e ∷ es) = (live_own e es, live_more e es (picks bits es) (picks_live bits es))
picks_live (false ∷ bits) (e ∷ es) = live_more e es (picks bits es) (picks_live bits es)

-- what isn't there isn't in a list of what is there
pub live_misses : (es : List PlainEvent) (ids : Ids) (id : AnyId) → AreLive es ids → is_live es id ≡ false →
    is_listed id ids ≡ false
live_misses es [] id h no_id = refl
live_misses es (x ∷ ids) id h no_id = elim (cases_Bool (same_id id x)) [
  | inl it ↦ absurd (true≢false (sym (ap (is_live es) (same_id_true id x it) ∙ h.0) ∙ no_id))
  | inr no_it ↦ rw no_it (live_misses es ids id h.1 no_id)
]

pub live_find : (es : List PlainEvent) (id : AnyId) → is_live es id ≡ is_some (find_event id es)
live_find [] id = refl
live_find (e ∷ es) id = elim (cases_Bool (same_id id (id_of e))) [
  | inl it ↦ rw it refl
  | inr no_it ↦ rw no_it (live_find es id)
]

-- ---- whether an id is in a list

-- the bit at the place of an event
pub bit_of : (es : List PlainEvent) (ids : Ids) (k : ℕ) (e : PlainEvent) → slice_get es k ≡ Some e →
    get_or (bits_of es ids) k false ≡ is_listed (id_of e) ids
bit_of [] ids k e h = absurd (none-some e h)
bit_of (x ∷ es) ids zero e h = ap (λ y. is_listed (id_of y) ids) (same_Some x e h)
bit_of (x ∷ es) ids (suc k) e h = bit_of es ids k e h

-- at its place is its bit
pub bit_at : (es : List PlainEvent) (ids : Ids) (id : AnyId) (k : ℕ) → place_of id es ≡ Some k →
    get_or (bits_of es ids) k false ≡ is_listed id ids
bit_at es ids id k there =
    let at = place_at id es k there in bit_of es ids k at.0 at.1 ∙ ap (λ x. is_listed x ids) (sym at.3)

-- without a place it isn't in a list of what is there
pub bit_nowhere : (es : List PlainEvent) (ids : Ids) (id : AnyId) → AreLive es ids → place_of id es ≡ None →
    false ≡ is_listed id ids
bit_nowhere es ids id h none = sym (live_misses es ids id h (live_find es id ∙ ap is_some (placeless es id none)))
