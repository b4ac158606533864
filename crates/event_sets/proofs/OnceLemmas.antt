-- Lists without repeats stay so.
use Rattle.std.proofs.Common.{◌≡◌, ◌∙◌, ℕ, zero, suc, ◌+◌, ◌-◌, Bool, true, false, not, List, [], ◌∷◌, ◌++◌, Option, Some, None, inl, inr, refl, sym, ap, subst, map}
use Rattle.std.proofs.lemmas.Bool.{cases_Bool, or_right, true≢false, not-true}
use Rattle.std.specs.Prelude.{◌&&◌, ◌||◌, filter, option_to_list, if◌then◌else◌}
use Rattle.plain_model.specs.Lookups.{event_at, find_event, id_of, is_listed, same_id}
use Rattle.plain_model.specs.declared.id.AnyId.{AnyId}
use Rattle.plain_model.specs.declared.event.PlainEvent.{PlainEvent}
use Rattle.selection_parser.specs.declared.function.Function.{Function}
use Rattle.selection_parser.specs.declared.function.Function.TheVariants.{Min, Max, Amp, Par, Chn, Dsc, Anc, Pre, Suc, Srt}
use Rattle.history_laws.proofs.Ids.{absent_cons, same_id_refl, same_id_true}
use Rattle.history_laws.specs.Once.{AreDistinct}
use Rattle.event_arena.proofs.ChangeLemmas.{is_listed_append}
use Rattle.event_sets.specs.Once.{IsOnce, are_once}
use Rattle.event_sets.specs.Sets.{Ids, called, greatest, least, near_times, numbered, passing, union, unless_empty}
use Rattle.event_sets.proofs.SetLemmas.{passing_all}

pub both_parts : (a b : Bool) → a && b ≡ true → (a ≡ true) × (b ≡ true)
both_parts true b h = (refl, h)
both_parts false b h = absurd (true≢false (sym h))

pub either_off : (a b : Bool) → a || b ≡ false → (a ≡ false) × (b ≡ false)
either_off true b h = absurd (true≢false h)
either_off false b h = (refl, h)

-- ---- parts

-- what isn't in a list isn't in a part of it
pub unlisted_part : (id : AnyId) (p : AnyId → Bool) (ids : Ids) → is_listed id ids ≡ false →
    is_listed id (filter p ids) ≡ false
unlisted_part id p [] h = refl
unlisted_part id p (x ∷ ids) h =
    let apart = either_off (same_id id x) (is_listed id ids) h in
    by (p x) apart.0 (unlisted_part id p ids apart.1)
  where
    by : (b : Bool) → same_id id x ≡ false → is_listed id (filter p ids) ≡ false →
        is_listed id (if b then x ∷ filter p ids else filter p ids) ≡ false
    by true off rest = rw off rest
    by false off rest = rest

pub once_part : (p : AnyId → Bool) (ids : Ids) → IsOnce ids → IsOnce (filter p ids)
once_part p [] h = refl
once_part p (x ∷ ids) h =
    let apart = both_parts (not (is_listed x ids)) (are_once ids) h in
    by (p x) (unlisted_part x p ids (not-true (is_listed x ids) apart.0)) (once_part p ids apart.1)
  where
    by : (b : Bool) → is_listed x (filter p ids) ≡ false → IsOnce (filter p ids) →
        IsOnce (if b then x ∷ filter p ids else filter p ids)
    by true off rest = rw off rest
    by false off rest = rest

-- ---- one list after another

pub once_append : (a b : Ids) → IsOnce a → IsOnce b → ((id : AnyId) → is_listed id a ≡ true → is_listed id b ≡ false) →
    IsOnce (a ++ b)
once_append [] b h k f = k
once_append (x ∷ a) b h k f =
    let apart = both_parts (not (is_listed x a)) (are_once a) h in
    let here : is_listed x (x ∷ a) ≡ true = rw (same_id_refl x) refl in
    let off : is_listed x (a ++ b) ≡ false =
    is_listed_append a b x ∙ rw (not-true (is_listed x a) apart.0, f x here) refl in
    rw off (once_append a b apart.1 k (λ id listed. f id (or_right (same_id id x) (is_listed id a) listed)))

-- the left list has nothing of what the right one has besides
pub unlisted_left : (left : Ids) (id : AnyId) (right : Ids) → is_listed id left ≡ true →
    is_listed id (filter (λ x. not (is_listed x left)) right) ≡ false
unlisted_left left id [] h = refl
unlisted_left left id (x ∷ right) h = elim (cases_Bool (is_listed x left)) [
  | inl it ↦ rw it (unlisted_left left id right h)
  | inr no_it ↦
      let other : same_id id x ≡ false = elim (cases_Bool (same_id id x)) [
        | inl same ↦ absurd (true≢false (sym h ∙ ap (λ y. is_listed y left) (same_id_true id x same) ∙ no_it))
        | inr differs ↦ differs
      ] in
      rw (no_it, other) (unlisted_left left id right h)
]

pub once_union : (left right : Ids) → IsOnce left → IsOnce right → IsOnce (union left right)
once_union left right h k =
    once_append left (filter (λ id. not (is_listed id left)) right) h
    (once_part (λ id. not (is_listed id left)) right k) (λ id listed. unlisted_left left id right listed)

-- ---- events of a history

unlisted_passing : (id : AnyId) (test : PlainEvent → Bool) (es : List PlainEvent) → find_event id es ≡ None →
    is_listed id (passing test es) ≡ false
unlisted_passing id test [] h = refl
unlisted_passing id test (e ∷ es) h =
    let parts = absent_cons id e es h in
    by (test e) parts.0 (unlisted_passing id test es parts.1)
  where
    by : (b : Bool) → same_id id (id_of e) ≡ false → is_listed id (passing test es) ≡ false →
        is_listed id (map id_of (if b then e ∷ filter test es else filter test es)) ≡ false
    by true off rest = rw off rest
    by false off rest = rest

pub once_passing : (test : PlainEvent → Bool) (es : List PlainEvent) → AreDistinct es → IsOnce (passing test es)
once_passing test [] h = refl
once_passing test (e ∷ es) h = by (test e) (unlisted_passing (id_of e) test es h.0) (once_passing test es h.1)
  where
    by : (b : Bool) → is_listed (id_of e) (passing test es) ≡ false → IsOnce (passing test es) →
        IsOnce (map id_of (if b then e ∷ filter test es else filter test es))
    by true off rest = rw off rest
    by false off rest = rest

pub once_some : (o : Option AnyId) → IsOnce (option_to_list o)
once_some None = refl
once_some (Some id) = refl

pub once_unless : (ids more : Ids) → IsOnce more → IsOnce (unless_empty ids more)
once_unless [] more h = refl
once_unless (id ∷ ids) more h = h

pub once_called : (es : List PlainEvent) (function : Function) (ids : Ids) → AreDistinct es →
    IsOnce (called es function ids)
unfolding called
once_called es Min ids h = once_unless ids (numbered es (least es ids)) (once_some (event_at (least es ids) es))
once_called es Max ids h = once_unless ids (numbered es (greatest es ids)) (once_some (event_at (greatest es ids) es))
once_called es Amp ids h =
    once_unless ids (map id_of es) (subst IsOnce (passing_all es) (once_passing (λ e. true) es h))
once_called es Par ids h = once_passing _ es h
once_called es Chn ids h = once_passing _ es h
once_called es Dsc ids h = once_passing _ es h
once_called es Anc ids h = once_passing _ es h
once_called es Pre ids h = once_unless ids _ (once_some (event_at (least es ids - 1) es))
once_called es Suc ids h = once_unless ids _ (once_some (event_at (greatest es ids + 1) es))
once_called es Srt ids h = once_passing _ es h

pub once_near : (es : List PlainEvent) (n : ℕ) (ids : Ids) → AreDistinct es → IsOnce ids → IsOnce (near_times es n ids)
once_near es zero ids h k = k
once_near es (suc n) ids h k = once_passing _ es h
