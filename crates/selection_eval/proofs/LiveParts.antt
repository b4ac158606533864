-- Parts of a history's events, and what is looked up in it, are events of the history.
use Rattle.std.proofs.Common.{◌≡◌, ℕ, zero, suc, Bool, true, false, not, List, [], ◌∷◌, ◌++◌, map, Some, None, refl, sym, subst}
use Rattle.std.specs.Prelude.{◌||◌, ◌-◌, ◌==◌, filter, option_map, option_to_list, slice_get, if◌then◌else◌}
use Rattle.std.specs.List.{AllByRecursion}
use Rattle.std.specs.Map.{lookup}
use Rattle.plain_model.specs.Lookups.{event_at, event_marks, find_mark, id_of, is_listed, marks_of, same_id}
use Rattle.plain_model.specs.declared.id.AnyId.{AnyId}
use Rattle.plain_model.specs.declared.event.PlainEvent.{PlainEvent}
use Rattle.history_laws.proofs.Ids.{same_id_refl}
use Rattle.event_sets.specs.Once.{AreLive}
use Rattle.event_sets.specs.Sets.{Ids, common, passing, union}
use Rattle.selection_eval.proofs.OnceParts.{or_second}

-- ---- lists

all_append : {A : Type 0} (P : A → Type 0) (a b : List A) → AllByRecursion P a → AllByRecursion P b
    → AllByRecursion P (a ++ b)
all_append P [] b h k = k
all_append P (x ∷ a) b h k = (h.0, all_append P a b h.1 k)

pub all_part : {A : Type 0} (P : A → Type 0) (p : A → Bool) (xs : List A) → AllByRecursion P xs
    → AllByRecursion P (filter p xs)
all_part P p [] h = tt
all_part P p (x ∷ xs) h = go (p x) (all_part P p xs h.1)
  where
    go : (b : Bool) → AllByRecursion P (filter p xs) → AllByRecursion P (if b then x ∷ filter p xs else filter p xs)
    go true rec = (h.0, rec)
    go false rec = rec

-- what passes a test passes it
pub all_passed : {A : Type 0} (p : A → Bool) (xs : List A) → AllByRecursion (λ x. p x ≡ true) (filter p xs)
all_passed p [] = tt
all_passed p (x ∷ xs) = go (p x) refl (all_passed p xs)
  where
    go : (b : Bool) → p x ≡ b → AllByRecursion (λ y. p y ≡ true) (filter p xs)
        → AllByRecursion (λ y. p y ≡ true) (if b then x ∷ filter p xs else filter p xs)
    go true e rec = (e, rec)
    go false e rec = rec

-- events that stand in a whole list
abbrev pub Stand : List PlainEvent → List PlainEvent → Type 0
Stand whole events = AllByRecursion (λ e. is_listed (id_of e) (map id_of whole) ≡ true) events

stand_more : (x : PlainEvent) (whole events : List PlainEvent) → Stand whole events → Stand (x ∷ whole) events
stand_more x whole [] h = tt
stand_more x whole (e ∷ events) h =
    (or_second (same_id (id_of e) (id_of x)) (is_listed (id_of e) (map id_of whole)) h.0, stand_more x whole events h.1)

pub stand_all : (events : List PlainEvent) → Stand events events
stand_all [] = tt
stand_all (e ∷ events) = (
  subst (λ (b : Bool). (b || is_listed (id_of e) (map id_of events)) ≡ true) (sym (same_id_refl (id_of e))) refl,
  stand_more e events events (stand_all events),
)

pub live_ids : (whole events : List PlainEvent) → Stand whole events → AreLive whole (map id_of events)
live_ids whole [] h = tt
live_ids whole (e ∷ events) h = (h.0, live_ids whole events h.1)

live_get : (whole events : List PlainEvent) (k : ℕ) → Stand whole events
    → AreLive whole (option_to_list (option_map id_of (slice_get events k)))
live_get whole [] zero h = tt
live_get whole [] (suc k) h = tt
live_get whole (e ∷ events) zero h = (h.0, tt)
live_get whole (e ∷ events) (suc k) h = live_get whole events k h.1

-- ---- marks

-- what is looked up among marks of one event and those of others
live_own : (whole : List PlainEvent) (test : ℕ → Bool) (id : AnyId) (marks : List ℕ) (others : List (ℕ × AnyId))
    → is_listed id (map id_of whole) ≡ true → AreLive whole (option_to_list (lookup test others))
    → AreLive whole (option_to_list (lookup test (map (λ mark. (mark, id)) marks ++ others)))
live_own whole test id [] others h rec = rec
live_own whole test id (mark ∷ marks) others h rec = go (test mark) (live_own whole test id marks others h rec)
  where
    go : (b : Bool) → AreLive whole (option_to_list (lookup test (map (λ mark. (mark, id)) marks ++ others)))
        → AreLive whole (option_to_list (if b then Some id else lookup test (map (λ mark. (mark, id)) marks ++ others)))
    go true rec = (h, tt)
    go false rec = rec

live_marks : (whole events : List PlainEvent) (test : ℕ → Bool) → Stand whole events
    → AreLive whole (option_to_list (lookup test (marks_of events)))
live_marks whole [] test h = tt
live_marks whole (e ∷ events) test h =
    live_own whole test (id_of e) (event_marks e) (marks_of events) h.0 (live_marks whole events test h.1)

-- ---- a history

module _ (events : List PlainEvent) where
  pub live_passing : (test : PlainEvent → Bool) → AreLive events (passing test events)
  live_passing test = live_ids events (filter test events) (all_part _ test events (stand_all events))

  pub live_event : (n : ℕ) → AreLive events (option_to_list (event_at n events))
  live_event n = go (n == 0)
    where
      go : (b : Bool) → AreLive events (option_to_list (if b then None else option_map id_of (slice_get events (n - 1))))
      go true = tt
      go false = live_get events events (n - 1) (stand_all events)

  pub live_mark : (n : ℕ) → AreLive events (option_to_list (find_mark n events))
  live_mark n = live_marks events events (λ m. n == m) (stand_all events)

  pub live_union : (left right : Ids) → AreLive events left → AreLive events right → AreLive events (union left right)
  live_union left right h k =
      all_append _ left (filter (λ id. not (is_listed id left)) right) h
      (all_part _ (λ id. not (is_listed id left)) right k)

  pub live_common : (left right : Ids) → AreLive events left → AreLive events right → AreLive events (common left right)
  live_common left right h k = all_part _ (λ id. is_listed id right) left h
