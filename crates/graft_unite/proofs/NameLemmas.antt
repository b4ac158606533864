-- Names of events, one after another.
use Rattle.std.proofs.Common.{◌≡◌, ◌∙◌, ℕ, zero, suc, Bool, true, false, cond, inl, inr, List, [], ◌∷◌, ◌++◌, map, take, Option, Some, None, refl, sym, ap, true≢false, append-nil}
use Rattle.std.proofs.lemmas.Bool.{cases_Bool, false_from_ne_true}
use Rattle.std.proofs.lemmas.List.Folds.{find-append, list_any-append}
use Rattle.std.proofs.lemmas.Slice.Eq.{bytes_eq-Decides}
use Rattle.std.specs.List.{list_any}
use Rattle.std.specs.Option.{option_or}
use Rattle.std.specs.Prelude.{◌||◌, bytes_eq, find, option_map, option_to_list, slice_get}
use Rattle.plain_model.specs.declared.fault.Fault.{Fault}
use Rattle.plain_model.specs.declared.fault.Fault.TheVariants as fault
use Rattle.plain_model.specs.declared.event.PlainEvent.{PlainEvent}
use Rattle.plain_model.specs.Paths.{Bytes}
use Rattle.edit_laws.proofs.Checked.{none_of_both}
use Rattle.event_arena.proofs.ListLemmas.{take_item}
use Rattle.graft_laws.specs.Faults.{name_fault}
use Rattle.graft_laws.specs.Joining.{Joining, new_name, new_names}
use Rattle.graft_laws.specs.Names.{event_name, is_used, names_of}
use Rattle.graft_unite.specs.Used.{AreNamesOf}

-- ---- sets

pub any_mapped : {X Y : Type 0} (f : X → Y) (test : Y → Bool) (xs : List X) → list_any test (map f xs) ≡ list_any (λ x. test (f x)) xs
any_mapped f test [] = refl
any_mapped f test (x ∷ xs) = ap (λ b. test (f x) || b) (any_mapped f test xs)

pub turned : (p q : Bytes) → bytes_eq p q ≡ bytes_eq q p
turned p q = elim (cases_Bool (bytes_eq p q)) [
  | inl is ↦ is ∙ sym ((bytes_eq-Decides q p).1 (sym ((bytes_eq-Decides p q).0 is)))
  | inr other ↦ other ∙ sym (false_from_ne_true (bytes_eq q p) (λ is. true≢false (sym ((bytes_eq-Decides p q).1 (sym ((bytes_eq-Decides q p).0 is))) ∙ other)))
]

pub or_cond : (a b : Bool) → cond a true b ≡ a || b
or_cond true b = refl
or_cond false b = refl

-- what is there already changes nothing
pub or_there : (other name : Bytes) (names : List Bytes) → list_any (bytes_eq name) names ≡ true → list_any (bytes_eq other) names ≡ bytes_eq other name || list_any (bytes_eq other) names
or_there other name names there = elim (cases_Bool (bytes_eq other name)) [
  | inl is ↦ ap (λ (n : Bytes). list_any (bytes_eq n) names) ((bytes_eq-Decides other name).0 is) ∙ there ∙ sym (ap (λ b. b || list_any (bytes_eq other) names) is)
  | inr apart ↦ sym (ap (λ b. b || list_any (bytes_eq other) names) apart)
]

-- ---- names of events

pub names_append : (xs ys : List PlainEvent) → names_of (xs ++ ys) ≡ names_of xs ++ names_of ys
names_append [] ys = refl
names_append (x ∷ xs) ys = ap (λ (l : List Bytes). option_to_list (event_name x) ++ l) (names_append xs ys) ∙ joins (option_to_list (event_name x)) (names_of xs) (names_of ys)
  where
    joins : (a b c : List Bytes) → a ++ (b ++ c) ≡ (a ++ b) ++ c
    joins [] b c = refl
    joins (x ∷ a) b c = ap (λ (l : List Bytes). x ∷ l) (joins a b c)

-- event by event
pub named_each : (test : Bytes → Bool) (events : List PlainEvent) → list_any test (names_of events) ≡ list_any (λ e. list_any test (names_of (e ∷ []))) events
named_each test [] = refl
named_each test (e ∷ events) =
    list_any-append test (option_to_list (event_name e)) (names_of events)
    ∙ (λ i. list_any test (sym (append-nil (option_to_list (event_name e))) i) || named_each test events i)

-- one event more
pub used_more : (events : List PlainEvent) (k : ℕ) (e : PlainEvent) (name : Bytes) → slice_get events k ≡ Some e → is_used (take (suc k) events) name ≡ is_used (take k events) name || is_used (e ∷ []) name
used_more events k e name at =
    ap (λ (l : List PlainEvent). is_used l name) (take_item events k e at)
    ∙ ap (list_any (bytes_eq name)) (names_append (take k events) (e ∷ []))
    ∙ list_any-append (bytes_eq name) (names_of (take k events)) (names_of (e ∷ []))

or_turned : (a b : Bool) → a || b ≡ b || a
or_turned true true = refl
or_turned true false = refl
or_turned false true = refl
or_turned false false = refl

pub noted_more : (events : List PlainEvent) (k : ℕ) (e : PlainEvent) (old new : List Bytes) → slice_get events k ≡ Some e → AreNamesOf (take k events) old →
    ((name : Bytes) → list_any (bytes_eq name) new ≡ is_used (e ∷ []) name || list_any (bytes_eq name) old) → AreNamesOf (take (suc k) events) new
noted_more events k e old new at are more name =
    more name ∙ ap (λ b. is_used (e ∷ []) name || b) (are name) ∙ or_turned (is_used (e ∷ []) name) (is_used (take k events) name) ∙ sym (used_more events k e name at)

-- ---- the first new name that may not be given

fault_append : (test : Bytes → Bool) (xs ys : List Bytes) → name_fault test (xs ++ ys) ≡ option_or (name_fault test xs) (name_fault test ys)
fault_append test xs ys = ap (option_map fault.NameTaken) (find-append test xs ys) ∙ go (find test xs) (find test ys)
  where
    go : (a b : Option Bytes) → option_map fault.NameTaken (option_or a b) ≡ option_or (option_map fault.NameTaken a) (option_map fault.NameTaken b)
    go None b = refl
    go (Some x) b = refl

module _ (how : Joining) (test : Bytes → Bool) where
  -- the fault of an event behind others that have none is the first
  pub fault_found : (events : List PlainEvent) (k : ℕ) (e : PlainEvent) (why : Fault) → slice_get events k ≡ Some e → name_fault test (new_names how (take k events)) ≡ None
      → name_fault test (new_name how e) ≡ Some why → name_fault test (new_names how events) ≡ Some why
  fault_found [] k e why at none own = absurd cc
  fault_found (x ∷ events) zero e why at none own =
      let same : x ≡ e = cc in
      fault_append test (new_name how x) (new_names how events)
      ∙ ap (λ (o : Option Fault). option_or o (name_fault test (new_names how events))) (ap (λ (y : PlainEvent). name_fault test (new_name how y)) same ∙ own)
  fault_found (x ∷ events) (suc k) e why at none own =
      let both = none_of_both (name_fault test (new_name how x)) (name_fault test (new_names how (take k events))) (sym (fault_append test (new_name how x) (new_names how (take k events))) ∙ none) in
      fault_append test (new_name how x) (new_names how events)
      ∙ ap (λ (o : Option Fault). option_or o (name_fault test (new_names how events))) both.0
      ∙ fault_found events k e why at both.1 own

  -- one event more that has none
  pub fault_none : (events : List PlainEvent) (k : ℕ) (e : PlainEvent) → slice_get events k ≡ Some e → name_fault test (new_names how (take k events)) ≡ None
      → name_fault test (new_name how e) ≡ None → name_fault test (new_names how (take (suc k) events)) ≡ None
  fault_none [] k e at none own = absurd cc
  fault_none (x ∷ events) zero e at none own =
      let same : x ≡ e = cc in
      fault_append test (new_name how x) []
      ∙ ap (λ (o : Option Fault). option_or o None) (ap (λ (y : PlainEvent). name_fault test (new_name how y)) same ∙ own)
  fault_none (x ∷ events) (suc k) e at none own =
      let both = none_of_both (name_fault test (new_name how x)) (name_fault test (new_names how (take k events))) (sym (fault_append test (new_name how x) (new_names how (take k events))) ∙ none) in
      fault_append test (new_name how x) (new_names how (take (suc k) events))
      ∙ ap (λ (o : Option Fault). option_or o (name_fault test (new_names how (take (suc k) events)))) both.0
      ∙ fault_none events k e at both.1 own
