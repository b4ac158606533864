-- No limit is passed exactly where none is found to be passed.
use Rattle.std.proofs.Common.{◌≡◌, ◌∙◌, ℕ, ◌≤◌, Bool, true, false, List, [], ◌∷◌, length, refl, arith, Option, Some, None}
use Rattle.std.specs.Prelude.{◌↔◌, nat_lt, if◌then◌else◌}
use Rattle.std.specs.List.{AllByRecursion, list_any}
use Rattle.std.proofs.lemmas.Bool.{or_from, or_parts}
use Rattle.std.proofs.lemmas.Bool.Decides.{nat_tests}
use Rattle.plain_model.specs.declared.fault.Fault.{Fault}
use Rattle.plain_model.specs.declared.limit.TheConstants.{MAX_ALIASES, MAX_EVENTS, MAX_OPERATIONS, MAX_PARENTS}
use Rattle.plain_model.specs.declared.event.PlainEvent.{PlainEvent}
use Rattle.plain_model.specs.Histories.{nodes}
use Rattle.plain_model.specs.Lookups.{alias_count, event_parents}
use Rattle.history_laws.specs.FirstParents.{ops_along}
use Rattle.edit_laws.specs.Parts.{HasFewParents}
use Rattle.edit_laws.specs.Passing.{IsWithinLimits, limit_fault}

no_if : (b : Bool) (x : Fault) (o : Option Fault) → (if b then Some x else o) ≡ None → (b ≡ false) × (o ≡ None)
no_if true x o h = absurd cc
no_if false x o h = (refl, h)

not_if : (b : Bool) (x : Fault) (o : Option Fault) → b ≡ false → (if b then Some x else o) ≡ o
not_if true x o h = absurd cc
not_if false x o h = refl

-- not above a number
pub few : (most n : ℕ) → nat_lt most n ≡ false → n ≤ most
few most n h = grind (arith, nat_tests)

pub not_many : (most n : ℕ) → n ≤ most → nat_lt most n ≡ false
not_many most n h = grind (arith, nat_tests)

all_few : (events : List PlainEvent) → list_any (λ e. nat_lt MAX_PARENTS (length (event_parents e))) events ≡ false →
    AllByRecursion HasFewParents events
all_few [] h = tt
all_few (e ∷ es) h =
    let parts = or_parts (nat_lt MAX_PARENTS (length (event_parents e))) (list_any (λ e. nat_lt MAX_PARENTS (length (event_parents e))) es) h in
    (few MAX_PARENTS (length (event_parents e)) parts.0, all_few es parts.1)

none_many : (events : List PlainEvent) → AllByRecursion HasFewParents events →
    list_any (λ e. nat_lt MAX_PARENTS (length (event_parents e))) events ≡ false
none_many [] h = refl
none_many (e ∷ es) h =
    or_from (nat_lt MAX_PARENTS (length (event_parents e))) (list_any (λ e. nat_lt MAX_PARENTS (length (event_parents e))) es) (not_many MAX_PARENTS (length (event_parents e)) h.0) (none_many es h.1)

within : (events : List PlainEvent) → limit_fault events ≡ None → IsWithinLimits events
within events h =
    let one = no_if (nat_lt MAX_EVENTS (length events)) _ _ h in
    let two = no_if (nat_lt MAX_OPERATIONS (length (ops_along (nodes events)))) _ _ one.1 in
    let three = no_if (list_any (λ e. nat_lt MAX_PARENTS (length (event_parents e))) events) _ _ two.1 in
    let four = no_if (nat_lt MAX_ALIASES (alias_count events)) _ _ three.1 in
    record {
      few_events = few MAX_EVENTS (length events) one.0;
      few_operations = few MAX_OPERATIONS (length (ops_along (nodes events))) two.0;
      few_parents = all_few events three.0;
      few_aliases = few MAX_ALIASES (alias_count events) four.0;
    }

none_passed : (events : List PlainEvent) → IsWithinLimits events → limit_fault events ≡ None
none_passed events w =
    not_if (nat_lt MAX_EVENTS (length events)) _ _ (not_many MAX_EVENTS (length events) w.few_events)
    ∙ not_if (nat_lt MAX_OPERATIONS (length (ops_along (nodes events)))) _ _ (not_many MAX_OPERATIONS (length (ops_along (nodes events))) w.few_operations)
    ∙ not_if (list_any (λ e. nat_lt MAX_PARENTS (length (event_parents e))) events) _ _ (none_many events w.few_parents)
    ∙ not_if (nat_lt MAX_ALIASES (alias_count events)) _ _ (not_many MAX_ALIASES (alias_count events) w.few_aliases)

pub limits_hold : (events : List PlainEvent) → (limit_fault events ≡ None) ↔ IsWithinLimits events
limits_hold events = (within events, none_passed events)
