-- Limits that a history may pass after an edit. (own)
use Rattle.std.specs.Prelude.{◌≤◌, List, length, Option, Some, None, nat_lt, if◌then◌else◌}
use Rattle.std.specs.List.{AllByRecursion, list_any}
use Rattle.plain_model.specs.declared.fault.Fault.{Fault}
use Rattle.plain_model.specs.declared.fault.Fault.TheVariants as fault
use Rattle.plain_model.specs.declared.fault.Which.TheVariants as limit
use Rattle.plain_model.specs.declared.limit.TheConstants.{MAX_ALIASES, MAX_EVENTS, MAX_OPERATIONS, MAX_PARENTS}
use Rattle.plain_model.specs.declared.event.PlainEvent.{PlainEvent}
use Rattle.plain_model.specs.Histories.{nodes}
use Rattle.plain_model.specs.Lookups.{alias_count, event_parents}
use Rattle.history_laws.specs.FirstParents.{ops_along}
use Rattle.edit_laws.specs.Parts.{HasFewParents}

-- the events, their operations, the parents of each commit and the aliases are counted, in this order
abbrev pub limit_fault : List PlainEvent → Option Fault
limit_fault events =
    if nat_lt MAX_EVENTS (length events) then Some (fault.Limit limit.Events MAX_EVENTS)
    else if nat_lt MAX_OPERATIONS (length (ops_along (nodes events))) then Some (fault.Limit limit.Operations MAX_OPERATIONS)
    else if list_any (λ e. nat_lt MAX_PARENTS (length (event_parents e))) events then Some (fault.Limit limit.Parents MAX_PARENTS)
    else if nat_lt MAX_ALIASES (alias_count events) then Some (fault.Limit limit.Aliases MAX_ALIASES)
    else None

-- as many events, operations, parents and aliases as a history may have
pub record IsWithinLimits (events : List PlainEvent) : Type 0 where
  pub few_events : length events ≤ MAX_EVENTS
  pub few_operations : length (ops_along (nodes events)) ≤ MAX_OPERATIONS
  pub few_parents : AllByRecursion HasFewParents events
  pub few_aliases : alias_count events ≤ MAX_ALIASES
