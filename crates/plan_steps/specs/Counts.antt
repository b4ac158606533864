-- What is counted of events.
use Rattle.std.specs.Prelude.{ℕ, ◌≡◌, ◌+◌, false, nat_lt, List, [], ◌∷◌, length}
use Rattle.plain_model.specs.declared.event.PlainEvent.{PlainEvent}
use Rattle.plain_model.specs.Histories.{nodes}
use Rattle.plain_model.specs.Lookups.{alias_count}
use Rattle.history_laws.specs.FirstParents.{ops_along}
use Rattle.plan_steps.specs.declared.limits.Counted.{Counted}
use Rattle.plan_steps.specs.declared.limits.Sum.{Sum}
use Rattle.plan_steps.specs.declared.limits.Counted.TheVariants.{Operations, Aliases}

-- all operations of some events, or all their aliases
abbrev pub total_of : Counted → List PlainEvent → ℕ
total_of Operations events = length (ops_along (nodes events))
total_of Aliases events = alias_count events

-- those of one
abbrev pub count_of : Counted → PlainEvent → ℕ
count_of what event = total_of what (event ∷ [])

-- what is noted of a sum and a limit
pub record IsSum (most counted : ℕ) (sum : Sum) : Type 0 where
  pub above : sum.is_above ≡ nat_lt most counted
  pub left : sum.is_above ≡ false → sum.left + counted ≡ most
