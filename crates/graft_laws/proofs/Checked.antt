-- What holds where no fault is found.
use Rattle.std.proofs.Common.{◌≡◌, ℕ, ◌+◌, ◌≤◌, Bool, true, false, List, [], length, refl, ap, arith, Option, Some, None, Ok, nat_lt}
use Rattle.std.specs.Prelude.{IsSome, if◌then◌else◌}
use Rattle.std.specs.Option.{option_or}
use Rattle.std.proofs.lemmas.Bool.Decides.{nat_tests}
use Rattle.plain_model.specs.declared.fault.Fault.{Fault}
use Rattle.plain_model.specs.declared.fault.Fault.TheVariants as fault
use Rattle.plain_model.specs.declared.limit.TheConstants.{MAX_MARK}
use Rattle.plain_model.specs.declared.event.PlainEvent.{PlainEvent}
use Rattle.plain_model.specs.Histories.{tree}
use Rattle.plain_model.specs.Lookups.{greatest_mark, marks_of}
use Rattle.plain_model.specs.Soundness.{IsCommitOf}
use Rattle.edit_laws.specs.Parts.{AreInOrder, AreOnce}
use Rattle.edit_laws.specs.Passing.{limit_fault}
use Rattle.edit_laws.proofs.Checked.{checked, none_of_both}
use Rattle.edit_laws.specs.Checking.{first_fault, unless}
use Rattle.graft_laws.specs.Faults.{fault_after, long_name_fault, marks_fault, tree_fault_unless, unless_fault}

-- where no tree fails, each commit has one
pub trees_checked : (new : List PlainEvent) → AreOnce new → AreInOrder [] new → first_fault new new ≡ None → (c : ℕ) → IsCommitOf new c → IsSome (tree new c)
trees_checked new once order found = (checked new once order).1 (ap unless found)

pub no_fault : (why : Option Fault) (x new : List PlainEvent) → unless_fault why x ≡ Ok new → (why ≡ None) × (x ≡ new)
no_fault None x new h = let is : x ≡ new = cc in (refl, is)
no_fault (Some f) x new h = absurd cc

-- what is asked of the list behind
pub record IsFine (prune : Bool) (events : List PlainEvent) : Type 0 where
  pub limits : limit_fault events ≡ None
  pub names : long_name_fault events ≡ None
  pub trees : tree_fault_unless prune events ≡ None

pub fine : (prune : Bool) (events : List PlainEvent) → fault_after prune events ≡ None → IsFine prune events
fine prune events h =
    let one = none_of_both (limit_fault events) (option_or (long_name_fault events) (tree_fault_unless prune events)) h in
    let two = none_of_both (long_name_fault events) (tree_fault_unless prune events) one.1 in
    record { limits = one.0; names = two.0; trees = two.1 }

-- marks suffice
pub marks_suffice : (base new : List PlainEvent) → marks_fault base new ≡ None → greatest_mark base + length (marks_of new) ≤ MAX_MARK
marks_suffice base new h = go (nat_lt MAX_MARK (greatest_mark base + length (marks_of new))) refl h
  where
    few : (a b : ℕ) → nat_lt a b ≡ false → b ≤ a
    few a b h = grind (arith, nat_tests)

    go : (b : Bool) → nat_lt MAX_MARK (greatest_mark base + length (marks_of new)) ≡ b → (if b then Some fault.MarksSpent else None) ≡ None → greatest_mark base + length (marks_of new) ≤ MAX_MARK
    go true is x = absurd cc
    go false is x = few MAX_MARK (greatest_mark base + length (marks_of new)) is
