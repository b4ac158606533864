-- Where the tree check finds no fault, each commit has a tree.
use Rattle.std.proofs.Common.{◌≡◌, ℕ, List, [], refl, ap, Option, Some, None, Ok}
use Rattle.std.specs.Prelude.{IsSome}
use Rattle.plain_model.specs.declared.fault.Fault.{Fault}
use Rattle.plain_model.specs.declared.event.PlainEvent.{PlainEvent}
use Rattle.plain_model.specs.Histories.{tree}
use Rattle.plain_model.specs.Soundness.{IsCommitOf}
use Rattle.edit_laws.specs.Checking.{unless}
use Rattle.edit_laws.specs.Parts.{AreInOrder, AreOnce}
use Rattle.edit_laws.proofs.Checked.{checked}
use Rattle.reparent_laws.specs.Faults.{tree_fault, unless_fault}

pub trees_checked : (new : List PlainEvent) → AreOnce new → AreInOrder [] new → tree_fault new ≡ None →
    (c : ℕ) → IsCommitOf new c → IsSome (tree new c)
trees_checked new once order found =
    (checked new once order).1 (ap unless found)

-- ---- no fault

pub no_fault : (why : Option Fault) (x new : List PlainEvent) → unless_fault why x ≡ Ok new → (why ≡ None) × (x ≡ new)
no_fault None x new h = let is : x ≡ new = cc in (refl, is)
no_fault (Some f) x new h = absurd cc
