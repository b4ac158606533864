-- A coalescing adds nothing, and keeps the limits.
use Rattle.std.proofs.Common.{◌≡◌, ℕ, ◌≤◌, List, [], ◌∷◌, length, refl, arith, le_trans}
use Rattle.plain_model.specs.declared.id.AnyId.{AnyId}
use Rattle.plain_model.specs.declared.event.PlainEvent.{PlainEvent}
use Rattle.plain_model.specs.declared.operation.FileOp.{FileOp}
use Rattle.plain_model.specs.Histories.{nodes}
use Rattle.plain_model.specs.Lookups.{AreIdsBelow}
use Rattle.plain_model.specs.Soundness.{IsSound}
use Rattle.history_laws.specs.FirstParents.{ops_along}
use Rattle.edit_laws.specs.Keeping.{AddsNothing}
use Rattle.edit_laws.specs.Passing.{IsWithinLimits}
use Rattle.edit_laws.proofs.Edits.{fewer_below}
use Rattle.squash_laws.proofs.Added.{adds_nothing}
use Rattle.coalesce_laws.specs.Remaining.{weigh}
use Rattle.coalesce_laws.proofs.Coalesced.{done, few_parents, joins, new, set}
use Rattle.coalesce_laws.proofs.MovedOps.{same_operations}

-- each operation counts for one
each_one : (ops : List FileOp) → weigh (λ op. 1) ops ≡ length ops
each_one [] = refl
each_one (op ∷ ops) = let rest = each_one ops in omega arith

module _ (seconds : ℕ) (sel : List AnyId) (events : List PlainEvent) (h : IsSound events) where
  pub added_nothing : AddsNothing events (new seconds sel events h)
  added_nothing = adds_nothing (set seconds sel events h) events (joins seconds sel events h) events (new seconds sel events h) (done seconds sel events h)

  pub still_below : (next : ℕ) → AreIdsBelow next events → AreIdsBelow next (new seconds sel events h)
  still_below next below = fewer_below events (new seconds sel events h) next added_nothing.ids below

  pub still_within : IsWithinLimits events → IsWithinLimits (new seconds sel events h)
  still_within within = record {
    few_events = le_trans added_nothing.events within.few_events;
    few_operations =
        let same = same_operations seconds sel events h (λ op. 1) in
        let before = each_one (ops_along (nodes events)) in
        let after = each_one (ops_along (nodes (new seconds sel events h))) in
        le_trans (let fewer : length (ops_along (nodes (new seconds sel events h))) ≤ length (ops_along (nodes events)) = omega arith in fewer) within.few_operations;
    few_parents = few_parents seconds sel events h;
    few_aliases = le_trans added_nothing.aliases within.few_aliases;
  }
