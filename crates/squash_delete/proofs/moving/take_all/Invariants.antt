use Rattle.std.proofs.Common.{◌≡◌, ◌≤◌, ◌-◌, ℕ, List, true, filter, length, map, not, take}
use Rattle.plain_model.specs.declared.limit.TheConstants.{MAX_OPERATIONS}
use Rattle.event_arena.specs.Graphs.{Change}
use Rattle.squash_laws.specs.Takings.{takes}
use Rattle.plain_model.specs.declared.policy.Lean.{Lean}
use Rattle.plan_steps.specs.Leaving.{goes, staying, with_own_parents, with_takings}
use Rattle.plan_steps.specs.Passes.{taken_to}
use Rattle.squash_delete.specs.Sources.{count_ops, push_of}
use Rattle.squash_delete.proofs.moving.take_all.Given as goal

abbrev pub invariant-loop-place : goal.invariant-loop-place
invariant-loop-place l = record {
  within : l.place ≤ length l.removal.events;
  low : l.total ≤ MAX_OPERATIONS;
  taken : (par : List ℕ → List ℕ) (tags : Lean) (start : Change) →
      l.initial.plan ≡ record start { after = map (with_own_parents par) (staying l.removal.set (takes l.removal.set l.removal.events (record { push = push_of l.sources; tags = tags })) l.removal.events) } →
      (l.plan ≡ record start { after = taken_to l.removal.set par (takes l.removal.set l.removal.events (record { push = push_of l.sources; tags = tags })) l.place l.removal.events })
      × (l.bounded ≡ true → l.total ≤ count_ops (map (with_takings par (takes l.removal.set l.removal.events (record { push = push_of l.sources; tags = tags })))
      (filter (λ e. not (goes l.removal.set (takes l.removal.set l.removal.events (record { push = push_of l.sources; tags = tags })) e)) (take l.place l.removal.events))));
}

abbrev pub decreases-loop-place : goal.decreases-loop-place
decreases-loop-place l = length l.removal.events - l.place
