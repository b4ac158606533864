-- Where commits are, and what a commit without parents links to.
use Rattle.std.proofs.Common.{◌≡◌, ◌∙◌, ℕ, ◌+◌, ◌≤◌, List, [], ◌∷◌, Some, Bool, arith, refl, ap, take}
use Rattle.std.specs.Prelude.{option_map, unwrap_or}
use Rattle.plain_model.specs.declared.id.AnyId.{AnyId}
use Rattle.plain_model.specs.declared.id.AnyId.TheVariants as any
use Rattle.plain_model.specs.declared.event.PlainEvent.{PlainEvent}
use Rattle.plain_model.specs.Histories.{Past, past}
use Rattle.plain_model.specs.Lookups.{place_of}
use Rattle.plain_model.specs.Soundness.{IsCommitOf}
use Rattle.history_laws.specs.Once.{AreDistinct}
use Rattle.edit_laws.specs.Removal.{chain}
use Rattle.graph_walk.proofs.EarlierLemmas.{is_earlier}
use Rattle.graph_walk.proofs.PlaceLemmas.{place_found}
use Rattle.squash_laws.specs.Removed.{is_removed}
use Rattle.squash_laws.specs.Takings.{links}
use Rattle.plan_steps.specs.Depths.{depth}

-- the place of a commit is one below its depth
pub depth_at : (events : List PlainEvent) (c k : ℕ) → place_of (any.Commit c) events ≡ Some k → depth events c ≡ k + 1
depth_at events c k there = ap (λ o. unwrap_or (option_map (λ place. place + 1) o) 0) there

-- an earlier commit is no deeper
pub depth_before : (events : List PlainEvent) → AreDistinct events → (k p : ℕ) → IsCommitOf (take k events) p → depth events p ≤ k
depth_before events once k p known =
    let b = is_earlier events k p known in
    let own = depth_at events p b.place (ap (λ id. place_of id events) b.own ∙ (place_found events b.place b.event b.at once).0) in
    let low = b.low in
    omega arith

chain_nil : (removed : ℕ → Bool) (a : Past) → chain removed a [] ≡ []
chain_nil removed [] = refl
chain_nil removed (n ∷ older) = refl

-- without parents nothing is linked to
pub links_nil : (set : List AnyId) (events : List PlainEvent) → links set events [] ≡ []
links_nil set events = chain_nil (is_removed set) (past events)
