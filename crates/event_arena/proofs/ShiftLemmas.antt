-- Children that follow their commits to other places.
use Rattle.std.proofs.Common.{◌≡◌, ◌∙◌, ℕ, ◌<◌, ◌≤◌, List, [], Some, ap, arith, length, get_or}
use Rattle.std.specs.Prelude.{slice_get}
use Rattle.plain_model.specs.declared.id.AnyId.{AnyId}
use Rattle.plain_model.specs.declared.id.AnyId.TheVariants.{Commit}
use Rattle.plain_model.specs.declared.event.PlainEvent.{PlainEvent}
use Rattle.plain_model.specs.Lookups.{id_of, place_of}
use Rattle.history_laws.proofs.Ids.{place_at, place_within}
use Rattle.event_arena.specs.Indices.{HasChildren}

-- at a place is the list that was at the place which the id had before
abbrev pub HasCome : List PlainEvent → List (List ℕ) → List (List ℕ) → AnyId → ℕ → Type 0
HasCome before old new id k = (j : ℕ) × (place_of id before ≡ Some j) × (get_or new k [] ≡ get_or old j [])

-- so it is with the first events
abbrev pub HaveCome : ℕ → List PlainEvent → List PlainEvent → List (List ℕ) → List (List ℕ) → Type 0
HaveCome count before after old new = (k : ℕ) (e : PlainEvent) → k < count → slice_get after k ≡ Some e → HasCome before old new (id_of e) k

-- the lists at the other places are as they were
abbrev pub HaveStayed : ℕ → List (List ℕ) → List (List ℕ) → Type 0
HaveStayed count old new = (k : ℕ) → count ≤ k → get_or new k [] ≡ get_or old k []

module _ (count : ℕ) (before after : List PlainEvent) (old new : List (List ℕ)) (all : length after ≤ count) (come : HaveCome count before after old new) where
  come_from : (id : AnyId) (k : ℕ) → place_of id after ≡ Some k → HasCome before old new id k
  come_from id k at =
      let found = place_at id after k at in
      let within = place_within after k found.0 found.1 in
      let from = come k found.0 (omega arith) found.1 in
      (from.0, ap (λ i. place_of i before) found.3 ∙ from.1, from.2)

  pub come_children : HasChildren old before before → HasChildren new after before
  come_children children c k at = let from = come_from (Commit c) k at in from.2 ∙ children c from.0 from.1
