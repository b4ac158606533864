-- What is kept after a plan. (own)
use Rattle.std.specs.Prelude.{◌≡◌, ℕ, ◌<◌, ◌⊎◌, ◌↔◌, Bool, false, List, ◌∷◌, Option, Some, Contains, IsSome, IsTrue, nat_lt}
use Rattle.plain_model.specs.declared.id.AnyId.TheVariants as any
use Rattle.plain_model.specs.declared.event.PlainEvent.{PlainEvent}
use Rattle.plain_model.specs.Lookups.{place_of}
use Rattle.plain_model.specs.Trees.{Tree}
use Rattle.manifest_cache.specs.Kept.{AgreesWith, Kept}
use Rattle.manifest_cache.specs.Lines.{line, size}
use Rattle.manifest_cache.specs.declared.following.Known.{Known}
use Rattle.manifest_cache.specs.declared.following.Step.{Step}
use Rattle.manifest_cache.specs.declared.following.Step.TheVariants as step

-- the commit's line of first parents has the same commits with the same operations in both lists
abbrev pub HasSameLine : List PlainEvent → List PlainEvent → ℕ → Type 0
HasSameLine before after c = line before c ≡ line after c

-- what is kept was kept before, and is the tree of its commit after the plan; each commit whose line is the same stays
pub record Follows (before after : List PlainEvent) (old new : Kept) : Type 0 where
  pub agrees : AgreesWith after new
  pub none_new : (k : ℕ × Tree) → Contains new k → Contains old k
  pub stays : (k : ℕ × Tree) → Contains old k → HasSameLine before after k.0 → Contains new k

-- ---- one kept tree after another

-- the last kept tree went first, since its commit's line is the same, or away, since it is another
abbrev pub Turns : List PlainEvent → List PlainEvent → ℕ × Tree → Kept → Kept → Type 0
Turns before after k others new =
    (HasSameLine before after k.0 × (new ≡ k ∷ others)) ⊎ (¬ HasSameLine before after k.0 × (new ≡ others))

-- what was found out about a commit
abbrev pub IsKnown : List PlainEvent → List PlainEvent → Known → Type 0
IsKnown before after k = IsTrue k.same ↔ HasSameLine before after k.commit

-- ---- one commit after another, back along first parents

abbrev pub is_before : Option ℕ → Option ℕ → Bool
is_before (Some j) (Some k) = nat_lt j k
is_before _ _ = false

-- the one commit is before the other in the list
abbrev pub is_earlier : List PlainEvent → ℕ → ℕ → Bool
is_earlier events p c = is_before (place_of (any.Commit p) events) (place_of (any.Commit c) events)

-- what a step back from a commit says of its line
abbrev pub Says : List PlainEvent → List PlainEvent → ℕ → Step → Type 0
Says before after c step.Root = HasSameLine before after c
Says before after c (step.To p) =
    (HasSameLine before after p ↔ HasSameLine before after c) × IsSome (line before p) × (size (line before p) < size (line before c))
Says before after c step.Other = ¬ HasSameLine before after c
