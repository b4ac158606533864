-- What the kept trees are once the tree that was asked for is given back. (own)
use Rattle.std.specs.Prelude.{◌≡◌, ℕ, List, Result, MatchResult, ⊤}
use Rattle.std.specs.Borrow.{follows_so, Bor, MutBor, Fml}
use mathlib.Core.Option.{none}
use Rattle.plain_model.specs.declared.event.PlainEvent.{PlainEvent}
use Rattle.plain_model.specs.Trees.{Tree}
use Rattle.manifest_cache.specs.Kept.{AgreesWith, Kept, used}
use Rattle.manifest_cache.specs.contracts.manifests.Manifests.{the_row}

-- the tree is used, or, where it wasn't answered, all is as it was; what is kept still agrees with the events
abbrev pub Uses : {E : Type 0} → MutBor Kept → List PlainEvent → ℕ → Result (Bor Tree) E → Fml
Uses kept events c answer =
    follows_so the_row the_row kept.ghost_name none (λ _ _. ⊤)
    (λ last. MatchResult answer (λ t. last ≡ used c t.now kept.now) (λ _. last ≡ kept.now) × AgreesWith events last)
