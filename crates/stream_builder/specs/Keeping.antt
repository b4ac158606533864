-- The trees of earlier commits that are kept.
use Rattle.std.specs.Prelude.{◌≡◌, ℕ, ◌<◌, List, Option, Some, nat_eq}
use Rattle.std.specs.HashMap.{get}
use Rattle.plain_model.specs.declared.event.PlainEvent.{PlainEvent}
use Rattle.plain_model.specs.Histories.{tree}
use Rattle.plain_model.specs.Trees.{Tree}
use Rattle.stream_grammar.specs.Known.{next_id}
use Rattle.stream_builder.specs.declared.draft_trees.kept_trees.KeptTrees.{KeptTrees}

-- the tree is that of an earlier commit
abbrev pub IsEarlier : List PlainEvent → ℕ → Option Tree → Type 0
IsEarlier events c t = (tree events c ≡ t) × (c < next_id events)

-- each of the trees is that of an earlier commit, the one by which it is found
abbrev pub AreEarlier : List PlainEvent → KeptTrees → Type 0
AreEarlier events kept = (c : ℕ) (t : Tree) → get nat_eq kept.by_commit c ≡ Some t → IsEarlier events c (Some t)
