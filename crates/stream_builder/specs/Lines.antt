-- The line of first parents from a commit back, and the tree that is folded along it.
use Rattle.std.specs.Prelude.{◌≡◌, ℕ, ◌<◌, Bool, true, false, List, [], ◌∷◌, Option, Some, None, Result, Ok}
use Rattle.plain_model.specs.declared.event.PlainEvent.{PlainEvent}
use Rattle.plain_model.specs.declared.operation.FileOp.{FileOp}
use Rattle.plain_model.specs.Histories.{Node, folded, if_ok, node_at, past, tree}
use Rattle.plain_model.specs.Trees.{Tree, Refusal}
use Rattle.stream_grammar.specs.Known.{next_id}
use Rattle.stream_builder.specs.declared.draft_trees.line.Back.{Back}
use Rattle.stream_builder.specs.declared.draft_trees.line.Back.TheVariants as back

-- all operations were applied and made this tree, or one was refused
abbrev pub IsFolded : Bool → Tree → Result Tree Refusal → Type 0
IsFolded true made expected = expected ≡ Ok made
IsFolded false made expected = if_ok expected ≡ None

abbrev pub ops_in : Option Node → List FileOp
ops_in None = []
ops_in (Some n) = n.ops

-- the operations of the commit with the id, if there is one
abbrev pub ops_at : List PlainEvent → ℕ → List FileOp
ops_at events c = ops_in (node_at (past events) c)

-- the tree after the commits of a line, the newest first, from a tree on which the oldest hangs
abbrev pub along : List PlainEvent → List ℕ → Option Tree → Option Tree
along events [] t = t
along events (c ∷ line) t = folded (ops_at events c) (along events line t)

-- the trees of the commits of a line, the newest first, are folded one after another from a tree on which the oldest hangs
abbrev pub AreFolded : List PlainEvent → List ℕ → Option Tree → Type 0
AreFolded events [] base = Unit {0}
AreFolded events (c ∷ line) base = (tree events c ≡ along events (c ∷ line) base) × (c < next_id events) × AreFolded events line base

-- the line leads back from a commit to what its oldest one hangs on
pub record IsLine (events : List PlainEvent) (c : ℕ) (line : List ℕ) (base : Option Tree) : Type 0 where
  pub newest : tree events c ≡ along events line base
  pub each : AreFolded events line base

-- what the tree of a commit hangs on: an earlier commit, nothing, or what isn't there
abbrev pub LeadsBack : List PlainEvent → ℕ → Back → Type 0
LeadsBack events c back.Root = (tree events c ≡ folded (ops_at events c) (Some [])) × (c < next_id events)
LeadsBack events c (back.To p) = (tree events c ≡ folded (ops_at events c) (tree events p)) × (c < next_id events) × (p < c)
LeadsBack events c back.Nowhere = tree events c ≡ None
