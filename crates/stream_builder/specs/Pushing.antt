-- What one more operation does to what is known of the trees.
use Rattle.std.specs.Prelude.{◌≡◌, ℕ, ◌+◌, ◌-◌, ◌^◌, min, Bool, true, false, not, ◌||◌, nat_lt, List, [], ◌++◌, ◌∷◌, Option, Some, None, Result, Ok, Err}
use Rattle.plain_model.specs.declared.event.PlainEvent.{PlainEvent}
use Rattle.plain_model.specs.declared.limit.TheConstants.{MAX_PATHS}
use Rattle.plain_model.specs.declared.operation.FileOp.{FileOp}
use Rattle.plain_model.specs.declared.operation.FileOp.TheVariants.{Modify, Delete, Copy, Rename, DeleteAll}
use Rattle.plain_model.specs.Histories.{folded}
use Rattle.plain_model.specs.Trees.{Tree}
use Rattle.stream_grammar.specs.Limits.{limit_on}
use Rattle.stream_builder.specs.declared.fault.LineFault.{LineFault}
use Rattle.stream_builder.specs.declared.fault.LineFault.TheVariants as line
use Rattle.stream_builder.specs.declared.known.OpenTree.{OpenTree}
use Rattle.stream_builder.specs.declared.known.OpenTree.TheVariants.{NotFolded, Folded}
use Rattle.stream_builder.specs.declared.known.Trees.{Trees}
use Rattle.stream_builder.specs.Agreement.{HasAtMost, TreesAgree, open_tree}

-- the tree was folded
abbrev pub is_folded : OpenTree → Bool
is_folded NotFolded = false
is_folded (Folded t) = true

-- an operation that may be refused on a tree of so many paths, so that the tree has to be folded
abbrev pub may_be_refused : ℕ → FileOp → Bool
may_be_refused most (Modify mode content path) = not (nat_lt most MAX_PATHS)
may_be_refused most (Delete path) = false
may_be_refused most (Copy source target) = true
may_be_refused most (Rename source target) = true
may_be_refused most DeleteAll = false

-- how many paths a tree has at most after an operation that is not refused
abbrev pub most_after : ℕ → FileOp → ℕ
most_after most (Modify mode content path) = min (most + 1) (2 ^ 64 - 1)
most_after most (Delete path) = most
most_after most (Copy source target) = most
most_after most (Rename source target) = most
most_after most DeleteAll = most

-- the tree was folded, or the operation can't be refused
abbrev pub CanApply : Trees → FileOp → Type 0
CanApply t op = (is_folded t.opened || not (may_be_refused t.most op)) ≡ true

-- the operation was applied to a tree and leaves at most so many paths; or it passes a limit
abbrev pub Applies : FileOp → Option Tree → Result ℕ LineFault → Option Tree → Type 0
Applies op old (Ok paths) new = (new ≡ folded (op ∷ []) old) × (limit_on op old ≡ None) × HasAtMost paths new
Applies op old (Err (line.Limit which)) new = (limit_on op old ≡ Some which) × (new ≡ old)
Applies op old (Err line.Memory) new = new ≡ old
Applies op old (Err (line.Bad why)) new = ⊥

-- the operation is after the others, or it passes a limit
abbrev pub Pushes : List PlainEvent → List ℕ → List FileOp → FileOp → Result (Unit {0}) LineFault → Trees → Type 0
Pushes events parents ops op (Ok tt) new = TreesAgree new events parents (ops ++ op ∷ []) × (limit_on op (open_tree events parents ops) ≡ None)
Pushes events parents ops op (Err (line.Limit which)) new = TreesAgree new events parents ops × (limit_on op (open_tree events parents ops) ≡ Some which)
Pushes events parents ops op (Err line.Memory) new = TreesAgree new events parents ops
Pushes events parents ops op (Err (line.Bad why)) new = ⊥
