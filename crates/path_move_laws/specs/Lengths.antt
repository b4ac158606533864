-- How long paths get, by the operations alone. (own)
use Rattle.std.specs.Prelude.{ℕ, ◌+◌, ◌-◌, List, [], ◌∷◌, length, max}
use Rattle.plain_model.specs.declared.event.PlainEvent.{PlainEvent}
use Rattle.plain_model.specs.declared.operation.FileOp.{FileOp}
use Rattle.plain_model.specs.declared.operation.FileOp.TheVariants.{Modify, Delete, Copy, Rename, DeleteAll}
use Rattle.plain_model.specs.Lookups.{event_ops}
use Rattle.plain_model.specs.Paths.{Bytes}

-- what comes of paths of so many bytes at most, where they go from one path to another
abbrev pub longest_gone : ℕ → Bytes → Bytes → ℕ
longest_gone n source target = max (max n (length source)) (length target + (n - length source))

-- the most bytes of a path that a tree may have after an operation, or that the operation says, where they were so many before
abbrev pub longest_after : ℕ → FileOp → ℕ
longest_after n (Modify mode content path) = max n (length path)
longest_after n (Delete path) = max n (length path)
longest_after n (Copy source target) = longest_gone n source target
longest_after n (Rename source target) = longest_gone n source target
longest_after n DeleteAll = n

-- the same after operations in turn
abbrev pub longest_after_all : ℕ → List FileOp → ℕ
longest_after_all n [] = n
longest_after_all n (op ∷ ops) = longest_after_all (longest_after n op) ops

-- the same after events in turn
abbrev pub longest_in : ℕ → List PlainEvent → ℕ
longest_in n [] = n
longest_in n (e ∷ es) = longest_in (longest_after_all n (event_ops e)) es
