-- Small histories, and what a reorder leaves of them, written out.
use Rattle.std.specs.Prelude.{ℕ, ◌+◌, ◌*◌, List, [], ◌∷◌, codes}
use Rattle.plain_model.specs.declared.id.AnyId.{AnyId}
use Rattle.plain_model.specs.declared.id.AnyId.TheVariants as any
use Rattle.plain_model.specs.declared.operation.FileOp.{FileOp}
use Rattle.plain_model.specs.declared.operation.FileOp.TheVariants.{Delete, Rename}
use Rattle.plain_model.specs.declared.event.PlainEvent.{PlainEvent}
use Rattle.plain_model.specs.declared.event.PlainEvent.TheVariants.{Blob}
use Rattle.history_laws.specs.Examples.{commit, put}

-- the commits with these ids
abbrev pub commits : List ℕ → List AnyId
commits [] = []
commits (c ∷ cs) = any.Commit c ∷ commits cs

-- a commit whose mark is its id, below 10, at so many hundred seconds and with the comment `c` and its mark
abbrev pub numbered : ℕ → List ℕ → List FileOp → PlainEvent
numbered id parents ops = commit id id (100 * id) (99 ∷ (48 + id) ∷ []) parents ops

-- four commits in a line, with a blob between
abbrev pub in_a_line : List PlainEvent
in_a_line =
    Blob 1 1 (codes "1")
    ∷ numbered 2 [] (put 1 (codes "f") ∷ [])
    ∷ numbered 3 (2 ∷ []) (put 1 (codes "g") ∷ [])
    ∷ Blob 4 4 (codes "4")
    ∷ numbered 5 (3 ∷ []) (put 4 (codes "h") ∷ [])
    ∷ numbered 6 (5 ∷ []) (Delete (codes "g") ∷ [])
    ∷ []

-- the two in the middle have changed places
abbrev pub other_line : List PlainEvent
other_line =
    Blob 1 1 (codes "1")
    ∷ numbered 2 [] (put 1 (codes "f") ∷ [])
    ∷ Blob 4 4 (codes "4")
    ∷ numbered 5 (2 ∷ []) (put 4 (codes "h") ∷ [])
    ∷ numbered 3 (5 ∷ []) (put 1 (codes "g") ∷ [])
    ∷ numbered 6 (3 ∷ []) (Delete (codes "g") ∷ [])
    ∷ []

-- the first two have
abbrev pub other_root : List PlainEvent
other_root =
    Blob 1 1 (codes "1")
    ∷ numbered 3 [] (put 1 (codes "g") ∷ [])
    ∷ numbered 2 (3 ∷ []) (put 1 (codes "f") ∷ [])
    ∷ Blob 4 4 (codes "4")
    ∷ numbered 5 (2 ∷ []) (put 4 (codes "h") ∷ [])
    ∷ numbered 6 (5 ∷ []) (Delete (codes "g") ∷ [])
    ∷ []

-- two children of a commit
abbrev pub fork : List PlainEvent
fork =
    Blob 1 1 (codes "1")
    ∷ numbered 2 [] (put 1 (codes "f") ∷ [])
    ∷ numbered 3 (2 ∷ []) (put 1 (codes "g") ∷ [])
    ∷ numbered 4 (2 ∷ []) (put 1 (codes "h") ∷ [])
    ∷ []

-- a file, and then another name for it
abbrev pub renamed : List PlainEvent
renamed =
    Blob 1 1 (codes "1")
    ∷ numbered 2 [] (put 1 (codes "f") ∷ [])
    ∷ numbered 3 (2 ∷ []) (Rename (codes "f") (codes "g") ∷ [])
    ∷ []
