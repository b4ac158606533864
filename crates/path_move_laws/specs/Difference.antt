-- What makes one tree of another. (own)
use Rattle.std.specs.Prelude.{Bool, true, false, not, ◌&&◌, List, [], ◌∷◌, ◌++◌, filter, bytes_eq}
use Rattle.plain_model.specs.declared.operation.FileOp.{FileOp}
use Rattle.plain_model.specs.Trees.{Tree, at, has, where_path}
use Rattle.expunge_laws.specs.Replaced.{deletes_of, has_entry, same_entry}
use Rattle.edit_laws.specs.Puts.{puts_of}

-- the old paths that the new tree lacks are deleted, and then is put what the old tree lacks or has otherwise
abbrev pub difference : Tree → Tree → List FileOp
difference old new =
    deletes_of (where_path (λ p. not (has new p)) old)
    ++ puts_of (filter (λ e. not (has_entry (at old e.0) e.1)) new)

-- the same paths, with the same there
abbrev pub are_same : Tree → Tree → Bool
are_same [] [] = true
are_same [] (b ∷ bs) = false
are_same (a ∷ es) [] = false
are_same (a ∷ es) (b ∷ bs) = bytes_eq a.0 b.0 && same_entry a.1 b.1 && are_same es bs
