-- A copy or a rename that is written out, from what is near its target and its source alone. (own)
use Rattle.std.specs.Prelude.{Bool, not, ◌&&◌, ◌||◌, List, ◌++◌, filter}
use Rattle.plain_model.specs.declared.operation.FileOp.{FileOp}
use Rattle.plain_model.specs.Paths.{Bytes, is_at_or_below, is_in_the_way}
use Rattle.plain_model.specs.Trees.{Tree, at, has, subtree, where_path}
use Rattle.expunge_laws.specs.Replaced.{deletes_of, has_entry, restricted}
use Rattle.edit_laws.specs.Puts.{puts_of}

module _ (matched : Bytes → Bool) where
  -- what goes is among the paths that pass the test, and what comes or changes is at or below the target
  abbrev pub rewritten_near : (Bytes → Bool) → Bytes → Tree → Tree → List FileOp
  rewritten_near test target old new =
      deletes_of (where_path (λ p. test p && not (has new p)) (restricted matched old))
      ++ puts_of (filter (λ e. not (has_entry (at old e.0) e.1)) (restricted matched (subtree target new)))

  abbrev pub copied_near : Bytes → Tree → Tree → List FileOp
  copied_near target old new = rewritten_near (is_in_the_way target) target old new

  abbrev pub renamed_near : Bytes → Bytes → Tree → Tree → List FileOp
  renamed_near source target old new =
      rewritten_near (λ p. is_in_the_way target p || is_at_or_below source p) target old new
