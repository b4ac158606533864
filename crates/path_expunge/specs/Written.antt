-- A copy or a rename that is written out from what is near its target.
use Rattle.std.specs.Prelude.{Bool, not, List, ◌++◌, filter, if◌then◌else◌}
use Rattle.plain_model.specs.declared.operation.FileOp.{FileOp}
use Rattle.plain_model.specs.declared.operation.FileOp.TheVariants.{Copy, Rename}
use Rattle.plain_model.specs.Paths.{Bytes}
use Rattle.plain_model.specs.Trees.{Tree, at, has, subtree, where_path}
use Rattle.expunge_laws.specs.Replaced.{deletes_of, has_entry, restricted}
use Rattle.edit_laws.specs.Puts.{puts_of}

-- a copy, or else a rename
abbrev pub moving : Bool → Bytes → Bytes → FileOp
moving copied source target = if copied then Copy source target else Rename source target

-- what is left of a tree of the paths that another one doesn't have
abbrev pub gone_of : (Bytes → Bool) → Tree → Tree → Tree
gone_of matched new old = where_path (λ p. not (has new p)) (restricted matched old)

-- what goes, and what comes or changes at or below the target
abbrev pub written_at : (Bytes → Bool) → Bytes → Tree → Tree → List FileOp
written_at matched target old new =
    deletes_of (gone_of matched new old)
    ++ puts_of (filter (λ e. not (has_entry (at old e.0) e.1)) (restricted matched (subtree target new)))
