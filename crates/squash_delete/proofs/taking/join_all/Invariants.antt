use Rattle.std.proofs.Common.{◌≡◌, ◌∷◌, map, take}
use Rattle.squash_laws.specs.Comments.{comment_of, joined}
use Rattle.squash_delete.proofs.taking.join_all.Given as goal

abbrev pub invariant-loop-commit : goal.invariant-loop-commit
invariant-loop-commit l = l.text ≡ joined (l.initial.text ∷ map (comment_of l.list) (take l.commit-index l.commits))
