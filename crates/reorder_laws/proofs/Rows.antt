-- The examples, computed.
use Rattle.std.proofs.Common.{◌≡◌, [], ◌∷◌, refl, Ok, Err}
use Rattle.plain_model.specs.declared.fault.Fault.TheVariants as fault
use Rattle.plain_model.specs.declared.id.AnyId.TheVariants as any
use Rattle.reorder_laws.specs.Examples.{commits, fork, in_a_line, other_line, other_root, renamed}
use Rattle.reorder_laws.specs.Reorder.{reorder_of}

pub two_changed : reorder_of (commits (5 ∷ 3 ∷ [])) in_a_line ≡ Ok other_line
two_changed = refl

pub root_changed : reorder_of (commits (3 ∷ 2 ∷ [])) in_a_line ≡ Ok other_root
root_changed = refl

pub same_order : reorder_of (commits (3 ∷ 5 ∷ [])) in_a_line ≡ Ok in_a_line
same_order = refl

pub between : reorder_of (commits (3 ∷ 6 ∷ [])) in_a_line ≡ Err (fault.NotLinear 6)
between = refl

pub forked : reorder_of (commits (3 ∷ 2 ∷ [])) fork ≡ Err (fault.NotLinear 3)
forked = refl

pub too_few : reorder_of (commits (3 ∷ [])) in_a_line ≡ Err (fault.WrongCount 1)
too_few = refl

pub no_commit : reorder_of (any.Commit 3 ∷ any.Blob 4 ∷ []) in_a_line ≡ Err (fault.NotACommit 4)
no_commit = refl

pub source_missing : reorder_of (commits (3 ∷ 2 ∷ [])) renamed ≡ Err (fault.MissingSource 3 1)
source_missing = refl
