-- How many paths a tree has after an operation that copies nothing.
use Rattle.std.proofs.Common.{◌≡◌, ◌+◌, ◌<◌, ◌≤◌, false, cond, length, Result, Ok, Err, ap, arith, nat_lt, not}
use Rattle.std.proofs.lemmas.Bool.Decides.{nat_tests}
use Rattle.plain_model.specs.declared.operation.Mode.{Mode}
use Rattle.plain_model.specs.declared.operation.Content.{Content}
use Rattle.plain_model.specs.declared.operation.FileOp.TheVariants.{Modify}
use Rattle.plain_model.specs.declared.limit.TheConstants.{MAX_PATHS}
use Rattle.plain_model.specs.Paths.{Bytes, is_in_the_way, is_at_or_below}
use Rattle.plain_model.specs.Trees.{Tree, Refusal, apply, put, cleared_for, without}
use Rattle.plain_model.specs.Trees.Refusal.{Paths}
use Rattle.history_laws.proofs.TreeMaps.{length_put, length_where}

-- a tree that has room for one path more gets at most one
pub modified : (mode : Mode) (content : Content) (path : Bytes) (t : Tree) → length t < MAX_PATHS
    → (u : Tree) × (apply (Modify mode content path) t ≡ Ok u) × (length u ≤ length t + 1)
modified mode content path t room =
    let u : Tree = put path (record { mode = mode; content = content }) (cleared_for path t) in
    let left = length_where (λ q. not (is_in_the_way path q)) t in
    let more : length u ≤ length t + 1 = let one = length_put path (record { mode = mode; content = content }) (cleared_for path t) in omega (arith, one, left) in
    let fits : nat_lt MAX_PATHS (length u) ≡ false = grind (arith, nat_tests) in
    (u, ap (λ b. cond {A = Result Tree Refusal} b (Err Paths) (Ok u)) fits, more)

pub deleted : (path : Bytes) (t : Tree) → length (without path t) ≤ length t
deleted path t = length_where (λ q. not (is_at_or_below path q)) t
