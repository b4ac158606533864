-- Trees, and what an operation does to one (git-fast-import, file operations; the limits: own).
use Rattle.std.specs.Prelude.{◌≡◌, Bool, T, false, not, List, [], ◌∷◌, ◌++◌, length, drop, Option, Result, Ok, Err, is_some, IsTrue, nat_lt, if◌then◌else◌}
use Rattle.std.specs.List.{list_any}
use Rattle.std.specs.Ordering.{nat_cmp}
use Rattle.std.specs.Cmp.Lexicographic.{slice_cmp}
use Rattle.std.specs.FinMap.Entries as entries
use Rattle.plain_model.specs.declared.operation.Entry.{Entry}
use Rattle.plain_model.specs.declared.operation.FileOp.{FileOp}
use Rattle.plain_model.specs.declared.operation.FileOp.TheVariants.{Modify, Delete, Copy, Rename, DeleteAll}
use Rattle.plain_model.specs.declared.limit.TheConstants.{MAX_PATH_BYTES, MAX_PATHS}
use Rattle.plain_model.specs.Paths.{Bytes, is_at_or_below, is_in_the_way, do_conflict}

-- why an operation is refused, in the order in which it is looked at
pub data Refusal : Type 0 where
  MissingSource : Refusal
  PathBytes : Refusal
  Paths : Refusal

-- paths with what is there, in byte order of the paths
abbrev pub TreeOf : Type 0 → Type 0
TreeOf X = List (Bytes × X)

-- an operation, whatever is at paths
pub data Change (X : Type 0) : Type 0 where
  Put : X → Bytes → Change X
  Remove : Bytes → Change X
  CopyTo : Bytes → Bytes → Change X
  MoveTo : Bytes → Bytes → Change X
  Clear : Change X

module _ {X : Type 0} where
  -- what is at a path
  abbrev pub at : TreeOf X → Bytes → Option X
  at tree p = entries.find (slice_cmp nat_cmp) p tree

  abbrev pub has : TreeOf X → Bytes → Bool
  has tree p = is_some (at tree p)

  -- each path occurs once, in byte order, and no two conflict
  pub record IsTree (tree : TreeOf X) : Type 0 where
    pub in_order : T (entries.is_sorted (slice_cmp nat_cmp) tree)
    pub apart : (p q : Bytes) → IsTrue (has tree p) → IsTrue (has tree q) → do_conflict p q ≡ false

  -- the entries whose paths pass the test
  abbrev pub where_path : (Bytes → Bool) → TreeOf X → TreeOf X
  where_path test tree = entries.where_key (slice_cmp nat_cmp) test tree

  abbrev pub put : Bytes → X → TreeOf X → TreeOf X
  put p entry tree = entries.put (slice_cmp nat_cmp) p entry tree

  -- the one tree, and all entries of the other put into it
  abbrev pub put_all : TreeOf X → TreeOf X → TreeOf X
  put_all [] base = base
  put_all (e ∷ es) base = put e.0 e.1 (put_all es base)

  -- what is at p or below it
  abbrev pub subtree : Bytes → TreeOf X → TreeOf X
  subtree p tree = where_path (is_at_or_below p) tree

  -- p and all below it go
  abbrev pub without : Bytes → TreeOf X → TreeOf X
  without p tree = where_path (λ q. not (is_at_or_below p q)) tree

  -- p and all that conflicts with it go
  abbrev pub cleared_for : Bytes → TreeOf X → TreeOf X
  cleared_for p tree = where_path (λ q. not (is_in_the_way p q)) tree

  -- each entry at the target and the rest of its path after the source
  abbrev pub moved : Bytes → Bytes → TreeOf X → TreeOf X
  moved source target [] = []
  moved source target (e ∷ es) = (target ++ drop (length source) e.0, e.1) ∷ moved source target es

  -- the tree, if it has no more paths than are allowed
  abbrev pub within_paths : TreeOf X → Result (TreeOf X) Refusal
  within_paths tree = if nat_lt MAX_PATHS (length tree) then Err Paths else Ok tree

  abbrev pub has_long_path : TreeOf X → Bool
  has_long_path tree = list_any (λ e. nat_lt MAX_PATH_BYTES (length e.0)) tree

  -- the taken entries put at the target, over what is left there
  abbrev pub placed : Bytes → Bytes → TreeOf X → TreeOf X → Result (TreeOf X) Refusal
  placed source target [] base = Err MissingSource
  placed source target (e ∷ taken) base =
      let put_in = moved source target (e ∷ taken) in
      if has_long_path put_in then Err PathBytes
      else within_paths (put_all put_in (cleared_for target base))

  abbrev pub change : Change X → TreeOf X → Result (TreeOf X) Refusal
  change (Put entry path) tree = within_paths (put path entry (cleared_for path tree))
  change (Remove path) tree = Ok (without path tree)
  change (CopyTo source target) tree = placed source target (subtree source tree) tree
  change (MoveTo source target) tree = placed source target (subtree source tree) (without source tree)
  change Clear tree = Ok []

infixl 10 ◌>>=◌
abbrev pub ◌>>=◌ : {A B E : Type 0} → Result A E → (A → Result B E) → Result B E
(Ok x) >>= f = f x
(Err e) >>= f = Err e

-- the changes one after another
abbrev pub change_all : {X : Type 0} → List (Change X) → TreeOf X → Result (TreeOf X) Refusal
change_all [] tree = Ok tree
change_all (c ∷ cs) tree = change c tree >>= change_all cs

-- ---- the trees of a history

abbrev pub Tree : Type 0
Tree = TreeOf Entry

abbrev pub meaning : FileOp → Change Entry
meaning (Modify mode content path) = Put (record { mode = mode; content = content }) path
meaning (Delete path) = Remove path
meaning (Copy source target) = CopyTo source target
meaning (Rename source target) = MoveTo source target
meaning DeleteAll = Clear

abbrev pub apply : FileOp → Tree → Result Tree Refusal
apply op tree = change (meaning op) tree

-- the operations one after another
abbrev pub apply_all : List FileOp → Tree → Result Tree Refusal
apply_all [] tree = Ok tree
apply_all (op ∷ ops) tree = apply op tree >>= apply_all ops
