-- Operations don't look at what is at paths: to change each entry and then apply is to apply and then change each.
use Rattle.std.proofs.Common.{◌≡◌, ℕ, suc, Bool, true, false, cond, not, List, [], ◌∷◌, ◌++◌, length, drop, map, refl, sym, ap, ◌∙◌, inl, inr, Option, Some, None, Result, Ok, Err, nat_lt, option_map}
use Rattle.std.specs.Prelude.{◌||◌, ◌==◌, option_and_then}
use Rattle.std.specs.List.{AllByRecursion}
use Rattle.std.specs.Ordering.{nat_cmp}
use Rattle.std.specs.declared.cmp.Ordering.TheVariants.{Less, Equal, Greater}
use Rattle.std.specs.Cmp.Lexicographic.{slice_cmp}
use Rattle.std.specs.FinMap.Entries.{by_order}
use Rattle.std.proofs.lemmas.Bool.{cases_Bool, cond-true, cond-false}
use Rattle.plain_model.specs.declared.operation.Entry.{Entry}
use Rattle.plain_model.specs.declared.operation.FileOp.{FileOp}
use Rattle.plain_model.specs.declared.limit.TheConstants.{MAX_PATHS, MAX_PATH_BYTES}
use Rattle.plain_model.specs.Paths.{Bytes, is_at_or_below, is_in_the_way}
use Rattle.plain_model.specs.Trees.{Tree, TreeOf, Refusal, Change, where_path, put, put_all, subtree, without, cleared_for, moved, within_paths, has_long_path, placed, change, change_all, meaning, apply_all, ◌>>=◌}
use Rattle.plain_model.specs.Trees.Change.{Put, Remove, CopyTo, MoveTo, Clear}
use Rattle.plain_model.specs.Trees.Refusal.{PathBytes, Paths}
use Rattle.plain_model.specs.Histories.{Node, Past, if_ok, folded, begun, tree_in}
use Rattle.plain_model.specs.Snapshots.{map_tree}

-- what was not refused, changed
abbrev pub on_ok : {A B : Type 0} → (A → B) → Result A Refusal → Result B Refusal
on_ok f (Ok x) = Ok (f x)
on_ok f (Err e) = Err e

-- what was not refused
abbrev pub if_ok_of : {A : Type 0} → Result A Refusal → Option A
if_ok_of (Ok x) = Some x
if_ok_of (Err _) = None

-- the same change of entries that are changed
abbrev pub map_change : {X Y : Type 0} → (X → Y) → Change X → Change Y
map_change f (Put x p) = Put (f x) p
map_change f (Remove p) = Remove p
map_change f (CopyTo s t) = CopyTo s t
map_change f (MoveTo s t) = MoveTo s t
map_change f Clear = Clear

module _ {X Y : Type 0} (f : X → Y) where
  -- entries that pass a test of their paths
  pub mapped_where : (t : Bytes → Bool) (tree : TreeOf X) → map_tree f (where_path t tree) ≡ where_path t (map_tree f tree)
  mapped_where t [] = refl
  mapped_where t (e ∷ es) =
      let rest = mapped_where t es in
      elim (t e.0) as (λ b. map_tree f (cond b (e ∷ where_path t es) (where_path t es)) ≡ cond b ((e.0, f e.1) ∷ where_path t (map_tree f es)) (where_path t (map_tree f es))) [
        | true ↦ ap (λ (r : TreeOf Y). (e.0, f e.1) ∷ r) rest
        | false ↦ rest
      ]

  -- a put
  pub mapped_put : (p : Bytes) (v : X) (tree : TreeOf X) → map_tree f (put p v tree) ≡ put p (f v) (map_tree f tree)
  mapped_put p v [] = refl
  mapped_put p v (e ∷ es) =
      let rest = mapped_put p v es in
      elim (slice_cmp nat_cmp p e.0) as (λ r. map_tree f (by_order r ((p, v) ∷ e ∷ es) ((e.0, v) ∷ es) (e ∷ put p v es)) ≡ by_order r ((p, f v) ∷ (e.0, f e.1) ∷ map_tree f es) ((e.0, f v) ∷ map_tree f es) ((e.0, f e.1) ∷ put p (f v) (map_tree f es))) [
        | Less ↦ refl
        | Equal ↦ refl
        | Greater ↦ ap (λ (r : TreeOf Y). (e.0, f e.1) ∷ r) rest
      ]

  -- many puts
  mapped_put_all : (es base : TreeOf X) → map_tree f (put_all es base) ≡ put_all (map_tree f es) (map_tree f base)
  mapped_put_all [] base = refl
  mapped_put_all (e ∷ es) base = mapped_put e.0 e.1 (put_all es base) ∙ ap (put e.0 (f e.1)) (mapped_put_all es base)

  -- moved paths
  mapped_moved : (s t : Bytes) (es : TreeOf X) → map_tree f (moved s t es) ≡ moved s t (map_tree f es)
  mapped_moved s t [] = refl
  mapped_moved s t (e ∷ es) = ap (λ (r : TreeOf Y). (t ++ drop (length s) e.0, f e.1) ∷ r) (mapped_moved s t es)

  -- the number of paths
  length_mapped : (es : TreeOf X) → length (map_tree f es) ≡ length es
  length_mapped [] = refl
  length_mapped (e ∷ es) = ap suc (length_mapped es)

  -- paths that are too long
  long_mapped : (es : TreeOf X) → has_long_path (map_tree f es) ≡ has_long_path es
  long_mapped [] = refl
  long_mapped (e ∷ es) = ap (λ b. nat_lt MAX_PATH_BYTES (length e.0) || b) (long_mapped es)

  -- the limit of paths
  mapped_within : (tree : TreeOf X) → within_paths (map_tree f tree) ≡ on_ok (map_tree f) (within_paths tree)
  mapped_within tree =
      ap (λ n. cond (nat_lt MAX_PATHS n) (Err Paths) (Ok (map_tree f tree))) (length_mapped tree)
      ∙ elim (nat_lt MAX_PATHS (length tree)) as (λ b. cond b (Err Paths) (Ok (map_tree f tree)) ≡ on_ok (map_tree f) (cond b (Err Paths) (Ok tree))) [ true ↦ refl | false ↦ refl ]

  -- a copy or a move
  mapped_placed : (s t : Bytes) (taken base : TreeOf X) → placed s t (map_tree f taken) (map_tree f base) ≡ on_ok (map_tree f) (placed s t taken base)
  mapped_placed s t [] base = refl
  mapped_placed s t (e ∷ taken) base =
      let put_in = moved s t (e ∷ taken) in
      let all_put : put_all (moved s t (map_tree f (e ∷ taken))) (cleared_for t (map_tree f base)) ≡ map_tree f (put_all put_in (cleared_for t base)) =
      sym (mapped_put_all put_in (cleared_for t base)
      ∙ ap (λ (m : TreeOf Y). put_all m (map_tree f (cleared_for t base))) (mapped_moved s t (e ∷ taken))
      ∙ ap (put_all (moved s t (map_tree f (e ∷ taken)))) (mapped_where (λ q. not (is_in_the_way t q)) base)) in
      ap (λ b. cond b (Err PathBytes) (within_paths (put_all (moved s t (map_tree f (e ∷ taken))) (cleared_for t (map_tree f base))))) (ap has_long_path (sym (mapped_moved s t (e ∷ taken))) ∙ long_mapped put_in)
      ∙ ap (λ (m : TreeOf Y). cond (has_long_path put_in) (Err PathBytes) (within_paths m)) all_put
      ∙ ap (λ (r : Result (TreeOf Y) Refusal). cond (has_long_path put_in) (Err PathBytes) r) (mapped_within (put_all put_in (cleared_for t base)))
      ∙ elim (has_long_path put_in) as (λ b. cond b (Err PathBytes) (on_ok (map_tree f) (within_paths (put_all put_in (cleared_for t base)))) ≡ on_ok (map_tree f) (cond b (Err PathBytes) (within_paths (put_all put_in (cleared_for t base))))) [ true ↦ refl | false ↦ refl ]

  -- any change
  pub mapped_change : (c : Change X) (tree : TreeOf X) → change (map_change f c) (map_tree f tree) ≡ on_ok (map_tree f) (change c tree)
  mapped_change (Put x p) tree =
      ap (λ (m : TreeOf Y). within_paths (put p (f x) m)) (sym (mapped_where (λ q. not (is_in_the_way p q)) tree))
      ∙ ap (λ (m : TreeOf Y). within_paths m) (sym (mapped_put p x (cleared_for p tree)))
      ∙ mapped_within (put p x (cleared_for p tree))
  mapped_change (Remove p) tree = ap (λ (m : TreeOf Y). Ok m) (sym (mapped_where (λ q. not (is_at_or_below p q)) tree))
  mapped_change (CopyTo s t) tree =
      ap (λ (m : TreeOf Y). placed s t m (map_tree f tree)) (sym (mapped_where (is_at_or_below s) tree))
      ∙ mapped_placed s t (subtree s tree) tree
  mapped_change (MoveTo s t) tree =
      ap (λ (m : TreeOf Y). placed s t m (without s (map_tree f tree))) (sym (mapped_where (is_at_or_below s) tree))
      ∙ ap (placed s t (map_tree f (subtree s tree))) (sym (mapped_where (λ q. not (is_at_or_below s q)) tree))
      ∙ mapped_placed s t (subtree s tree) (without s tree)
  mapped_change Clear tree = refl

  -- changes one after another
  pub mapped_changes : (cs : List (Change X)) (tree : TreeOf X) → change_all (map (map_change f) cs) (map_tree f tree) ≡ on_ok (map_tree f) (change_all cs tree)
  mapped_changes [] tree = refl
  mapped_changes (c ∷ cs) tree =
      ap (λ (r : Result (TreeOf Y) Refusal). r >>= change_all (map (map_change f) cs)) (mapped_change c tree)
      ∙ go (change c tree) (λ t. mapped_changes cs t)
    where
      go : (r : Result (TreeOf X) Refusal) → ((t : TreeOf X) → change_all (map (map_change f) cs) (map_tree f t) ≡ on_ok (map_tree f) (change_all cs t)) → (on_ok (map_tree f) r >>= change_all (map (map_change f) cs)) ≡ on_ok (map_tree f) (r >>= change_all cs)
      go (Ok t) h = h t
      go (Err e) h = refl

-- ---- trees of a past, each entry changed

-- the changes from a tree that may not be there
abbrev pub changed_from : {Y : Type 0} → List (Change Y) → Option (TreeOf Y) → Option (TreeOf Y)
changed_from cs o = option_and_then (λ t. if_ok_of (change_all cs t)) o

-- what a commit with these parents begins with
abbrev pub begun_of : {Y : Type 0} → (ℕ → Option (TreeOf Y)) → List ℕ → Option (TreeOf Y)
begun_of g [] = Some []
begun_of g (p ∷ ps) = g p

-- the changes that operations are, of entries as they are seen
abbrev pub changes_seen : {Y : Type 0} → (Entry → Y) → List FileOp → List (Change Y)
changes_seen f ops = map (λ op. map_change f (meaning op)) ops

-- operations are the changes that they mean
by_meaning : (ops : List FileOp) (t : Tree) → apply_all ops t ≡ change_all (map meaning ops) t
by_meaning [] t = refl
by_meaning (op ∷ ops) t = go (change (meaning op) t) (λ u. by_meaning ops u)
  where
    go : (r : Result Tree Refusal) → ((u : Tree) → apply_all ops u ≡ change_all (map meaning ops) u) → (r >>= apply_all ops) ≡ (r >>= change_all (map meaning ops))
    go (Ok u) h = h u
    go (Err e) h = refl

module _ {Y : Type 0} (f : Entry → Y) where
  -- the meaning of operations, seen
  twice : (ops : List FileOp) → map (map_change f) (map meaning ops) ≡ changes_seen f ops
  twice [] = refl
  twice (op ∷ ops) = ap (λ (cs : List (Change Y)). map_change f (meaning op) ∷ cs) (twice ops)

  -- operations from a tree that may not be there
  pub folded_seen : (ops : List FileOp) (o : Option Tree) → option_map (map_tree f) (folded ops o) ≡ changed_from (changes_seen f ops) (option_map (map_tree f) o)
  folded_seen ops None = refl
  folded_seen ops (Some t) =
      ap (λ (r : Result Tree Refusal). option_map (map_tree f) (if_ok r)) (by_meaning ops t)
      ∙ go (change_all (map meaning ops) t)
      ∙ ap if_ok_of (sym (mapped_changes f (map meaning ops) t))
      ∙ ap (λ (cs : List (Change Y)). if_ok_of (change_all cs (map_tree f t))) (twice ops)
    where
      go : (r : Result Tree Refusal) → option_map (map_tree f) (if_ok r) ≡ if_ok_of (on_ok (map_tree f) r)
      go (Ok t) = refl
      go (Err e) = refl

  -- the tree of a commit, as it is seen
  abbrev pub seen : Past → ℕ → Option (TreeOf Y)
  seen older c = option_map (map_tree f) (tree_in older c)

  -- what a commit begins with, as it is seen
  pub begun_seen : (older : Past) (ps : List ℕ) → option_map (map_tree f) (begun (tree_in older) ps) ≡ begun_of (seen older) ps
  begun_seen older [] = refl
  begun_seen older (p ∷ ps) = refl

  -- the tree of the last commit
  pub seen_here : (n : Node) (older : Past) (c : ℕ) → (n.id == c) ≡ true → seen (n ∷ older) c ≡ changed_from (changes_seen f n.ops) (begun_of (seen older) n.parents)
  seen_here n older c same =
      ap (option_map (map_tree f)) (cond-true (n.id == c) (folded n.ops (begun (tree_in older) n.parents)) (tree_in older c) same)
      ∙ folded_seen n.ops (begun (tree_in older) n.parents)
      ∙ ap (changed_from (changes_seen f n.ops)) (begun_seen older n.parents)

  -- another commit's tree doesn't look at the last one
  pub seen_other : (n : Node) (older : Past) (c : ℕ) → (n.id == c) ≡ false → seen (n ∷ older) c ≡ seen older c
  seen_other n older c other = ap (option_map (map_tree f)) (cond-false (n.id == c) (folded n.ops (begun (tree_in older) n.parents)) (tree_in older c) other)

-- only what the operations name is looked at
module _ {Y : Type 0} (f g : Entry → Y) where
  -- where operations are seen alike, trees are
  pub seen_alike : (older : Past) → AllByRecursion (λ n. changes_seen f n.ops ≡ changes_seen g n.ops) older → (c : ℕ) → seen f older c ≡ seen g older c
  seen_alike [] k c = refl
  seen_alike (n ∷ older) k c =
      elim (cases_Bool (n.id == c)) [
        | inl same ↦
            seen_here f n older c same
            ∙ ap (λ (cs : List (Change Y)). changed_from cs (begun_of (seen f older) n.parents)) k.0
            ∙ ap (changed_from (changes_seen g n.ops)) (starts n.parents (λ p. seen_alike older k.1 p))
            ∙ sym (seen_here g n older c same)
        | inr other ↦ seen_other f n older c other ∙ seen_alike older k.1 c ∙ sym (seen_other g n older c other)
      ]
    where
      starts : (ps : List ℕ) → ((p : ℕ) → seen f older p ≡ seen g older p) → begun_of (seen f older) ps ≡ begun_of (seen g older) ps
      starts [] h = refl
      starts (p ∷ ps) h = h p
