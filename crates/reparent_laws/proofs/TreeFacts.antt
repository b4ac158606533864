-- What is true of each tree of a sound history: it is sound, and each put of its entries may stand in the history.
use Rattle.std.proofs.Common.{◌≡◌, ℕ, ◌≤◌, true, false, cond, not, List, [], ◌∷◌, length, refl, sym, subst, arith, true≢false, Option, Some, None, Result, Ok, Err}
use Rattle.std.specs.Prelude.{◌==◌, IfOk}
use Rattle.std.specs.List.{AllByRecursion}
use Rattle.plain_model.specs.declared.limit.TheConstants.{MAX_PATHS}
use Rattle.plain_model.specs.declared.operation.Entry.{Entry}
use Rattle.plain_model.specs.declared.operation.Mode.{Mode}
use Rattle.plain_model.specs.declared.operation.Mode.TheVariants.{Plain, Executable, Link, Gitlink}
use Rattle.plain_model.specs.declared.operation.Content.{Content}
use Rattle.plain_model.specs.declared.operation.Content.TheVariants.{Blob as OfBlob, Object}
use Rattle.plain_model.specs.declared.operation.FileOp.{FileOp}
use Rattle.plain_model.specs.declared.operation.FileOp.TheVariants.{Modify, Delete, Copy, Rename, DeleteAll}
use Rattle.plain_model.specs.declared.event.PlainEvent.{PlainEvent}
use Rattle.plain_model.specs.Histories.{Node, Past, begun, folded, if_ok, nodes, past, tree, tree_in}
use Rattle.plain_model.specs.Paths.{Bytes, IsPath, is_at_or_below}
use Rattle.plain_model.specs.Soundness.{IsFormedOp, IsSound}
use Rattle.plain_model.specs.Trees.{IsTree, Refusal, Tree, apply, apply_all, cleared_for, has, meaning, put, subtree, without, ◌>>=◌}
use Rattle.history_laws.proofs.Lists.{all_imply, all_reverse}
use Rattle.history_laws.proofs.TreeLaws.{apply_tree}
use Rattle.edit_laws.proofs.Shown.{IfTree, Puts, all_in}
use Rattle.history_laws.specs.SoundTrees.{IsSound as IsSoundTree}
use Rattle.history_laws.proofs.KeptPaths.{PutsAtPath, change_paths}
use Rattle.history_laws.proofs.TreeMaps.{entries_found, few_within, found_has, length_where, placed_small}
use Rattle.edit_laws.proofs.Fine.{IsFine}
use Rattle.edit_laws.proofs.Settles.{fine_nodes}
use Rattle.edit_laws.specs.Puts.{puts_of}

-- ---- what each operation keeps is true of each tree

module _ (Q : Tree → Type 0) (P : FileOp → Type 0) (empty : Q []) (step : (op : FileOp) (old new : Tree) → P op → apply op old ≡ Ok new → Q old → Q new) where
  kept_all : (ops : List FileOp) (old new : Tree) → AllByRecursion P ops → apply_all ops old ≡ Ok new → Q old → Q new
  kept_all [] old new a h q = let is : old ≡ new = cc in subst Q is q
  kept_all (op ∷ ops) old new a h q = go (apply op old) refl h (λ mid y k. kept_all ops mid new a.1 y k)
    where
      go : (r : Result Tree Refusal) → apply op old ≡ r → (r >>= apply_all ops) ≡ Ok new → ((mid : Tree) → apply_all ops mid ≡ Ok new → Q mid → Q new) → Q new
      go (Ok mid) x y f = f mid y (step op old mid a.0 x q)
      go (Err e) x y f = absurd cc

  abbrev IfQ : Option Tree → Type 0
  IfQ None = Unit {0}
  IfQ (Some t) = Q t

  kept_folded : (ops : List FileOp) (o : Option Tree) → AllByRecursion P ops → IfQ o → IfQ (folded ops o)
  kept_folded ops None a q = tt
  kept_folded ops (Some t) a q = go (apply_all ops t) refl
    where
      go : (r : Result Tree Refusal) → apply_all ops t ≡ r → IfQ (if_ok r)
      go (Ok u) x = kept_all ops t u a x q
      go (Err e) x = tt

  kept_in : (older : Past) → AllByRecursion (λ (n : Node). AllByRecursion P n.ops) older → (c : ℕ) → IfQ (tree_in older c)
  kept_in [] a c = tt
  kept_in (n ∷ older) a c =
      elim (n.id == c) as (λ b. IfQ (cond b (folded n.ops (begun (tree_in older) n.parents)) (tree_in older c))) [
        | true ↦ kept_folded n.ops (begun (tree_in older) n.parents) a.0 (starts n.parents (λ p. kept_in older a.1 p))
        | false ↦ kept_in older a.1 c
      ]
    where
      starts : (ps : List ℕ) → ((p : ℕ) → IfQ (tree_in older p)) → IfQ (begun (tree_in older) ps)
      starts [] f = empty
      starts (p ∷ ps) f = f p

  pub kept_tree : (events : List PlainEvent) → AllByRecursion (λ (n : Node). AllByRecursion P n.ops) (nodes events) → (c : ℕ) (t : Tree) → tree events c ≡ Some t → Q t
  kept_tree events a c t is = subst IfQ is (kept_in (past events) (all_reverse (λ (n : Node). AllByRecursion P n.ops) (nodes events) a) c)

-- ---- the limit on paths

few_after : (op : FileOp) (old new : Tree) → apply op old ≡ Ok new → length old ≤ MAX_PATHS → length new ≤ MAX_PATHS
few_after (Modify mode content path) old new h few = few_within (put path (record { mode = mode; content = content }) (cleared_for path old)) new h
few_after (Delete path) old new h few =
    let is : without path old ≡ new = cc in
    let less = length_where (λ q. not (is_at_or_below path q)) old in
    subst (λ (t : Tree). length t ≤ MAX_PATHS) is (omega arith)
few_after (Copy source target) old new h few = placed_small source target (subtree source old) old new h
few_after (Rename source target) old new h few = placed_small source target (subtree source old) (without source old) new h
few_after DeleteAll old new h few = let is : [] ≡ new = cc in subst (λ (t : Tree). length t ≤ MAX_PATHS) is (omega arith)

-- ---- it is a tree of paths, within the limit

sound_after : (op : FileOp) (old new : Tree) → IsFormedOp op → apply op old ≡ Ok new → IsSoundTree old → IsSoundTree new
sound_after op old new f h s = record {
  form = subst (λ (r : Result Tree Refusal). IfOk r IsTree) h (apply_tree op old s.form);
  paths = change_paths (meaning op) old new (puts_at op f) h s.paths;
  few = few_after op old new h s.few;
}
  where
    puts_at : (op : FileOp) → IsFormedOp op → PutsAtPath (meaning op)
    puts_at (Modify mode content path) f = f.1
    puts_at (Delete path) f = tt
    puts_at (Copy source target) f = f.1
    puts_at (Rename source target) f = f.1
    puts_at DeleteAll f = tt

empty_sound : IsSoundTree []
empty_sound = record {
  form = record { in_order = tt; apart = λ p q a b. absurd cc };
  paths = λ q there. absurd (true≢false (sym there));
  few = omega arith;
}

pub tree_sound : (events : List PlainEvent) → IsSound events → (c : ℕ) (t : Tree) → tree events c ≡ Some t → IsSoundTree t
tree_sound events h c t is =
    kept_tree IsSoundTree (IsFine events) empty_sound (λ op old new f. sound_after op old new f.1) events (fine_nodes events h) c t is

-- ---- its entries

-- what may be put somewhere may be put at any path
fine_anywhere : (events : List PlainEvent) (mode : Mode) (content : Content) (p q : Bytes) → IsPath q → IsFine events (Modify mode content p) → IsFine events (Modify mode content q)
fine_anywhere events Gitlink (OfBlob b) p q k h = absurd h.0
fine_anywhere events Gitlink (Object d) p q k h = (h.0, (h.1.0, k), h.2)
fine_anywhere events Plain (OfBlob b) p q k h = (h.0, (h.1.0, k), h.2)
fine_anywhere events Plain (Object d) p q k h = (h.0, (h.1.0, k), h.2)
fine_anywhere events Executable (OfBlob b) p q k h = (h.0, (h.1.0, k), h.2)
fine_anywhere events Executable (Object d) p q k h = (h.0, (h.1.0, k), h.2)
fine_anywhere events Link (OfBlob b) p q k h = (h.0, (h.1.0, k), h.2)
fine_anywhere events Link (Object d) p q k h = (h.0, (h.1.0, k), h.2)

-- some operation that puts the entry may stand in the history
abbrev IsFineEntry : List PlainEvent → Entry → Type 0
IsFineEntry events e = (path : Bytes) × IsFine events (Modify e.mode e.content path)

fine_put : (events : List PlainEvent) (op : FileOp) → IsFine events op → Puts (IsFineEntry events) op
fine_put events (Modify mode content path) h = (path, h)
fine_put events (Delete path) h = tt
fine_put events (Copy source target) h = tt
fine_put events (Rename source target) h = tt
fine_put events DeleteAll h = tt

fine_entries : (events : List PlainEvent) → IsSound events → (c : ℕ) → IfTree (IsFineEntry events) (tree events c)
fine_entries events h c =
    all_in (IsFineEntry events) (past events)
    (all_reverse (λ (n : Node). AllByRecursion (Puts (IsFineEntry events)) n.ops) (nodes events)
    (all_imply (λ (n : Node). AllByRecursion (IsFine events) n.ops) (λ (n : Node). AllByRecursion (Puts (IsFineEntry events)) n.ops) (λ n a. all_imply (IsFine events) (Puts (IsFineEntry events)) (fine_put events) n.ops a) (nodes events) (fine_nodes events h)))
    c

-- each put of a tree may stand in the history
pub puts_fine : (events : List PlainEvent) → IsSound events → (c : ℕ) (t : Tree) → tree events c ≡ Some t → AllByRecursion (IsFine events) (puts_of t)
puts_fine events h c t is =
    each t (subst (IfTree (IsFineEntry events)) is (fine_entries events h c)) (found_has t t (entries_found t sound.form.in_order))
  where
    sound : IsSoundTree t
    sound = tree_sound events h c t is

    each : (u : Tree) → AllByRecursion (λ x. IsFineEntry events x.1) u → AllByRecursion (λ e. has t e.0 ≡ true) u → AllByRecursion (IsFine events) (puts_of u)
    each [] a k = tt
    each (e ∷ u) a k = (fine_anywhere events e.1.mode e.1.content a.0.0 e.0 (sound.paths e.0 k.0) a.0.1, each u a.1 k.1)
