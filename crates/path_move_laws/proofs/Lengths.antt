-- Paths don't get longer than their operations say.
use Rattle.std.proofs.Common.{◌≡◌, ℕ, ◌+◌, ◌≤◌, Bool, true, false, cond, not, List, [], ◌∷◌, length, drop, max, sym, ap, subst, ◌∙◌, inl, inr, arith, le_trans, true≢false, Ok, Err}
use Rattle.std.specs.Prelude.{◌-◌}
use Rattle.std.proofs.Math.Nat.{le-max_left, le-max_right}
use Rattle.std.proofs.lemmas.List.{length-append, length-drop}
use Rattle.plain_model.specs.declared.operation.FileOp.{FileOp}
use Rattle.plain_model.specs.declared.operation.FileOp.TheVariants.{Modify, Delete, Copy, Rename, DeleteAll}
use Rattle.plain_model.specs.declared.event.PlainEvent.{PlainEvent}
use Rattle.plain_model.specs.Lookups.{event_ops}
use Rattle.plain_model.specs.Paths.{Bytes, is_at_or_below, is_in_the_way}
use Rattle.plain_model.specs.Trees.{Tree, apply, cleared_for, has, has_long_path, moved, placed, put, put_all, subtree, where_path, within_paths, without}
use Rattle.plain_model.specs.Trees.Refusal.{PathBytes}
use Rattle.history_laws.proofs.TreeLaws.{has_moved, has_put, has_put_all, has_where}
use Rattle.history_laws.proofs.TreeMaps.{within_ok}
use Rattle.path_move_laws.specs.Lengths.{longest_after, longest_after_all, longest_gone, longest_in}

-- no path of the tree has more bytes
abbrev pub AreShort : ℕ → Tree → Type 0
AreShort n t = (p : Bytes) → has t p ≡ true → length p ≤ n

short_kept : (test : Bytes → Bool) (n : ℕ) (t : Tree) → AreShort n t → AreShort n (where_path test t)
short_kept test n t a q h = a q (has_where test q t h).1

short_gone : (source target : Bytes) (n : ℕ) (t : Tree) → AreShort n t → AreShort (length target + (n - length source)) (moved source target (subtree source t))
short_gone source target n t a q h =
    let c = has_moved source target (subtree source t) q h in
    let was : length c.path ≤ n = a c.path (has_where (is_at_or_below source) c.path t c.was).1 in
    let long : length q ≡ length target + (length c.path - length source) =
    ap length c.is ∙ length-append target (drop (length source) c.path) ∙ ap (λ k. length target + k) (length-drop (length source) c.path) in
    omega (arith, long, was)

gone_more : (n : ℕ) (source target : Bytes) → length target + (n - length source) ≤ longest_gone n source target
gone_more n source target = le-max_right (max n (length source)) (length target + (n - length source))

gone_kept : (n : ℕ) (source target : Bytes) → max n (length source) ≤ longest_gone n source target
gone_kept n source target = le-max_left (max n (length source)) (length target + (n - length source))

short_placed : (source target : Bytes) (n : ℕ) (t base new : Tree) → AreShort n t → AreShort n base → placed source target (subtree source t) base ≡ Ok new → AreShort (longest_gone n source target) new
short_placed source target n t base new a b h = go (subtree source t) (short_gone source target n t a) h
  where
    go : (taken : Tree) → AreShort (length target + (n - length source)) (moved source target taken) → placed source target taken base ≡ Ok new → AreShort (longest_gone n source target) new
    go [] short h = absurd cc
    go (e ∷ taken) short h = by (has_long_path (moved source target (e ∷ taken))) h
      where
        by : (long : Bool) → cond long (Err PathBytes) (within_paths (put_all (moved source target (e ∷ taken)) (cleared_for target base))) ≡ Ok new → AreShort (longest_gone n source target) new
        by true h q there = absurd cc
        by false h q there =
            let is = within_ok (put_all (moved source target (e ∷ taken)) (cleared_for target base)) new h in
            elim (has_put_all (moved source target (e ∷ taken)) (cleared_for target base) q (subst (λ (u : Tree). has u q ≡ true) (sym is.0) there)) [
              | inl put_in ↦ le_trans (short q put_in) (gone_more n source target)
              | inr left ↦ le_trans (short_kept (λ x. not (is_in_the_way target x)) n base b q left) (le_trans (le-max_left n (length source)) (gone_kept n source target))
            ]

-- what an operation leaves
pub short_after : (op : FileOp) (n : ℕ) (old new : Tree) → apply op old ≡ Ok new → AreShort n old → AreShort (longest_after n op) new
short_after (Modify mode content path) n old new h a q there =
    let is = within_ok (put path (record { mode = mode; content = content }) (cleared_for path old)) new h in
    elim (has_put path q (record { mode = mode; content = content }) (cleared_for path old) (subst (λ (u : Tree). has u q ≡ true) (sym is.0) there)) [
      | inl same ↦ subst (λ (x : Bytes). length x ≤ max n (length path)) (sym same) (le-max_right n (length path))
      | inr left ↦ le_trans (short_kept (λ x. not (is_in_the_way path x)) n old a q left) (le-max_left n (length path))
    ]
short_after (Delete path) n old new h a q there =
    let is : without path old ≡ new = cc in
    le_trans (short_kept (λ x. not (is_at_or_below path x)) n old a q (subst (λ (u : Tree). has u q ≡ true) (sym is) there)) (le-max_left n (length path))
short_after (Copy source target) n old new h a q there = short_placed source target n old old new a a h q there
short_after (Rename source target) n old new h a q there =
    short_placed source target n old (without source old) new a (short_kept (λ x. not (is_at_or_below source x)) n old a) h q there
short_after DeleteAll n old new h a q there =
    let is : [] ≡ new = cc in
    absurd (true≢false (sym (subst (λ (u : Tree). has u q ≡ true) (sym is) there)))

-- nothing gets less
pub more_after : (n : ℕ) (op : FileOp) → n ≤ longest_after n op
more_after n (Modify mode content path) = le-max_left n (length path)
more_after n (Delete path) = le-max_left n (length path)
more_after n (Copy source target) = le_trans (le-max_left n (length source)) (gone_kept n source target)
more_after n (Rename source target) = le_trans (le-max_left n (length source)) (gone_kept n source target)
more_after n DeleteAll = omega arith

pub more_after_all : (n : ℕ) (ops : List FileOp) → n ≤ longest_after_all n ops
more_after_all n [] = omega arith
more_after_all n (op ∷ ops) = le_trans (more_after n op) (more_after_all (longest_after n op) ops)

pub more_in : (n : ℕ) (es : List PlainEvent) → n ≤ longest_in n es
more_in n [] = omega arith
more_in n (e ∷ es) = le_trans (more_after_all n (event_ops e)) (more_in (longest_after_all n (event_ops e)) es)

-- the paths that are copied or renamed aren't longer either
pub source_short : (n : ℕ) (source target : Bytes) → length source ≤ longest_gone n source target
source_short n source target = le_trans (le-max_right n (length source)) (gone_kept n source target)

pub target_short : (n : ℕ) (source target : Bytes) → length target ≤ longest_gone n source target
target_short n source target = let more = gone_more n source target in omega (arith, more)
