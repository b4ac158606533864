-- An operation keeps a tree a tree.
use Rattle.std.proofs.Common.{◌≡◌, Bool, true, false, cond, not, T, [], ◌∷◌, ◌++◌, length, drop, refl, sym, ap, subst, ◌∙◌, inl, inr, ◌⊎◌, true≢false, bytes_eq, is_some, Option, Some, None, Ok, Err, nat_lt}
use Rattle.std.specs.Prelude.{IfOk}
use Rattle.std.specs.Ordering.{nat_cmp, eq_by_cmp, is_eq}
use Rattle.std.specs.declared.cmp.Ordering.{Ordering}
use Rattle.std.specs.declared.cmp.Ordering.TheVariants.{Less, Equal, Greater}
use Rattle.std.specs.Cmp.Lexicographic.{slice_cmp, nat_list_cmp_total}
use Rattle.std.specs.Cmp.{tied_itself}
use Rattle.std.specs.FinMap.{slice_cmp-IsAntisymmetric, nat_cmp-IsAntisymmetric}
use Rattle.std.specs.FinMap.Entries as entries
use Rattle.std.proofs.lemmas.Bool.{or_parts, or_from, not-true}
use Rattle.plain_model.specs.declared.operation.FileOp.{FileOp}
use Rattle.plain_model.specs.declared.limit.TheConstants.{MAX_PATHS}
use Rattle.plain_model.specs.Paths.{Bytes, is_below, is_at_or_below, do_conflict, is_in_the_way}
use Rattle.plain_model.specs.Trees.{Tree, TreeOf, Change, change, meaning, at, has, IsTree, where_path, put, put_all, subtree, without, cleared_for, moved, within_paths, has_long_path, placed, apply}
use Rattle.plain_model.specs.Trees.Change.{Put, Remove, CopyTo, MoveTo, Clear}
use Rattle.plain_model.specs.Trees.Refusal.{PathBytes, Paths}
use Rattle.history_laws.proofs.PathLaws.{IsRest, After, after, below_after, not_below_itself, above_moved, below_moved, apart_from}

-- paths by their bytes
abbrev pub by_bytes : Bytes → Bytes → Ordering
by_bytes = slice_cmp nat_cmp

-- a comparison that says equal
pub tied : (r : Ordering) → is_eq r ≡ true → r ≡ Equal
tied Less h = absurd (true≢false (sym h))
tied Equal h = refl
tied Greater h = absurd (true≢false (sym h))

-- paths that tie are equal
pub same_path : (p q : Bytes) → eq_by_cmp by_bytes p q ≡ true → p ≡ q
same_path p q h = slice_cmp-IsAntisymmetric nat_cmp-IsAntisymmetric p q (tied (by_bytes p q) h)

-- no path conflicts with itself
apart_from_itself : (p : Bytes) → do_conflict p p ≡ false
apart_from_itself p = or_from (is_below p p) (is_below p p) (not_below_itself p) (not_below_itself p)

-- two paths that were moved conflict no more than they did
both_moved : (s t p q : Bytes) → After s p → After s q → do_conflict p q ≡ false → do_conflict (t ++ drop (length s) p) (t ++ drop (length s) q) ≡ false
both_moved s t p q a b h =
    let x = drop (length s) p in
    let y = drop (length s) q in
    let was : do_conflict (s ++ x) (s ++ y) ≡ false = subst (λ z. do_conflict z (s ++ y) ≡ false) a.is (subst (λ z. do_conflict p z ≡ false) b.is h) in
    let parts = or_parts (is_below (s ++ x) (s ++ y)) (is_below (s ++ y) (s ++ x)) was in
    or_from (is_below (t ++ x) (t ++ y)) (is_below (t ++ y) (t ++ x)) (below_after t x y ∙ sym (below_after s x y) ∙ parts.0) (below_after t y x ∙ sym (below_after s y x) ∙ parts.1)

module _ {X : Type 0} where
  -- ---- what a changed tree has

  -- what is at a path of a filtered tree
  pub at_where : (test : Bytes → Bool) (q : Bytes) (tree : TreeOf X) → at (where_path test tree) q ≡ cond (test q) (at tree q) None
  at_where test q tree = entries.find-where_key by_bytes test q (λ x e. ap test (sym (slice_cmp-IsAntisymmetric nat_cmp-IsAntisymmetric q x e))) tree

  -- what is at a path after a put
  pub at_put : (p q : Bytes) (e : X) (tree : TreeOf X) → at (put p e tree) q ≡ cond (eq_by_cmp by_bytes q p) (Some e) (at tree q)
  at_put p q e tree = entries.find-put by_bytes nat_list_cmp_total q p e tree

  -- a value that is there under a test
  if_there : (b : Bool) (o : Option X) → is_some (cond b o None) ≡ true → (b ≡ true) × (is_some o ≡ true)
  if_there true o h = (refl, h)
  if_there false o h = absurd (true≢false (sym h))

  -- a value that is there, from one side or the other
  this_or_that : (b : Bool) (e : X) (o : Option X) → is_some (cond b (Some e) o) ≡ true → (b ≡ true) ⊎ (is_some o ≡ true)
  this_or_that true e o h = inl refl
  this_or_that false e o h = inr h

  -- a path of a filtered tree passes the test and was there
  pub has_where : (test : Bytes → Bool) (q : Bytes) (tree : TreeOf X) → has (where_path test tree) q ≡ true → (test q ≡ true) × (has tree q ≡ true)
  has_where test q tree h = if_there (test q) (at tree q) (ap is_some (sym (at_where test q tree)) ∙ h)

  -- a path after a put is the one put, or was there
  pub has_put : (p q : Bytes) (e : X) (tree : TreeOf X) → has (put p e tree) q ≡ true → (q ≡ p) ⊎ (has tree q ≡ true)
  has_put p q e tree h =
      elim (this_or_that (eq_by_cmp by_bytes q p) e (at tree q) (ap is_some (sym (at_put p q e tree)) ∙ h)) [
        | inl same ↦ inl (same_path q p same)
        | inr there ↦ inr there
      ]

  -- a path after many puts is one of those put, or was there
  pub has_put_all : (es base : TreeOf X) (q : Bytes) → has (put_all es base) q ≡ true → (has es q ≡ true) ⊎ (has base q ≡ true)
  has_put_all [] base q h = inr h
  has_put_all (e ∷ es) base q h =
      elim (this_or_that (eq_by_cmp by_bytes q e.0) e.1 (at (put_all es base) q) (ap is_some (sym (at_put e.0 q e.1 (put_all es base))) ∙ h)) [
        | inl same ↦ inl (ap (λ b. is_some (cond b (Some e.1) (at es q))) same)
        | inr there ↦ elim (has_put_all es base q there) [
          | inl first ↦ inl (later (eq_by_cmp by_bytes q e.0) e.1 (at es q) first)
          | inr second ↦ inr second
        ]
      ]
    where
      later : (b : Bool) (e : X) (o : Option X) → is_some o ≡ true → is_some (cond b (Some e) o) ≡ true
      later true e o h = refl
      later false e o h = h

  -- where a moved path came from
  pub record CameFrom (source target : Bytes) (taken : TreeOf X) (q : Bytes) : Type 0 where
    pub path : Bytes
    pub was : has taken path ≡ true
    pub is : q ≡ target ++ drop (length source) path

  -- a moved path came from a taken one
  pub has_moved : (source target : Bytes) (taken : TreeOf X) (q : Bytes) → has (moved source target taken) q ≡ true → CameFrom source target taken q
  has_moved source target [] q h = absurd (true≢false (sym h))
  has_moved source target (e ∷ es) q h =
      elim (this_or_that (eq_by_cmp by_bytes q (target ++ drop (length source) e.0)) e.1 (at (moved source target es) q) h) [
        | inl same ↦ record { path = e.0; was = ap (λ r. is_some (cond (is_eq r) (Some e.1) (at es e.0))) own; is = same_path q _ same }
        | inr there ↦
            let c = has_moved source target es q there in
            record { path = c.path; was = later (eq_by_cmp by_bytes c.path e.0) e.1 (at es c.path) c.was; is = c.is }
      ]
    where
      own : by_bytes e.0 e.0 ≡ Equal
      own = tied_itself nat_list_cmp_total e.0

      later : (b : Bool) (e : X) (o : Option X) → is_some o ≡ true → is_some (cond b (Some e) o) ≡ true
      later true e o h = refl
      later false e o h = h

  -- ---- a tree stays a tree

  -- a filtered tree is a tree
  pub where_tree : (test : Bytes → Bool) (tree : TreeOf X) → IsTree tree → IsTree (where_path test tree)
  where_tree test tree t = record {
    in_order = entries.is_sorted-where_key by_bytes test tree t.in_order;
    apart = λ p q a b. t.apart p q (has_where test p tree a).1 (has_where test q tree b).1;
  }

  -- many puts keep the order
  sorted_put_all : (es base : TreeOf X) → T (entries.is_sorted by_bytes base) → T (entries.is_sorted by_bytes (put_all es base))
  sorted_put_all [] base h = h
  sorted_put_all (e ∷ es) base h = entries.is_sorted-put by_bytes nat_list_cmp_total e.0 e.1 (put_all es base) (sorted_put_all es base h)

  -- what is left for a path that comes is apart from it
  cleared_apart : (p q : Bytes) (tree : TreeOf X) → has (cleared_for p tree) q ≡ true → (do_conflict p q ≡ false) × (do_conflict q p ≡ false)
  cleared_apart p q tree h =
      let free = not-true (is_in_the_way p q) (has_where (λ x. not (is_in_the_way p x)) q tree h).0 in
      let parts = or_parts (is_below p q) (is_below q p) (or_parts (bytes_eq p q) (do_conflict p q) free).1 in
      (or_from (is_below p q) (is_below q p) parts.0 parts.1, or_from (is_below q p) (is_below p q) parts.1 parts.0)

  -- a put where its path was cleared for keeps a tree a tree
  put_tree : (p : Bytes) (e : X) (tree : TreeOf X) → IsTree tree → IsTree (put p e (cleared_for p tree))
  put_tree p e tree t =
      let rest = where_tree (λ x. not (is_in_the_way p x)) tree t in
      record {
        in_order = entries.is_sorted-put by_bytes nat_list_cmp_total p e (cleared_for p tree) rest.in_order;
        apart = λ a b ha hb. elim (has_put p a e (cleared_for p tree) ha) [
          | inl a_is ↦ elim (has_put p b e (cleared_for p tree) hb) [
            | inl b_is ↦ subst (λ x. do_conflict x b ≡ false) (sym a_is) (subst (λ x. do_conflict p x ≡ false) (sym b_is) (apart_from_itself p))
            | inr b_there ↦ subst (λ x. do_conflict x b ≡ false) (sym a_is) (cleared_apart p b tree b_there).0
          ]
          | inr a_there ↦ elim (has_put p b e (cleared_for p tree) hb) [
            | inl b_is ↦ subst (λ x. do_conflict a x ≡ false) (sym b_is) (cleared_apart p a tree a_there).1
            | inr b_there ↦ rest.apart a b a_there b_there
          ]
        ];
      }

  -- a path that was moved, and one that stayed
  moved_and_left : (target q r : Bytes) (tree : TreeOf X) → IsRest r → has (cleared_for target tree) q ≡ true → (do_conflict q (target ++ r) ≡ false) × (do_conflict (target ++ r) q ≡ false)
  moved_and_left target q r tree s h =
      let free = not-true (is_in_the_way target q) (has_where (λ x. not (is_in_the_way target x)) q tree h).0 in
      let up = λ (b : is_below q (target ++ r) ≡ true). true≢false (sym (above_moved q target r s b) ∙ free) in
      let down = λ (b : is_below (target ++ r) q ≡ true). true≢false (sym (below_moved q target r s b) ∙ free) in
      (apart_from q (target ++ r) up down, apart_from (target ++ r) q down up)

  -- what was taken at or below the source, put at the target of another tree
  placed_tree : (source target : Bytes) (tree base : TreeOf X) → IsTree tree → IsTree base → IsTree (put_all (moved source target (subtree source tree)) (cleared_for target base))
  placed_tree source target tree base t u =
      let rest = where_tree (λ x. not (is_in_the_way target x)) base u in
      let taken = subtree source tree in
      record {
        in_order = sorted_put_all (moved source target taken) (cleared_for target base) rest.in_order;
        apart = λ a b ha hb. elim (has_put_all (moved source target taken) (cleared_for target base) a ha) [
          | inl a_moved ↦
              let c = has_moved source target taken a a_moved in
              let was_c = has_where (is_at_or_below source) c.path tree c.was in
              let after_c = after source c.path was_c.0 in
              elim (has_put_all (moved source target taken) (cleared_for target base) b hb) [
                | inl b_moved ↦
                    let d = has_moved source target taken b b_moved in
                    let was_d = has_where (is_at_or_below source) d.path tree d.was in
                    subst (λ x. do_conflict x b ≡ false) (sym c.is) (subst (λ x. do_conflict (target ++ drop (length source) c.path) x ≡ false) (sym d.is)
                    (both_moved source target c.path d.path after_c (after source d.path was_d.0) (t.apart c.path d.path was_c.1 was_d.1)))
                | inr b_left ↦ subst (λ x. do_conflict x b ≡ false) (sym c.is) (moved_and_left target b (drop (length source) c.path) base after_c.rest b_left).1
              ]
          | inr a_left ↦ elim (has_put_all (moved source target taken) (cleared_for target base) b hb) [
            | inl b_moved ↦
                let d = has_moved source target taken b b_moved in
                let was_d = has_where (is_at_or_below source) d.path tree d.was in
                subst (λ x. do_conflict a x ≡ false) (sym d.is) (moved_and_left target a (drop (length source) d.path) base (after source d.path was_d.0).rest a_left).0
            | inr b_left ↦ rest.apart a b a_left b_left
          ]
        ];
      }

  -- ---- the operations

  -- the limit of paths lets the tree through as it is
  within_tree : (tree : TreeOf X) → IsTree tree → IfOk (within_paths tree) IsTree
  within_tree tree t = elim (nat_lt MAX_PATHS (length tree)) as (λ b. IfOk (cond b (Err Paths) (Ok tree)) IsTree) [ true ↦ tt | false ↦ t ]

  -- a copy or a move gives a tree, if it is not refused
  placed_ok : (source target : Bytes) (tree base : TreeOf X) → IsTree tree → IsTree base → IfOk (placed source target (subtree source tree) base) IsTree
  placed_ok source target tree base t u = go (subtree source tree) (placed_tree source target tree base t u)
    where
      go : (taken : TreeOf X) → IsTree (put_all (moved source target taken) (cleared_for target base)) → IfOk (placed source target taken base) IsTree
      go [] h = tt
      go (e ∷ taken) h =
          elim (has_long_path (moved source target (e ∷ taken))) as (λ b. IfOk (cond b (Err PathBytes) (within_paths (put_all (moved source target (e ∷ taken)) (cleared_for target base)))) IsTree) [
            | true ↦ tt
            | false ↦ within_tree _ h
          ]

  -- each change gives a tree, if it is not refused
  pub change_tree : (c : Change X) (tree : TreeOf X) → IsTree tree → IfOk (change c tree) IsTree
  change_tree (Put e path) tree t = within_tree (put path e (cleared_for path tree)) (put_tree path e tree t)
  change_tree (Remove path) tree t = where_tree (λ q. not (is_at_or_below path q)) tree t
  change_tree (CopyTo source target) tree t = placed_ok source target tree tree t t
  change_tree (MoveTo source target) tree t = placed_ok source target tree (without source tree) t (where_tree (λ q. not (is_at_or_below source q)) tree t)
  change_tree Clear tree t = record { in_order = tt; apart = λ p q a b. absurd (true≢false (sym a)) }

-- each operation gives a tree, if it is not refused
pub apply_tree : (op : FileOp) (tree : Tree) → IsTree tree → IfOk (apply op tree) IsTree
apply_tree op tree t = change_tree (meaning op) tree t
