-- Below a folder each mapped operation is right, whatever the trees are.
use Rattle.std.proofs.Common.{◌≡◌, ◌≤◌, true, false, cond, [], ◌∷◌, length, drop, not, nat_lt, refl, sym, ap, subst, ◌∙◌, arith, bytes_eq, true≢false, is_some, Option, Some, None, Ok, Err}
use Rattle.std.specs.Prelude.{◌||◌}
use Rattle.std.specs.Option.{option_or}
use Rattle.std.specs.Ordering.{eq_by_cmp}
use Rattle.std.specs.Cmp.Lexicographic.{bytes_decides}
use Rattle.std.proofs.lemmas.Bool.{or_from}
use Rattle.std.proofs.lemmas.List.{append_cancel_left}
use Rattle.plain_model.specs.declared.limit.TheConstants.{MAX_PATHS, MAX_PATH_BYTES}
use Rattle.plain_model.specs.declared.operation.Entry.{Entry}
use Rattle.plain_model.specs.declared.operation.FileOp.{FileOp}
use Rattle.plain_model.specs.declared.operation.FileOp.TheVariants.{Modify, Delete, Copy, Rename, DeleteAll}
use Rattle.plain_model.specs.Paths.{Bytes, is_at_or_below, is_below, is_in_the_way}
use Rattle.plain_model.specs.Trees.{Tree, apply, at, cleared_for, has, has_long_path, moved, placed, put_all, subtree, within_paths, without}
use Rattle.plain_model.specs.Trees.Refusal.{PathBytes}
use Rattle.history_laws.proofs.PathLaws.{below_after}
use Rattle.history_laws.proofs.TreeLaws.{by_bytes, has_where}
use Rattle.history_laws.proofs.TreeMaps.{IsOrdered, ordered_where, within_small}
use Rattle.path_move_laws.specs.Apart.{MayMove}
use Rattle.path_move_laws.specs.Images.{image}
use Rattle.path_move_laws.specs.MovedOps.{mapped_op, names_paths}
use Rattle.path_move_laws.specs.PathMaps.{image_of}
use Rattle.path_move_laws.specs.Steady.{GoesAlong, IsRight}
use Rattle.path_move_laws.specs.declared.path_map.PathMap.TheVariants.{Sub}
use Rattle.path_move_laws.proofs.Carrying.{is_placed, placed_image}
use Rattle.path_move_laws.proofs.Differing.{same_bytes}
use Rattle.path_move_laws.proofs.Imaged.{at_all, first_there, image_from, image_length, later_there, not_long, where_apart}
use Rattle.path_move_laws.proofs.MapLaws.{goes_along}
use Rattle.path_move_laws.proofs.Quick.{delete_right, is_right, put_right}
use Rattle.path_move_laws.proofs.Steadily.{SameBelow, both_ways, subtree_image, without_image}

module _ (folder : Bytes) where
  abbrev f : Bytes → Bytes
  f = image_of (Sub folder)

  same_equal : (p q : Bytes) → bytes_eq p q ≡ bytes_eq (f p) (f q)
  same_equal p q =
      both_ways (bytes_eq p q) (bytes_eq (f p) (f q))
      (λ h. subst (λ (z : Bytes). bytes_eq (f p) (f z) ≡ true) ((bytes_decides p q).0 h) (same_bytes (f p)))
      (λ h. (bytes_decides p q).1 (ap (drop 1) (append_cancel_left folder (47 ∷ p) (47 ∷ q) ((bytes_decides (f p) (f q)).0 h))))

  same_below : (p q : Bytes) → is_below p q ≡ is_below (f p) (f q)
  same_below p q = sym (below_after folder (47 ∷ p) (47 ∷ q))

  -- nothing is nearer to another path than it was
  pub same_way : (p q : Bytes) → is_in_the_way p q ≡ is_in_the_way (f p) (f q)
  same_way p q = λ i. same_equal p q i || (same_below p q i || same_below q p i)

  pub same_at : (p q : Bytes) → is_at_or_below p q ≡ is_at_or_below (f p) (f q)
  same_at p q = λ i. same_equal p q i || same_below p q i

-- ---- what is placed

placed_sure : (s g : Bytes) (taken base made : Tree) → (length taken ≡ 0 → ⊥) → has_long_path (moved s g taken) ≡ false → put_all (moved s g taken) (cleared_for g base) ≡ made → length made ≤ MAX_PATHS
    → placed s g taken base ≡ Ok made
placed_sure s g [] base made some short is few = absurd (some refl)
placed_sure s g (e ∷ taken) base made some short is few =
    ap (λ b. cond b (Err PathBytes) (within_paths (put_all (moved s g (e ∷ taken)) (cleared_for g base)))) short
    ∙ ap (λ (u : Tree). within_paths u) is ∙ within_small made few

some_taken : (s g : Bytes) (taken base made : Tree) → placed s g taken base ≡ Ok made → length taken ≡ 0 → ⊥
some_taken s g [] base made h none = absurd cc
some_taken s g (e ∷ taken) base made h none = absurd (omega arith)

none_long : (es : Tree) → ((q : Bytes) → has es q ≡ true → nat_lt MAX_PATH_BYTES (length q) ≡ false) → has_long_path es ≡ false
none_long [] h = refl
none_long (e ∷ es) h =
    or_from (nat_lt MAX_PATH_BYTES (length e.0)) (has_long_path es) (h e.0 (first_there e es))
    (none_long es (λ q x. h q (later_there (eq_by_cmp by_bytes q e.0) e.1 (at es q) x)))

some_or : (o p : Option Entry) → is_some o ≡ true → is_some (option_or o p) ≡ true
some_or (Some v) p h = refl
some_or None p h = absurd (true≢false (sym h))

-- a tree of what stays and what is moved, whose image is known
module _ (f : Bytes → Bytes) (t : Tree) (m : MayMove f t) (s g : Bytes) (below : SameBelow f t m.form m.apart s) (from_s : GoesAlong f s) (from_g : GoesAlong f g)
    (base : Tree) (ordered : IsOrdered base) (in_it : (q : Bytes) → has base q ≡ true → has t q ≡ true)
    (way : (q : Bytes) → has base q ≡ true → is_in_the_way g q ≡ is_in_the_way (f g) (f q))
    (r : Tree) (n : MayMove f r) (does : placed s g (subtree s t) base ≡ Ok r) where
  abbrev image_in : Tree
  image_in = moved (f s) (f g) (subtree (f s) (image f t))

  made_is : put_all image_in (cleared_for (f g) (image f base)) ≡ image f r
  made_is = placed_image f t m.form m.apart s g below from_s from_g base ordered in_it way ∙ ap (image f) (is_placed s g (subtree s t) base r does).0

  short_in : (q : Bytes) → has image_in q ≡ true → nat_lt MAX_PATH_BYTES (length q) ≡ false
  short_in q h =
      let there : has (image f r) q ≡ true =
      ap (λ (u : Tree). has u q) (sym made_is)
      ∙ ap is_some (at_all image_in (cleared_for (f g) (image f base)) q) ∙ some_or (at image_in q) (at (cleared_for (f g) (image f base)) q) h in
      let p = image_from f r q there in
      ap (λ (z : Bytes). nat_lt MAX_PATH_BYTES (length z)) p.2 ∙ not_long f r n.short p.0 p.1

  some_in : length (subtree (f s) (image f t)) ≡ 0 → ⊥
  some_in none =
      some_taken s g (subtree s t) base r does
      (sym (image_length f (subtree s t) (ordered_where (is_at_or_below s) t m.form.in_order) (where_apart f (is_at_or_below s) t m.apart))
      ∙ ap length (sym (subtree_image f t m.form m.apart s below)) ∙ none)

  pub placed_surely : placed (f s) (f g) (subtree (f s) (image f t)) (image f base) ≡ Ok (image f r)
  placed_surely =
      placed_sure (f s) (f g) (subtree (f s) (image f t)) (image f base) (image f r) some_in (none_long image_in short_in) made_is
      (subst (λ k. k ≤ MAX_PATHS) (sym (image_length f r n.form.in_order n.apart)) n.few)

-- ---- each operation

module _ (folder : Bytes) (t r : Tree) (m : MayMove (f folder) t) (n : MayMove (f folder) r) where
  abbrev g : Bytes → Bytes
  g = f folder

  along : (p : Bytes) → GoesAlong g p
  along p = goes_along (Sub folder) p refl

  pub by_name : (op : FileOp) → apply op t ≡ Ok r → names_paths (mapped_op g op) ≡ true → IsRight g op t r (image g r)
  by_name (Modify mode content p) does names = put_right g t m mode content p r names does (λ q x. same_way folder p q)
  by_name (Delete p) does names =
      let right = delete_right g t m p r does (without (g p) (image g t)) names refl (λ q x. same_at folder p q) in
      subst (λ (u : Tree). IsRight g (Delete p) t r u) right.image right
  by_name (Copy s d) does names =
      is_right g (Copy s d) t r (image g r) names
      (placed_surely g t m s d (λ q x. same_at folder s q) (along s) (along d) t m.form.in_order (λ q h. h) (λ q x. same_way folder d q) r n does)
      refl n
  by_name (Rename s d) does names =
      is_right g (Rename s d) t r (image g r) names
      (ap (placed (g s) (g d) (subtree (g s) (image g t))) (without_image g t m.form m.apart s (λ q x. same_at folder s q))
      ∙ placed_surely g t m s d (λ q x. same_at folder s q) (along s) (along d) (without s t) (ordered_where (λ q. not (is_at_or_below s q)) t m.form.in_order)
      (λ q h. (has_where (λ z. not (is_at_or_below s z)) q t h).1) (λ q x. same_way folder d q) r n does)
      refl n
  by_name DeleteAll does names =
      let is : [] ≡ r = cc in
      is_right g DeleteAll t r (image g r) refl (ap (λ (u : Tree). Ok (image g u)) is) refl n
