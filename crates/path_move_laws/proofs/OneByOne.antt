-- The image of a tree, put together path by path.
use Rattle.std.proofs.Common.{◌≡◌, ◌+◌, ◌≤◌, Bool, true, false, cond, not, T, [], ◌∷◌, ◌++◌, length, refl, sym, ap, subst, ◌∙◌, inl, inr, append_assoc, bytes_eq, length-append, true≢false, is_some, nat_lt, Option, Some, None, Ok}
use Rattle.std.specs.Prelude.{◌&&◌}
use Rattle.std.specs.Ordering.{eq_by_cmp, is_lt}
use Rattle.std.specs.Cmp.Lexicographic.{bytes_decides, nat_list_cmp_total}
use Rattle.std.specs.FinMap.Entries as entries
use Rattle.std.proofs.lemmas.Bool.{false_from_ne_true, or_from}
use Rattle.plain_model.specs.declared.limit.TheConstants.{MAX_PATHS, MAX_PATH_BYTES}
use Rattle.plain_model.specs.declared.operation.Entry.{Entry}
use Rattle.plain_model.specs.declared.operation.FileOp.TheVariants.{Modify}
use Rattle.plain_model.specs.declared.path.PathFault.{PathFault}
use Rattle.plain_model.specs.Paths.{Bytes, IsPath, do_conflict, is_in_the_way}
use Rattle.plain_model.specs.Trees.{IsTree, Tree, apply, at, cleared_for, has, put, within_paths}
use Rattle.history_laws.proofs.TreeLaws.{at_put, by_bytes, same_path}
use Rattle.history_laws.proofs.TreeMaps.{IsOrdered, ordered_put, same_tree, where_all, within_small}
use Rattle.path_move_laws.specs.Apart.{AreApart, MayMove}
use Rattle.path_move_laws.specs.Images.{has_long_image, image}
use Rattle.path_move_laws.specs.MovedOps.{is_path}
use Rattle.path_move_laws.specs.PathMaps.{HasPaths, image_of}
use Rattle.path_move_laws.specs.declared.path_map.PathMap.{PathMap}
use Rattle.path_move_laws.proofs.Imaged.{either_there, first_there, image_length, later_there, not_again, not_long, rest_ordered}
use Rattle.path_move_laws.proofs.MapLaws.{keeps_paths}
use Rattle.path_move_laws.proofs.Quick.{put_free, put_right}

-- ---- the front of a tree

front_there : (xs ys : Tree) (q : Bytes) → has xs q ≡ true → has (xs ++ ys) q ≡ true
front_there [] ys q h = absurd (true≢false (sym h))
front_there (x ∷ xs) ys q h =
    elim (either_there (eq_by_cmp by_bytes q x.0) x.1 (at xs q) h) [
      | inl same ↦ ap (λ b. is_some (cond b (Some x.1) (at (xs ++ ys) q))) same
      | inr there ↦ later_there (eq_by_cmp by_bytes q x.0) x.1 (at (xs ++ ys) q) (front_there xs ys q there)
    ]

pub rear_there : (xs ys : Tree) (q : Bytes) → has ys q ≡ true → has (xs ++ ys) q ≡ true
rear_there [] ys q h = h
rear_there (x ∷ xs) ys q h = later_there (eq_by_cmp by_bytes q x.0) x.1 (at (xs ++ ys) q) (rear_there xs ys q h)

below_front : (k : Bytes) (xs ys : Tree) → T (entries.below_all by_bytes k (xs ++ ys)) → T (entries.below_all by_bytes k xs)
below_front k [] ys h = tt
below_front k (x ∷ xs) ys h = go (is_lt (by_bytes k x.0)) h (below_front k xs ys)
  where
    go : (b : Bool) → T (b && entries.below_all by_bytes k (xs ++ ys)) → (T (entries.below_all by_bytes k (xs ++ ys)) → T (entries.below_all by_bytes k xs)) → T (b && entries.below_all by_bytes k xs)
    go true h f = f h
    go false h f = h

ordered_front : (xs ys : Tree) → IsOrdered (xs ++ ys) → IsOrdered xs
ordered_front [] ys h = tt
ordered_front (x ∷ xs) ys h =
    both (entries.below_all by_bytes x.0 xs) (entries.is_sorted by_bytes xs) (below_front x.0 xs ys (first (entries.below_all by_bytes x.0 (xs ++ ys)) (entries.is_sorted by_bytes (xs ++ ys)) h)) (ordered_front xs ys (rest_ordered x (xs ++ ys) h))
  where
    first : (a b : Bool) → T (a && b) → T a
    first true b h = tt
    first false b h = absurd h

    both : (a b : Bool) → T a → T b → T (a && b)
    both true b x y = y
    both false b x y = x

-- a path doesn't come twice
not_before : (xs : Tree) (e : Bytes × Entry) (ys : Tree) → IsOrdered (xs ++ e ∷ ys) → at xs e.0 ≡ None
not_before [] e ys h = refl
not_before (x ∷ xs) e ys h =
    ap (λ b. cond b (Some x.1) (at xs e.0)) (false_from_ne_true (eq_by_cmp by_bytes e.0 x.0) (λ tie.
    absurd (true≢false (sym (subst (λ (q : Bytes). has (xs ++ e ∷ ys) q ≡ true) (same_path e.0 x.0 tie) (rear_there xs (e ∷ ys) e.0 (first_there e ys)))
    ∙ ap is_some (not_again x (xs ++ e ∷ ys) h)))))
    ∙ not_before xs e ys (rest_ordered x (xs ++ e ∷ ys) h)

front_tree : (xs ys : Tree) → IsTree (xs ++ ys) → IsTree xs
front_tree xs ys t = record {
  in_order = ordered_front xs ys t.in_order;
  apart = λ p q x y. t.apart p q (front_there xs ys p x) (front_there xs ys q y);
}

module _ (xs : Tree) (e : Bytes × Entry) (ys : Tree) (t : IsTree (xs ++ e ∷ ys)) where
  abbrev next : Tree
  next = xs ++ e ∷ []

  -- the front with one path more is a tree
  regroup : xs ++ e ∷ ys ≡ (xs ++ e ∷ []) ++ ys
  regroup = sym (append_assoc xs (e ∷ []) ys)

  pub next_tree : IsTree next
  next_tree = front_tree next ys (subst (λ (u : Tree). IsTree u) regroup t)

  gone : at xs e.0 ≡ None
  gone = not_before xs e ys t.in_order

  here : has (xs ++ e ∷ ys) e.0 ≡ true
  here = rear_there xs (e ∷ ys) e.0 (first_there e ys)

  -- nothing in front is in its way
  free : (q : Bytes) → has xs q ≡ true → is_in_the_way e.0 q ≡ false
  free q h =
      or_from (bytes_eq e.0 q) (do_conflict e.0 q)
      (false_from_ne_true (bytes_eq e.0 q) (λ same. absurd (true≢false (sym h ∙ ap (has xs) (sym ((bytes_decides e.0 q).0 same)) ∙ ap is_some gone))))
      (t.apart e.0 q here (front_there xs (e ∷ ys) q h))

  pub put_next : put e.0 e.1 (cleared_for e.0 xs) ≡ next
  put_next =
      ap (put e.0 e.1) (where_all (λ q. not (is_in_the_way e.0 q)) xs (ordered_front xs (e ∷ ys) t.in_order) (λ q h. ap not (free q h)))
      ∙ same_tree (put e.0 e.1 xs) next (ordered_put e.0 e.1 xs (ordered_front xs (e ∷ ys) t.in_order)) next_tree.in_order
      (λ q. at_put e.0 q e.1 xs ∙ sym (entries.find-append by_bytes nat_list_cmp_total xs e.0 e.1 q gone))

  pub one_longer : length next ≡ length xs + 1
  one_longer = length-append xs (e ∷ [])

  pub applied : length next ≤ MAX_PATHS → apply (Modify e.1.mode e.1.content e.0) xs ≡ Ok next
  applied few = ap (λ (u : Tree). within_paths u) put_next ∙ within_small next few

  module _ (f : Bytes → Bytes) (m : MayMove f xs) (few : length next ≤ MAX_PATHS) (names : is_path (f e.0) ≡ true) where
    -- where the image grows by one path
    pub grows : (made : Tree) → apply (Modify e.1.mode e.1.content (f e.0)) (image f xs) ≡ Ok made → length made ≡ length xs + 1 → MayMove f next × (made ≡ image f next)
    grows made does more =
        let same = image_length f xs m.form.in_order m.apart in
        let right = put_free f xs m e.1.mode e.1.content e.0 next names (applied few) made does one_longer (more ∙ ap (λ n. n + 1) (sym same)) in
        (right.moves, right.image)

    -- where the images are apart it does
    pub must_grow : AreApart f (xs ++ e ∷ ys) → (apply (Modify e.1.mode e.1.content (f e.0)) (image f xs) ≡ Ok (image f next)) × (length (image f next) ≡ length xs + 1)
    must_grow apart =
        let right = put_right f xs m e.1.mode e.1.content e.0 next names (applied few) (λ q h.
        free q h ∙ sym (or_from (bytes_eq (f e.0) (f q)) (do_conflict (f e.0) (f q))
        (false_from_ne_true (bytes_eq (f e.0) (f q)) (λ same.
        let is : e.0 ≡ q = apart.once e.0 q here (front_there xs (e ∷ ys) q h) ((bytes_decides (f e.0) (f q)).0 same) in
        absurd (true≢false (sym h ∙ ap (has xs) (sym is) ∙ ap is_some gone))))
        (apart.apart e.0 q here (front_there xs (e ∷ ys) q h)))) in
        (right.done, image_length f next right.moves.form.in_order right.moves.apart ∙ one_longer)

-- ---- images that are too long

pub long_there : (f : Bytes → Bytes) (t : Tree) (p : Bytes) → has t p ≡ true → nat_lt MAX_PATH_BYTES (length (f p)) ≡ true → has_long_image f t ≡ true
long_there f t p h long = go (has_long_image f t) refl
  where
    go : (b : Bool) → has_long_image f t ≡ b → has_long_image f t ≡ true
    go true x = x
    go false x = absurd (true≢false (sym long ∙ not_long f t x p h))

pub no_path_long : (how : PathMap) (t : Tree) (p : Bytes) → HasPaths how → IsPath p → has t p ≡ true → is_path (image_of how p) ≡ false → has_long_image (image_of how) t ≡ true
no_path_long how t p paths is h none = go (nat_lt MAX_PATH_BYTES (length (image_of how p))) refl
  where
    go : (b : Bool) → nat_lt MAX_PATH_BYTES (length (image_of how p)) ≡ b → has_long_image (image_of how) t ≡ true
    go true x = long_there (image_of how) t p h x
    go false x =
        let it : IsPath (image_of how p) = keeps_paths how paths p is x in
        absurd (true≢false (sym (ap (λ (o : Option PathFault). not (is_some o)) it) ∙ none))
