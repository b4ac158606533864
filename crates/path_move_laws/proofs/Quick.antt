-- Mapped operations that are known to be right from what they touch.
use Rattle.std.proofs.Common.{◌≡◌, ℕ, ◌+◌, ◌≤◌, ◌<◌, Bool, true, false, cond, not, [], ◌∷◌, ◌++◌, length, drop, refl, sym, ap, subst, ◌∙◌, inl, inr, arith, true≢false, is_some, Option, Some, None, option_map, nat_lt, Result, Ok, Err}
use Rattle.std.specs.Prelude.{◌&&◌}
use Rattle.std.specs.Ordering.{eq_by_cmp}
use Rattle.std.proofs.lemmas.Bool.{and_from, and_parts, cond-false, cond-true, not-true, or_from}
use Rattle.plain_model.specs.declared.fault.Fault.TheVariants as fault
use Rattle.plain_model.specs.declared.fault.Which.TheVariants as limit
use Rattle.plain_model.specs.declared.limit.TheConstants.{MAX_PATHS, MAX_PATH_BYTES}
use Rattle.plain_model.specs.declared.operation.Mode.{Mode}
use Rattle.plain_model.specs.declared.operation.Content.{Content}
use Rattle.plain_model.specs.declared.operation.Entry.{Entry}
use Rattle.plain_model.specs.declared.operation.FileOp.{FileOp}
use Rattle.plain_model.specs.declared.operation.FileOp.TheVariants.{Modify, Delete, Copy, Rename}
use Rattle.plain_model.specs.declared.path.PathFault.{PathFault}
use Rattle.plain_model.specs.Paths.{Bytes, is_at_or_below, is_in_the_way, path_fault}
use Rattle.plain_model.specs.Trees.{Refusal, Tree, apply, at, cleared_for, has, has_long_path, moved, placed, put, put_all, subtree, without}
use Rattle.history_laws.proofs.PathLaws.{IsRest, after}
use Rattle.history_laws.proofs.TreeLaws.{by_bytes, has_moved, has_put, has_put_all, has_where}
use Rattle.history_laws.proofs.TreeMaps.{IsOrdered, ordered_where, where_all, within_ok}
use Rattle.path_move_laws.specs.Apart.{AreApart, MayMove}
use Rattle.path_move_laws.specs.Difference.{are_same, difference}
use Rattle.path_move_laws.specs.Images.{collision, has_long_image, image, with_images}
use Rattle.path_move_laws.specs.MovedOps.{image_fault, is_path, leads_to, mapped_op, moved_op, names_paths}
use Rattle.path_move_laws.specs.Steady.{GoesAlong, IsRight}
use Rattle.path_move_laws.proofs.Carrying.{all_below, at_moved, both_parts, is_placed, placed_apart, placed_image, placed_length, rest_after, with_rest}
use Rattle.path_move_laws.proofs.Collisions.{apart_collides}
use Rattle.path_move_laws.proofs.Differing.{same_difference, same_itself}
use Rattle.path_move_laws.proofs.Imaged.{all_pass, first_there, image_length, image_ordered, image_there, later_there, not_long, stays, where_apart}
use Rattle.path_move_laws.proofs.Joins.{rules_of}
use Rattle.path_move_laws.proofs.Moving.{leads, still_few, still_tree}
use Rattle.path_move_laws.proofs.Steadily.{SameBelow, SameWay, below_as_many, below_there, free_put, put_apart, put_within, way_apart, way_free, way_there, without_image}

-- ---- lengths of images

pub all_short : (f : Bytes → Bytes) (es : Tree) → ((p : Bytes) → has es p ≡ true → nat_lt MAX_PATH_BYTES (length (f p)) ≡ false) → has_long_path (with_images f es) ≡ false
all_short f [] h = refl
all_short f (e ∷ es) h =
    or_from (nat_lt MAX_PATH_BYTES (length (f e.0))) (has_long_path (with_images f es)) (h e.0 (first_there e es))
    (all_short f es (λ p x. h p (later_there (eq_by_cmp by_bytes p e.0) e.1 (at es p) x)))

short_one : (p : Bytes) → is_path p ≡ true → nat_lt MAX_PATH_BYTES (length p) ≡ false
short_one p h = go (path_fault p) refl h
  where
    go : (o : Option PathFault) → path_fault p ≡ o → not (is_some o) ≡ true → nat_lt MAX_PATH_BYTES (length p) ≡ false
    go None x y = (rules_of p x).short
    go (Some why) x y = absurd (true≢false (sym y))

short_path : (t : Tree) → has_long_path t ≡ false → (q : Bytes) → has t q ≡ true → nat_lt MAX_PATH_BYTES (length q) ≡ false
short_path t h q x = not_long (λ p. p) t (ap has_long_path (same t) ∙ h) q x
  where
    same : (u : Tree) → with_images (λ p. p) u ≡ u
    same [] = refl
    same (e ∷ es) = ap (λ (r : Tree). e ∷ r) (same es)

-- a deletion that leaves as many paths
pub nothing_gone : (p : Bytes) (s x : Tree) → IsOrdered s → apply (Delete p) s ≡ Ok x → length x ≡ length s → x ≡ s
nothing_gone p s x ordered does same =
    let gone : without p s ≡ x = cc in
    sym gone ∙ where_all (λ q. not (is_at_or_below p q)) s ordered (all_pass (λ q. not (is_at_or_below p q)) s (ap length gone ∙ same))

pub ok_same : (s u : Tree) → ◌≡◌ {A = Result Tree Refusal} (Ok s) (Ok u) → s ≡ u
ok_same s u h = cc

module _ (f : Bytes → Bytes) where
  -- ---- what follows from the image

  pub calm_at : (t : Tree) → MayMove f t → (mark number : ℕ) → image_fault f mark number t ≡ None
  calm_at t m mark number =
      (λ i. cond (m.short i) (Some (fault.Limit limit.PathBytes MAX_PATH_BYTES)) (option_map (λ path. fault.PathCollision mark number path) (collision f t)))
      ∙ ap (option_map (λ path. fault.PathCollision mark number path)) (apart_collides f t m.form.in_order m.apart)

  pub is_right : (op : FileOp) (t r x : Tree) → names_paths (mapped_op f op) ≡ true → apply (mapped_op f op) (image f t) ≡ Ok x → x ≡ image f r → MayMove f r → IsRight f op t r x
  is_right op t r x names made is m =
      record {
        done = made;
        only = cond-true (names_paths (mapped_op f op) && leads_to (mapped_op f op) (image f t) (image f r)) (mapped_op f op ∷ []) (difference (image f t) (image f r)) (and_from (names_paths (mapped_op f op)) (leads_to (mapped_op f op) (image f t) (image f r)) names leads);
        image = is;
        moves = m;
        calm = calm_at r m;
      }
    where
      leads : leads_to (mapped_op f op) (image f t) (image f r) ≡ true
      leads =
          ap (λ (o : Result Tree Refusal). elim o [ Ok y ↦ are_same y (image f r) | Err why ↦ false ]) (made ∙ ap (λ (y : Tree). Ok y) is)
          ∙ same_itself (image f r)

  -- ---- M

  module _ (t : Tree) (m : MayMove f t) where
    module _ (mode : Mode) (content : Content) (p : Bytes) (r : Tree) (names : is_path (f p) ≡ true)
        (does : apply (Modify mode content p) t ≡ Ok r) where
      abbrev entry : Entry
      entry = record { mode = mode; content = content }

      is_after : (put p entry (cleared_for p t) ≡ r) × (length (put p entry (cleared_for p t)) ≤ MAX_PATHS)
      is_after = within_ok (put p entry (cleared_for p t)) r does

      pub put_right : SameWay f t m.form m.apart p → IsRight f (Modify mode content p) t r (image f r)
      put_right way =
          is_right (Modify mode content p) t r (image f r) names
          (put_within f t m.form m.apart p way entry is_after.1 ∙ ap (λ (u : Tree). Ok (image f u)) is_after.0)
          refl
          (record {
            form = still_tree (Modify mode content p) t r m.form does;
            few = still_few (Modify mode content p) t r m.few does;
            apart = subst (λ (u : Tree). AreApart f u) is_after.0 (put_apart f t m.form m.apart p way entry);
            short = all_short f r (λ q h. elim (has_put p q entry (cleared_for p t) (ap (λ (u : Tree). has u q) is_after.0 ∙ h)) [
              | inl same ↦ ap (λ (z : Bytes). nat_lt MAX_PATH_BYTES (length (f z))) same ∙ short_one (f p) names
              | inr there ↦ not_long f t m.short q (has_where (λ z. not (is_in_the_way p z)) q t there).1
            ]);
          })

      pub put_there : has t p ≡ true → IsRight f (Modify mode content p) t r (image f r)
      put_there h = put_right (way_there f t m.form m.apart p h)

      pub put_free : (x : Tree) → apply (Modify mode content (f p)) (image f t) ≡ Ok x → length r ≡ length t + 1 → length x ≡ length (image f t) + 1 → IsRight f (Modify mode content p) t r x
      put_free x made one one_too =
          let right = put_right (way_free f t m.form m.apart p
          (free_put p entry t m.form.in_order (ap length is_after.0 ∙ one))
          (free_put (f p) entry (image f t) (image_ordered f t) (ap length (within_ok (put (f p) entry (cleared_for (f p) (image f t))) x made).0 ∙ one_too))) in
          let same : image f r ≡ x = ok_same (image f r) x (sym right.done ∙ made) in
          subst (λ (u : Tree). IsRight f (Modify mode content p) t r u) same right

      pub put_must : length r ≡ length t + 1 → AreApart f r → (apply (Modify mode content (f p)) (image f t) ≡ Ok (image f r)) × (length (image f r) ≡ length (image f t) + 1)
      put_must one apart =
          let right = put_right (way_apart f t m.form m.apart p entry
          (free_put p entry t m.form.in_order (ap length is_after.0 ∙ one))
          (subst (λ (u : Tree). AreApart f u) (sym is_after.0) apart)) in (
            right.done,
            image_length f r right.moves.form.in_order apart ∙ one ∙ ap (λ n. n + 1) (sym (image_length f t m.form.in_order m.apart)),
          )

    -- ---- D

    module _ (p : Bytes) (r : Tree) (does : apply (Delete p) t ≡ Ok r) where
      gone : without p t ≡ r
      gone = cc

      -- a deletion never has a fault
      pub delete_moves : MayMove f r
      delete_moves = record {
        form = still_tree (Delete p) t r m.form does;
        few = still_few (Delete p) t r m.few does;
        apart = subst (λ (u : Tree). AreApart f u) gone (where_apart f (λ q. not (is_at_or_below p q)) t m.apart);
        short = all_short f r (λ q h. not_long f t m.short q (has_where (λ z. not (is_at_or_below p z)) q t (ap (λ (u : Tree). has u q) gone ∙ h)).1);
      }

      module _ (x : Tree) (names : is_path (f p) ≡ true) (made : apply (Delete (f p)) (image f t) ≡ Ok x) where
        gone_too : without (f p) (image f t) ≡ x
        gone_too = cc

        pub delete_right : SameBelow f t m.form m.apart p → IsRight f (Delete p) t r x
        delete_right same =
            is_right (Delete p) t r x names made (sym gone_too ∙ without_image f t m.form m.apart p same ∙ ap (image f) gone) delete_moves

        pub delete_there : has t p ≡ true → IsRight f (Delete p) t r x
        delete_there h = delete_right (below_there f t m.form m.apart p h)

        pub delete_along : GoesAlong f p → length r + length (image f t) ≡ length x + length t → IsRight f (Delete p) t r x
        delete_along along even =
            delete_right (below_as_many f t m.form m.apart p
            (λ q y z.
            let a = after p q z in
            subst (λ (w : Bytes). is_at_or_below (f p) w ≡ true) (sym (along q z)) (with_rest (f p) (drop (length p) q) a.rest))
            equal)
          where
            equal : length (subtree p t) ≡ length (subtree (f p) (image f t))
            equal =
                let one = both_parts (is_at_or_below p) t in
                let two = both_parts (is_at_or_below (f p)) (image f t) in
                let left : length (without p t) ≡ length r = ap length gone in
                let left_too : length (without (f p) (image f t)) ≡ length x = ap length gone_too in
                omega arith

    -- a deletion of nothing
    pub nothing_right : (p : Bytes) (x : Tree) → is_path (f p) ≡ true → apply (Delete p) t ≡ Ok t → apply (Delete (f p)) (image f t) ≡ Ok x → length x ≡ length (image f t) → IsRight f (Delete p) t t x
    nothing_right p x names does made same =
        is_right (Delete p) t t x names made (nothing_gone (f p) (image f t) x (image_ordered f t) made same) m

    no_difference : difference (image f t) (image f t) ≡ []
    no_difference = same_difference (image f t) (image_ordered f t)

    pub nothing_wrong : (p : Bytes) (x : Tree) → apply (Delete (f p)) (image f t) ≡ Ok x → length x < length (image f t) → moved_op f (Delete p) t t ≡ []
    nothing_wrong p x made fewer =
        go (is_path (f p) && leads_to (Delete (f p)) (image f t) (image f t)) refl
      where
        go : (b : Bool) → (is_path (f p) && leads_to (Delete (f p)) (image f t) (image f t)) ≡ b → cond (is_path (f p) && leads_to (Delete (f p)) (image f t) (image f t)) (Delete (f p) ∷ []) (difference (image f t) (image f t)) ≡ []
        go false x = cond-false (is_path (f p) && leads_to (Delete (f p)) (image f t) (image f t)) (Delete (f p) ∷ []) (difference (image f t) (image f t)) x ∙ no_difference
        go true y =
            let same = leads (Delete (f p)) (image f t) (image f t) (and_parts (is_path (f p)) (leads_to (Delete (f p)) (image f t) (image f t)) y).1 in
            let is : x ≡ image f t = cc in
            let l : length x ≡ length (image f t) = ap length is in
            absurd (omega arith)

    pub nothing_no_path : (p : Bytes) → is_path (f p) ≡ false → moved_op f (Delete p) t t ≡ []
    nothing_no_path p none =
        ap (λ b. cond (b && leads_to (Delete (f p)) (image f t) (image f t)) (Delete (f p) ∷ []) (difference (image f t) (image f t))) none ∙ no_difference

    -- ---- C and R

    module _ (s g : Bytes) (from_s : GoesAlong f s) (from_g : GoesAlong f g)
        (as_many : length (subtree s t) ≡ length (subtree (f s) (image f t))) where
      below : SameBelow f t m.form m.apart s
      below = below_as_many f t m.form m.apart s
          (λ q y z.
          let a = after s q z in
          subst (λ (w : Bytes). is_at_or_below (f s) w ≡ true) (sym (from_s q z)) (with_rest (f s) (drop (length s) q) a.rest))
          as_many

      -- a tree of what stays and what is moved, between two trees of the same kind
      module _ (base r x : Tree) (ordered : IsOrdered base) (in_it : (q : Bytes) → has base q ≡ true → has t q ≡ true)
          (way : (q : Bytes) → has base q ≡ true → is_in_the_way g q ≡ is_in_the_way (f g) (f q))
          (is : put_all (moved s g (subtree s t)) (cleared_for g base) ≡ r)
          (is_too : put_all (moved (f s) (f g) (subtree (f s) (image f t))) (cleared_for (f g) (image f base)) ≡ x)
          (fits : has_long_path (moved (f s) (f g) (subtree (f s) (image f t))) ≡ false) where
        placed_is : x ≡ image f r
        placed_is = sym is_too ∙ placed_image f t m.form m.apart s g below from_s from_g base ordered in_it way ∙ ap (image f) is

        placed_once : AreApart f r
        placed_once = subst (λ (u : Tree). AreApart f u) is (placed_apart f t m.form m.apart s g below from_s from_g base ordered in_it way)

        placed_short : has_long_image f r ≡ false
        placed_short = all_short f r (λ q h.
            elim (has_put_all (moved s g (subtree s t)) (cleared_for g base) q (ap (λ (u : Tree). has u q) is ∙ h)) [
              | inl there ↦
                  let c = has_moved s g (subtree s t) q there in
                  let was = has_where (is_at_or_below s) c.path t c.was in
                  let a = after s c.path was.0 in
                  let goes : f q ≡ f g ++ drop (length s) c.path =
                  ap f c.is ∙ from_g (g ++ drop (length s) c.path) (with_rest g (drop (length s) c.path) a.rest) ∙ ap (λ (z : Bytes). f g ++ z) (rest_after g (drop (length s) c.path)) in
                  ap (λ (z : Bytes). nat_lt MAX_PATH_BYTES (length z)) goes
                  ∙ short_path (moved (f s) (f g) (subtree (f s) (image f t))) fits (f g ++ drop (length s) c.path)
                  (there_too (drop (length s) c.path) a.rest (subst (λ (z : Bytes). has t z ≡ true) a.is was.1))
              | inr left ↦ not_long f t m.short q (in_it q (has_where (λ z. not (is_in_the_way g z)) q base left).1)
            ])
          where
            there_too : (d : Bytes) → IsRest d → has t (s ++ d) ≡ true → has (moved (f s) (f g) (subtree (f s) (image f t))) (f g ++ d) ≡ true
            there_too d k h =
                ap is_some (at_moved (f s) (f g) d (subtree (f s) (image f t)) (all_below (f s) (image f t)))
                ∙ stays (is_at_or_below (f s)) (image f t) (f s ++ d) (with_rest (f s) d k)
                (subst (λ (z : Bytes). has (image f t) z ≡ true) (from_s (s ++ d) (with_rest s d k) ∙ ap (λ (z : Bytes). f s ++ z) (rest_after s d)) (image_there f t (s ++ d) h))

      -- where nothing is in the way of either, all that is left stays
      all_stays : (base : Tree) → IsOrdered base → AreApart f base → length (cleared_for g base) ≡ length base → length (cleared_for (f g) (image f base)) ≡ length (image f base)
          → (q : Bytes) → has base q ≡ true → is_in_the_way g q ≡ is_in_the_way (f g) (f q)
      all_stays base ordered a none none_too q h =
          not-true (is_in_the_way g q) (all_pass (λ z. not (is_in_the_way g z)) base none q h)
          ∙ sym (not-true (is_in_the_way (f g) (f q)) (all_pass (λ z. not (is_in_the_way (f g) z)) (image f base) none_too (f q) (image_there f base q h)))

      -- ---- C

      module _ (r x : Tree) (names : is_path (f s) && is_path (f g) ≡ true) (does : apply (Copy s g) t ≡ Ok r) (made : apply (Copy (f s) (f g)) (image f t) ≡ Ok x) where
        copied : put_all (moved s g (subtree s t)) (cleared_for g t) ≡ r
        copied = (is_placed s g (subtree s t) t r does).0

        copied_too : (put_all (moved (f s) (f g) (subtree (f s) (image f t))) (cleared_for (f g) (image f t)) ≡ x) × (has_long_path (moved (f s) (f g) (subtree (f s) (image f t))) ≡ false)
        copied_too = is_placed (f s) (f g) (subtree (f s) (image f t)) (image f t) x made

        copy_right : ((q : Bytes) → has t q ≡ true → is_in_the_way g q ≡ is_in_the_way (f g) (f q)) → IsRight f (Copy s g) t r x
        copy_right way =
            is_right (Copy s g) t r x names made
            (placed_is t r x m.form.in_order (λ q h. h) way copied copied_too.0 copied_too.1)
            (record {
              form = still_tree (Copy s g) t r m.form does;
              few = still_few (Copy s g) t r m.few does;
              apart = placed_once t r x m.form.in_order (λ q h. h) way copied copied_too.0 copied_too.1;
              short = placed_short t r x m.form.in_order (λ q h. h) way copied copied_too.0 copied_too.1;
            })

        pub copy_there : has t g ≡ true → IsRight f (Copy s g) t r x
        copy_there h = copy_right (way_there f t m.form m.apart g h)

        pub copy_free : length r ≡ length t + length (subtree s t) → length x ≡ length (image f t) + length (subtree s t) → IsRight f (Copy s g) t r x
        copy_free more more_too =
            copy_right (all_stays t m.form.in_order m.apart
            (let l = placed_length s g t t m.form.in_order m.form.in_order in let k : length (put_all (moved s g (subtree s t)) (cleared_for g t)) ≡ length r = ap length copied in omega arith)
            (let l = placed_length (f s) (f g) (image f t) (image f t) (image_ordered f t) (image_ordered f t) in let k : length (put_all (moved (f s) (f g) (subtree (f s) (image f t))) (cleared_for (f g) (image f t))) ≡ length x = ap length copied_too.0 in omega arith))

      -- ---- R

      module _ (r x : Tree) (names : is_path (f s) && is_path (f g) ≡ true) (does : apply (Rename s g) t ≡ Ok r) (made : apply (Rename (f s) (f g)) (image f t) ≡ Ok x) where
        abbrev left : Tree
        left = without s t

        left_ordered : IsOrdered left
        left_ordered = ordered_where (λ q. not (is_at_or_below s q)) t m.form.in_order

        left_apart : AreApart f left
        left_apart = where_apart f (λ q. not (is_at_or_below s q)) t m.apart

        left_in : (q : Bytes) → has left q ≡ true → has t q ≡ true
        left_in q h = (has_where (λ z. not (is_at_or_below s z)) q t h).1

        renamed : put_all (moved s g (subtree s t)) (cleared_for g left) ≡ r
        renamed = (is_placed s g (subtree s t) left r does).0

        renamed_too : (put_all (moved (f s) (f g) (subtree (f s) (image f t))) (cleared_for (f g) (image f left)) ≡ x) × (has_long_path (moved (f s) (f g) (subtree (f s) (image f t))) ≡ false)
        renamed_too =
            is_placed (f s) (f g) (subtree (f s) (image f t)) (image f left) x
            (ap (placed (f s) (f g) (subtree (f s) (image f t))) (sym (without_image f t m.form m.apart s below)) ∙ made)

        rename_right : ((q : Bytes) → has left q ≡ true → is_in_the_way g q ≡ is_in_the_way (f g) (f q)) → IsRight f (Rename s g) t r x
        rename_right way =
            is_right (Rename s g) t r x names made
            (placed_is left r x left_ordered left_in way renamed renamed_too.0 renamed_too.1)
            (record {
              form = still_tree (Rename s g) t r m.form does;
              few = still_few (Rename s g) t r m.few does;
              apart = placed_once left r x left_ordered left_in way renamed renamed_too.0 renamed_too.1;
              short = placed_short left r x left_ordered left_in way renamed renamed_too.0 renamed_too.1;
            })

        pub rename_there : has t g ≡ true → IsRight f (Rename s g) t r x
        rename_there h = rename_right (λ q k. way_there f t m.form m.apart g h q (left_in q k))

        pub rename_free : length r ≡ length t → length x ≡ length (image f t) → IsRight f (Rename s g) t r x
        rename_free even even_too =
            rename_right (all_stays left left_ordered left_apart
            (let l = placed_length s g t left m.form.in_order left_ordered in
            let k : length (put_all (moved s g (subtree s t)) (cleared_for g left)) ≡ length r = ap length renamed in
            let parts = both_parts (is_at_or_below s) t in omega arith)
            (let l = placed_length (f s) (f g) (image f t) (image f left) (image_ordered f t) (image_ordered f left) in
            let k : length (put_all (moved (f s) (f g) (subtree (f s) (image f t))) (cleared_for (f g) (image f left))) ≡ length x = ap length renamed_too.0 in
            let parts = both_parts (is_at_or_below (f s)) (image f t) in
            let same : length (without (f s) (image f t)) ≡ length (image f left) = ap length (without_image f t m.form m.apart s below) in omega arith))
