-- Replaced operations leave the tree without the matched paths.
use Rattle.std.proofs.Common.{◌≡◌, ℕ, zero, suc, ◌≤◌, Bool, true, false, cond, not, List, [], ◌∷◌, length, refl, sym, ap, subst, ◌∙◌, inl, inr, ◌⊎◌, true≢false, bytes_eq, is_some, Option, Some, None, filter, Result, Ok, Err, eqb-true, le_trans}
use Rattle.std.specs.Prelude.{◌&&◌, ◌||◌, ◌==◌, IfOk}
use Rattle.std.specs.List.{AllByRecursion, list_any}
use Rattle.std.specs.Option.{option_or}
use Rattle.std.specs.Ordering.{eq_by_cmp}
use Rattle.std.specs.Cmp.Lexicographic.{bytes_decides}
use Rattle.std.proofs.lemmas.Bool.{cases_Bool, and_parts, or_cases, or_left, or_parts, not-true, cond-true, cond-false}
use Rattle.plain_model.specs.declared.operation.Mode.{Mode}
use Rattle.plain_model.specs.declared.operation.Mode.TheVariants.{Plain, Executable, Link, Gitlink}
use Rattle.plain_model.specs.declared.operation.Content.{Content}
use Rattle.plain_model.specs.declared.operation.Content.TheVariants.{Blob, Object}
use Rattle.plain_model.specs.declared.operation.Entry.{Entry}
use Rattle.plain_model.specs.declared.operation.FileOp.{FileOp}
use Rattle.plain_model.specs.declared.operation.FileOp.TheVariants.{Modify, Delete, Copy, Rename, DeleteAll}
use Rattle.plain_model.specs.declared.limit.TheConstants.{MAX_PATHS}
use Rattle.plain_model.specs.Paths.{Bytes, is_below, is_at_or_below, do_conflict, is_in_the_way}
use Rattle.plain_model.specs.Trees.{Tree, Refusal, at, has, IsTree, where_path, put, put_all, subtree, without, cleared_for, moved, within_paths, has_long_path, placed, apply, apply_all, ◌>>=◌}
use Rattle.plain_model.specs.Trees.Refusal.{PathBytes}
use Rattle.plain_model.proofs.Words.{bytes_eq_same}
use Rattle.squash_laws.specs.Takings.{is_none}
use Rattle.expunge_laws.specs.Replaced.{mode_number, same_content, same_entry, has_entry, deletes_of, restricted, has_matched, rewritten, is_clear, replaced}
use Rattle.history_laws.proofs.LineLaws.{apply_more}
use Rattle.history_laws.proofs.TreeLaws.{by_bytes, at_where, at_put, same_path, where_tree, has_where, apply_tree}
use Rattle.history_laws.proofs.TreeMaps.{IsOrdered, ordered_where, ordered_put, ordered_put_all, same_tree, at_put_all, absent, where_comm, where_alike, where_all, any_there, there_any, length_where, within_ok, within_small, puts, ordered_puts, puts_agree, entries_found, found_has, placed_small}
use Rattle.edit_laws.proofs.Puts.{puts_apply}
use Rattle.edit_laws.specs.Puts.{puts_of}

-- ---- a run of deletions

delete_all_of : (D tree : Tree) → apply_all (deletes_of D) tree ≡ Ok (where_path (λ q. not (list_any (λ e. is_at_or_below e.0 q) D)) tree)
delete_all_of [] tree = ap (λ (t : Tree). Ok t) (go tree)
  where
    go : (t : Tree) → t ≡ where_path (λ _. true) t
    go [] = refl
    go (e ∷ t) = ap (λ (r : Tree). e ∷ r) (go t)
delete_all_of (d ∷ D) tree =
    delete_all_of D (where_path (λ q. not (is_at_or_below d.0 q)) tree)
    ∙ ap (λ (t : Tree). Ok t) (go tree)
  where
    later : Bytes → Bool
    later q = list_any (λ e. is_at_or_below e.0 q) D

    go : (t : Tree) → where_path (λ q. not (list_any (λ e. is_at_or_below e.0 q) D)) (where_path (λ q. not (is_at_or_below d.0 q)) t) ≡ where_path (λ q. not (is_at_or_below d.0 q || list_any (λ e. is_at_or_below e.0 q) D)) t
    go [] = refl
    go (e ∷ t) = by_first (is_at_or_below d.0 e.0) refl (go t)
      where
        by_first : (b : Bool) → is_at_or_below d.0 e.0 ≡ b
            → where_path (λ q. not (list_any (λ e. is_at_or_below e.0 q) D)) (where_path (λ q. not (is_at_or_below d.0 q)) t) ≡ where_path (λ q. not (is_at_or_below d.0 q || list_any (λ e. is_at_or_below e.0 q) D)) t
            → where_path (λ q. not (list_any (λ e. is_at_or_below e.0 q) D)) (where_path (λ q. not (is_at_or_below d.0 q)) (e ∷ t)) ≡ where_path (λ q. not (is_at_or_below d.0 q || list_any (λ e. is_at_or_below e.0 q) D)) (e ∷ t)
        by_first true x ih = simp x ih
        by_first false x ih = simp x (ap (λ (r : Tree). cond (not (list_any (λ f. is_at_or_below f.0 e.0) D)) (e ∷ r) r) ih)

-- to delete some paths of a tree is to leave the others
pub deleted : (f : Bytes → Bool) (tree : Tree) → IsTree tree → apply_all (deletes_of (where_path f tree)) tree ≡ Ok (where_path (λ q. not (f q)) tree)
deleted f tree t =
    delete_all_of (where_path f tree) tree
    ∙ ap (λ (r : Tree). Ok r) (where_alike (λ q. not (list_any (λ e. is_at_or_below e.0 q) (where_path f tree))) (λ q. not (f q)) tree t.in_order (λ q h. ap not (alike q h)))
  where
    up : (q : Bytes) → has tree q ≡ true → f q ≡ true → has (where_path f tree) q ≡ true
    up q h x = ap is_some (at_where f q tree ∙ ap (λ b. cond b (at tree q) None) x) ∙ h

    down : (q : Bytes) → has tree q ≡ true → list_any (λ e. is_at_or_below e.0 q) (where_path f tree) ≡ true → f q ≡ true
    down q h x =
        let r = there_any (λ (p : Bytes). is_at_or_below p q) (where_path f tree) x in
        let was = has_where f r.0 tree r.1 in
        elim (or_cases (bytes_eq r.0 q) (is_below r.0 q) r.2) [
          | inl same ↦ subst (λ (p : Bytes). f p ≡ true) ((bytes_decides r.0 q).0 same) was.0
          | inr below ↦ absurd (true≢false (sym below ∙ (or_parts (is_below r.0 q) (is_below q r.0) (t.apart r.0 q was.1 h)).0))
        ]

    alike : (q : Bytes) → has tree q ≡ true → list_any (λ e. is_at_or_below e.0 q) (where_path f tree) ≡ f q
    alike q h = go (list_any (λ e. is_at_or_below e.0 q) (where_path f tree)) (f q) refl refl
      where
        go : (a b : Bool) → list_any (λ e. is_at_or_below e.0 q) (where_path f tree) ≡ a → f q ≡ b → list_any (λ e. is_at_or_below e.0 q) (where_path f tree) ≡ f q
        go true true x y = x ∙ sym y
        go false false x y = x ∙ sym y
        go true false x y = absurd (true≢false (sym (down q h x) ∙ y))
        go false true x y = absurd (true≢false (sym (any_there (λ (p : Bytes). is_at_or_below p q) (where_path f tree) q (up q h y) (or_left (bytes_eq q q) (is_below q q) (bytes_eq_same q))) ∙ x))

-- ---- puts towards a tree

all_filtered : (P : Bytes × Entry → Type 0) (f : Bytes × Entry → Bool) (es : Tree) → AllByRecursion P es → AllByRecursion P (filter f es)
all_filtered P f [] a = tt
all_filtered P f (e ∷ es) a =
    let rest = all_filtered P f es a.1 in
    elim (f e) as (λ b. AllByRecursion P (cond b (e ∷ filter f es) (filter f es))) [ true ↦ (a.0, rest) | false ↦ rest ]

-- an entry that passes is kept
has_filter : (f : Bytes × Entry → Bool) (es : Tree) (q : Bytes) (v : Entry) → at es q ≡ Some v → f (q, v) ≡ true → has (filter f es) q ≡ true
has_filter f [] q v h x = absurd cc
has_filter f (e ∷ es) q v h x = go (eq_by_cmp by_bytes q e.0) refl (f e) refl h (λ y. has_filter f es q v y x)
  where
    later : (b c : Bool) → eq_by_cmp by_bytes q e.0 ≡ b → f e ≡ c → has (filter f es) q ≡ true → has (filter f (e ∷ es)) q ≡ true
    later true true s t y = ap (λ c. has (cond c (e ∷ filter f es) (filter f es)) q) t ∙ ap (λ b. is_some (cond b (Some e.1) (at (filter f es) q))) s
    later false true s t y = ap (λ c. has (cond c (e ∷ filter f es) (filter f es)) q) t ∙ ap (λ b. is_some (cond b (Some e.1) (at (filter f es) q))) s ∙ y
    later b false s t y = ap (λ c. has (cond c (e ∷ filter f es) (filter f es)) q) t ∙ y

    go : (b : Bool) → eq_by_cmp by_bytes q e.0 ≡ b → (c : Bool) → f e ≡ c → cond b (Some e.1) (at es q) ≡ Some v → (at es q ≡ Some v → has (filter f es) q ≡ true) → has (filter f (e ∷ es)) q ≡ true
    go true s c t h r =
        let value : e.1 ≡ v = cc in
        let pair : ◌≡◌ {A = Bytes × Entry} (q, v) e = λ i. (same_path q e.0 s i, sym value i) in
        ap (λ c. has (cond c (e ∷ filter f es) (filter f es)) q) (ap f (sym pair) ∙ x) ∙ ap (λ b. is_some (cond b (Some e.1) (at (filter f es) q))) s
    go false s c t h r = later false c s t (r h)

-- ---- entries that are the same

same_mode : (a b : Mode) → (mode_number a == mode_number b) ≡ true → a ≡ b
same_mode a b h = sym (back a) ∙ ap mode_of (eqb-true (mode_number a) (mode_number b) h) ∙ back b
  where
    mode_of : ℕ → Mode
    mode_of zero = Plain
    mode_of (suc zero) = Executable
    mode_of (suc (suc zero)) = Link
    mode_of (suc (suc (suc n))) = Gitlink

    back : (m : Mode) → mode_of (mode_number m) ≡ m
    back Plain = refl
    back Executable = refl
    back Link = refl
    back Gitlink = refl

is_same_content : (a b : Content) → same_content a b ≡ true → a ≡ b
is_same_content (Blob a) (Blob b) h = ap (λ x. Blob x) (eqb-true a b h)
is_same_content (Object a) (Object b) h = ap (λ x. Object x) ((bytes_decides a b).0 h)
is_same_content (Blob a) (Object b) h = absurd (true≢false (sym h))
is_same_content (Object a) (Blob b) h = absurd (true≢false (sym h))

pub is_same_entry : (a b : Entry) → same_entry a b ≡ true → a ≡ b
is_same_entry a b h =
    let parts = and_parts (mode_number a.mode == mode_number b.mode) (same_content a.content b.content) h in
    λ i. record { mode = same_mode a.mode b.mode parts.0 i; content = is_same_content a.content b.content parts.1 i }

pub is_there : (o : Option Entry) (e : Entry) → has_entry o e ≡ true → o ≡ Some e
is_there None e h = absurd (true≢false (sym h))
is_there (Some f) e h = ap (λ x. Some x) (is_same_entry f e h)

-- ---- the operations, one by one

nothing : (a : Bool) → ◌≡◌ {A = Option Entry} (cond a None None) None
nothing true = refl
nothing false = refl

done : (o : Result Tree Refusal) → (o >>= apply_all []) ≡ o
done (Ok t) = refl
done (Err e) = refl

module _ (matched : Bytes → Bool) where
  at_restricted : (tree : Tree) (q : Bytes) → at (restricted matched tree) q ≡ cond (not (matched q)) (at tree q) None
  at_restricted tree q = at_where (λ p. not (matched p)) q tree

  ordered_restricted : (tree : Tree) → IsOrdered tree → IsOrdered (restricted matched tree)
  ordered_restricted tree s = ordered_where (λ p. not (matched p)) tree s

  small_restricted : (tree : Tree) → length tree ≤ MAX_PATHS → within_paths (restricted matched tree) ≡ Ok (restricted matched tree)
  small_restricted tree h = within_small (restricted matched tree) (le_trans (length_where (λ p. not (matched p)) tree) h)

  restricted_tree : (tree : Tree) → IsTree tree → IsTree (restricted matched tree)
  restricted_tree tree t = where_tree (λ p. not (matched p)) tree t

  -- ---- M

  restricted_put : (p : Bytes) (e : Entry) (tree : Tree) → IsOrdered tree → matched p ≡ false → put p e (cleared_for p (restricted matched tree)) ≡ restricted matched (put p e (cleared_for p tree))
  restricted_put p e tree s out =
      same_tree (put p e (cleared_for p (restricted matched tree))) (restricted matched (put p e (cleared_for p tree)))
      (ordered_put p e (cleared_for p (restricted matched tree)) (ordered_where (λ q. not (is_in_the_way p q)) (restricted matched tree) (ordered_restricted tree s)))
      (ordered_restricted (put p e (cleared_for p tree)) (ordered_put p e (cleared_for p tree) (ordered_where (λ q. not (is_in_the_way p q)) tree s)))
      (λ q. at_put p q e (cleared_for p (restricted matched tree))
      ∙ ap (cond (eq_by_cmp by_bytes q p) (Some e)) (at_where (λ z. not (is_in_the_way p z)) q (restricted matched tree) ∙ ap (λ (o : Option Entry). cond (not (is_in_the_way p q)) o None) (at_restricted tree q))
      ∙ go q (eq_by_cmp by_bytes q p) refl (not (matched q)) refl
      ∙ sym (at_restricted (put p e (cleared_for p tree)) q
      ∙ ap (λ (o : Option Entry). cond (not (matched q)) o None) (at_put p q e (cleared_for p tree) ∙ ap (cond (eq_by_cmp by_bytes q p) (Some e)) (at_where (λ z. not (is_in_the_way p z)) q tree))))
    where
      go : (q : Bytes) (b : Bool) → eq_by_cmp by_bytes q p ≡ b → (c : Bool) → not (matched q) ≡ c
          → cond b (Some e) (cond (not (is_in_the_way p q)) (cond c (at tree q) None) None) ≡ cond c (cond b (Some e) (cond (not (is_in_the_way p q)) (at tree q) None)) None
      go q b x true y = refl
      go q false x false y = nothing (not (is_in_the_way p q))
      go q true x false y = absurd (true≢false (sym (ap not (ap matched (same_path q p x) ∙ out)) ∙ y))

  removed_put : (p : Bytes) (e : Entry) (tree : Tree) → IsTree tree → matched p ≡ true → where_path (λ q. not (do_conflict p q)) (restricted matched tree) ≡ restricted matched (put p e (cleared_for p tree))
  removed_put p e tree t hit =
      same_tree (where_path (λ q. not (do_conflict p q)) (restricted matched tree)) (restricted matched (put p e (cleared_for p tree)))
      (ordered_where (λ q. not (do_conflict p q)) (restricted matched tree) (ordered_restricted tree t.in_order))
      (ordered_restricted (put p e (cleared_for p tree)) (ordered_put p e (cleared_for p tree) (ordered_where (λ q. not (is_in_the_way p q)) tree t.in_order)))
      (λ q. at_where (λ z. not (do_conflict p z)) q (restricted matched tree)
      ∙ ap (λ (o : Option Entry). cond (not (do_conflict p q)) o None) (at_restricted tree q)
      ∙ go q (eq_by_cmp by_bytes q p) refl (matched q) refl (bytes_eq p q) refl
      ∙ sym (at_restricted (put p e (cleared_for p tree)) q
      ∙ ap (λ (o : Option Entry). cond (not (matched q)) o None) (at_put p q e (cleared_for p tree) ∙ ap (cond (eq_by_cmp by_bytes q p) (Some e)) (at_where (λ z. not (is_in_the_way p z)) q tree))))
    where
      go : (q : Bytes) (b : Bool) → eq_by_cmp by_bytes q p ≡ b → (c : Bool) → matched q ≡ c → (d : Bool) → bytes_eq p q ≡ d
          → cond (not (do_conflict p q)) (cond (not (matched q)) (at tree q) None) None ≡ cond (not (matched q)) (cond (eq_by_cmp by_bytes q p) (Some e) (cond (not (is_in_the_way p q)) (at tree q) None)) None
      go q b x true y d z = ap (λ c. cond (not (do_conflict p q)) (cond (not c) (at tree q) None) None) y ∙ nothing (not (do_conflict p q)) ∙ sym (ap (λ c. cond (not c) (cond (eq_by_cmp by_bytes q p) (Some e) (cond (not (is_in_the_way p q)) (at tree q) None)) None) y)
      go q true x false y d z = absurd (true≢false (sym (ap matched (same_path q p x) ∙ hit) ∙ y))
      go q false x false y true z = absurd (true≢false (sym hit ∙ ap matched ((bytes_decides p q).0 z) ∙ y))
      go q false x false y false z =
          ap (λ c. cond (not (do_conflict p q)) (cond (not c) (at tree q) None) None) y
          ∙ sym (ap (λ c. cond (not c) (cond (eq_by_cmp by_bytes q p) (Some e) (cond (not (is_in_the_way p q)) (at tree q) None)) None) y
          ∙ ap (λ b. cond b (Some e) (cond (not (is_in_the_way p q)) (at tree q) None)) x
          ∙ ap (λ d. cond (not (d || do_conflict p q)) (at tree q) None) z)

  modify_step : (mode : Mode) (content : Content) (p : Bytes) (old new : Tree) → IsTree old → apply (Modify mode content p) old ≡ Ok new → apply_all (replaced matched (Modify mode content p) old new) (restricted matched old) ≡ Ok (restricted matched new)
  modify_step mode content p old new t h =
      let e : Entry = record { mode = mode; content = content } in
      let is = within_ok (put p e (cleared_for p old)) new h in
      elim (cases_Bool (matched p)) [
        | inl hit ↦
            ap (λ (ops : List FileOp). apply_all ops (restricted matched old)) (cond-true (matched p) (deletes_of (where_path (do_conflict p) (restricted matched old))) (Modify mode content p ∷ []) hit)
            ∙ deleted (do_conflict p) (restricted matched old) (restricted_tree old t)
            ∙ ap (λ (r : Tree). Ok r) (removed_put p e old t hit ∙ ap (restricted matched) is.0)
        | inr out ↦
            ap (λ (ops : List FileOp). apply_all ops (restricted matched old)) (cond-false (matched p) (deletes_of (where_path (do_conflict p) (restricted matched old))) (Modify mode content p ∷ []) out)
            ∙ done (apply (Modify mode content p) (restricted matched old))
            ∙ ap (λ (r : Tree). within_paths r) (restricted_put p e old t.in_order out)
            ∙ small_restricted (put p e (cleared_for p old)) is.1
            ∙ ap (λ (r : Tree). Ok (restricted matched r)) is.0
      ]

  -- ---- D

  delete_step : (p : Bytes) (old new : Tree) → IsTree old → apply (Delete p) old ≡ Ok new → apply_all (replaced matched (Delete p) old new) (restricted matched old) ≡ Ok (restricted matched new)
  delete_step p old new t h =
      let is : without p old ≡ new = cc in
      elim (cases_Bool (matched p && is_none (restricted matched (subtree p old)))) [
        | inl gone ↦
            ap (λ (ops : List FileOp). apply_all ops (restricted matched old)) (cond-true (matched p && is_none (restricted matched (subtree p old))) [] (Delete p ∷ []) gone)
            ∙ ap (λ (r : Tree). Ok r) (sym (where_all (λ q. not (is_at_or_below p q)) (restricted matched old) (ordered_restricted old t.in_order) (λ q x. none_left q x (and_parts (matched p) (is_none (restricted matched (subtree p old))) gone).1))
            ∙ where_comm (λ q. not (is_at_or_below p q)) (λ q. not (matched q)) old
            ∙ ap (restricted matched) is)
        | inr stays ↦
            ap (λ (ops : List FileOp). apply_all ops (restricted matched old)) (cond-false (matched p && is_none (restricted matched (subtree p old))) [] (Delete p ∷ []) stays)
            ∙ ap (λ (r : Tree). Ok r) (where_comm (λ q. not (is_at_or_below p q)) (λ q. not (matched q)) old ∙ ap (restricted matched) is)
      ]
    where
      empty_is : (tree : Tree) → is_none tree ≡ true → tree ≡ []
      empty_is [] x = refl
      empty_is (e ∷ es) x = absurd (true≢false (sym x))

      none_left : (q : Bytes) → has (restricted matched old) q ≡ true → is_none (restricted matched (subtree p old)) ≡ true → not (is_at_or_below p q) ≡ true
      none_left q x y = go (is_at_or_below p q) refl
        where
          go : (b : Bool) → is_at_or_below p q ≡ b → not (is_at_or_below p q) ≡ true
          go false z = ap not z
          go true z =
              let there : has (where_path (is_at_or_below p) (restricted matched old)) q ≡ true = ap is_some (at_where (is_at_or_below p) q (restricted matched old) ∙ ap (λ b. cond b (at (restricted matched old) q) None) z) ∙ x in
              let here : has (restricted matched (subtree p old)) q ≡ true = subst (λ (r : Tree). has r q ≡ true) (where_comm (is_at_or_below p) (λ q. not (matched q)) old) there in
              absurd (true≢false (sym (subst (λ (r : Tree). has r q ≡ true) (empty_is (restricted matched (subtree p old)) y) here)))

  -- ---- C and R, left as they are

  unmatched : (es : Tree) (q : Bytes) → has_matched matched es ≡ false → matched q ≡ true → at es q ≡ None
  unmatched es q none hit = absent (at es q) (go (has es q) refl)
    where
      go : (b : Bool) → has es q ≡ b → has es q ≡ false
      go false x = x
      go true x = absurd (true≢false (sym (any_there matched es q x hit) ∙ none))

  restricted_unmatched : (es : Tree) → IsOrdered es → has_matched matched es ≡ false → restricted matched es ≡ es
  restricted_unmatched es s none = where_all (λ q. not (matched q)) es s (λ q h. go q h (matched q) refl)
    where
      go : (q : Bytes) → has es q ≡ true → (b : Bool) → matched q ≡ b → not (matched q) ≡ true
      go q h false x = ap not x
      go q h true x = absurd (true≢false (sym (any_there matched es q h x) ∙ none))

  restricted_placed : (put_in base : Tree) (target : Bytes) → IsOrdered base → has_matched matched put_in ≡ false → put_all put_in (cleared_for target (restricted matched base)) ≡ restricted matched (put_all put_in (cleared_for target base))
  restricted_placed put_in base target s none =
      same_tree (put_all put_in (cleared_for target (restricted matched base))) (restricted matched (put_all put_in (cleared_for target base)))
      (ordered_put_all put_in (cleared_for target (restricted matched base)) (ordered_where (λ q. not (is_in_the_way target q)) (restricted matched base) (ordered_restricted base s)))
      (ordered_restricted (put_all put_in (cleared_for target base)) (ordered_put_all put_in (cleared_for target base) (ordered_where (λ q. not (is_in_the_way target q)) base s)))
      (λ q. at_put_all put_in (cleared_for target (restricted matched base)) q
      ∙ ap (option_or (at put_in q)) (at_where (λ z. not (is_in_the_way target z)) q (restricted matched base) ∙ ap (λ (o : Option Entry). cond (not (is_in_the_way target q)) o None) (at_restricted base q))
      ∙ go q (matched q) refl
      ∙ sym (at_restricted (put_all put_in (cleared_for target base)) q
      ∙ ap (λ (o : Option Entry). cond (not (matched q)) o None) (at_put_all put_in (cleared_for target base) q ∙ ap (option_or (at put_in q)) (at_where (λ z. not (is_in_the_way target z)) q base))))
    where
      go : (q : Bytes) (b : Bool) → matched q ≡ b
          → option_or (at put_in q) (cond (not (is_in_the_way target q)) (cond (not (matched q)) (at base q) None) None) ≡ cond (not (matched q)) (option_or (at put_in q) (cond (not (is_in_the_way target q)) (at base q) None)) None
      go q false x =
          ap (λ c. option_or (at put_in q) (cond (not (is_in_the_way target q)) (cond (not c) (at base q) None) None)) x
          ∙ sym (ap (λ c. cond (not c) (option_or (at put_in q) (cond (not (is_in_the_way target q)) (at base q) None)) None) x)
      go q true x =
          ap (λ (o : Option Entry). option_or o (cond (not (is_in_the_way target q)) (cond (not (matched q)) (at base q) None) None)) (unmatched put_in q none x)
          ∙ ap (λ c. cond (not (is_in_the_way target q)) (cond (not c) (at base q) None) None) x
          ∙ nothing (not (is_in_the_way target q))
          ∙ sym (ap (λ c. cond (not c) (option_or (at put_in q) (cond (not (is_in_the_way target q)) (at base q) None)) None) x)

  placed_clear : (source target : Bytes) (taken base new : Tree) → IsOrdered base → has_matched matched (moved source target taken) ≡ false → placed source target taken base ≡ Ok new → placed source target taken (restricted matched base) ≡ Ok (restricted matched new)
  placed_clear source target [] base new s none h = absurd cc
  placed_clear source target (e ∷ taken) base new s none h = go (has_long_path (moved source target (e ∷ taken))) refl h
    where
      put_in : Tree
      put_in = moved source target (e ∷ taken)

      go : (b : Bool) → has_long_path (moved source target (e ∷ taken)) ≡ b → cond b (Err PathBytes) (within_paths (put_all (moved source target (e ∷ taken)) (cleared_for target base))) ≡ Ok new
          → cond (has_long_path (moved source target (e ∷ taken))) (Err PathBytes) (within_paths (put_all (moved source target (e ∷ taken)) (cleared_for target (restricted matched base)))) ≡ Ok (restricted matched new)
      go true x y = absurd cc
      go false x y =
          let is = within_ok (put_all (moved source target (e ∷ taken)) (cleared_for target base)) new y in
          ap (λ b. cond b (Err PathBytes) (within_paths (put_all (moved source target (e ∷ taken)) (cleared_for target (restricted matched base))))) x
          ∙ ap (λ (r : Tree). within_paths r) (restricted_placed (moved source target (e ∷ taken)) base target s none)
          ∙ small_restricted (put_all (moved source target (e ∷ taken)) (cleared_for target base)) is.1
          ∙ ap (λ (r : Tree). Ok (restricted matched r)) is.0

  -- ---- C and R, written out

  pub rewritten_step : (old new : Tree) → IsTree old → IsTree new → length new ≤ MAX_PATHS → apply_all (rewritten matched old new) (restricted matched old) ≡ Ok (restricted matched new)
  rewritten_step old new t u few =
      apply_more (deletes_of (where_path (λ p. not (has new p)) (restricted matched old))) (puts_of coming) (restricted matched old)
      ∙ ap (λ (r : Result Tree Refusal). r >>= apply_all (puts_of coming)) (deleted (λ p. not (has new p)) (restricted matched old) (restricted_tree old t))
      ∙ puts_apply whole wholes coming base ordered (found_has whole coming found) inside (subst (λ n. n ≤ MAX_PATHS) (sym (ap length agrees)) (le_trans (length_where (λ p. not (matched p)) new) few))
      ∙ ap (λ (r : Tree). Ok r) agrees
    where
      differs : Bytes × Entry → Bool
      differs e = not (has_entry (at old e.0) e.1)

      whole : Tree
      whole = restricted matched new

      coming : Tree
      coming = filter differs whole

      base : Tree
      base = where_path (λ p. not (not (has new p))) (restricted matched old)

      wholes : IsTree whole
      wholes = restricted_tree new u

      ordered : IsOrdered base
      ordered = ordered_where (λ p. not (not (has new p))) (restricted matched old) (ordered_restricted old t.in_order)

      found : AllByRecursion (λ e. at whole e.0 ≡ Some e.1) coming
      found = all_filtered (λ e. at whole e.0 ≡ Some e.1) differs whole (entries_found whole wholes.in_order)

      at_base : (q : Bytes) → at base q ≡ cond (not (not (has new q))) (cond (not (matched q)) (at old q) None) None
      at_base q = at_where (λ p. not (not (has new p))) q (restricted matched old) ∙ ap (λ (o : Option Entry). cond (not (not (has new q))) o None) (at_restricted old q)

      twice : (b : Bool) → not (not b) ≡ b
      twice true = refl
      twice false = refl

      inside : (q : Bytes) → has base q ≡ true → has whole q ≡ true
      inside q h =
          let a = has_where (λ p. not (not (has new p))) q (restricted matched old) h in
          let b = has_where (λ p. not (matched p)) q old a.1 in
          ap is_some (at_restricted new q ∙ ap (λ c. cond c (at new q) None) b.0) ∙ sym (twice (has new q)) ∙ a.0

      either : (q : Bytes) → (has coming q ≡ true) ⊎ (at base q ≡ at whole q)
      either q = go (at whole q) refl (matched q) refl
        where
          go : (o : Option Entry) → at whole q ≡ o → (m : Bool) → matched q ≡ m → (has coming q ≡ true) ⊎ (at base q ≡ at whole q)
          go None x true y = inr (at_base q ∙ ap (λ m. cond (not (not (has new q))) (cond (not m) (at old q) None) None) y ∙ nothing (not (not (has new q))) ∙ sym x)
          go None x false y =
              let missing : has new q ≡ false = ap is_some (sym (ap (λ m. cond (not m) (at new q) None) y) ∙ sym (at_restricted new q) ∙ x) in
              inr (at_base q ∙ ap (λ b. cond (not (not b)) (cond (not (matched q)) (at old q) None) None) missing ∙ sym x)
          go (Some v) x true y =
              let gone : ◌≡◌ {A = Option Entry} None (Some v) = sym (ap (λ m. cond (not m) (at new q) None) y) ∙ sym (at_restricted new q) ∙ x in
              absurd cc
          go (Some v) x false y =
              let there : at new q ≡ Some v = sym (ap (λ m. cond (not m) (at new q) None) y) ∙ sym (at_restricted new q) ∙ x in
              elim (cases_Bool (has_entry (at old q) v)) [
                | inl same ↦ inr (at_base q ∙ ap (λ b. cond (not (not b)) (cond (not (matched q)) (at old q) None) None) (ap is_some there) ∙ ap (λ m. cond (not m) (at old q) None) y ∙ is_there (at old q) v same ∙ sym x)
                | inr other ↦ inl (has_filter differs whole q v x (ap not other))
              ]

      agrees : puts coming base ≡ whole
      agrees = same_tree (puts coming base) whole (ordered_puts coming base ordered) wholes.in_order (λ q. puts_agree whole coming base found q (either q))

  -- ---- C and R

  tree_after : (op : FileOp) (old new : Tree) → IsTree old → apply op old ≡ Ok new → IsTree new
  tree_after op old new t h = subst (λ (r : Result Tree Refusal). IfOk r IsTree) h (apply_tree op old t)

  pub subtree_clear : (source : Bytes) (old : Tree) → IsTree old → has_matched matched (subtree source old) ≡ false → subtree source (restricted matched old) ≡ subtree source old
  subtree_clear source old t none =
      where_comm (is_at_or_below source) (λ q. not (matched q)) old
      ∙ restricted_unmatched (subtree source old) (ordered_where (is_at_or_below source) old t.in_order) none

  pub clear_parts : (source target : Bytes) (old : Tree) → is_clear matched source target old ≡ true → (has_matched matched (subtree source old) ≡ false) × (has_matched matched (moved source target (subtree source old)) ≡ false)
  clear_parts source target old h =
      let parts = and_parts (not (has_matched matched (subtree source old))) (not (has_matched matched (moved source target (subtree source old)))) h in
      (not-true (has_matched matched (subtree source old)) parts.0, not-true (has_matched matched (moved source target (subtree source old))) parts.1)

  copy_step : (source target : Bytes) (old new : Tree) → IsTree old → apply (Copy source target) old ≡ Ok new → apply_all (replaced matched (Copy source target) old new) (restricted matched old) ≡ Ok (restricted matched new)
  copy_step source target old new t h =
      elim (cases_Bool (is_clear matched source target old)) [
        | inl clear ↦
            let parts = clear_parts source target old clear in
            ap (λ (ops : List FileOp). apply_all ops (restricted matched old)) (cond-true (is_clear matched source target old) (Copy source target ∷ []) (rewritten matched old new) clear)
            ∙ done (apply (Copy source target) (restricted matched old))
            ∙ ap (λ (taken : Tree). placed source target taken (restricted matched old)) (subtree_clear source old t parts.0)
            ∙ placed_clear source target (subtree source old) old new t.in_order parts.1 h
        | inr other ↦
            ap (λ (ops : List FileOp). apply_all ops (restricted matched old)) (cond-false (is_clear matched source target old) (Copy source target ∷ []) (rewritten matched old new) other)
            ∙ rewritten_step old new t (tree_after (Copy source target) old new t h) (placed_small source target (subtree source old) old new h)
      ]

  rename_step : (source target : Bytes) (old new : Tree) → IsTree old → apply (Rename source target) old ≡ Ok new → apply_all (replaced matched (Rename source target) old new) (restricted matched old) ≡ Ok (restricted matched new)
  rename_step source target old new t h =
      elim (cases_Bool (is_clear matched source target old)) [
        | inl clear ↦
            let parts = clear_parts source target old clear in
            ap (λ (ops : List FileOp). apply_all ops (restricted matched old)) (cond-true (is_clear matched source target old) (Rename source target ∷ []) (rewritten matched old new) clear)
            ∙ done (apply (Rename source target) (restricted matched old))
            ∙ ap (λ (taken : Tree). placed source target taken (without source (restricted matched old))) (subtree_clear source old t parts.0)
            ∙ ap (λ (base : Tree). placed source target (subtree source old) base) (where_comm (λ q. not (is_at_or_below source q)) (λ q. not (matched q)) old)
            ∙ placed_clear source target (subtree source old) (without source old) new (ordered_where (λ q. not (is_at_or_below source q)) old t.in_order) parts.1 h
        | inr other ↦
            ap (λ (ops : List FileOp). apply_all ops (restricted matched old)) (cond-false (is_clear matched source target old) (Rename source target ∷ []) (rewritten matched old new) other)
            ∙ rewritten_step old new t (tree_after (Rename source target) old new t h) (placed_small source target (subtree source old) (without source old) new h)
      ]

  -- an operation, replaced, does to the restricted tree what it did to the tree
  pub replaced_step : (op : FileOp) (old new : Tree) → IsTree old → apply op old ≡ Ok new → apply_all (replaced matched op old new) (restricted matched old) ≡ Ok (restricted matched new)
  replaced_step (Modify mode content path) old new t h = modify_step mode content path old new t h
  replaced_step (Delete path) old new t h = delete_step path old new t h
  replaced_step (Copy source target) old new t h = copy_step source target old new t h
  replaced_step (Rename source target) old new t h = rename_step source target old new t h
  replaced_step DeleteAll old new t h = let is : [] ≡ new = cc in ap (λ (r : Tree). Ok (restricted matched r)) is
