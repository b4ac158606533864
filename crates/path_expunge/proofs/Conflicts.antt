-- Where nothing conflicts with a path in a tree.
use Rattle.std.proofs.Common.{◌≡◌, ◌∙◌, ℕ, suc, ◌+◌, ◌≤◌, ◌<◌, Bool, true, false, cond, not, [], ◌∷◌, Ok, length, refl, sym, ap, arith, inl, inr, bytes_eq, true≢false}
use Rattle.std.specs.Prelude.{is_some}
use Rattle.std.specs.List.{list_any}
use Rattle.std.specs.Cmp.Lexicographic.{nat_list_cmp_total}
use Rattle.std.specs.FinMap.Entries as entries
use Rattle.std.proofs.lemmas.Bool.{cases_Bool, or_parts, or_right}
use Rattle.plain_model.specs.declared.operation.Entry.{Entry}
use Rattle.plain_model.specs.Paths.{Bytes, do_conflict, is_in_the_way}
use Rattle.plain_model.specs.Trees.{IsTree, Tree, at, change, cleared_for, has, put, where_path}
use Rattle.plain_model.specs.Trees.Change.{Put}
use Rattle.history_laws.proofs.TreeLaws.{by_bytes}
use Rattle.expunge_laws.specs.Replaced.{restricted}
use Rattle.history_laws.proofs.TreeMaps.{length_where, ordered_where, there_any, within_ok}

module _ (g m : Bytes → Bool) where
  -- an entry that doesn't pass is left out, whether its path is matched or not
  left_out : (e : Bytes × Entry) (es : Tree) (b : Bool) → g e.0 ≡ false → where_path g (restricted m es) ≡ [] →
      where_path g (cond (not b) (e ∷ restricted m es) (restricted m es)) ≡ []
  left_out e es true fails rest = rest
  left_out e es false fails rest = ap (λ b. cond b (e ∷ where_path g (restricted m es)) (where_path g (restricted m es))) fails ∙ rest

  none_any : (es : Tree) → list_any (λ e. g e.0) es ≡ false → where_path g (restricted m es) ≡ []
  none_any [] h = refl
  none_any (e ∷ es) h =
      let parts = or_parts (g e.0) (list_any (λ x. g x.0) es) h in
      left_out e es (m e.0) parts.0 (none_any es parts.1)

  -- a tree of which a stricter test leaves all
  none_kept : (f : Bytes → Bool) → ((q : Bytes) → g q ≡ true → f q ≡ true) → (es : Tree) → length es ≤ length (where_path (λ q. not (f q)) es) →
      where_path g (restricted m es) ≡ []
  none_kept f more [] h = refl
  none_kept f more (e ∷ es) h = go (f e.0) refl h (none_kept f more es)
    where
      go : (b : Bool) → f e.0 ≡ b → suc (length es) ≤ length (cond (not b) (e ∷ where_path (λ q. not (f q)) es) (where_path (λ q. not (f q)) es)) →
          (length es ≤ length (where_path (λ q. not (f q)) es) → where_path g (restricted m es) ≡ []) → where_path g (restricted m (e ∷ es)) ≡ []
      go true is long rest = let low = length_where (λ q. not (f q)) es in absurd (omega arith)
      go false is long rest =
          let fails : g e.0 ≡ false = elim (cases_Bool (g e.0)) [ inl it ↦ absurd (true≢false (sym (more e.0 it) ∙ is)) | inr it ↦ it ] in
          left_out e es (m e.0) fails (rest (omega arith))

module _ (m : Bytes → Bool) (path : Bytes) (old : Tree) (t : IsTree old) where
  -- what is there conflicts with nothing
  pub free_there : has old path ≡ true → where_path (do_conflict path) (restricted m old) ≡ []
  free_there there =
      none_any (do_conflict path) m old (elim (cases_Bool (list_any (λ e. do_conflict path e.0) old)) [
        | inl it ↦
            let x = there_any (do_conflict path) old it in
            absurd (true≢false (sym x.2 ∙ t.apart path x.0 there x.1))
        | inr it ↦ it
      ])

  one_more : (b : Bool) (n : ℕ) → cond b n (n + 1) ≤ n + 1
  one_more true n = omega arith
  one_more false n = omega arith

  -- nor does what is put, where there is one path more then
  pub free_grown : (entry : Entry) (new : Tree) → change (Put entry path) old ≡ Ok new → length old < length new →
      where_path (do_conflict path) (restricted m old) ≡ []
  free_grown entry new h longer =
      let cleared = cleared_for path old in
      let its = ap length (within_ok (put path entry cleared) new h).0 in
      let exact = entries.length-put by_bytes nat_list_cmp_total path entry cleared (ordered_where (λ q. not (is_in_the_way path q)) old t.in_order) in
      let most = one_more (is_some (at cleared path)) (length cleared) in
      none_kept (do_conflict path) m (is_in_the_way path) (λ q c. or_right (bytes_eq path q) (do_conflict path q) c) old (omega arith)
