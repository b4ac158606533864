-- A copy or a rename is written out from what is near its source and its target.
use Rattle.std.proofs.Common.{◌≡◌, ◌∙◌, ℕ, suc, ◌+◌, ◌≤◌, Bool, true, false, cond, not, List, [], ◌∷◌, ◌++◌, None, Ok, Err, length, filter, refl, sym, ap, arith, inl, inr, true≢false}
use Rattle.std.specs.Prelude.{◌||◌, ◌&&◌, is_some}
use Rattle.std.specs.List.{list_any}
use Rattle.std.specs.Cmp.Lexicographic.{nat_list_cmp_total}
use Rattle.std.specs.FinMap.Entries as entries
use Rattle.std.proofs.Math.Bool.{or-false}
use Rattle.std.proofs.lemmas.Bool.{cases_Bool}
use Rattle.plain_model.specs.declared.operation.FileOp.{FileOp}
use Rattle.plain_model.specs.declared.operation.FileOp.TheVariants.{Copy, Rename}
use Rattle.plain_model.specs.Paths.{Bytes, is_at_or_below, is_in_the_way}
use Rattle.plain_model.specs.Trees.{IsTree, Tree, apply, at, cleared_for, has, has_long_path, moved, placed, put_all, subtree, where_path, within_paths, without}
use Rattle.plain_model.specs.Trees.Refusal.{PathBytes}
use Rattle.history_laws.proofs.TreeLaws.{at_where, by_bytes, has_where}
use Rattle.expunge_laws.specs.Replaced.{deletes_of, has_entry, restricted, rewritten}
use Rattle.expunge_laws.proofs.InTurn.{copy_goes, rename_goes}
use Rattle.expunge_laws.proofs.Nearby.{copy_near, rename_near}
use Rattle.history_laws.proofs.TreeMaps.{IsOrdered, any_there, length_where, ordered_put_all, ordered_where, where_all, where_alike, where_comm, within_ok}
use Rattle.path_expunge.specs.Written.{gone_of, moving, written_at}
use Rattle.edit_laws.specs.Puts.{puts_of}

-- ---- how many paths there are

one_more : (b : Bool) (n : ℕ) → cond b n (n + 1) ≤ n + 1
one_more true n = omega arith
one_more false n = omega arith

put_all_length : (es base : Tree) → IsOrdered base → length (put_all es base) ≤ length es + length base
put_all_length [] base o = omega arith
put_all_length (e ∷ es) base o =
    let exact = entries.length-put by_bytes nat_list_cmp_total e.0 e.1 (put_all es base) (ordered_put_all es base o) in
    let most = one_more (is_some (at (put_all es base) e.0)) (length (put_all es base)) in
    let rest = put_all_length es base o in
    omega arith

moved_length : (source target : Bytes) (es : Tree) → length (moved source target es) ≡ length es
moved_length source target [] = refl
moved_length source target (e ∷ es) = ap suc (moved_length source target es)

split_length : (f : Bytes → Bool) (es : Tree) → length (where_path f es) + length (where_path (λ q. not (f q)) es) ≡ length es
split_length f [] = refl
split_length f (e ∷ es) = go (f e.0) (split_length f es)
  where
    go : (b : Bool) → length (where_path f es) + length (where_path (λ q. not (f q)) es) ≡ length es →
        length (cond b (e ∷ where_path f es) (where_path f es)) + length (cond (not b) (e ∷ where_path (λ q. not (f q)) es) (where_path (λ q. not (f q)) es)) ≡ suc (length es)
    go true rest = omega arith
    go false rest = omega arith

placed_length : (source target : Bytes) (taken base new : Tree) → placed source target taken base ≡ Ok new → IsOrdered base →
    length new ≤ length taken + length (cleared_for target base)
placed_length source target [] base new h o = absurd cc
placed_length source target (e ∷ taken) base new h o = go (has_long_path (moved source target (e ∷ taken))) h
  where
    go : (b : Bool) → cond b (Err PathBytes) (within_paths (put_all (moved source target (e ∷ taken)) (cleared_for target base))) ≡ Ok new →
        length new ≤ suc (length taken) + length (cleared_for target base)
    go true h = absurd cc
    go false h =
        let its = ap length (within_ok (put_all (moved source target (e ∷ taken)) (cleared_for target base)) new h).0 in
        let most = put_all_length (moved source target (e ∷ taken)) (cleared_for target base) (ordered_where (λ q. not (is_in_the_way target q)) base o) in
        let long = moved_length source target (e ∷ taken) in
        omega arith

-- a tree of which a test leaves all
all_stay : (f : Bytes → Bool) (es : Tree) → length es ≤ length (where_path (λ q. not (f q)) es) → list_any (λ e. f e.0) es ≡ false
all_stay f [] h = refl
all_stay f (e ∷ es) h = go (f e.0) h (all_stay f es)
  where
    go : (b : Bool) → suc (length es) ≤ length (cond (not b) (e ∷ where_path (λ q. not (f q)) es) (where_path (λ q. not (f q)) es)) →
        (length es ≤ length (where_path (λ q. not (f q)) es) → list_any (λ x. f x.0) es ≡ false) → (b || list_any (λ x. f x.0) es) ≡ false
    go true long rest = let low = length_where (λ q. not (f q)) es in absurd (omega arith)
    go false long rest = rest (omega arith)

module _ (source target : Bytes) (old new : Tree) (t : IsTree old) where
  -- ---- where there are enough paths, what isn't taken stays

  copy_keeps : apply (Copy source target) old ≡ Ok new → length old + length (subtree source old) ≤ length new →
      (q : Bytes) → has old q ≡ true → has new q ≡ true
  copy_keeps h long q there =
      let most = placed_length source target (subtree source old) old new h t.in_order in
      let none = all_stay (is_in_the_way target) old (omega arith) in
      elim (cases_Bool (has new q)) [
        | inl it ↦ it
        | inr gone ↦ absurd (true≢false (sym (any_there (is_in_the_way target) old q there (copy_goes source target old new h q there gone)) ∙ none))
      ]

  rename_keeps : apply (Rename source target) old ≡ Ok new → length old ≤ length new →
      (q : Bytes) → has old q ≡ true → is_at_or_below source q ≡ false → has new q ≡ true
  rename_keeps h long q there apart =
      let base = without source old in
      let most = placed_length source target (subtree source old) base new h (ordered_where (λ z. not (is_at_or_below source z)) old t.in_order) in
      let parts = split_length (is_at_or_below source) old in
      let none = all_stay (is_in_the_way target) base (omega arith) in
      let in_base : has base q ≡ true =
      ap is_some (at_where (λ z. not (is_at_or_below source z)) q old ∙ ap (λ b. cond (not b) (at old q) None) apart) ∙ there in
      elim (cases_Bool (has new q)) [
        | inl it ↦ it
        | inr gone ↦
            let way : is_in_the_way target q ≡ true =
            sym (ap (λ b. is_in_the_way target q || b) apart ∙ or-false (is_in_the_way target q)) ∙ rename_goes source target old new h q there gone in
            absurd (true≢false (sym (any_there (is_in_the_way target) base q in_base way) ∙ none))
      ]

  pub keeps : (copied : Bool) → apply (moving copied source target) old ≡ Ok new → length old + cond copied (length (subtree source old)) 0 ≤ length new →
      (q : Bytes) → has old q ≡ true → is_at_or_below source q ≡ false → has new q ≡ true
  keeps true h long q there apart = copy_keeps h long q there
  keeps false h long q there apart = rename_keeps h (omega arith) q there apart

  module _ (m : Bytes → Bool) where
    -- what goes is then what goes of what was taken
    pub gone_near : ((q : Bytes) → has old q ≡ true → is_at_or_below source q ≡ false → has new q ≡ true) →
        gone_of m new (subtree source old) ≡ gone_of m new old
    gone_near keep =
        let f : Bytes → Bool = λ p. not (has new p) in
        let rest = restricted m old in
        ap (λ (es : Tree). where_path f es) (where_comm (λ p. not (m p)) (is_at_or_below source) old)
        ∙ where_comm f (is_at_or_below source) rest
        ∙ where_all (is_at_or_below source) (where_path f rest) (ordered_where f rest (ordered_where (λ p. not (m p)) old t.in_order)) (λ q there.
        let x = has_where f q rest there in
        let was = has_where (λ p. not (m p)) q old x.1 in
        elim (cases_Bool (is_at_or_below source q)) [
          | inl it ↦ it
          | inr apart ↦ absurd (true≢false (sym x.0 ∙ ap not (keep q was.1 apart)))
        ])

    gone_alike : (test : Bytes → Bool) → ((q : Bytes) → has old q ≡ true → has new q ≡ false → test q ≡ true) →
        gone_of m new old ≡ where_path (λ p. test p && not (has new p)) (restricted m old)
    gone_alike test goes =
        where_alike (λ p. not (has new p)) (λ p. test p && not (has new p)) (restricted m old) (ordered_where (λ p. not (m p)) old t.in_order) (λ q h.
        alike q (has new q) refl (has_where (λ p. not (m p)) q old h).1)
      where
        none : (b : Bool) → false ≡ b && false
        none true = refl
        none false = refl

        alike : (q : Bytes) (b : Bool) → has new q ≡ b → has old q ≡ true → not (has new q) ≡ test q && not (has new q)
        alike q true x there = ap not x ∙ none (test q) ∙ ap (λ b. test q && not b) (sym x)
        alike q false x there = sym (ap (λ b. b && not (has new q)) (goes q there x))

    abbrev comes : List FileOp
    comes = puts_of (filter (λ e. not (has_entry (at old e.0) e.1)) (restricted m (subtree target new)))

    pub written : (copied : Bool) → apply (moving copied source target) old ≡ Ok new → written_at m target old new ≡ rewritten m old new
    written true h =
        ap (λ (es : Tree). deletes_of es ++ comes) (gone_alike (is_in_the_way target) (λ q x y. copy_goes source target old new h q x y))
        ∙ sym (copy_near m source target old new t h)
    written false h =
        ap (λ (es : Tree). deletes_of es ++ comes) (gone_alike (λ p. is_in_the_way target p || is_at_or_below source p) (λ q x y. rename_goes source target old new h q x y))
        ∙ sym (rename_near m source target old new t h)
