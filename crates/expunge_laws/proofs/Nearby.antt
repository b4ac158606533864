-- A copy or a rename is written out from what is near its target and its source alone.
use Rattle.std.proofs.Common.{◌≡◌, Bool, true, false, cond, not, [], ◌∷◌, ◌++◌, length, drop, filter, refl, sym, ap, subst, ◌∙◌, inl, inr, append-nil, bytes_eq, eq-eqb, true≢false, Option, Some, None, is_some, Result, Ok}
use Rattle.std.specs.Prelude.{◌&&◌, ◌||◌, IfOk}
use Rattle.std.specs.List.{AllByRecursion}
use Rattle.std.specs.Cmp.Lexicographic.{bytes_decides}
use Rattle.std.proofs.lemmas.Bool.{cases_Bool, or_left, or_right}
use Rattle.plain_model.specs.declared.operation.Content.{Content}
use Rattle.plain_model.specs.declared.operation.Content.TheVariants.{Blob as OfBlob, Object}
use Rattle.plain_model.specs.declared.operation.Entry.{Entry}
use Rattle.plain_model.specs.declared.operation.FileOp.{FileOp}
use Rattle.plain_model.specs.declared.operation.FileOp.TheVariants.{Copy, Rename}
use Rattle.plain_model.specs.Paths.{Bytes, is_at_or_below, is_below, is_in_the_way}
use Rattle.plain_model.specs.Trees.{IsTree, Refusal, Tree, apply, at, has, moved, subtree, where_path}
use Rattle.history_laws.proofs.PathLaws.{IsRest, after}
use Rattle.history_laws.proofs.TreeLaws.{apply_tree, at_where, has_moved, has_where}
use Rattle.expunge_laws.specs.Near.{copied_near, renamed_near, rewritten_near}
use Rattle.expunge_laws.specs.Replaced.{deletes_of, mode_number, restricted, rewritten, same_content, same_entry, has_entry}
use Rattle.expunge_laws.proofs.InTurn.{copy_comes, copy_goes, rename_comes, rename_goes}
use Rattle.history_laws.proofs.TreeMaps.{entries_found, ordered_where, where_alike, where_comm}
use Rattle.edit_laws.specs.Puts.{puts_of}

-- ---- a path that was moved

joined_below : (t r : Bytes) → IsRest r → is_at_or_below t (t ++ r) ≡ true
joined_below t [] h = or_left (bytes_eq t (t ++ [])) (is_below t (t ++ [])) ((bytes_decides t (t ++ [])).1 (sym (append-nil t)))
joined_below t (b ∷ r) h = or_right (bytes_eq t (t ++ b ∷ r)) (is_below t (t ++ b ∷ r)) (go t)
  where
    go : (t : Bytes) → is_below t (t ++ b ∷ r) ≡ true
    go [] = h
    go (c ∷ t) = (λ i. eq-eqb c c refl i && go t i)

moved_below : (source target : Bytes) (old : Tree) (q : Bytes) → has (moved source target (subtree source old)) q ≡ true → is_at_or_below target q ≡ true
moved_below source target old q h =
    let c = has_moved source target (subtree source old) q h in
    let was = has_where (is_at_or_below source) c.path old c.was in
    let b = after source c.path was.0 in
    subst (λ (x : Bytes). is_at_or_below target x ≡ true) (sym c.is) (joined_below target (drop (length source) c.path) b.rest)

-- ---- entries that are the same

own_content : (c : Content) → same_content c c ≡ true
own_content (OfBlob b) = eq-eqb b b refl
own_content (Object digits) = (bytes_decides digits digits).1 refl

own_entry : (e : Entry) → same_entry e e ≡ true
own_entry e = λ i. eq-eqb (mode_number e.mode) (mode_number e.mode) refl i && own_content e.content i

-- ---- what is left out doesn't count

filter_near : (test : Bytes → Bool) (d : Bytes × Entry → Bool) (es : Tree) → AllByRecursion (λ e. test e.0 ≡ false → d e ≡ false) es → filter d es ≡ filter d (where_path test es)
filter_near test d [] a = refl
filter_near test d (e ∷ es) a = go (test e.0) refl (filter_near test d es a.1)
  where
    go : (b : Bool) → test e.0 ≡ b → filter d es ≡ filter d (where_path test es) → cond (d e) (e ∷ filter d es) (filter d es) ≡ filter d (cond b (e ∷ where_path test es) (where_path test es))
    go true x rest = ap (λ (l : Tree). cond (d e) (e ∷ l) l) rest
    go false x rest = ap (λ b. cond b (e ∷ filter d es) (filter d es)) (a.0 x) ∙ rest

module _ (matched : Bytes → Bool) (test : Bytes → Bool) (source target : Bytes) (old new : Tree) (t : IsTree old) (u : IsTree new)
    (goes : (q : Bytes) → has old q ≡ true → has new q ≡ false → test q ≡ true)
    (stays : (q : Bytes) → has (moved source target (subtree source old)) q ≡ false → has new q ≡ true → at new q ≡ at old q)
  where
    alike : (q : Bytes) → has (restricted matched old) q ≡ true → not (has new q) ≡ test q && not (has new q)
    alike q h = go (has new q) refl
      where
        there : has old q ≡ true
        there = (has_where (λ p. not (matched p)) q old h).1

        none : (b : Bool) → false ≡ b && false
        none true = refl
        none false = refl

        go : (b : Bool) → has new q ≡ b → not (has new q) ≡ test q && not (has new q)
        go true x = ap not x ∙ none (test q) ∙ ap (λ b. test q && not b) (sym x)
        go false x = sym (ap (λ b. b && not (has new q)) (goes q there x))

    -- what is neither at nor below the target is as it was
    as_it_was : (e : Bytes × Entry) → at (restricted matched new) e.0 ≡ Some e.1 → is_at_or_below target e.0 ≡ false → not (has_entry (at old e.0) e.1) ≡ false
    as_it_was e f n =
        let there = has_where (λ p. not (matched p)) e.0 new (ap is_some f) in
        let found : at new e.0 ≡ Some e.1 = sym (ap (λ b. cond b (at new e.0) None) there.0) ∙ sym (at_where (λ p. not (matched p)) e.0 new) ∙ f in
        let was : at old e.0 ≡ Some e.1 = sym (stays e.0 not_moved there.1) ∙ found in
        ap (λ (o : Option Entry). not (has_entry o e.1)) was ∙ ap not (own_entry e.1)
      where
        not_moved : has (moved source target (subtree source old)) e.0 ≡ false
        not_moved = elim (cases_Bool (has (moved source target (subtree source old)) e.0)) [ inl it ↦ absurd (true≢false (sym (moved_below source target old e.0 it) ∙ n)) | inr it ↦ it ]

    all_as_they_were : (es : Tree) → AllByRecursion (λ e. at (restricted matched new) e.0 ≡ Some e.1) es → AllByRecursion (λ e. is_at_or_below target e.0 ≡ false → not (has_entry (at old e.0) e.1) ≡ false) es
    all_as_they_were [] a = tt
    all_as_they_were (e ∷ es) a = (as_it_was e a.0, all_as_they_were es a.1)

    near : rewritten matched old new ≡ rewritten_near matched test target old new
    near =
        λ i. deletes_of (where_alike (λ p. not (has new p)) (λ p. test p && not (has new p)) (restricted matched old) (ordered_where (λ p. not (matched p)) old t.in_order) alike i)
        ++ puts_of ((filter_near (is_at_or_below target) (λ e. not (has_entry (at old e.0) e.1)) (restricted matched new) (all_as_they_were (restricted matched new) (entries_found (restricted matched new) (ordered_where (λ p. not (matched p)) new u.in_order)))
        ∙ ap (λ (l : Tree). filter (λ e. not (has_entry (at old e.0) e.1)) l) (where_comm (is_at_or_below target) (λ p. not (matched p)) new)) i)

tree_after : (op : FileOp) (old new : Tree) → IsTree old → apply op old ≡ Ok new → IsTree new
tree_after op old new t h = subst (λ (r : Result Tree Refusal). IfOk r IsTree) h (apply_tree op old t)

pub copy_near : (matched : Bytes → Bool) (source target : Bytes) (old new : Tree) → IsTree old → apply (Copy source target) old ≡ Ok new → rewritten matched old new ≡ copied_near matched target old new
copy_near matched source target old new t h =
    near matched (is_in_the_way target) source target old new t (tree_after (Copy source target) old new t h) (λ q x y. copy_goes source target old new h q x y) (λ q x y. copy_comes source target old new h q x y)

pub rename_near : (matched : Bytes → Bool) (source target : Bytes) (old new : Tree) → IsTree old → apply (Rename source target) old ≡ Ok new → rewritten matched old new ≡ renamed_near matched source target old new
rename_near matched source target old new t h =
    near matched (λ p. is_in_the_way target p || is_at_or_below source p) source target old new t (tree_after (Rename source target) old new t h) (λ q x y. rename_goes source target old new h q x y) (λ q x y. rename_comes source target old new h q x y)
