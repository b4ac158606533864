-- A folder in which one key has another member, or none.
use Rattle.std.proofs.Common.{◌≡◌, ℕ, zero, suc, arith, append-nil, ◌<◌, ◌+◌, Bool, true, false, cond, List, [], ◌∷◌, ◌++◌, length, take, drop, refl, sym, ap, subst, ◌∙◌, Option, Some, None, bytes_eq}
use Rattle.std.specs.Prelude.{slice_index_or, slice_set}
use Rattle.std.proofs.lemmas.List.{take-set, drop-set-lt}
use Rattle.plain_model.specs.Paths.{Bytes}
use Rattle.plain_model.specs.Trees.{TreeOf, Tree, at}
use Rattle.path_tree.specs.declared.folder.Child.{Child}
use Rattle.path_tree.specs.declared.folder.extent.Extent.{Extent}
use Rattle.path_tree.specs.declared.folder.extent.Change.{Change}
use Rattle.path_tree.specs.Folders.{Member, key_of, rest_of, flat, at_member, member_tree, prefixed, AllFit, Fits, AreSound}
use Rattle.path_tree.specs.Inside.{member_of, row_tree, rows_of, extent_of}
use Rattle.path_tree.specs.PathMaps.{IsInOrder}
use Rattle.path_tree.specs.Rows.{row_if, IsFound, IsPlace, IsExchange}
use Rattle.path_tree.specs.Setting.{FitsIf, PutsUnder}
use Rattle.path_tree.proofs.Keys.{at_flat}
use Rattle.path_tree.proofs.Splices.{around, at_exchanged, spliced_sound}
use Rattle.path_tree.proofs.Searching.{found_rows, place_rows, rows_of_append}
use Rattle.path_tree.proofs.Measures.{extent_spliced}

-- ---- what follows from an exchange

module _ {key : Bytes} {new : Option Member} {change : Change} {old_rows new_rows : TreeOf Member} where
  pub exchange_sound : IsExchange key new change old_rows new_rows → FitsIf key new → AreSound old_rows → AreSound new_rows
  exchange_sound x f s =
      subst (λ (l : TreeOf Member). AreSound l) (sym x.new_is)
      (spliced_sound key x.old new x.before x.after x.all_before x.all_after f (subst (λ (l : TreeOf Member). AreSound l) x.old_is s))

  pub exchange_puts : IsExchange key new change old_rows new_rows → FitsIf key new → AreSound old_rows → PutsUnder key new (flat old_rows) (flat new_rows)
  exchange_puts x f s q =
      at_flat new_rows q (exchange_sound x f s)
      ∙ ap (λ (l : TreeOf Member). at_member (at l (key_of q)) (rest_of q)) x.new_is
      ∙ ap (λ o. at_member o (rest_of q)) (at_exchanged key x.before x.after x.old new x.all_before x.all_after (key_of q))
      ∙ ap (λ (l : TreeOf Member). at_member (cond (bytes_eq key (key_of q)) new (at l (key_of q))) (rest_of q)) (sym x.old_is)
      ∙ by (bytes_eq key (key_of q))
    where
      by : (t : Bool) → at_member (cond t new (at old_rows (key_of q))) (rest_of q) ≡ cond t (at_member new (rest_of q)) (at (flat old_rows) q)
      by true = refl
      by false = sym (at_flat old_rows q s)

  -- the extent after what went and came, beside what stayed
  pub extent_after : IsExchange key new change old_rows new_rows → (e r : Extent) → e ≡ extent_of (flat old_rows)
      → ((rest gone come : Tree) → e ≡ extent_of (rest ++ gone) → change.gone ≡ extent_of gone → change.come ≡ extent_of come → r ≡ extent_of (rest ++ come))
      → r ≡ extent_of (flat new_rows)
  extent_after x e r h follows =
      follows (flat x.before ++ flat x.after) (flat (row_if key x.old)) (flat (row_if key new))
      (h ∙ ap (λ (l : TreeOf Member). extent_of (flat l)) x.old_is ∙ extent_spliced x.before (row_if key x.old) x.after)
      x.gone_is x.come_is
      ∙ sym (ap (λ (l : TreeOf Member). extent_of (flat l)) x.new_is ∙ extent_spliced x.before (row_if key new) x.after)

-- ---- how an exchange is made

pub one_row : (key : Bytes) (m : Member) → flat (row_if key (Some m)) ≡ prefixed key (member_tree m)
one_row key m = append-nil (prefixed key (member_tree m))

pub found_exchange : (key : Bytes) (cs : List Child) (i : ℕ) (d : Child) (new : Option Member) (change : Change) (new_rows : TreeOf Member)
    → IsInOrder (rows_of cs) → IsFound key cs i
    → change.gone ≡ extent_of (row_tree (slice_index_or cs i d)) → change.come ≡ extent_of (flat (row_if key new))
    → new_rows ≡ rows_of (take i cs) ++ (row_if key new ++ rows_of (drop (i + 1) cs)) → IsExchange key new change (rows_of cs) new_rows
found_exchange key cs i d new change new_rows sorted f gone come is =
    let m = member_of (slice_index_or cs i d).node in
    let rows = found_rows key cs i d f in
    let sides = around key m (rows_of (take i cs)) (rows_of (drop (i + 1) cs)) (subst (λ (l : TreeOf Member). IsInOrder l) rows sorted) in
    record {
      old = Some m;
      before = rows_of (take i cs);
      after = rows_of (drop (i + 1) cs);
      all_before = sides.0;
      all_after = sides.1;
      old_is = rows;
      new_is = is;
      gone_is = gone ∙ ap (λ (k : Bytes). extent_of (prefixed k (member_tree m))) (f.key_is d) ∙ ap extent_of (sym (one_row key m));
      come_is = come;
    }

pub place_exchange : (key : Bytes) (cs : List Child) (i : ℕ) (new : Option Member) (change : Change) (new_rows : TreeOf Member) → IsPlace key cs i
    → change.gone ≡ extent_of [] → change.come ≡ extent_of (flat (row_if key new))
    → new_rows ≡ rows_of (take i cs) ++ (row_if key new ++ rows_of (drop i cs)) → IsExchange key new change (rows_of cs) new_rows
place_exchange key cs i new change new_rows p gone come is = record {
  old = None;
  before = rows_of (take i cs);
  after = rows_of (drop i cs);
  all_before = p.before;
  all_after = p.after;
  old_is = place_rows cs i;
  new_is = is;
  gone_is = gone;
  come_is = come;
}

-- ---- the rows then

pub rows_set : (cs : List Child) (i : ℕ) (c : Child) → i < length cs
    → rows_of (slice_set cs i c) ≡ rows_of (take i cs) ++ ((c.key.value.items, member_of c.node) ∷ rows_of (drop (i + 1) cs))
rows_set [] i c h = absurd (omega (arith, h))
rows_set (b ∷ cs) zero c h = refl
rows_set (b ∷ cs) (suc i) c h =
    let next : suc i + 1 ≡ suc (i + 1) = omega arith in
    rw next (ap (λ (l : TreeOf Member). (b.key.value.items, member_of b.node) ∷ l) (rows_set cs i c (omega (arith, h))))

pub rows_inserted : (cs : List Child) (i : ℕ) (c : Child) → rows_of (take i cs ++ c ∷ drop i cs) ≡ rows_of (take i cs) ++
    ((c.key.value.items, member_of c.node) ∷ rows_of (drop i cs))
rows_inserted cs i c = rows_of_append (take i cs) (c ∷ drop i cs)

-- what is at an index fits its key
pub fits_index : (cs : List Child) (i : ℕ) (d : Child) → i < length cs → AllFit (rows_of cs)
    → Fits (slice_index_or cs i d).key.value.items (member_of (slice_index_or cs i d).node)
fits_index [] i d h f = absurd (omega (arith, h))
fits_index (c ∷ cs) zero d h f = f.0
fits_index (c ∷ cs) (suc i) d h f = fits_index cs i d (omega (arith, h)) f.1

pub rows_removed : (cs : List Child) (i : ℕ) → rows_of (take i cs ++ drop (suc i) cs) ≡ rows_of (take i cs) ++ rows_of (drop (i + 1) cs)
rows_removed cs i =
    let next : suc i ≡ i + 1 = omega arith in
    rows_of_append (take i cs) (drop (suc i) cs) ∙ ap (λ n. rows_of (take i cs) ++ rows_of (drop n cs)) next

-- the removed one was set before
pub rows_removed_set : (cs : List Child) (i : ℕ) (c : Child)
    → rows_of (take i (slice_set cs i c) ++ drop (suc i) (slice_set cs i c)) ≡ rows_of (take i cs) ++ rows_of (drop (i + 1) cs)
rows_removed_set cs i c =
    ap (λ (l : List Child). rows_of (l ++ drop (suc i) (slice_set cs i c))) (take-set cs i c)
    ∙ ap (λ (l : List Child). rows_of (take i cs ++ l)) (drop-set-lt (suc i) cs i c (omega arith))
    ∙ rows_removed cs i

-- an index within the list needs no default
pub index_alike : (cs : List Child) (i : ℕ) (d e : Child) → i < length cs → slice_index_or cs i d ≡ slice_index_or cs i e
index_alike [] i d e h = absurd (omega (arith, h))
index_alike (c ∷ cs) zero d e h = refl
index_alike (c ∷ cs) (suc i) d e h = index_alike cs i d e (omega (arith, h))
