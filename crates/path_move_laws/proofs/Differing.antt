-- The difference of two trees makes the second of the first.
use Rattle.std.proofs.Common.{◌≡◌, ◌≤◌, Bool, List, true, false, cond, not, [], ◌∷◌, ◌++◌, length, filter, refl, sym, ap, ◌∙◌, bytes_eq, eq-eqb, true≢false, Option, Some, Ok, None, is_some}
use Rattle.std.specs.Prelude.{◌&&◌, ◌==◌}
use Rattle.std.specs.List.{AllByRecursion}
use Rattle.std.specs.Ordering.{eq_by_cmp}
use Rattle.std.specs.Cmp.Lexicographic.{bytes_decides}
use Rattle.std.proofs.lemmas.Bool.{and_from, and_parts}
use Rattle.plain_model.specs.declared.operation.Content.{Content}
use Rattle.plain_model.specs.declared.operation.Content.TheVariants.{Blob as OfBlob, Object}
use Rattle.plain_model.specs.declared.operation.Entry.{Entry}
use Rattle.plain_model.specs.declared.operation.FileOp.{FileOp}
use Rattle.plain_model.specs.declared.limit.TheConstants.{MAX_PATHS}
use Rattle.plain_model.specs.Paths.{Bytes}
use Rattle.plain_model.specs.Trees.{IsTree, Tree, apply_all, at, has, where_path}
use Rattle.history_laws.proofs.TreeLaws.{at_where, by_bytes, same_path}
use Rattle.squash_laws.specs.Takings.{is_none}
use Rattle.expunge_laws.specs.Replaced.{deletes_of, has_entry, mode_number, restricted, rewritten, same_content, same_entry}
use Rattle.edit_laws.specs.Puts.{puts_of}
use Rattle.expunge_laws.proofs.Replacing.{is_same_entry, is_there, rewritten_step}
use Rattle.history_laws.proofs.TreeMaps.{IsOrdered, entries_found, found_has, same_tree}
use Rattle.path_move_laws.specs.Difference.{are_same, difference}

-- ---- trees that are the same

pub same_bytes : (p : Bytes) → bytes_eq p p ≡ true
same_bytes p = (bytes_decides p p).1 refl

content_itself : (c : Content) → same_content c c ≡ true
content_itself (OfBlob b) = eq-eqb b b refl
content_itself (Object digits) = same_bytes digits

entry_itself : (e : Entry) → same_entry e e ≡ true
entry_itself e =
    and_from (mode_number e.mode == mode_number e.mode) (same_content e.content e.content)
    (eq-eqb (mode_number e.mode) (mode_number e.mode) refl) (content_itself e.content)

pub same_itself : (t : Tree) → are_same t t ≡ true
same_itself [] = refl
same_itself (e ∷ es) =
    and_from (bytes_eq e.0 e.0 && same_entry e.1 e.1) (are_same es es)
    (and_from (bytes_eq e.0 e.0) (same_entry e.1 e.1) (same_bytes e.0) (entry_itself e.1)) (same_itself es)

pub same_is : (s t : Tree) → are_same s t ≡ true → s ≡ t
same_is [] [] h = refl
same_is [] (b ∷ bs) h = absurd (true≢false (sym h))
same_is (a ∷ es) [] h = absurd (true≢false (sym h))
same_is (a ∷ es) (b ∷ bs) h =
    let parts = and_parts (bytes_eq a.0 b.0 && same_entry a.1 b.1) (are_same es bs) h in
    let own = and_parts (bytes_eq a.0 b.0) (same_entry a.1 b.1) parts.0 in
    λ i. ((bytes_decides a.0 b.0).0 own.0 i, is_same_entry a.1 b.1 own.1 i) ∷ same_is es bs parts.1 i

-- ---- the difference

-- no path is left out
abbrev none : Bytes → Bool
none p = false

whole : (t : Tree) → restricted none t ≡ t
whole [] = refl
whole (e ∷ es) = ap (λ (r : Tree). e ∷ r) (whole es)

is_difference : (old new : Tree) → rewritten none old new ≡ difference old new
is_difference old new = λ i.
    deletes_of (where_path (λ p. not (has new p)) (whole old i))
    ++ puts_of (filter (λ e. not (has_entry (at old e.0) e.1)) (whole new i))

pub difference_leads : (old new : Tree) → IsTree old → IsTree new → length new ≤ MAX_PATHS → apply_all (difference old new) old ≡ Ok new
difference_leads old new t u few =
    sym (λ i. apply_all (is_difference old new i) (whole old i))
    ∙ rewritten_step none old new t u few
    ∙ ap (λ (r : Tree). Ok r) (whole new)

-- ---- nothing

kept_entry : (t : Tree) (es : Tree) → AllByRecursion (λ e. at t e.0 ≡ Some e.1) es → filter (λ e. not (has_entry (at t e.0) e.1)) es ≡ []
kept_entry t [] a = refl
kept_entry t (e ∷ es) a =
    let own : not (has_entry (at t e.0) e.1) ≡ false = ap (λ (o : Option Entry). not (has_entry o e.1)) a.0 ∙ ap not (entry_itself e.1) in
    ap (λ b. cond b (e ∷ filter (λ x. not (has_entry (at t x.0) x.1)) es) (filter (λ x. not (has_entry (at t x.0) x.1)) es)) own ∙ kept_entry t es a.1

kept_path : (t : Tree) (es : Tree) → AllByRecursion (λ e. has t e.0 ≡ true) es → where_path (λ p. not (has t p)) es ≡ []
kept_path t [] a = refl
kept_path t (e ∷ es) a =
    ap (λ b. cond (not b) (e ∷ where_path (λ p. not (has t p)) es) (where_path (λ p. not (has t p)) es)) a.0 ∙ kept_path t es a.1

pub same_difference : (t : Tree) → IsOrdered t → difference t t ≡ []
same_difference t s =
    let found = entries_found t s in
    (λ i. deletes_of (kept_path t t (found_has t t found) i) ++ puts_of (kept_entry t t found i))

nothing_left : (xs ys : List FileOp) → xs ++ ys ≡ [] → (xs ≡ []) × (ys ≡ [])
nothing_left [] ys h = (refl, h)
nothing_left (x ∷ xs) ys h = absurd cc

no_deletes : (t : Tree) → deletes_of t ≡ [] → t ≡ []
no_deletes [] h = refl
no_deletes (e ∷ es) h = absurd cc

no_puts : (t : Tree) → puts_of t ≡ [] → t ≡ []
no_puts [] h = refl
no_puts (e ∷ es) h = absurd cc

none_filtered : (test : Bytes × Entry → Bool) (es : Tree) → filter test es ≡ [] → AllByRecursion (λ e. test e ≡ false) es
none_filtered test [] h = tt
none_filtered test (e ∷ es) h = go (test e) refl h (none_filtered test es)
  where
    go : (b : Bool) → test e ≡ b → cond b (e ∷ filter test es) (filter test es) ≡ [] → (filter test es ≡ [] → AllByRecursion (λ e. test e ≡ false) es) → AllByRecursion (λ e. test e ≡ false) (e ∷ es)
    go true x y rest = absurd cc
    go false x y rest = (x, rest y)

twice : (b : Bool) → not b ≡ false → b ≡ true
twice true k = refl
twice false k = absurd (true≢false k)

-- trees without a difference are the same
pub no_difference_same : (old new : Tree) → IsTree old → IsTree new → difference old new ≡ [] → old ≡ new
no_difference_same old new t u h =
    same_tree old new t.in_order u.in_order (λ q. go q (at new q) refl (at old q) refl)
  where
    parts : (where_path (λ p. not (has new p)) old ≡ []) × (filter (λ e. not (has_entry (at old e.0) e.1)) new ≡ [])
    parts =
        let both = nothing_left (deletes_of (where_path (λ p. not (has new p)) old)) (puts_of (filter (λ e. not (has_entry (at old e.0) e.1)) new)) h in
        (no_deletes (where_path (λ p. not (has new p)) old) both.0, no_puts (filter (λ e. not (has_entry (at old e.0) e.1)) new) both.1)

    -- an entry of the new tree
    found : (es : Tree) → AllByRecursion (λ e. not (has_entry (at old e.0) e.1) ≡ false) es → (q : Bytes) (v : Entry) → at es q ≡ Some v → at old q ≡ Some v
    found [] a q v x = absurd cc
    found (e ∷ es) a q v x = by (eq_by_cmp by_bytes q e.0) refl x (found es a.1 q v)
      where
        by : (b : Bool) → eq_by_cmp by_bytes q e.0 ≡ b → cond b (Some e.1) (at es q) ≡ Some v → (at es q ≡ Some v → at old q ≡ Some v) → at old q ≡ Some v
        by true y z rest =
            let value : e.1 ≡ v = cc in
            ap (at old) (same_path q e.0 y) ∙ is_there (at old e.0) e.1 (twice (has_entry (at old e.0) e.1) a.0) ∙ ap (λ (w : Entry). Some w) value
        by false y z rest = rest z

    go : (q : Bytes) (o : Option Entry) → at new q ≡ o → (p : Option Entry) → at old q ≡ p → at old q ≡ at new q
    go q (Some v) x p y = found new (none_filtered (λ e. not (has_entry (at old e.0) e.1)) new parts.1) q v x ∙ sym x
    go q None x None y = y ∙ sym x
    go q None x (Some w) y =
        let stays_there : has (where_path (λ p. not (has new p)) old) q ≡ true =
        ap is_some (at_where (λ p. not (has new p)) q old ∙ ap (λ (o : Option Entry). cond (not (is_some o)) (at old q) None) x ∙ y) in
        let gone : has (where_path (λ p. not (has new p)) old) q ≡ false = ap (λ (es : Tree). has es q) parts.0 in
        absurd (true≢false (sym stays_there ∙ gone))

pub difference_decides : (old new : Tree) → IsTree old → IsTree new → is_none (difference old new) ≡ are_same old new
difference_decides old new t u = go (is_none (difference old new)) refl (are_same old new) refl
  where
    empty : (ops : List FileOp) → is_none ops ≡ true → ops ≡ []
    empty [] k = refl
    empty (op ∷ ops) k = absurd (true≢false (sym k))

    go : (a : Bool) → is_none (difference old new) ≡ a → (b : Bool) → are_same old new ≡ b → is_none (difference old new) ≡ are_same old new
    go true x true y = x ∙ sym y
    go false x false y = x ∙ sym y
    go true x false y =
        let is = no_difference_same old new t u (empty (difference old new) x) in
        absurd (true≢false (sym (same_itself old) ∙ ap (are_same old) is ∙ y))
    go false x true y =
        let is = same_is old new y in
        absurd (true≢false (sym (ap is_none (ap (λ (s : Tree). difference s new) is ∙ same_difference new u.in_order)) ∙ x))
