-- A folder gives way to a file, and another file comes before: that needs room which a deletion of the folder had made.
use Rattle.std.proofs.Common.{◌≡◌, ℕ, ◌+◌, ◌≤◌, suc, Bool, true, false, cond, not, [], ◌∷◌, length, ap, ◌∙◌, arith, nat_lt, codes, Some, None, Result, Ok, Err, is_some}
use Rattle.std.specs.Prelude.{IsSome}
use Rattle.std.specs.Cmp.Lexicographic.{nat_list_cmp_total}
use Rattle.std.specs.FinMap.Entries as entries
use Rattle.std.proofs.lemmas.Bool.{cond-false, cond-true}
use Rattle.std.proofs.lemmas.Bool.Decides.{nat_tests}
use Rattle.plain_model.specs.declared.limit.TheConstants.{MAX_PATHS}
use Rattle.plain_model.specs.declared.operation.Entry.{Entry}
use Rattle.plain_model.specs.declared.operation.Content.TheVariants.{Blob as OfBlob}
use Rattle.plain_model.specs.declared.operation.Mode.TheVariants.{Plain}
use Rattle.plain_model.specs.Histories.{folded, if_ok}
use Rattle.plain_model.specs.Paths.{Bytes, is_at_or_below, is_in_the_way}
use Rattle.plain_model.specs.Trees.{IsTree, Refusal, Tree, apply, apply_all, at, cleared_for, put, within_paths, without, ◌>>=◌}
use Rattle.history_laws.proofs.TreeLaws.{by_bytes}
use Rattle.history_laws.specs.Examples as examples
use Rattle.history_laws.proofs.TreeMaps.{IsOrdered, length_where, ordered_put, ordered_where, within_small}
use Rattle.simplify_laws.specs.Examples.{folder_goes, folder_goes_last}

-- ---- how many paths

-- a put at most adds one path, and adds one where nothing is there
one_more : (p : Bytes) (e : Entry) (t : Tree) → IsOrdered t → length (put p e t) ≤ suc (length t)
one_more p e t o =
    let is = entries.length-put by_bytes nat_list_cmp_total p e t o in
    let most = each (is_some (at t p)) in
    omega arith
  where
    each : (b : Bool) → cond b (length t) (length t + 1) ≤ suc (length t)
    each true = omega arith
    each false = omega arith

one_new : (p : Bytes) (e : Entry) (t : Tree) → IsOrdered t → at t p ≡ None → length (put p e t) ≡ suc (length t)
one_new p e t o none =
    let is = entries.length-put by_bytes nat_list_cmp_total p e t o in
    let other : cond (is_some (at t p)) (length t) (length t + 1) ≡ length t + 1 = cond-false (is_some (at t p)) (length t) (length t + 1) (ap is_some none) in
    omega arith

too_many : (n : ℕ) → n ≡ suc MAX_PATHS → nat_lt MAX_PATHS n ≡ true
too_many n h = grind (arith, nat_tests)

passes : (t : Tree) → length t ≡ suc MAX_PATHS → within_paths t ≡ Err Refusal.Paths
passes t h = cond-true (nat_lt MAX_PATHS (length t)) (Err Refusal.Paths) (Ok t) (too_many (length t) h)

-- ---- the two lists

abbrev blob : Entry
blob = record { mode = Plain; content = OfBlob 1 }

abbrev put_in : Bytes → Tree → Tree
put_in p t = put p blob (cleared_for p t)

put_order : (p : Bytes) (t : Tree) → IsOrdered t → IsOrdered (put_in p t)
put_order p t o = ordered_put p blob (cleared_for p t) (ordered_where (λ q. not (is_in_the_way p q)) t o)

put_length : (p : Bytes) (t : Tree) → IsOrdered t → length (put_in p t) ≤ suc (length t)
put_length p t o =
    let fewer = length_where (λ q. not (is_in_the_way p q)) t in
    let more = one_more p blob (cleared_for p t) (ordered_where (λ q. not (is_in_the_way p q)) t o) in
    omega arith

put_applies : (p : Bytes) (t : Tree) → IsOrdered t → length t + 1 ≤ MAX_PATHS → apply (examples.put 1 p) t ≡ Ok (put_in p t)
put_applies p t o few = let most = put_length p t o in within_small (put_in p t) (omega arith)

pub room_before : (full : Tree) → length (without (codes "d") full) + 2 ≤ MAX_PATHS → IsTree full → IsSome (folded folder_goes (Some full))
room_before full few its =
    let gone = without (codes "d") full in
    let o : IsOrdered gone = ordered_where (λ q. not (is_at_or_below (codes "d") q)) full its.in_order in
    let first = put_applies (codes "e") gone o (omega arith) in
    let most = put_length (codes "e") gone o in
    let second = put_applies (codes "d") (put_in (codes "e") gone) (put_order (codes "e") gone o) (omega arith) in
    let all : apply_all folder_goes full ≡ Ok (put_in (codes "d") (put_in (codes "e") gone)) =
    ap (λ (r : Result Tree Refusal). r >>= apply_all (examples.put 1 (codes "d") ∷ [])) first
    ∙ ap (λ (r : Result Tree Refusal). r >>= apply_all []) second in
    ap (λ (r : Result Tree Refusal). is_some (if_ok r)) all

pub no_room_after : (full : Tree) → length full ≡ MAX_PATHS → IsTree full → at full (codes "e") ≡ None → cleared_for (codes "e") full ≡ full →
    folded folder_goes_last (Some full) ≡ None
no_room_after full many its none apart =
    let same : length (put_in (codes "e") full) ≡ length (put (codes "e") blob full) = ap (λ (t : Tree). length (put (codes "e") blob t)) apart in
    let new = one_new (codes "e") blob full its.in_order none in
    let first = passes (put_in (codes "e") full) (omega arith) in
    ap (λ (r : Result Tree Refusal). if_ok (r >>= apply_all (examples.put 1 (codes "d") ∷ []))) first
