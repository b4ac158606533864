-- A run of puts gives the tree with these entries put into it.
use Rattle.std.proofs.Common.{◌≡◌, ◌≤◌, Bool, true, false, cond, [], ◌∷◌, length, refl, sym, ap, subst, ◌∙◌, is_some, Some, Result, Ok, le_trans}
use Rattle.std.specs.List.{AllByRecursion}
use Rattle.std.specs.Ordering.{eq_by_cmp}
use Rattle.plain_model.specs.declared.limit.TheConstants.{MAX_PATHS}
use Rattle.plain_model.specs.Paths.{Bytes}
use Rattle.plain_model.specs.Trees.{IsTree, Refusal, Tree, apply_all, at, has, put, within_paths, ◌>>=◌}
use Rattle.history_laws.proofs.TreeLaws.{at_put, by_bytes, same_path}
use Rattle.history_laws.proofs.TreeMaps.{IsOrdered, clear_put, length_puts, ordered_put, puts, within_small}
use Rattle.edit_laws.specs.Puts.{puts_of}

-- puts at paths of one tree, over some of its paths
pub puts_apply : (whole : Tree) → IsTree whole → (es base : Tree) → IsOrdered base → AllByRecursion (λ e. has whole e.0 ≡ true) es → ((q : Bytes) → has base q ≡ true → has whole q ≡ true) → length (puts es base) ≤ MAX_PATHS
    → apply_all (puts_of es) base ≡ Ok (puts es base)
puts_apply whole w [] base s k within few = refl
puts_apply whole w (e ∷ es) base s k within few =
    let is = clear_put e.0 e.1 base s (λ q h. w.apart e.0 q k.0 (within q h)) in
    let grown = ordered_put e.0 e.1 base s in
    let small = within_small (put e.0 e.1 base) (le_trans (length_puts es (put e.0 e.1 base) grown) few) in
    ap (λ (t : Tree). within_paths t >>= apply_all (puts_of es)) is
    ∙ ap (λ (r : Result Tree Refusal). r >>= apply_all (puts_of es)) small
    ∙ puts_apply whole w es (put e.0 e.1 base) grown k.1 (λ q h. inside q h) few
  where
    inside : (q : Bytes) → has (put e.0 e.1 base) q ≡ true → has whole q ≡ true
    inside q h = go (eq_by_cmp by_bytes q e.0) refl (ap is_some (sym (at_put e.0 q e.1 base)) ∙ h)
      where
        go : (b : Bool) → eq_by_cmp by_bytes q e.0 ≡ b → is_some (cond (eq_by_cmp by_bytes q e.0) (Some e.1) (at base q)) ≡ true → has whole q ≡ true
        go true x y = subst (λ (p : Bytes). has whole p ≡ true) (sym (same_path q e.0 x)) k.0
        go false x y = within q (ap (λ b. is_some (cond b (Some e.1) (at base q))) (sym x) ∙ y)
