-- A tree whose paths are put one by one, after nothing, is there again.
use Rattle.std.proofs.Common.{◌≡◌, ◌≤◌, true, [], ◌∷◌, length, refl, sym, ap, subst, ◌∙◌, inl, inr, ◌⊎◌, is_some, Option, Some, None, Ok}
use Rattle.plain_model.specs.declared.limit.TheConstants.{MAX_PATHS}
use Rattle.plain_model.specs.declared.operation.Entry.{Entry}
use Rattle.plain_model.specs.declared.operation.FileOp.TheVariants.{DeleteAll}
use Rattle.plain_model.specs.Paths.{Bytes}
use Rattle.plain_model.specs.Trees.{IsTree, Tree, apply_all, at, has, put}
use Rattle.history_laws.proofs.TreeMaps.{IsOrdered, entries_found, found_has, ordered_puts, puts, puts_agree, same_tree}
use Rattle.edit_laws.proofs.Puts.{puts_apply}
use Rattle.edit_laws.specs.Puts.{puts_of}

-- ---- a run of puts

-- all entries of a tree, put into the empty one, give the tree
puts_all : (tree : Tree) → IsOrdered tree → puts tree [] ≡ tree
puts_all tree s = same_tree (puts tree []) tree (ordered_puts tree [] tt) s (λ q. puts_agree tree tree [] (entries_found tree s) q (go q (at tree q) refl))
  where
    go : (q : Bytes) (o : Option Entry) → at tree q ≡ o → (has tree q ≡ true) ⊎ (None ≡ at tree q)
    go q None e = inr (sym e)
    go q (Some v) e = inl (ap is_some e)

-- a put for each path, in byte order, gives the tree
pub puts_give_tree : (tree : Tree) → IsTree tree → length tree ≤ MAX_PATHS → apply_all (puts_of tree) [] ≡ Ok tree
puts_give_tree tree t few =
    puts_apply tree t tree [] tt (found_has tree tree (entries_found tree t.in_order)) (λ q h. absurd cc) (subst (λ n. n ≤ MAX_PATHS) (sym (ap length (puts_all tree t.in_order))) few)
    ∙ ap (λ (r : Tree). Ok r) (puts_all tree t.in_order)

-- and so after `deleteall`, whatever was there
pub written_anew : (tree old : Tree) → IsTree tree → length tree ≤ MAX_PATHS → apply_all (DeleteAll ∷ puts_of tree) old ≡ Ok tree
written_anew tree old t few = puts_give_tree tree t few
