use Rattle.std.proofs.Common.{arith, sym, ap, subst, ◌∙◌}
use Rattle.path_tree.specs.declared.folder.Node.{Node}
use Rattle.path_tree.specs.Folders.{Fits, prefixed, member_tree}
use Rattle.path_tree.specs.Inside.{extent_of, member_of}
use Rattle.path_tree.proofs.Measures.{count_is, longest_is, extent_is, length_prefixed, longest_prefixed}
use Rattle.path_tree.proofs.folder.extent.extent_under.Goals as goal

pub returns-in-Subfolder : goal.returns-in-Subfolder
returns-in-Subfolder c =
    let key = c.args.key.now in
    let below = c.in-Subfolder.below.value in
    let fits = subst (λ (n : Node). Fits key (member_of n)) c.in-Subfolder.is c.requires in
    let was = c.extent-below.ensures ∙ ap extent_of c.deref.ensures in
    let n = count_is c.extent-below.result below was in
    let l = longest_is c.extent-below.result below was in
    extent_is _ (prefixed key below)
    (omega (arith, n, length_prefixed key below))
    (omega (arith, c.saturating_add.ensures, l, longest_prefixed key below fits.1))
    ∙ ap (λ (x : Node). extent_of (prefixed key (member_tree (member_of x)))) (sym c.in-Subfolder.is)
