use Rattle.std.proofs.Common.{◌++◌, arith, sym, ap, ◌∙◌}
use Rattle.std.proofs.lemmas.Bool.Decides.{nat_tests}
use Rattle.path_tree.specs.Folders.{longest}
use Rattle.path_tree.specs.Inside.{bounded}
use Rattle.path_tree.proofs.Measures.{count_is, longest_is, extent_is, trees_append, longest_append}
use Rattle.path_tree.proofs.folder.extent.exchanged.Goals as goal

pub returns : goal.returns
returns c rest old new before gone come =
    let b = count_is c.args.before (rest ++ old) before in
    let g = count_is c.args.change.gone old gone in
    let n = count_is c.args.change.come new come in
    extent_is _ (rest ++ new)
    (grind (arith, nat_tests, c.saturating_add-count.ensures, b, g, n, c.if-before-eq18446744073709551615.false, trees_append rest old, trees_append rest new))
    (c.in_ok-longest.ensures (longest rest) (longest old) (longest new)
    (longest_is c.args.before (rest ++ old) before ∙ ap bounded (longest_append rest old))
    (longest_is c.args.change.gone old gone)
    (longest_is c.args.change.come new come)
    ∙ ap bounded (sym (longest_append rest new)))
