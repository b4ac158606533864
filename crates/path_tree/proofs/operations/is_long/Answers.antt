use Rattle.std.proofs.Common.{rules, ◌≡◌, sym, ap, subst, ◌∙◌, Option, Some, option_map, nat_lt, arith}
use Rattle.std.proofs.lemmas.Bool.Decides.{nat_tests}
use Rattle.plain_model.specs.declared.limit.TheConstants.{MAX_PATH_BYTES}
use Rattle.path_tree.specs.declared.folder.Node.{Node}
use Rattle.path_tree.specs.declared.folder.Node.TheVariants.{Subfolder}
use Rattle.path_tree.specs.Folders.{longest, prefixed}
use Rattle.path_tree.specs.Inside.{member_of, bounded}
use Rattle.path_tree.specs.Setting.{suffixes, FitsNode}
use Rattle.path_tree.proofs.Suffixes.{long_folder}
use Rattle.path_tree.proofs.operations.is_long.Goals as goal

pub returns-in-Some-Subfolder : goal.returns-in-Some-Subfolder
returns-in-Some-Subfolder c =
    let t = c.args.target.now in
    let below = c.in-Some-Subfolder.folder.value in
    let node_is : c.args.node.now ≡ Some (Subfolder c.in-Some-Subfolder.folder) = search rules in
    let fits = subst (λ (o : Option Node). FitsNode (option_map member_of o)) node_is c.requires in
    let l : c.longest.result ≡ bounded (longest below) = c.longest.ensures ∙ ap (λ x. bounded (longest x)) c.deref.ensures in
    subst (λ (o : Option Node). nat_lt MAX_PATH_BYTES c.saturating_add-in-Some-Subfolder.result ≡ nat_lt MAX_PATH_BYTES
    (longest (prefixed t (suffixes (option_map member_of o))))) (sym node_is)
    (grind (arith, nat_tests, c.saturating_add-in-Some-Subfolder.ensures, c.saturating_add.ensures, l, long_folder t below fits.0))
