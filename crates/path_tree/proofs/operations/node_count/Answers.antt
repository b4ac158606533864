use Rattle.std.proofs.Common.{rules, ◌≡◌, ◌∙◌, ◌∷◌, [], length, sym, ap, Option, Some, option_map}
use Rattle.plain_model.specs.Trees.{Tree}
use Rattle.path_tree.specs.declared.folder.Node.{Node}
use Rattle.path_tree.specs.declared.folder.Node.TheVariants.{Subfolder}
use Rattle.path_tree.specs.Inside.{bounded, member_of}
use Rattle.path_tree.specs.Setting.{suffixes}
use Rattle.path_tree.proofs.Measures.{length_prefixed}
use Rattle.path_tree.proofs.operations.node_count.Goals as goal

pub returns-in-Some-Subfolder : goal.returns-in-Some-Subfolder
returns-in-Some-Subfolder c =
    let below = c.in-Some-Subfolder.folder in
    let node_is : c.args.node.now ≡ Some (Subfolder c.in-Some-Subfolder.folder) = search rules in
    c.count.ensures.number
    ∙ ap (λ (t : Tree). bounded (length t)) c.deref.ensures
    ∙ ap bounded (sym (length_prefixed (47 ∷ []) below.value))
    ∙ ap (λ (o : Option Node). bounded (length (suffixes (option_map member_of o)))) (sym node_is)
