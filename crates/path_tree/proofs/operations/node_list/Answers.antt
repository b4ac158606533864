use Rattle.std.proofs.Common.{rules, ◌≡◌, ◌++◌, ◌∷◌, [], sym, ap, subst, ◌∙◌, Option, Some, option_map}
use Rattle.plain_model.specs.Paths.{Bytes}
use Rattle.plain_model.specs.Trees.{Tree}
use Rattle.path_tree.specs.declared.folder.Node.{Node}
use Rattle.path_tree.specs.declared.folder.Node.TheVariants.{Subfolder}
use Rattle.path_tree.specs.Folders.{prefixed}
use Rattle.path_tree.specs.Inside.{member_of}
use Rattle.path_tree.specs.Setting.{suffixes}
use Rattle.history_laws.specs.SoundTrees.{AllPaths}
use Rattle.path_tree.proofs.Listing.{prefixed_prefixed}
use Rattle.path_tree.proofs.operations.node_list.Goals as goal

pub list-requires : goal.list-requires
list-requires c =
    let p = c.args.path.now in
    let below = c.in-Some-Subfolder.folder.value in
    let node_is : c.args.node.now ≡ Some (Subfolder c.in-Some-Subfolder.folder) = search rules in
    let long = c.as_slice.ensures.value ∙ c.in_ok-long-in-Some-Subfolder.ensures ∙ ap (λ (x : Bytes). x ++ 47 ∷ []) c.as_bytes.ensures.value in
    let all = subst (λ (o : Option Node). AllPaths (prefixed p (suffixes (option_map member_of o)))) node_is c.requires in
    subst (λ (x : Bytes). AllPaths (prefixed x c.deref.result.now)) (sym long)
    (subst (λ (t : Tree). AllPaths (prefixed (p ++ 47 ∷ []) t)) (sym c.deref.ensures)
    (subst (λ (t : Tree). AllPaths t) (prefixed_prefixed p (47 ∷ []) below) all))

pub returns-in_ok-list-in-Some-Subfolder : goal.returns-in_ok-list-in-Some-Subfolder
returns-in_ok-list-in-Some-Subfolder c =
    let p = c.args.path.now in
    let below = c.in-Some-Subfolder.folder.value in
    let node_is : c.args.node.now ≡ Some (Subfolder c.in-Some-Subfolder.folder) = search rules in
    let long = c.as_slice.ensures.value ∙ c.in_ok-long-in-Some-Subfolder.ensures ∙ ap (λ (x : Bytes). x ++ 47 ∷ []) c.as_bytes.ensures.value in
    c.in_ok-list-in-Some-Subfolder.ensures
    ∙ ap (λ (l : Tree). l ++ prefixed c.as_slice.result.now c.deref.result.now) c.empty-list.ensures
    ∙ ap (λ (x : Bytes). prefixed x c.deref.result.now) long
    ∙ ap (λ (t : Tree). prefixed (p ++ 47 ∷ []) t) c.deref.ensures
    ∙ sym (prefixed_prefixed p (47 ∷ []) below)
    ∙ ap (λ (o : Option Node). prefixed p (suffixes (option_map member_of o))) (sym node_is)
