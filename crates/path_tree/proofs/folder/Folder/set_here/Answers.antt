use Rattle.std.proofs.Common.{rules, ◌≡◌, ◌++◌, ◌∷◌, [], sym, subst, ◌∙◌, Option, Some, None, option_map}
use Rattle.plain_model.specs.Paths.{Bytes}
use Rattle.path_tree.specs.declared.folder.Node.{Node}
use Rattle.path_tree.specs.declared.folder.Node.TheVariants.{File, Subfolder}
use Rattle.path_tree.specs.Folders.Member.{file, folder}
use Rattle.path_tree.specs.Inside.{member_of}
use Rattle.path_tree.specs.Setting.{FitsIf, FitsNode, Places, PutsOver}
use Rattle.path_tree.proofs.Blocks.{on_ok}
use Rattle.path_tree.proofs.Placing.{here_places, nothing_here, file_here, folder_here, long_key, long_apart, short_apart}
use Rattle.path_tree.proofs.folder.Folder.set_here.Goals as goal

pub set_keys-requires-clause-apart : goal.set_keys-requires-clause-apart
set_keys-requires-clause-apart c = rw (c.as_slice.ensures.value, c.in_ok-long.ensures) (long_apart c.args.name.now)

pub set_keys-requires-in-Some-File-clause-apart : goal.set_keys-requires-in-Some-File-clause-apart
set_keys-requires-in-Some-File-clause-apart c = rw (c.as_slice-in-Some-File.ensures.value, c.in_ok-long.ensures) (long_apart c.args.name.now)

pub set_keys-requires-in-Some-Subfolder-clause-apart : goal.set_keys-requires-in-Some-Subfolder-clause-apart
set_keys-requires-in-Some-Subfolder-clause-apart c = rw (c.as_slice-in-Some-Subfolder.ensures.value, c.in_ok-long.ensures) (short_apart c.args.name.now)

pub set_keys-requires-in-Some-Subfolder-clause-fits :
    goal.set_keys-requires-in-Some-Subfolder-clause-fits
set_keys-requires-in-Some-Subfolder-clause-fits c =
    let long : c.as_slice-in-Some-Subfolder.result.now ≡ c.args.name.now ++ 47 ∷ [] = c.as_slice-in-Some-Subfolder.ensures.value ∙ c.in_ok-long.ensures in
    let node_is : c.args.node.now ≡ Some (Subfolder c.in-Some-Subfolder.field-0-0) = search rules in
    let fits = subst (λ (o : Option Node). FitsNode (option_map member_of o)) node_is c.requires.fits in
    subst (λ (o : Option Node). FitsIf c.as_slice-in-Some-Subfolder.result.now (option_map member_of o)) (sym node_is)
    (rw long (long_key c.args.name.now c.requires.is_name, fits.0, fits.1))

pub returns-in-None-clause-places : goal.returns-in-None-clause-places
returns-in-None-clause-places c =
    let name = c.args.name.now in
    let old = c.args.self.now in
    let new = c.set_keys.new.self in
    let long : c.as_slice.result.now ≡ name ++ 47 ∷ [] = c.as_slice.ensures.value ∙ c.in_ok-long.ensures in
    on_ok c.set_keys.result c.set_keys.ensures.done
    (λ done clear.
    let over = subst (λ (k : Bytes). PutsOver name k (option_map member_of c.args.node.now) old new) long done in
    subst (λ (o : Option Node). Places name (option_map member_of o) clear old new) (sym c.in-None.is)
    (here_places name None clear old new c.requires.is_name
    (nothing_here name old new (subst (λ (o : Option Node). PutsOver name (name ++ 47 ∷ []) (option_map member_of o) old new) c.in-None.is over))))

pub returns-in-Some-File-clause-places : goal.returns-in-Some-File-clause-places
returns-in-Some-File-clause-places c =
    let name = c.args.name.now in
    let old = c.args.self.now in
    let new = c.set_keys-in-Some-File.new.self in
    let entry = c.in-Some-File.field-0-0 in
    let node_is : c.args.node.now ≡ Some (File entry) = search rules in
    let long : c.as_slice-in-Some-File.result.now ≡ name ++ 47 ∷ [] = c.as_slice-in-Some-File.ensures.value ∙ c.in_ok-long.ensures in
    on_ok c.set_keys-in-Some-File.result c.set_keys-in-Some-File.ensures.done
    (λ done clear.
    let over = subst (λ (k : Bytes). PutsOver name k (option_map member_of c.args.node.now) old new) long done in
    subst (λ (o : Option Node). Places name (option_map member_of o) clear old new) (sym node_is)
    (here_places name (Some (file entry)) clear old new c.requires.is_name
    (file_here name entry old new (subst (λ (o : Option Node). PutsOver name (name ++ 47 ∷ []) (option_map member_of o) old new) node_is over))))

pub returns-clause-places : goal.returns-clause-places
returns-clause-places c =
    let name = c.args.name.now in
    let old = c.args.self.now in
    let new = c.set_keys-in-Some-Subfolder.new.self in
    let below = c.in-Some-Subfolder.field-0-0 in
    let node_is : c.args.node.now ≡ Some (Subfolder below) = search rules in
    let long : c.as_slice-in-Some-Subfolder.result.now ≡ name ++ 47 ∷ [] = c.as_slice-in-Some-Subfolder.ensures.value ∙ c.in_ok-long.ensures in
    on_ok c.set_keys-in-Some-Subfolder.result c.set_keys-in-Some-Subfolder.ensures.done
    (λ done clear.
    let over = subst (λ (k : Bytes). PutsOver k name (option_map member_of c.args.node.now) old new) long done in
    subst (λ (o : Option Node). Places name (option_map member_of o) clear old new) (sym node_is)
    (here_places name (Some (folder below.value)) clear old new c.requires.is_name
    (folder_here name below.value old new (subst (λ (o : Option Node). PutsOver (name ++ 47 ∷ []) name (option_map member_of o) old new) node_is over))))
