use Rattle.std.proofs.Common.{◌≡◌, ◌++◌, ◌∷◌, [], true, sym, ap, subst, ◌∙◌, Some, None, refl}
use Rattle.plain_model.specs.Paths.{Bytes}
use Rattle.plain_model.specs.Trees.{Tree, at}
use Rattle.path_tree.specs.Folders.Member.{folder}
use Rattle.path_tree.specs.Setting.{ends_with_slash}
use Rattle.path_tree.proofs.Keys.{at_prefixed, folder_all}
use Rattle.path_tree.proofs.Suffixes.{ends, finds_folder, empty_of_count}
use Rattle.path_tree.proofs.operations.folder_node.Goals as goal

pub folder_at-requires : goal.folder_at-requires
folder_at-requires c = subst (λ (x : Bytes). ends_with_slash x ≡ true) (sym (c.as_slice.ensures.value ∙ c.in_ok-long.ensures)) (ends c.args.path.now)

pub returns-in-None-clause-found : goal.returns-in-None-clause-found
returns-in-None-clause-found c =
    let old = c.args.root.now in
    let below = subst (λ (x : Bytes). (r : Bytes) → at old (x ++ r) ≡ at [] r) (c.as_slice.ensures.value ∙ c.in_ok-long.ensures) c.in-None.ensures in
    finds_folder c.args.path.now [] old None c.requires below refl (λ r. refl)

pub returns-then-count-eq0-clause-found : goal.returns-then-count-eq0-clause-found
returns-then-count-eq0-clause-found c =
    let old = c.args.root.now in
    let t = c.in-Some.folder.now.value in
    let below = subst (λ (x : Bytes). (r : Bytes) → at old (x ++ r) ≡ at t r) (c.as_slice.ensures.value ∙ c.in_ok-long.ensures) c.in-Some.ensures in
    let none : t ≡ [] = sym c.deref.ensures ∙ empty_of_count c.deref.result.now (sym c.count.ensures.number ∙ c.if-count-eq0.true) in
    finds_folder c.args.path.now t old None c.requires below refl (λ r. sym (ap (λ (x : Tree). at x r) none))

pub returns-clause-found : goal.returns-clause-found
returns-clause-found c =
    let old = c.args.root.now in
    let t = c.in-Some.folder.now.value in
    let new = c.in_ok-folder-in-Some.folder.value in
    let below = subst (λ (x : Bytes). (r : Bytes) → at old (x ++ r) ≡ at t r) (c.as_slice.ensures.value ∙ c.in_ok-long.ensures) c.in-Some.ensures in
    let is : t ≡ new = sym c.in_ok-folder-in-Some.ensures in
    let split = folder_all (47 ∷ []) new refl in
    finds_folder c.args.path.now t old (Some (folder new)) c.requires below (at_prefixed [] (47 ∷ []) new split)
    (λ r. at_prefixed (47 ∷ r) (47 ∷ []) new split ∙ ap (λ (x : Tree). at x r) (sym is))
