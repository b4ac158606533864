use Rattle.std.proofs.Common.{rules, ◌≡◌, ◌∷◌, ◌++◌, [], ◌+◌, take, refl, sym, ap, ◌∙◌}
use Rattle.std.proofs.lemmas.List.{take_more, take_all}
use Rattle.plain_model.specs.Paths.{Bytes}
use Rattle.plain_model.specs.Trees.{TreeOf}
use Rattle.path_tree.specs.declared.folder.Child.{Child}
use Rattle.path_tree.specs.Folders.{Member}
use Rattle.path_tree.specs.Inside.{rows_of, member_of}
use Rattle.path_tree.proofs.Searching.{rows_of_append}
use Rattle.path_tree.proofs.folder.block.shared.Goals as goal

pub loop-child-init : goal.loop-child-init
loop-child-init c = rw c.in_ok-shared.ensures.items refl

pub loop-child-preserved : goal.loop-child-preserved
loop-child-preserved c =
    let items = c.args.children.now in
    let before = take c.loop-child.child-index items in
    let child = c.child-item.result in
    let copy : Child = record { key = c.in_ok-key.key; node = c.in_ok-node.node } in
    let front : take (c.loop-child.child-index + 1) items ≡ before ++ child ∷ [] = search (rules, take_more) in
    let same_key : c.in_ok-key.key.value.items ≡ child.key.value.items = search rules in
    ap rows_of c.in_ok-push.ensures.items
    ∙ rows_of_append c.loop-child.shared.items (copy ∷ [])
    ∙ ap (λ (l : TreeOf Member). l ++ rows_of (copy ∷ [])) c.loop-child.invariant
    ∙ ap (λ (k : Bytes). rows_of before ++ (k, member_of c.in_ok-node.node) ∷ []) same_key
    ∙ ap (λ (m : Member). rows_of before ++ (child.key.value.items, m) ∷ []) c.in_ok-node.ensures
    ∙ sym (rows_of_append before (child ∷ []))
    ∙ ap rows_of (sym front)

pub returns : goal.returns
returns c = c.loop-child.invariant ∙ ap rows_of (take_all c.loop-child.child-index c.args.children.now c.loop-child-test.false)
