use Rattle.std.proofs.Common.{rules, ◌≡◌, ◌∷◌, ◌++◌, [], ◌+◌, take, drop, refl, sym, ap, subst, ◌∙◌, List}
use Rattle.std.proofs.lemmas.List.{take_more, drop_more, take_all}
use Rattle.plain_model.specs.Paths.{Bytes}
use Rattle.path_tree.specs.declared.folder.Child.{Child}
use Rattle.path_tree.specs.Folders.{flat, prefixed, member_tree, AllFit}
use Rattle.path_tree.specs.Inside.{rows_of, row_tree, member_of, extent_of}
use Rattle.path_tree.proofs.Measures.{flat_push}
use Rattle.path_tree.proofs.folder.extent.counted.Goals as goal

pub loop-child-init : goal.loop-child-init
loop-child-init c = record { extent = refl; fit = c.requires }

pub extent_under-requires : goal.extent_under-requires
extent_under-requires c =
    let more : drop c.loop-child.child-index c.args.children.now ≡ c.child-item.result ∷ drop (c.loop-child.child-index + 1) c.args.children.now =
    search (rules, drop_more) in
    rw (c.as_slice.ensures.value, c.deref.ensures) (subst (λ (l : List Child). AllFit (rows_of l)) more c.loop-child.invariant.fit).0

pub loop-child-preserved : goal.loop-child-preserved
loop-child-preserved c =
    let items = c.args.children.now in
    let before = take c.loop-child.child-index items in
    let child = c.child-item.result in
    let front : take (c.loop-child.child-index + 1) items ≡ before ++ child ∷ [] = search (rules, take_more) in
    let more : drop c.loop-child.child-index items ≡ child ∷ drop (c.loop-child.child-index + 1) items = search (rules, drop_more) in
    let row : c.extent_under.result ≡ extent_of (row_tree child) =
    c.extent_under.ensures ∙ ap (λ (k : Bytes). extent_of (prefixed k (member_tree (member_of child.node))))
    (c.as_slice.ensures.value ∙ rw c.deref.ensures refl) in
    record {
      extent =
          c.joined-extent.ensures (flat (rows_of before)) (row_tree child) c.loop-child.invariant.extent row
          ∙ ap extent_of (sym (flat_push before child) ∙ ap (λ (l : List Child). flat (rows_of l)) (sym front));
      fit = (subst (λ (l : List Child). AllFit (rows_of l)) more c.loop-child.invariant.fit).1;
    }

pub returns : goal.returns
returns c =
    c.loop-child.invariant.extent
    ∙ ap (λ (l : List Child). extent_of (flat (rows_of l))) (take_all c.loop-child.child-index c.args.children.now c.loop-child-test.false)
