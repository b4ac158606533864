use Rattle.std.proofs.Common.{rules, ◌≡◌, ◌<◌, ◌≤◌, ◌+◌, ◌++◌, ◌∷◌, [], take, drop, arith, sym, ap, subst, ◌∙◌, List, append_assoc, append-nil}
use Rattle.std.proofs.lemmas.List.{take_more, drop_more, take_all}
use Rattle.plain_model.specs.Paths.{Bytes, IsPath}
use Rattle.plain_model.specs.Trees.{Tree}
use Rattle.path_tree.specs.declared.folder.Child.{Child}
use Rattle.path_tree.specs.declared.folder.Node.{Node}
use Rattle.path_tree.specs.Folders.{prefixed, flat, member_tree, total, AllFit}
use Rattle.path_tree.specs.Inside.{rows_in, rows_of, member_of}
use Rattle.history_laws.specs.SoundTrees.{AllPaths}
use Rattle.path_tree.specs.Falls.{append_fit, flat_total}
use Rattle.path_tree.proofs.Blocks.{blocks_push, on_ok, rows_at, Block}
use Rattle.path_tree.proofs.Listing.{parts_are, prefixed_append, left_is, so_far_is, first_paths, second_paths, file_path, smaller, less_left}
use Rattle.path_tree.proofs.folder.+listing.Goals as goal
use Rattle.path_tree.proofs.folder.+listing.Goals.{listing::list_block-in-File+in_ok-path_of-in-File+in_ok-push-in-File, listing::list_block-in-Subfolder+in_ok-list-in-Subfolder}

pub listing::list_block-path_of-requires : goal.listing::list_block-path_of-requires
listing::list_block-path_of-requires t c =
    let items = c.args.children.now in
    let rest = drop (c.loop-child.child-index + 1) items in
    let child = c.child-item.result in
    let before = c.args.before.now in
    let more : drop c.loop-child.child-index items ≡ child ∷ rest = search (rules, drop_more) in
    let key : c.as_slice.result.now ≡ child.key.value.items = rw c.deref.ensures at c.as_slice.ensures.value in
    let long : c.in_ok-path.path.items ≡ before ++ child.key.value.items = c.in_ok-path.ensures ∙ ap (λ (x : Bytes). before ++ x) key in
    let both : AllPaths (prefixed (before ++ child.key.value.items) (member_tree (member_of child.node)) ++ prefixed before (flat (rows_of rest))) =
    subst (λ (t : Tree). AllPaths t)
    (ap (λ (l : List Child). prefixed before (flat (rows_of l))) more ∙ left_is before child rest) c.loop-child.invariant.left in
    let here = first_paths (prefixed (before ++ child.key.value.items) (member_tree (member_of child.node))) (prefixed before (flat (rows_of rest))) both in
    let file_here = subst (λ (n : Node). AllPaths (prefixed (before ++ child.key.value.items) (member_tree (member_of n)))) c.in-File.is here in
    subst (λ (x : Bytes). IsPath x) (sym (c.as_slice-in-File.ensures.value ∙ long)) (file_path (before ++ child.key.value.items) c.in-File.entry file_here)

pub listing::list_block-list-requires : goal.listing::list_block-list-requires
listing::list_block-list-requires t c =
    let items = c.args.children.now in
    let rest = drop (c.loop-child.child-index + 1) items in
    let child = c.child-item.result in
    let before = c.args.before.now in
    let more : drop c.loop-child.child-index items ≡ child ∷ rest = search (rules, drop_more) in
    let key : c.as_slice.result.now ≡ child.key.value.items = rw c.deref.ensures at c.as_slice.ensures.value in
    let long : c.in_ok-path.path.items ≡ before ++ child.key.value.items = c.in_ok-path.ensures ∙ ap (λ (x : Bytes). before ++ x) key in
    let both : AllPaths (prefixed (before ++ child.key.value.items) (member_tree (member_of child.node)) ++ prefixed before (flat (rows_of rest))) =
    subst (λ (t : Tree). AllPaths t)
    (ap (λ (l : List Child). prefixed before (flat (rows_of l))) more ∙ left_is before child rest) c.loop-child.invariant.left in
    let here = first_paths (prefixed (before ++ child.key.value.items) (member_tree (member_of child.node))) (prefixed before (flat (rows_of rest))) both in
    let below_here = subst (λ (n : Node). AllPaths (prefixed (before ++ child.key.value.items) (member_tree (member_of n)))) c.in-Subfolder.is here in
    let fit = subst (λ (l : List Child). AllFit (rows_of l)) more c.loop-child.invariant.fit in
    let size = subst (λ (l : List Child). total (flat (rows_of l)) ≤ total (flat (rows_of c.args.children.now))) more c.loop-child.invariant.size in
    let less : total c.in-Subfolder.below.value < total (flat (rows_of c.args.children.now)) =
    smaller child rest c.in-Subfolder.below.value (total (flat (rows_of c.args.children.now))) (ap (λ (n : Node). member_of n) c.in-Subfolder.is) fit size in
    let less_here : total c.deref-in-Subfolder.result.now < total (flat (rows_of c.args.children.now)) = rw c.deref-in-Subfolder.ensures less in (
      omega (arith, less_here, c.decreases),
      subst (λ (x : Bytes). AllPaths (prefixed x c.deref-in-Subfolder.result.now)) (sym (c.as_slice-in-Subfolder.ensures.value ∙ long))
          (subst (λ (t : Tree). AllPaths (prefixed (before ++ child.key.value.items) t)) (sym c.deref-in-Subfolder.ensures) below_here),
    )

pub listing::list_block-loop-child-preserved : goal.listing::list_block-loop-child-preserved
listing::list_block-loop-child-preserved t c =
    let items = c.args.children.now in
    let rest = drop (c.loop-child.child-index + 1) items in
    let child = c.child-item.result in
    let before = c.args.before.now in
    let more : drop c.loop-child.child-index items ≡ child ∷ rest = search (rules, drop_more) in
    let key : c.as_slice.result.now ≡ child.key.value.items = rw c.deref.ensures at c.as_slice.ensures.value in
    let long : c.in_ok-path.path.items ≡ before ++ child.key.value.items = c.in_ok-path.ensures ∙ ap (λ (x : Bytes). before ++ x) key in
    let both : AllPaths (prefixed (before ++ child.key.value.items) (member_tree (member_of child.node)) ++ prefixed before (flat (rows_of rest))) =
    subst (λ (t : Tree). AllPaths t)
    (ap (λ (l : List Child). prefixed before (flat (rows_of l))) more ∙ left_is before child rest) c.loop-child.invariant.left in
    let front : take (c.loop-child.child-index + 1) items ≡ take c.loop-child.child-index items ++ child ∷ [] = search (rules, take_more) in
    let k = before ++ child.key.value.items in
    let added : c.match-child.list ≡ c.loop-child.list ++ prefixed k (member_tree (member_of child.node)) = elim c.match-child.branch [
      | listing::list_block-in-File+in_ok-path_of-in-File+in_ok-push-in-File w ↦
          w.list-is ∙ w.in_ok-push-in-File.ensures.ok
          ∙ ap (λ (p : Bytes). c.loop-child.list ++ (p, w.in-File.entry) ∷ [])
          (w.in_ok-path_of-in-File.ensures ∙ w.as_slice-in-File.ensures.value ∙ long ∙ sym (append-nil k))
          ∙ ap (λ (n : Node). c.loop-child.list ++ prefixed k (member_tree (member_of n))) (sym w.in-File.is)
      | listing::list_block-in-Subfolder+in_ok-list-in-Subfolder w ↦
          w.list-is ∙ w.in_ok-list-in-Subfolder.ensures
          ∙ ap (λ (x : Bytes). c.loop-child.list ++ prefixed x w.deref-in-Subfolder.result.now) (w.as_slice-in-Subfolder.ensures.value ∙ long)
          ∙ ap (λ (t : Tree). c.loop-child.list ++ prefixed k t) w.deref-in-Subfolder.ensures
          ∙ ap (λ (n : Node). c.loop-child.list ++ prefixed k (member_tree (member_of n))) (sym w.in-Subfolder.is)
    ] in
    let put = prefixed k (member_tree (member_of child.node)) in
    record {
      so_far =
          added ∙ ap (λ (l : Tree). l ++ put) c.loop-child.invariant.so_far
          ∙ append_assoc c.args.list.now (prefixed before (flat (rows_of (take c.loop-child.child-index items)))) put
          ∙ ap (λ (l : Tree). c.args.list.now ++ l)
          (sym (so_far_is before (take c.loop-child.child-index items) child) ∙ ap (λ (l : List Child). prefixed before (flat (rows_of l))) (sym front));
      left = second_paths (prefixed (before ++ child.key.value.items) (member_tree (member_of child.node))) (prefixed before (flat (rows_of rest))) both;
      fit = (subst (λ (l : List Child). AllFit (rows_of l)) more c.loop-child.invariant.fit).1;
      size =
          less_left child rest (total (flat (rows_of c.args.children.now)))
          (subst (λ (l : List Child). total (flat (rows_of l)) ≤ total (flat (rows_of c.args.children.now))) more c.loop-child.invariant.size);
    }

-- ---- all blocks

pub listing::list_blocks-list_block-requires : goal.listing::list_blocks-list_block-requires
listing::list_blocks-list_block-requires t c =
    let items = c.args.blocks.now in
    let rest = drop (c.loop-block.block-index + 1) items in
    let block = c.block-item.result in
    let before = c.args.before.now in
    let more : drop c.loop-block.block-index items ≡ block ∷ rest = search (rules, drop_more) in
    let slice : c.as_slice.result.now ≡ block.value.items = c.as_slice.ensures.value ∙ ap (λ (v : _). v.items) c.deref.ensures in
    let left = subst (λ (l : List Block). AllPaths (prefixed before (flat (rows_in l)))) more c.loop-block.invariant.left in
    let fit = subst (λ (l : List Block). AllFit (rows_in l)) more c.loop-block.invariant.fit in
    let size = subst (λ (l : List Block). total (flat (rows_in l)) ≤ total (flat (rows_in items))) more c.loop-block.invariant.size in
    let whole = flat_total (rows_at block) (rows_in rest) in
    let less : total (flat (rows_of c.as_slice.result.now)) ≤ total (flat (rows_in items)) = rw slice (omega (arith, size, whole)) in (
      omega (arith, less, c.decreases),
      (
        subst (λ (l : List Child). AllPaths (prefixed before (flat (rows_of l)))) (sym slice)
            (first_paths (prefixed before (flat (rows_at block))) (prefixed before (flat (rows_in rest)))
            (subst (λ (t : Tree). AllPaths t) (parts_are before (rows_at block) (rows_in rest)) left)),
        subst (λ (l : List Child). AllFit (rows_of l)) (sym slice) (append_fit (rows_at block) (rows_in rest) fit).0,
      ),
    )

pub listing::list_blocks-loop-block-preserved : goal.listing::list_blocks-loop-block-preserved
listing::list_blocks-loop-block-preserved t c =
    let items = c.args.blocks.now in
    let so_far = take c.loop-block.block-index items in
    let rest = drop (c.loop-block.block-index + 1) items in
    let block = c.block-item.result in
    let before = c.args.before.now in
    let front : take (c.loop-block.block-index + 1) items ≡ so_far ++ block ∷ [] = search (rules, take_more) in
    let more : drop c.loop-block.block-index items ≡ block ∷ rest = search (rules, drop_more) in
    let slice : c.as_slice.result.now ≡ block.value.items = c.as_slice.ensures.value ∙ ap (λ (v : _). v.items) c.deref.ensures in
    let left = subst (λ (l : List Block). AllPaths (prefixed before (flat (rows_in l)))) more c.loop-block.invariant.left in
    let fit = subst (λ (l : List Block). AllFit (rows_in l)) more c.loop-block.invariant.fit in
    let size = subst (λ (l : List Block). total (flat (rows_in l)) ≤ total (flat (rows_in items))) more c.loop-block.invariant.size in
    let whole = flat_total (rows_at block) (rows_in rest) in
    let put = prefixed before (flat (rows_at block)) in
    record {
      so_far =
          c.in_ok-list_block.ensures
          ∙ ap (λ (l : List Child). c.loop-block.list ++ prefixed before (flat (rows_of l))) slice
          ∙ ap (λ (l : Tree). l ++ put) c.loop-block.invariant.so_far
          ∙ append_assoc c.args.list.now (prefixed before (flat (rows_in so_far))) put
          ∙ ap (λ (l : Tree). c.args.list.now ++ l)
          (sym (ap (λ (l : List Block). prefixed before (flat (rows_in l))) front
          ∙ ap (prefixed before) (blocks_push so_far block)
          ∙ prefixed_append before (flat (rows_in so_far)) (flat (rows_at block))));
      left =
          second_paths put (prefixed before (flat (rows_in rest)))
          (subst (λ (t : Tree). AllPaths t) (parts_are before (rows_at block) (rows_in rest)) left);
      fit = (append_fit (rows_at block) (rows_in rest) fit).1;
      size = omega (arith, size, whole);
    }

pub listing::list_blocks-returns : goal.listing::list_blocks-returns
listing::list_blocks-returns t c =
    c.loop-block.invariant.so_far
    ∙ ap (λ (l : List Block). c.args.list.now ++ prefixed c.args.before.now (flat (rows_in l)))
    (take_all c.loop-block.block-index c.args.blocks.now c.loop-block-test.false)

-- ---- a folder

pub Folder::list-list_block-requires : goal.Folder::list-list_block-requires
Folder::list-list_block-requires t c =
    let first = rows_of c.self.inside.children.first.items in
    let rest = rows_in c.self.inside.children.rest.items in
    let before = c.args.before.now in
    let slice = c.as_slice.ensures.value in
    let whole : total (flat (first ++ rest)) ≡ total c.args.self.now = ap (λ (t : Tree). total t) c.self.view_is in
    let less : total (flat (rows_of c.as_slice.result.now)) ≤ total c.args.self.now = rw slice (omega (arith, whole, flat_total first rest)) in
    let all = subst (λ (t : Tree). AllPaths (prefixed before t)) (sym c.self.view_is) c.requires in (
      omega (arith, less, c.decreases),
      (
        subst (λ (l : List Child). AllPaths (prefixed before (flat (rows_of l)))) (sym slice)
            (first_paths (prefixed before (flat first)) (prefixed before (flat rest)) (subst (λ (t : Tree). AllPaths t) (parts_are before first rest) all)),
        subst (λ (l : List Child). AllFit (rows_of l)) (sym slice) (append_fit first rest c.self.invariant.rows.all_fit).0,
      ),
    )

pub Folder::list-list_blocks-requires : goal.Folder::list-list_blocks-requires
Folder::list-list_blocks-requires t c =
    let first = rows_of c.self.inside.children.first.items in
    let rest = rows_in c.self.inside.children.rest.items in
    let before = c.args.before.now in
    let slice = c.as_slice-2.ensures.value in
    let whole : total (flat (first ++ rest)) ≡ total c.args.self.now = ap (λ (t : Tree). total t) c.self.view_is in
    let less : total (flat (rows_in c.as_slice-2.result.now)) ≤ total c.args.self.now = rw slice (omega (arith, whole, flat_total first rest)) in
    let all = subst (λ (t : Tree). AllPaths (prefixed before t)) (sym c.self.view_is) c.requires in (
      omega (arith, less, c.decreases),
      (
        subst (λ (l : List Block). AllPaths (prefixed before (flat (rows_in l)))) (sym slice)
            (second_paths (prefixed before (flat first)) (prefixed before (flat rest)) (subst (λ (t : Tree). AllPaths t) (parts_are before first rest) all)),
        subst (λ (l : List Block). AllFit (rows_in l)) (sym slice) (append_fit first rest c.self.invariant.rows.all_fit).1,
      ),
    )

pub Folder::list-returns : goal.Folder::list-returns
Folder::list-returns t c =
    let first = rows_of c.self.inside.children.first.items in
    let rest = rows_in c.self.inside.children.rest.items in
    let before = c.args.before.now in
    let old = c.args.list.now in
    on_ok c.list_blocks.result c.list_blocks.ensures
    (λ put. put
    ∙ ap (λ (l : List Block). c.list_block.new.list ++ prefixed before (flat (rows_in l))) c.as_slice-2.ensures.value
    ∙ ap (λ (l : _). l ++ prefixed before (flat rest)) c.in_ok-list_block.ensures
    ∙ ap (λ (l : List Child). (old ++ prefixed before (flat (rows_of l))) ++ prefixed before (flat rest)) c.as_slice.ensures.value
    ∙ append_assoc old (prefixed before (flat first)) (prefixed before (flat rest))
    ∙ ap (λ (t : Tree). old ++ t) (sym (parts_are before first rest))
    ∙ ap (λ (t : Tree). old ++ prefixed before t) c.self.view_is)
