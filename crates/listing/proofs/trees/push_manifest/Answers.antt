use Rattle.std.proofs.Common.{◌≡◌, ◌∙◌, ◌++◌, ℕ, List, Some, sym, ap, subst, append_assoc, codes}
use Rattle.std.specs.Prelude.{OnOk, flat_map}
use Rattle.plain_model.specs.Text.{line, marked}
use Rattle.listing.specs.TreeListings.{entry_line}
use Rattle.listing.proofs.ManifestLemmas.{found_itself, shown_tree}
use Rattle.listing.proofs.trees.push_manifest.Goals as goal

pub get-requires-clause-live : goal.get-requires-clause-live
get-requires-clause-live c =
    let e = c.in-Some-Commit in
    let found = sym e.ensures ∙ ap Some e.field-0-is in
    found_itself c.args.events.now.list c.args.id.now e.id e.mark e.field-0-2 e.field-0-3 e.field-0-4 e.field-0-5 e.field-0-6 e.field-0-7 e.field-0-8 e.field-0-9 found

pub returns-in_ok-tree-in-Some-Commit-clause-text : goal.returns-in_ok-tree-in-Some-Commit-clause-text
returns-in_ok-tree-in-Some-Commit-clause-text c =
    let e = c.in-Some-Commit in
    let list = c.args.events.now.list in
    let tree = c.in_ok-tree-in-Some-Commit.tree.now in
    let found = sym e.ensures ∙ ap Some e.field-0-is in
    let head = line (codes "commit " ++ marked e.mark) in
    let paths = flat_map (entry_line list) tree in
    let text =
    ap (λ begun. begun ++ paths) c.in_ok-push_commit_mark-in-Some-Commit.ensures
    ∙ append_assoc c.args.into.now head paths
    ∙ ap (λ lines. c.args.into.now ++ lines)
    (shown_tree list c.args.id.now e.id e.mark e.field-0-2 e.field-0-3 e.field-0-4 e.field-0-5 e.field-0-6 e.field-0-7 e.field-0-8 e.field-0-9 found tree c.in_ok-tree-in-Some-Commit.ensures.tree)
    in
    subst (λ (t : List ℕ). OnOk c.push_tree.result (c.push_tree.new.into ≡ t)) text c.push_tree.ensures
