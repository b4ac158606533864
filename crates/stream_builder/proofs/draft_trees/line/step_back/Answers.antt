use Rattle.std.proofs.Common.{ℕ, ◌<◌, ◌≤◌, List, drop, ap, ◌∙◌, Some, arith}
use Rattle.stream_builder.proofs.FirstParents.{has_no_tree, is_root, hangs_on, hangs_nowhere, is_empty_list, begins_with}
use Rattle.stream_builder.proofs.draft_trees.line.step_back.Goals as goal

pub returns-in_default : goal.returns-in_default
returns-in_default c = has_no_tree c.args.drafts.now c.commit.ensures.placed c.args.commit c.in_default.ensures.found

pub returns-in-empty : goal.returns-in-empty
returns-in-empty c =
    let empty = is_empty_list c.in-Some.links.parents.now c.in-empty.len_below in
    is_root c.args.drafts.now c.commit.ensures.placed c.args.commit c.in-Some.links.ops.now
    (ap (λ (l : List ℕ). Some (l, c.in-Some.links.ops.now)) empty ∙ c.in-Some.ensures.found)

pub returns-then-number : goal.returns-then-number
returns-then-number c =
    let parents = begins_with c.in-Some.links.parents.now c.first-item.result
    c.in-len1-up.len_at_least c.first-item.is in
    let left = c.number.ensures in
    let right = c.number-in-len1-up.ensures in
    let less : c.first-item.result < c.args.commit = omega (arith, left, right, c.if-number.true) in
    hangs_on c.args.drafts.now c.commit.ensures.placed c.args.commit c.first-item.result (drop 1 c.in-Some.links.parents.now) c.in-Some.links.ops.now
    (ap (λ (l : List ℕ). Some (l, c.in-Some.links.ops.now)) parents ∙ c.in-Some.ensures.found) less

pub returns-else-number : goal.returns-else-number
returns-else-number c =
    let parents = begins_with c.in-Some.links.parents.now c.first-item.result
    c.in-len1-up.len_at_least c.first-item.is in
    let left = c.number.ensures in
    let right = c.number-in-len1-up.ensures in
    let more : c.args.commit ≤ c.first-item.result = omega (arith, left, right, c.if-number.false) in
    hangs_nowhere c.args.drafts.now c.commit.ensures.placed c.args.commit c.first-item.result (drop 1 c.in-Some.links.parents.now) c.in-Some.links.ops.now
    (ap (λ (l : List ℕ). Some (l, c.in-Some.links.ops.now)) parents ∙ c.in-Some.ensures.found) more
