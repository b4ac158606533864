use Rattle.std.proofs.Common.{◌+◌, List, [], length, sym, ap, subst, ◌∙◌}
use Rattle.plain_model.specs.declared.event.PlainEvent.{PlainEvent}
use Rattle.plain_model.specs.declared.operation.FileOp.{FileOp}
use Rattle.history_laws.specs.Counts.{ops_in}
use Rattle.stream_builder.specs.Agreement.{HasAtMost, IsOpened, TreesAgree, open_tree}
use Rattle.stream_builder.proofs.Counting.{ops_more, same_node}
use Rattle.stream_builder.proofs.closing.push_commit.Goals as goal

pub returns-clause-count : goal.returns-clause-count
returns-clause-count c =
    ops_more c.args.drafts.now c.push_commit.new.self _ c.in_ok-id.ensures.ok ∙ ap (λ (l : List FileOp). ops_in c.args.drafts.now + length l) (c.in_ok-ops.ensures ∙ sym c.as_slice.ensures)

pub returns-clause-trees : goal.returns-clause-trees
returns-clause-trees c = λ m opened within.
    let parents = c.args.commit.parents in
    let shared = sym c.in_ok-ops.ensures in
    subst (λ (es : List PlainEvent). TreesAgree c.keep.new.self es [] []) (sym c.in_ok-id.ensures.ok)
    (c.keep.ensures c.args.drafts.now _ parents c.in_ok-ops.ops m
    (subst (λ (l : List FileOp). IsOpened c.args.tree (open_tree c.args.drafts.now parents l)) shared opened)
    (subst (λ (l : List FileOp). HasAtMost c.args.trees.now.most (open_tree c.args.drafts.now parents l)) shared within)
    (same_node parents c.in_ok-ops.ops (sym c.in_ok-id.ensures.id)) c.in_ok-id.ensures.id)
