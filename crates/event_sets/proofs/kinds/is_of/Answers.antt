use Rattle.std.proofs.Common.{◌∙◌, ap, length, nat_lt, sym}
use Rattle.std.specs.Prelude.{◌||◌, ◌&&◌, ◌==◌}
use Rattle.event_sets.specs.Kinds.{is_of}
use Rattle.event_sets.proofs.kinds.is_of.Goals as goal

pub returns-in-Commit : goal.returns-in-Commit
unfolding is_of
returns-in-Commit c =
    let kinds = c.args.kinds in
    let parents = c.as_slice-parent_count.ensures in
    let ops = c.as_slice-op_count.ensures in
    (λ i. kinds.commits || (kinds.heads && c.is_head.ensures i) || (kinds.roots && length (parents i) == 0)
    || (kinds.merges && nat_lt 1 (length (parents i))) || (kinds.forks && c.is_fork.ensures i)
    || (kinds.empties && length (ops i) == 0))
    ∙ ap (is_of c.args.events.now.list kinds) (sym c.in-Commit.is)
