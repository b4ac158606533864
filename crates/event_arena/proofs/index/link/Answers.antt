use Rattle.std.proofs.Common.{sym, subst}
use Rattle.event_arena.specs.Indices.{IsLinked, IsLinkedEvent}
use Rattle.event_arena.proofs.LinkLemmas.{commit_linked}
use Rattle.event_arena.proofs.index.link.Goals as goal

pub returns-in-Commit-clause-linked : goal.returns-in-Commit-clause-linked
returns-in-Commit-clause-linked c =
    subst (λ e. IsLinkedEvent e c.args.table.now c.args.links.now.lists c.link_to.new.links.lists) (sym c.in-Commit.is)
    (commit_linked c.in-Commit.id c.in-Commit.parents c.args.table.now c.args.links.now.lists c.link_to.new.links.lists
    (subst (λ ps. IsLinked c.in-Commit.id ps c.args.table.now c.args.links.now.lists c.link_to.new.links.lists) c.as_slice.ensures c.link_to.ensures.linked))
