use Rattle.std.proofs.Common.{◌∙◌, sym, ap}
use Rattle.std.specs.Prelude.{◌&&◌}
use Rattle.plain_model.specs.Lookups.{commit_id, event_parents}
use Rattle.coalesce_simplify.specs.Joining.{agree}
use Rattle.coalesce_simplify.proofs.Joins.{linked_agree}
use Rattle.coalesce_simplify.proofs.joining.is_joined_to.Goals as goal

pub returns-then-are_linked : goal.returns-then-are_linked
returns-then-are_linked c =
    let set = c.args.chosen.now.set in
    let events = c.args.chosen.now.events in
    let e = c.args.event.now in
    let child = c.args.child.now in
    c.agree.ensures
    ∙ ap (λ b. b && agree c.args.seconds e child) (sym (sym c.are_linked.ensures ∙ c.if-are_linked.true))
    ∙ linked_agree c.args.seconds set events e child c.in-Commit.id c.in-Commit-child.next c.as_slice.result.now
    (ap commit_id c.in-Commit.is) (ap commit_id c.in-Commit-child.is) (c.as_slice.ensures ∙ sym (ap event_parents c.in-Commit-child.is)) c.requires.event c.requires.child
    (c.requires.only c.in-Commit.id c.in-Commit-child.next (ap commit_id c.in-Commit.is) (ap commit_id c.in-Commit-child.is))

pub returns-else-are_linked : goal.returns-else-are_linked
returns-else-are_linked c =
    let set = c.args.chosen.now.set in
    let events = c.args.chosen.now.events in
    let e = c.args.event.now in
    let child = c.args.child.now in
    c.if-are_linked.false
    ∙ ap (λ b. b && agree c.args.seconds e child) (sym (sym c.are_linked.ensures ∙ c.if-are_linked.false))
    ∙ linked_agree c.args.seconds set events e child c.in-Commit.id c.in-Commit-child.next c.as_slice.result.now
    (ap commit_id c.in-Commit.is) (ap commit_id c.in-Commit-child.is) (c.as_slice.ensures ∙ sym (ap event_parents c.in-Commit-child.is)) c.requires.event c.requires.child
    (c.requires.only c.in-Commit.id c.in-Commit-child.next (ap commit_id c.in-Commit.is) (ap commit_id c.in-Commit-child.is))
