use Rattle.std.proofs.Common.{◌∙◌, Some, None, get_or, sym}
use Rattle.std.proofs.lemmas.Bool.{cond-false, cond-true}
use Rattle.squash_laws.specs.Removed.{is_removed}
use Rattle.plan_steps.proofs.WayLemmas.{removed_at}
use Rattle.plan_steps.proofs.ways.stand_in.Goals as goal

pub returns-then-has_at : goal.returns-then-has_at
returns-then-has_at c event at own =
    let set = c.args.removal.now.set in
    let gone = sym (removed_at set c.args.commit event c.has_at.result own (c.has_at.ensures event at)) ∙ c.if-has_at.true in
    c.way_at.ensures ∙ sym (cond-true (is_removed set c.args.commit) (get_or c.args.ways.now c.args.place None) (Some c.args.commit) gone)

pub returns-else-has_at : goal.returns-else-has_at
returns-else-has_at c event at own =
    let set = c.args.removal.now.set in
    let stays = sym (removed_at set c.args.commit event c.has_at.result own (c.has_at.ensures event at)) ∙ c.if-has_at.false in
    sym (cond-false (is_removed set c.args.commit) (get_or c.args.ways.now c.args.place None) (Some c.args.commit) stays)
