use Rattle.event_arena.specs.declared.field.Role.TheVariants.{Author, Committer, Tagger}
use Rattle.mailbox_lines.proofs.Results.{on_ok}
use Rattle.mailbox_edit.specs.Landings.{with_given}
use Rattle.mailbox_edit.proofs.Given.{given_id}
use Rattle.mailbox_edit.proofs.Landed.{land_put, there_still}
use Rattle.mailbox_edit.proofs.giving.land.Goals as goal

pub give-requires-2 : goal.give-requires-2
give-requires-2 c =
    let said = c.args.landing.now.said in
    there_still c.args.plan.now c.give.new.plan c.args.landing.now.id (with_given Author said.author said.author_date)
    (given_id Author said.author said.author_date) c.in_ok-give.ensures c.requires.there

pub give-requires-3 : goal.give-requires-3
give-requires-3 c =
    let said = c.args.landing.now.said in
    let id = c.args.landing.now.id in
    there_still c.give.new.plan c.give-2.new.plan id (with_given Committer said.committer said.committer_date)
    (given_id Committer said.committer said.committer_date) c.in_ok-give-2.ensures
    (there_still c.args.plan.now c.give.new.plan id (with_given Author said.author said.author_date)
    (given_id Author said.author said.author_date) c.in_ok-give.ensures c.requires.there)

pub give_comment-requires-clause-there : goal.give_comment-requires-clause-there
give_comment-requires-clause-there c =
    let said = c.args.landing.now.said in
    let id = c.args.landing.now.id in
    there_still c.give-2.new.plan c.give-3.new.plan id (with_given Tagger said.tagger said.tagger_date)
    (given_id Tagger said.tagger said.tagger_date) c.in_ok-give-3.ensures
    (there_still c.give.new.plan c.give-2.new.plan id (with_given Committer said.committer said.committer_date)
    (given_id Committer said.committer said.committer_date) c.in_ok-give-2.ensures
    (there_still c.args.plan.now c.give.new.plan id (with_given Author said.author said.author_date)
    (given_id Author said.author said.author_date) c.in_ok-give.ensures c.requires.there))

pub returns : goal.returns
returns c =
    on_ok c.give_comment.result _ _ (λ last.
    land_put c.args.landing.now c.args.plan.now c.give.new.plan c.give-2.new.plan c.give-3.new.plan c.give_comment.new.plan
    c.in_ok-give.ensures c.in_ok-give-2.ensures c.in_ok-give-3.ensures last) c.give_comment.ensures
