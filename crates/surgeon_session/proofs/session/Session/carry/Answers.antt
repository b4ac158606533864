use Rattle.history_machine.specs.Sessions.{Session, after_assign, after_choose, after_drop, after_drop_chosen, after_edit, after_edit_by, after_read, after_renumber, chosen, remade, without_paths}
use Rattle.history_machine.specs.Several.{after_dividing, after_joining, after_uniting, grafted_with, halves_of, united_of}
use Rattle.history_machine.specs.Steps.{carried, changes}
use Rattle.surgeon_session.specs.Commands.{no_calls}
use Rattle.std.proofs.Common.{ap}
use Rattle.surgeon_session.proofs.Halting.{done_read, halted_alone, halted_read, halts_after, returned}
use Rattle.surgeon_session.proofs.Readying.{done_alone}
use Rattle.surgeon_session.proofs.ListChanges.{list_changed}
use Rattle.surgeon_session.proofs.session.Session.carry.Goals as goal

pub returns-in_err-read-in-Read-clause-carries : goal.returns-in_err-read-in-Read-clause-carries
unfolding carried
returns-in_err-read-in-Read-clause-carries g c =
    let failed = c.in_err-read-in-Read in
    rw c.in-Read.is
    (halted_read _ _ _ c.args.self.now c.read.new.self (λ files. after_read c.args.self.now files c.in-Read.file c.in-Read.name) failed.ensures.frame failed.ensures.kept failed.field-0.0 c.from_residual.result c.from_residual.ensures.1 failed.ensures.returns failed.ensures.failed failed.ensures.quiet)

pub returns-in_err-edit_by-in-EditBy-clause-carries : goal.returns-in_err-edit_by-in-EditBy-clause-carries
unfolding carried
returns-in_err-edit_by-in-EditBy-clause-carries g c =
    let failed = c.in_err-edit_by-in-EditBy in
    rw c.in-EditBy.is
    (halted_read _ _ _ c.args.self.now c.edit_by.new.self (λ files. after_edit_by c.args.self.now files c.in-EditBy.what c.in-EditBy.file) failed.ensures.frame failed.ensures.kept failed.field-0.0 c.from_residual-in_err-edit_by-in-EditBy.result c.from_residual-in_err-edit_by-in-EditBy.ensures.1 failed.ensures.returns failed.ensures.failed failed.ensures.quiet)

pub returns-in-Choose-clause-carries : goal.returns-in-Choose-clause-carries
unfolding carried
returns-in-Choose-clause-carries g c =
    rw (c.in-Choose.is, ← c.self.view_is)
    (list_changed _ _ c.self.inside.list c.choose.new.self c.self.inside.macros _ (λ s. after_choose s c.in-Choose.name) c.choose.result _
    c.of_answer.ensures (rw c.as_slice.ensures at c.choose.ensures.changes) c.choose.ensures.kept)

pub returns-in-Drop-clause-carries : goal.returns-in-Drop-clause-carries
unfolding carried
returns-in-Drop-clause-carries g c =
    rw (c.in-Drop.is, ← c.self-in-Drop.view_is)
    (list_changed _ _ c.self-in-Drop.inside.list c.forget.new.self c.self-in-Drop.inside.macros _ (λ s. after_drop s c.in-Drop.name) c.forget.result _
    c.of_answer-in-Drop.ensures (rw c.as_slice-in-Drop.ensures at c.forget.ensures.changes) c.forget.ensures.kept)

pub returns-in-DropChosen-clause-carries : goal.returns-in-DropChosen-clause-carries
unfolding carried
returns-in-DropChosen-clause-carries g c =
    rw (c.in-DropChosen.is, ← c.self-in-DropChosen.view_is)
    (list_changed _ _ c.self-in-DropChosen.inside.list c.forget_chosen.new.self c.self-in-DropChosen.inside.macros _ after_drop_chosen c.forget_chosen.result _
    c.of_answer-in-DropChosen.ensures c.forget_chosen.ensures.changes c.forget_chosen.ensures.kept)

pub returns-in-Renumber-clause-carries : goal.returns-in-Renumber-clause-carries
unfolding carried
returns-in-Renumber-clause-carries g c =
    rw (c.in-Renumber.is, ← c.self-in-Renumber.view_is)
    (list_changed _ _ c.self-in-Renumber.inside.list c.renumber.new.self c.self-in-Renumber.inside.macros _ after_renumber c.renumber.result _
    c.of_answer-in-Renumber.ensures c.renumber.ensures.changes c.renumber.ensures.kept)

pub returns-in-Assign-clause-carries : goal.returns-in-Assign-clause-carries
unfolding carried
returns-in-Assign-clause-carries g c =
    rw (c.in-Assign.is, ← c.self-in-Assign.view_is)
    (list_changed _ _ c.self-in-Assign.inside.list c.assign.new.self c.self-in-Assign.inside.macros _ (λ s. after_assign s c.args.subject.now.ids c.in-Assign.name) c.assign.result _
    c.of_answer-in-Assign.ensures (rw (c.as_slice-in-Assign.ensures, c.ids-in-Assign.ensures) at c.assign.ensures.changes) c.assign.ensures.kept)

pub edit-requires-clause-live : goal.edit-requires-clause-live
unfolding chosen
edit-requires-clause-live g c = rw (← c.self-in-Edit.view_is, ← c.ids-in-Edit.ensures) at c.requires.live

pub returns-in-Edit-clause-carries : goal.returns-in-Edit-clause-carries
unfolding carried
returns-in-Edit-clause-carries g c =
    rw (c.in-Edit.is, ← c.self-in-Edit.view_is)
    (list_changed _ _ c.self-in-Edit.inside.list c.edit.new.self c.self-in-Edit.inside.macros _ (λ s. after_edit s (remade c.in-Edit.what c.args.subject.now.ids)) c.edit.result _
    c.of_answer-in-Edit.ensures (rw c.ids-in-Edit.ensures at c.edit.ensures.changes) c.edit.ensures.kept)

pub returns-in-Expunge-clause-carries : goal.returns-in-Expunge-clause-carries
unfolding carried
returns-in-Expunge-clause-carries g c =
    rw (c.in-Expunge.is, ← c.self-in-Expunge.view_is)
    (list_changed _ _ c.self-in-Expunge.inside.list c.expunge.new.self c.self-in-Expunge.inside.macros _ (λ s. after_edit s (without_paths c.args.subject.now.matchers)) c.expunge.result _
    c.of_answer-in-Expunge.ensures (rw c.matchers.ensures at c.expunge.ensures.changes) c.expunge.ensures.kept)

pub graft-requires-clause-live : goal.graft-requires-clause-live
unfolding chosen
graft-requires-clause-live g c = rw (← c.self-in-Graft.view_is, ← c.ids-in-Graft.ensures) at c.requires.live

pub returns-in-Graft-clause-carries : goal.returns-in-Graft-clause-carries
unfolding carried
returns-in-Graft-clause-carries g c =
    rw (c.in-Graft.is, ← c.self-in-Graft.view_is)
    (list_changed _ _ c.self-in-Graft.inside.list c.graft.new.self c.self-in-Graft.inside.macros _ (λ s. after_joining s c.in-Graft.name (λ part. grafted_with c.in-Graft.prune part c.args.subject.now.ids)) c.graft.result _
    c.of_answer-in-Graft.ensures (rw (c.as_bytes.ensures, c.ids-in-Graft.ensures) at c.graft.ensures.changes) c.graft.ensures.kept)

pub returns-in-Unite-clause-carries : goal.returns-in-Unite-clause-carries
unfolding carried
returns-in-Unite-clause-carries g c =
    rw (c.in-Unite.is, ← c.self-in-Unite.view_is)
    (list_changed _ _ c.self-in-Unite.inside.list c.unite.new.self c.self-in-Unite.inside.macros _ (λ s. after_uniting s c.in-Unite.names (united_of c.in-Unite.prune)) c.unite.result _
    c.of_answer-in-Unite.ensures (rw c.as_slice-in-Unite.ensures at c.unite.ensures.changes) c.unite.ensures.kept)

pub divide-requires-clause-live : goal.divide-requires-clause-live
unfolding chosen
divide-requires-clause-live g c = rw (← c.self-in-Divide.view_is, ← c.ids-in-Divide.ensures) at c.requires.live

pub returns-in-Divide-clause-carries : goal.returns-in-Divide-clause-carries
unfolding carried
returns-in-Divide-clause-carries g c =
    rw (c.in-Divide.is, ← c.self-in-Divide.view_is)
    (list_changed _ _ c.self-in-Divide.inside.list c.divide.new.self c.self-in-Divide.inside.macros _ (λ s. after_dividing s (halves_of c.args.subject.now.ids)) c.divide.result _
    c.of_answer-in-Divide.ensures (rw c.ids-in-Divide.ensures at c.divide.ensures.changes) c.divide.ensures.kept)

pub returns-in_err-sample-in-Sample-clause-carries : goal.returns-in_err-sample-in-Sample-clause-carries
unfolding carried
returns-in_err-sample-in-Sample-clause-carries g c =
    let failed = c.in_err-sample-in-Sample in
    rw c.in-Sample.is
    (halted_alone no_calls _ _ c.args.self.now c.sample.new.self _ _ failed.field-0.0 _ c.from_residual-in_err-sample-in-Sample.ensures.1
    (λ files. halts_after failed.field-0.0 _ _ (returned (λ (b : Session). b) failed.field-0.0 _ failed.ensures.returns)) failed.ensures.kept)

pub returns-in-Write-clause-carries : goal.returns-in-Write-clause-carries
unfolding carried
returns-in-Write-clause-carries g c = rw c.in-Write.is (record { outcome = c.write.ensures.outcome; told = c.write.ensures.told; exact = c.write.ensures.exact; kept = c.write.ensures.kept })

pub returns-in-ShowRepos-clause-carries : goal.returns-in-ShowRepos-clause-carries
unfolding carried
returns-in-ShowRepos-clause-carries g c = rw c.in-ShowRepos.is (record { outcome = c.show_repositories.ensures.outcome; told = c.show_repositories.ensures.told; exact = c.show_repositories.ensures.exact; kept = c.show_repositories.ensures.kept })

pub returns-in-Show-clause-carries : goal.returns-in-Show-clause-carries
unfolding carried
returns-in-Show-clause-carries g c =
    rw c.in-Show.is (record { outcome = rw c.ids.ensures at c.show.ensures.outcome; told = rw c.ids.ensures at c.show.ensures.told; exact = rw c.ids.ensures at c.show.ensures.exact; kept = c.show.ensures.kept })

pub returns-in-Names-clause-carries : goal.returns-in-Names-clause-carries
unfolding carried
returns-in-Names-clause-carries g c = rw c.in-Names.is (record { outcome = c.names.ensures.outcome; told = c.names.ensures.told; exact = c.names.ensures.exact; kept = c.names.ensures.kept })

pub returns-in-Summary-clause-carries : goal.returns-in-Summary-clause-carries
unfolding carried
returns-in-Summary-clause-carries g c = rw c.in-Summary.is (record { outcome = c.summary.ensures.outcome; told = c.summary.ensures.told; exact = c.summary.ensures.exact; kept = c.summary.ensures.kept })

pub returns-in_ok-read-in-Read-clause-carries : goal.returns-in_ok-read-in-Read-clause-carries
unfolding carried
returns-in_ok-read-in-Read-clause-carries g c =
    let done = c.in_ok-read-in-Read in
    rw c.in-Read.is (done_read _ _ _ c.args.self.now c.read.new.self (λ files. after_read c.args.self.now files c.in-Read.file c.in-Read.name) done.ensures.frame done.ensures.returns done.ensures.quiet)

pub returns-in_ok-sample-in-Sample-clause-carries : goal.returns-in_ok-sample-in-Sample-clause-carries
unfolding carried
returns-in_ok-sample-in-Sample-clause-carries g c =
    rw c.in-Sample.is (done_alone no_calls _ _ c.args.self.now c.sample.new.self _ _ tt (λ files. ap changes c.in_ok-sample-in-Sample.ensures.returns))

pub returns-in_ok-edit_by-in-EditBy-clause-carries : goal.returns-in_ok-edit_by-in-EditBy-clause-carries
unfolding carried
returns-in_ok-edit_by-in-EditBy-clause-carries g c =
    let done = c.in_ok-edit_by-in-EditBy in
    rw c.in-EditBy.is (done_read _ _ _ c.args.self.now c.edit_by.new.self (λ files. after_edit_by c.args.self.now files c.in-EditBy.what c.in-EditBy.file) done.ensures.frame done.ensures.returns done.ensures.quiet)
