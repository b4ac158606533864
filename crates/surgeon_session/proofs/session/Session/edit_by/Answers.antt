use Rattle.std.proofs.Common.{Ok, ap, sym}
use Rattle.load_list.specs.Lists.{LoadList, session_of}
use Rattle.surgeon_session.proofs.FileEdits.{edit_done, edit_refused, none_chosen, refused_missed, refused_near, text_broken, unchosen_near}
use Rattle.surgeon_session.proofs.session.Session.edit_by.Goals as goal

pub returns-in_err-chosen-clause-returns : goal.returns-in_err-chosen-clause-returns
returns-in_err-chosen-clause-returns g c =
    rw (← c.self.view_is)
    (none_chosen c.self.inside.list c.self.inside.macros _ (g.S.Store.state c.args.store.now).files c.args.what c.args.file.now c.in_err-chosen.field-0.0 c.from_residual.result c.from_residual.ensures.1 c.in_err-chosen.ensures)

pub returns-in_err-text-clause-returns : goal.returns-in_err-text-clause-returns
returns-in_err-text-clause-returns g c =
    rw (← c.self.view_is)
    (text_broken c.self.inside.list c.self.inside.macros _ (g.S.Store.state c.args.store.now).files c.args.what c.args.file.now _ c.in_ok-chosen.ensures c.in_err-text.field-0.0 c.from_residual-in_err-text.result
    c.from_residual-in_err-text.ensures.1 (rw c.as_str.ensures at c.in_err-text.ensures.returns))

pub returns-in_err-edit_by-clause-returns : goal.returns-in_err-edit_by-clause-returns
returns-in_err-edit_by-clause-returns g c =
    rw (← c.self.view_is)
    (edit_refused c.self.inside.list c.self.inside.macros _ (g.S.Store.state c.args.store.now).files c.args.what c.args.file.now _ c.in_ok-chosen.ensures _ (rw c.as_str.ensures at c.in_ok-text.ensures.returns) c.in_err-edit_by.field-0.0
    c.from_residual-in_err-edit_by.result c.from_residual-in_err-edit_by.ensures.1 (rw c.as_slice.ensures at (c.in_err-edit_by.ensures.changes c.self.inside.macros)))

pub returns-clause-returns : goal.returns-clause-returns
returns-clause-returns g c =
    rw (← c.self.view_is)
    (edit_done c.self.inside.list c.self.inside.macros _ (g.S.Store.state c.args.store.now).files c.args.what c.args.file.now _ c.in_ok-chosen.ensures _ (rw c.as_str.ensures at c.in_ok-text.ensures.returns)
    (rw c.as_slice.ensures at (c.in_ok-edit_by.ensures.changes c.self.inside.macros)))

pub returns-in_err-edit_by-clause-near : goal.returns-in_err-edit_by-clause-near
returns-in_err-edit_by-clause-near g c =
    refused_near c.a_file_edit_is_refused_for_a_line.ensures c.self.inside.list c.self.inside.macros c.args.self.now _ c.in_ok-chosen.ensures c.args.what c.in_ok-text.text _ _ (rw c.as_str.ensures at c.in_ok-text.ensures.whole) c.in_err-edit_by.field-0.0 c.from_residual-in_err-edit_by.result c.from_residual-in_err-edit_by.ensures.1
    (rw c.as_slice.ensures at (c.in_err-edit_by.ensures.changes c.self.inside.macros))

pub returns-in_err-edit_by-clause-missed : goal.returns-in_err-edit_by-clause-missed
returns-in_err-edit_by-clause-missed g c =
    refused_missed c.a_file_edit_is_refused_for_a_line.ensures c.self.inside.list c.self.inside.macros c.args.self.now _ c.in_ok-chosen.ensures c.args.what c.in_ok-text.text _ _ c.in_err-edit_by.field-0.0 c.from_residual-in_err-edit_by.result c.from_residual-in_err-edit_by.ensures.1
    (rw c.as_slice.ensures at (c.in_err-edit_by.ensures.changes c.self.inside.macros))

pub returns-in_err-chosen-clause-near : goal.returns-in_err-chosen-clause-near
returns-in_err-chosen-clause-near g c =
    unchosen_near c.self.inside.list c.in_err-chosen.field-0.0 c.from_residual.result c.from_residual.ensures.1 c.in_err-chosen.ensures _ _
