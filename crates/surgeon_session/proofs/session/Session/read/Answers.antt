use Rattle.std.proofs.Common.{Err, ap, sym, ◌∙◌}
use Rattle.event_arena.specs.Graphs.{Graph}
use Rattle.history_machine.proofs.Lawful.{spelled_bytes}
use Rattle.history_machine.specs.Sessions.{after_read}
use Rattle.load_list.specs.Lists.{LoadList, session_of}
use Rattle.surgeon_session.proofs.LoadedFiles.{file_broken, file_done, name_taken, no_room}
use Rattle.surgeon_session.proofs.Pieces.{any_told, memory_told, no_files}
use Rattle.surgeon_session.proofs.session.Session.read.Goals as goal

pub returns-then-not-has_room-clause-returns : goal.returns-then-not-has_room-clause-returns
returns-then-not-has_room-clause-returns g c =
    rw (← c.self.view_is)
    (any_told (g.S.Store.state c.args.store.now).files no_files
    (λ files. no_room c.self.inside.list c.self.inside.macros c.args.name.now (sym c.has_room.ensures ∙ c.if-not-has_room.true) files c.args.file.now ∙ ap Err (sym c.too_many.ensures)))

pub returns-in_err-taken-clause-returns : goal.returns-in_err-taken-clause-returns
returns-in_err-taken-clause-returns g c =
    memory_told (g.S.Store.state c.args.store.now).files no_files _ c.from_residual.result c.from_residual.ensures.1 (λ files. after_read c.args.self.now files c.args.file.now c.args.name.now)

pub returns-then-has-clause-returns : goal.returns-then-has-clause-returns
returns-then-has-clause-returns g c =
    rw (← c.self.view_is)
    (any_told (g.S.Store.state c.args.store.now).files no_files
    (λ files. name_taken c.self.inside.list c.self.inside.macros c.args.name.now (sym c.has_room.ensures ∙ c.if-not-has_room.false)
    (rw c.as_slice.ensures.value at (sym c.has.ensures ∙ c.if-has.true)) files c.args.file.now ∙ ap Err (rw c.as_slice-then-has.ensures.value at (sym c.in_ok-taken.ensures))))

pub returns-in_err-events-clause-returns : goal.returns-in_err-events-clause-returns
returns-in_err-events-clause-returns g c =
    rw (← c.self.view_is)
    (file_broken c.self.inside.list c.self.inside.macros c.args.name.now (sym c.has_room.ensures ∙ c.if-not-has_room.false)
    (rw c.as_slice.ensures.value at (sym c.has.ensures ∙ c.if-has.false)) (λ (events : Graph). events.list) _ (g.S.Store.state c.args.store.now).files c.args.file.now c.in_err-events.field-0.0
    c.from_residual-in_err-events.result c.from_residual-in_err-events.ensures.1 (rw c.as_str.ensures at c.in_err-events.ensures.returns))

pub add_chosen-requires-clause-named : goal.add_chosen-requires-clause-named
add_chosen-requires-clause-named g c = rw c.as_slice-2.ensures.value (spelled_bytes c.args.name.now c.as_slice-2.ensures.fits)

pub returns-clause-returns : goal.returns-clause-returns
returns-clause-returns g c =
    rw (← c.self.view_is)
    (file_done c.self.inside.list c.self.inside.macros c.args.name.now (sym c.has_room.ensures ∙ c.if-not-has_room.false) (rw c.as_slice.ensures.value at (sym c.has.ensures ∙ c.if-has.false))
    (g.S.Store.state c.args.store.now).files c.args.file.now c.in_ok-events.events.list _ (rw c.as_str.ensures at c.in_ok-events.ensures.returns)
    (ap (λ (list : LoadList). session_of list c.self.inside.macros) (rw c.as_slice-2.ensures.value at c.in_ok-add_chosen.ensures.ok)))
