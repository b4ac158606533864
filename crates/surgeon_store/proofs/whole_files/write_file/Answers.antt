use Rattle.std.proofs.lemmas.Result.{on_err_weaker, on_ok_weaker}
use Rattle.surgeon_store.proofs.Written.{written, written_some, part_whole}
use Rattle.surgeon_store.proofs.whole_files.write_file.Goals as goal

pub returns-in-Ok-write_begun-clause-ok : goal.returns-in-Ok-write_begun-clause-ok
returns-in-Ok-write_begun-clause-ok g c =
    let state = g.S.Store.state in
    let wrote = c.write_begun.ensures in
    rw c.end_whole.ensures.files
    (on_ok_weaker c.end_whole.result
    (λ _. written (state c.args.store.now) (state c.begin_write.new.self) (state c.write_begun.new.store) c.args.name.now (g.B.Output.bytes c.args.output.now) c.in-Ok.ensures.begins wrote.writing wrote.beside c.in-Ok-write_begun.ensures.ok)
    c.end_whole.ensures.quiet)

pub returns-in-Ok-write_begun-clause-part : goal.returns-in-Ok-write_begun-clause-part
returns-in-Ok-write_begun-clause-part g c =
    let state = g.S.Store.state in
    let wrote = c.write_begun.ensures in
    rw c.end_whole.ensures.files
    (on_err_weaker c.end_whole.result
    (λ _. part_whole (state c.args.store.now).files (state c.write_begun.new.store).files c.args.name.now (g.B.Output.bytes c.args.output.now)
    (written (state c.args.store.now) (state c.begin_write.new.self) (state c.write_begun.new.store) c.args.name.now (g.B.Output.bytes c.args.output.now) c.in-Ok.ensures.begins wrote.writing wrote.beside c.in-Ok-write_begun.ensures.ok))
    c.end_whole.ensures.failed)

pub returns-in-Err-clause-part : goal.returns-in-Err-clause-part
returns-in-Err-clause-part g c =
    let state = g.S.Store.state in
    let wrote = c.write_begun.ensures in
    rw c.finish_write.ensures.files
    (written_some (state c.args.store.now) (state c.begin_write.new.self) (state c.write_begun.new.store) c.args.name.now (g.B.Output.bytes c.args.output.now) c.in-Ok.ensures.begins wrote.writing wrote.beside wrote.part)
