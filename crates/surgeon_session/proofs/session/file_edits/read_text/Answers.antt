use Rattle.plain_model.specs.declared.limit.TheConstants.{MAX_STREAM_BYTES}
use Rattle.surgeon_session.proofs.FileEdits.{text_missed, text_near, text_told, text_whole}
use Rattle.surgeon_session.proofs.session.file_edits.read_text.Goals as goal

pub returns-clause-returns : goal.returns-clause-returns
returns-clause-returns g c =
    let read = c.read_file.ensures in
    text_told MAX_STREAM_BYTES (g.S.Store.state c.args.store.now).files c.args.name.now c.read_file.result read.returns read.within read.causes

pub returns-clause-near : goal.returns-clause-near
returns-clause-near g c = text_near (g.S.Store.state c.args.store.now).files c.args.name.now c.read_file.result (g.S.Store.state c.read_file.new.store) c.read_file.ensures.taken c.read_file.ensures.causes

pub returns-clause-whole : goal.returns-clause-whole
returns-clause-whole g c =
    let read = c.read_file.ensures in
    text_whole (g.S.Store.state c.args.store.now).files c.args.name.now c.read_file.result (g.S.Store.state c.read_file.new.store) read.returns read.taken

pub returns-clause-missed : goal.returns-clause-missed
returns-clause-missed g c = text_missed c.read_file.result (g.S.Store.state c.args.store.now) (g.S.Store.state c.read_file.new.store) c.read_file.ensures.missed
