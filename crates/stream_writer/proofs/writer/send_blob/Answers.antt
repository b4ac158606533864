-- Sent are what was gathered with the lines of the blob, and then its bytes.
use Rattle.std.proofs.Common.{◌∷◌, [], ◌∙◌, length, arith}
use Rattle.plain_model.specs.Text.{LF}
use Rattle.stream_writer.specs.Parts.{blob_head, blob_text}
use Rattle.stream_writer.proofs.BlobLemmas.{all_but_end, blob_is, bytes_broken, end_left, lines_broken}
use Rattle.stream_writer.proofs.writer.send_blob.Goals as goal

pub returns-in_err-write_all-clause-part : goal.returns-in_err-write_all-clause-part
returns-in_err-write_all-clause-part g c =
    let state = g.W.Sink.state in
    let bytes = c.args.bytes.now in
    lines_broken (state c.args.sink.now) (state c.write_all.new.sink) (state c.write_all.new.sink) c.args.gathered.now (blob_text c.args.mark bytes) (blob_head c.args.mark (length bytes)) bytes (LF ∷ []) c.as_slice.result.now (blob_is c.args.mark bytes (omega arith))
    (c.as_slice.ensures ∙ c.in_ok-push_blob_head.ensures) c.in_err-write_all.ensures.part

pub returns-in_err-write_all-2-clause-part : goal.returns-in_err-write_all-2-clause-part
returns-in_err-write_all-2-clause-part g c =
    let state = g.W.Sink.state in
    let bytes = c.args.bytes.now in
    bytes_broken (state c.args.sink.now) (state c.write_all.new.sink) (state c.write_all-2.new.sink) c.args.gathered.now (blob_text c.args.mark bytes) (blob_head c.args.mark (length bytes)) bytes (LF ∷ []) c.as_slice.result.now (blob_is c.args.mark bytes (omega arith))
    (c.as_slice.ensures ∙ c.in_ok-push_blob_head.ensures) c.in_ok-write_all.ensures.ok c.in_err-write_all-2.ensures.part

pub returns-in_err-push-clause-part : goal.returns-in_err-push-clause-part
returns-in_err-push-clause-part g c =
    let state = g.W.Sink.state in
    let bytes = c.args.bytes.now in
    all_but_end (state c.args.sink.now) (state c.write_all.new.sink) (state c.write_all-2.new.sink) c.args.gathered.now (blob_text c.args.mark bytes) (blob_head c.args.mark (length bytes)) bytes (LF ∷ []) c.as_slice.result.now (blob_is c.args.mark bytes (omega arith))
    (c.as_slice.ensures ∙ c.in_ok-push_blob_head.ensures) c.in_ok-write_all.ensures.ok c.in_ok-write_all-2.ensures.ok

pub returns-clause-ok : goal.returns-clause-ok
returns-clause-ok g c =
    let state = g.W.Sink.state in
    let bytes = c.args.bytes.now in
    rw (c.in_ok-push.ensures.ok, c.truncate.ensures)
    (end_left (state c.args.sink.now) (state c.write_all.new.sink) (state c.write_all-2.new.sink) c.args.gathered.now (blob_text c.args.mark bytes) (blob_head c.args.mark (length bytes)) bytes (LF ∷ []) c.as_slice.result.now (blob_is c.args.mark bytes (omega arith))
    (c.as_slice.ensures ∙ c.in_ok-push_blob_head.ensures) c.in_ok-write_all.ensures.ok c.in_ok-write_all-2.ensures.ok)

pub returns-clause-part : goal.returns-clause-part
returns-clause-part g c =
    let state = g.W.Sink.state in
    let bytes = c.args.bytes.now in
    all_but_end (state c.args.sink.now) (state c.write_all.new.sink) (state c.write_all-2.new.sink) c.args.gathered.now (blob_text c.args.mark bytes) (blob_head c.args.mark (length bytes)) bytes (LF ∷ []) c.as_slice.result.now (blob_is c.args.mark bytes (omega arith))
    (c.as_slice.ensures ∙ c.in_ok-push_blob_head.ensures) c.in_ok-write_all.ensures.ok c.in_ok-write_all-2.ensures.ok
