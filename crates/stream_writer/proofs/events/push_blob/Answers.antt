use Rattle.std.proofs.Common.{◌≡◌, ◌++◌, ℕ, ap, ◌∙◌, append_assoc, codes}
use Rattle.std.specs.Fmt.{decimal}
use Rattle.std.proofs.lemmas.Result.{on_ok_weaker}
use Rattle.plain_model.specs.Paths.{Bytes}
use Rattle.plain_model.specs.Text.{data_block, line}
use Rattle.stream_writer.proofs.events.push_blob.Goals as goal

pub returns : goal.returns
returns c =
    let old : Bytes = c.args.out.now in
    let head : ℕ → Bytes = λ n. line (codes "blob\nmark :" ++ decimal n) in
    let block : Bytes = data_block c.args.bytes.now in
    let first : c.push_mark_line.new.out ≡ old ++ head c.args.mark = c.in_ok-push_mark_line.ensures ∙ ap (λ n. old ++ head n) c.number.ensures.value in
    on_ok_weaker c.write_data.result (λ last. last ∙ ap (λ (o : Bytes). o ++ block) first ∙ append_assoc old (head c.args.mark) block) c.write_data.ensures.ok
