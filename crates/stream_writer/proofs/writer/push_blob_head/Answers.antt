use Rattle.std.proofs.Common.{◌≡◌, ◌++◌, ◌∷◌, [], ℕ, ap, ◌∙◌, append_assoc, codes}
use Rattle.std.specs.Fmt.{decimal}
use Rattle.std.proofs.lemmas.Result.{on_ok_weaker}
use Rattle.plain_model.specs.Paths.{Bytes}
use Rattle.plain_model.specs.Text.{line}
use Rattle.stream_writer.proofs.writer.push_blob_head.Goals as goal

pub returns : goal.returns
returns c =
    let old : Bytes = c.args.out.now in
    let head : ℕ → Bytes = λ n. line (codes "blob\nmark :" ++ decimal n) in
    let front : Bytes = old ++ head c.args.mark in
    let word : Bytes = codes "data " in
    let size : Bytes = decimal c.args.size in
    let end : Bytes = 10 ∷ [] in
    let first : c.push_mark_line.new.out ≡ front = c.in_ok-push_mark_line.ensures ∙ ap (λ n. old ++ head n) c.number.ensures.value in
    let second : c.push_all.new.self ≡ front ++ word = c.in_ok-push_all.ensures.ok ∙ ap (λ (o : Bytes). o ++ word) first in
    let third : c.push_number.new.self ≡ front ++ word ++ size = c.in_ok-push_number.ensures.ok ∙ ap (λ (o : Bytes). o ++ size) second in
    on_ok_weaker c.push.result (λ last.
    last
    ∙ ap (λ (o : Bytes). o ++ end) (third ∙ append_assoc front word size)
    ∙ append_assoc front (word ++ size) end
    ∙ append_assoc old (head c.args.mark) (word ++ size ++ end)) c.push.ensures.ok
