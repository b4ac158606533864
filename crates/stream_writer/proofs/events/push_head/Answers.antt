use Rattle.std.proofs.Common.{◌++◌, ap, ◌∙◌, codes}
use Rattle.std.specs.Fmt.{decimal}
use Rattle.std.proofs.lemmas.Result.{on_ok_weaker}
use Rattle.plain_model.specs.Paths.{Bytes}
use Rattle.plain_model.specs.Text.{line, marked, person}
use Rattle.stream_writer.proofs.HeadLemmas.{head_is, two_more}
use Rattle.stream_writer.proofs.events.push_head.Goals as goal

pub returns : goal.returns
returns c =
    let old : Bytes = c.args.out.now in
    let branch : Bytes = c.args.branch.now in
    let mark = c.args.mark in
    let author : Bytes = line (codes "author " ++ person c.args.author.now) in
    let committer : Bytes = line (codes "committer " ++ person c.args.committer.now) in
    let name = c.in_ok-push_all-2.ensures.ok ∙ ap (λ (o : Bytes). o ++ branch) c.in_ok-push_all.ensures.ok in
    let head =
    c.in_ok-push_mark_line.ensures
    ∙ ap (λ (o : Bytes). o ++ line (codes "\nmark :" ++ decimal c.number.result)) name
    ∙ ap (λ n. ((old ++ codes "commit ") ++ branch) ++ line (codes "\nmark :" ++ decimal n)) c.number.ensures.value
    ∙ head_is old branch mark in
    on_ok_weaker c.push_people.result (λ last. last ∙ ap (λ (o : Bytes). (o ++ author) ++ committer) head
    ∙ two_more old (line (codes "commit " ++ branch) ++ line (codes "mark " ++ marked mark)) author committer) c.push_people.ensures
