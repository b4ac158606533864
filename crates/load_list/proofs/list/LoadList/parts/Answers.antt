use Rattle.std.proofs.Common.{List, ◌+◌, ap, drop, sym, ◌∙◌}
use Rattle.plain_model.specs.Paths.{Bytes}
use Rattle.load_list.specs.Lists.{part_there}
use Rattle.load_list.proofs.PathWords.{next_word}
use Rattle.load_list.proofs.Uniting.{none_there, parts_after, refused_by}
use Rattle.load_list.proofs.list.LoadList.parts.Goals as goal

pub returns-in_err-part-clause-parts : goal.returns-in_err-part-clause-parts
returns-in_err-part-clause-parts c =
    let repos = c.args.self.now.repos in
    let names = c.args.names.now in
    let i = c.loop-name.name-index in
    let name = c.name-item.result in
    refused_by (λ part. part) (λ parts. parts) c.in_err-part.field-0.0 (part_there name repos) c.from_residual.result _ (rw c.as_bytes.ensures at c.in_err-part.ensures.part) c.from_residual.ensures.1
    (λ why refused. sym c.loop-name.invariant.left
    ∙ ap (λ (ns : List Bytes). parts_after c.loop-name.parts ns repos) (next_word names i name c.loop-name-test.true c.name-item.is)
    ∙ none_there c.loop-name.parts name (drop (i + 1) names) repos why refused)
