use Rattle.std.proofs.Common.{◌-◌, true, not, length, sym, ◌∙◌, ap}
use Rattle.std.proofs.lemmas.Option.{get_or_from_slice_get}
use Rattle.plain_model.specs.Parts.{is_lf}
use Rattle.stream_reader.proofs.Pieces.{inside_by_last}
use Rattle.stream_reader.proofs.reader.is_inside_after.Goals as goal

pub returns-in-Some : goal.returns-in-Some
returns-in-Some c =
    let part = c.args.part.now in
    ap (λ b. not (is_lf b)) (sym (get_or_from_slice_get part (length part - 1) c.in-Some.last.now 0 (sym c.in-Some.ensures.value))) ∙ sym (inside_by_last true part c.requires)
