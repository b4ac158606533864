use Rattle.std.proofs.Common.{◌∙◌, ap, arith, sym, take}
use Rattle.std.proofs.lemmas.List.{length-take-le}
use Rattle.event_arena.proofs.ListLemmas.{take_all}
use Rattle.mailbox_writer.proofs.fields.check_of.Goals as goal

pub returns-else-first-gt64 : goal.returns-else-first-gt64
returns-else-first-gt64 c =
    sym (take_all c.first_line-first.result.now 64 (omega (arith, c.if-first-gt64.false))) ∙ ap (λ text. take 64 text) c.first_line-first.ensures

pub slice_bounds-result-end : goal.slice_bounds-result-end
slice_bounds-result-end c = sym (length-take-le 64 c.first_line-first.result.now (omega (arith, c.if-first-gt64.true)))
