use Rattle.std.proofs.Common.{◌≡◌, ◌∙◌, true, refl, sym}
use Rattle.plain_model.specs.Paths.{Bytes}
use Rattle.selection_eval.specs.Days.{is_stamp}
use Rattle.selection_eval.proofs.DayTexts.{take_rest}
use Rattle.selection_eval.proofs.days.stamp_parts.Goals as goal

pub returns-then-is_stamp : goal.returns-then-is_stamp
returns-then-is_stamp c =
    let text : Bytes = c.args.text.now in
    let is : is_stamp text ≡ true = sym c.is_stamp.ensures ∙ c.if-is_stamp.true in
    rw (is, take_rest 21 text) refl
