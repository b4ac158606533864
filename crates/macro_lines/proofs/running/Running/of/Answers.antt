use Rattle.std.proofs.Common.{List, ℕ}
use Rattle.macro_lines.proofs.Bodies.{found_so, made_so, refused_so}
use Rattle.macro_lines.proofs.running.Running.of.Goals as goal

pub returns-in_err-look_for_words : goal.returns-in_err-look_for_words
returns-in_err-look_for_words c =
    refused_so c.args.call.now.selection c.args.call.now.words (λ (lines : List (List ℕ)). lines) c.args.body.now c.in_err-look_for_words.field-0.0 c.from_residual.result
    c.from_residual.ensures.1 (rw (c.as_slice.ensures, c.as_slice-2.ensures) at c.in_err-look_for_words.ensures)

pub invariant_of-result : goal.invariant_of-result
invariant_of-result c =
    rw (c.in_ok-selection.ensures, c.in_ok-words.ensures, c.in_ok-share.ensures)
    (found_so c.args.call.now.selection c.args.call.now.words c.args.body.now (rw (c.as_slice.ensures, c.as_slice-2.ensures) at c.in_ok-look_for_words.ensures))

pub returns : goal.returns
returns c =
    rw (c.in_ok-selection.ensures, c.in_ok-words.ensures, c.in_ok-share.ensures)
    (made_so c.args.call.now.selection c.args.call.now.words c.args.body.now
    (found_so c.args.call.now.selection c.args.call.now.words c.args.body.now (rw (c.as_slice.ensures, c.as_slice-2.ensures) at c.in_ok-look_for_words.ensures)))
