use Rattle.std.proofs.Common.{◌≡◌, ◌+◌, ◌∷◌, ◌∙◌, add-one, ap, drop, suc, sym}
use Rattle.std.proofs.lemmas.List.{take_rest}
use Rattle.std.proofs.Math.Seq.{drop-cons}
use Rattle.script_lines.proofs.TextSteps.{text_on}
use Rattle.script_lines.proofs.texts.texts_in.Goals as goal

pub loop-i-preserved : goal.loop-i-preserved
loop-i-preserved c =
    let words = c.args.words.now in
    let i = c.loop-i.i in
    let word = c.index-words-i.result in
    let cut : drop i words ≡ word ∷ drop (i + 1) words = rw add-one (drop-cons words i word c.loop-i-test.true ∙ ap (λ w. w ∷ drop (suc i) words) (sym c.index-words-i.is)) in
    text_on word (drop (i + 1) words) c.loop-i.texts c.push.new.self c.in_ok-text_before.field-0 (drop i words) _
    cut (rw (take_rest words (i + 1)) at c.in_ok-text_before.ensures) c.in_ok-push.ensures.ok c.loop-i.invariant
