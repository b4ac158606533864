use Rattle.std.proofs.Common.{◌∙◌, ap, arith}
use Rattle.script_lines.specs.Scripts.{script_of, trimmed}
use Rattle.script_lines.proofs.ScriptSteps.{bad_here, good_on}
use Rattle.script_lines.proofs.script.Script.read.Goals as goal

pub returns-in-Err : goal.returns-in-Err
unfolding script_of
returns-in-Err c =
    rw c.bad_at.ensures
    (bad_here c.loop-text.line c.loop-text.place c.loop-text.items _ _ _ c.in-Some.text.now c.in-Some.ensures.cut c.loop-text.invariant.same c.in-Err.ensures.cases.0)

pub loop-text-preserved : goal.loop-text-preserved
loop-text-preserved c =
    let known = c.loop-text.invariant in
    let fits = c.in-Ok.ensures.cases in
    record {
      same = good_on c.loop-text.line c.loop-text.place c.loop-text.items _ _ _ c.in-Some.text.now c.in-Some.ensures.cut known.same
          c.take_line.new.items c.in_ok-place-in-Ok.place c.trim.result.now fits.1 (c.trim.ensures ∙ ap trimmed fits.0)
          c.in_ok-place-in-Ok.ensures.items c.in_ok-place-in-Ok.ensures.place;
      counted = omega (arith, c.in-Some.ensures.shorter);
    }
