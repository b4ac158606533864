use Rattle.std.proofs.Common.{sym, subst}
use Rattle.event_arena.specs.Touched.{DifferAtMost}
use Rattle.event_arena.proofs.KeptMarkLemmas.{marks_kept}
use Rattle.event_arena.proofs.mending.mend.Goals as goal

pub returns-clause-marks : goal.returns-clause-marks
returns-clause-marks c = λ it.
    marks_kept c.in-Some.ids.now c.args.before.now c.args.after.now
    (subst (λ t. DifferAtMost t c.args.before.now c.args.after.now) (sym c.in-Some.ensures) c.requires.touched) (c.keep_marks.ensures c.if-not-keep_marks.false)
