use Rattle.std.proofs.Common.{length, refl, sym, ◌∙◌}
use Rattle.std.proofs.lemmas.Option.{slice_get_read}
use Rattle.macro_lines.proofs.Bodies.{taken_first}
use Rattle.macro_lines.proofs.running.next_line.Goals as goal

pub returns-then-is_some-clause-taken : goal.returns-then-is_some-clause-taken
returns-then-is_some-clause-taken c =
    taken_first c.args.selection.now c.args.words.now c.args.body.now c.loop-text.next c.in-Some.text.now c.as_str.result.now c.in_ok-taken.taken _
    (slice_get_read c.args.body.now (length c.args.body.now) c.loop-text.next c.in-Some.text.now refl c.in-Some.ensures.lookup.3.0 c.in-Some.ensures.lookup.1) c.as_str.ensures c.loop-text.invariant.left c.loop-text.invariant.same (sym c.is_some.ensures ∙ c.if-is_some.true) c.in_ok-taken.ensures
