use Rattle.std.proofs.Common.{◌∙◌, Ok, Err, ap, arith}
use Rattle.std.specs.Prelude.{option_map}
use Rattle.event_sets.specs.declared.set.EventSet.{EventSet}
use Rattle.selection_eval.specs.Denoted.{join_of}
use Rattle.selection_eval.proofs.Arms.{ended_none, ended_some, text_at, turn_stopped, turned}
use Rattle.selection_eval.proofs.evaluation.+selections.Goals as goal

pub joined-returns-in-Err-clause-judged : goal.joined-returns-in-Err-clause-judged
joined-returns-in-Err-clause-judged g t c texts =
    let so_far = option_map (λ (set : EventSet). set.ids) c.loop-one.so_far in
    c.loop-one.invariant.rest texts (Err c.in-Err.halt) (g.P.Patterns.sizes c.set_of.new.patterns)
    (turn_stopped (join_of c.args.wants_both) c.args.events.now.list c.args.names.now (g.P.Patterns.sizes c.loop-one.patterns)
    (g.P.Patterns.sizes c.set_of.new.patterns) c.in-Err.halt so_far c.args.all.now c.loop-one.one-index c.one-item.result
    c.loop-one-test.true c.one-item.is (c.in-Err.ensures.judged (text_at c.args.all.now c.loop-one.one-index c.one-item.result texts
    c.loop-one-test.true c.one-item.is)))

pub joined-loop-one-preserved : goal.joined-loop-one-preserved
joined-loop-one-preserved g t c =
    let so_far = option_map (λ (set : EventSet). set.ids) c.loop-one.so_far in
    record {
      events = c.in_ok-next-in-Ok.ensures.events ∙ c.in-Ok.ensures.events;
      agrees = c.set_of.ensures.agrees;
      grows = omega (arith, c.loop-one.invariant.grows, c.set_of.ensures.grows);
      rest = λ texts r now h.
          c.loop-one.invariant.rest texts r now
          (turned (join_of c.args.wants_both) c.args.events.now.list c.args.names.now (g.P.Patterns.sizes c.loop-one.patterns)
          (g.P.Patterns.sizes c.set_of.new.patterns) now r so_far c.args.all.now c.loop-one.one-index c.one-item.result
          c.in-Ok.right.ids c.in_ok-next-in-Ok.field-0.ids c.loop-one-test.true c.one-item.is
          (c.in-Ok.ensures.judged (text_at c.args.all.now c.loop-one.one-index c.one-item.result texts c.loop-one-test.true
          c.one-item.is))
          c.in_ok-next-in-Ok.ensures.ids c.set_of.ensures.grows h);
    }

pub joined-returns-in-Some-clause-judged : goal.joined-returns-in-Some-clause-judged
joined-returns-in-Some-clause-judged g t c texts =
    let so_far = option_map (λ (set : EventSet). set.ids) c.loop-one.so_far in
    c.loop-one.invariant.rest texts (Ok c.in-Some.set) 0
    (ended_some (join_of c.args.wants_both) c.args.events.now.list c.args.names.now c.args.all.now c.loop-one.one-index
    c.loop-one-test.false so_far c.in-Some.set.ids (ap (option_map (λ (set : EventSet). set.ids)) c.in-Some.is))

pub joined-returns-in_ok-none-in-None-clause-judged : goal.joined-returns-in_ok-none-in-None-clause-judged
joined-returns-in_ok-none-in-None-clause-judged g t c texts =
    let so_far = option_map (λ (set : EventSet). set.ids) c.loop-one.so_far in
    c.loop-one.invariant.rest texts (Ok c.in_ok-none-in-None.field-0) 0
    (ended_none (join_of c.args.wants_both) c.args.events.now.list c.args.names.now c.args.all.now c.loop-one.one-index
    c.loop-one-test.false so_far c.in_ok-none-in-None.field-0.ids (ap (option_map (λ (set : EventSet). set.ids)) c.in-None.is)
    c.in_ok-none-in-None.ensures.ids)
