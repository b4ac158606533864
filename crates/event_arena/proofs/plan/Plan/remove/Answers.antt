use Rattle.std.proofs.Common.{rules}
use Rattle.event_arena.proofs.TouchedLemmas.{touched_without}
use Rattle.event_arena.proofs.plan.Plan.remove.Goals as goal

pub invariant_of-self-2 : goal.invariant_of-self-2
invariant_of-self-2 c = record {
  sound = c.self.invariant.sound;
  later = c.self.invariant.later;
  spent = search rules;
  none_back = search rules;
  touched =
      touched_without c.args.id c.self.inside.touched c.add.new.self c.self.inside.before c.self.inside.after c.remove.new.self c.add.ensures c.self.invariant.touched
      c.in_ok-remove.ensures.ok;
}
