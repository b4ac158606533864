use Rattle.std.proofs.Common.{rules}
use Rattle.event_arena.proofs.TouchedLemmas.{touched_put_after}
use Rattle.event_arena.proofs.plan.Plan.insert_after.Goals as goal

pub invariant_of-self-2 : goal.invariant_of-self-2
invariant_of-self-2 c = record {
  sound = c.self.invariant.sound;
  later = c.self.invariant.later;
  spent = search rules;
  none_back = search rules;
  touched =
      touched_put_after _ c.self.inside.touched c.add.new.self c.self.inside.before c.self.inside.after c.insert_after.new.self c.add.ensures c.self.invariant.touched c.args.id c.args.event
      c.id-new.ensures c.in_ok-insert_after.ensures.ok;
}
