use Rattle.std.proofs.Common.{◌∙◌, ap, rules, sym}
use Rattle.event_arena.specs.Changes.{without_all}
use Rattle.event_arena.proofs.TouchedLemmas.{touched_without_all}
use Rattle.event_arena.proofs.plan.Plan.remove_all.Goals as goal

pub invariant_of-self-2 : goal.invariant_of-self-2
invariant_of-self-2 c = record {
  sound = c.self.invariant.sound;
  later = c.self.invariant.later;
  spent = search rules;
  none_back = search rules;
  touched =
      touched_without_all c.as_slice-2.result.now c.self.inside.touched c.add_all.new.self c.self.inside.before c.self.inside.after c.remove_all.new.self c.add_all.ensures
      c.self.invariant.touched (c.in_ok-remove_all.ensures.ok ∙ ap (λ ids. without_all ids c.self.inside.after) (c.as_slice.ensures ∙ sym c.as_slice-2.ensures));
}
