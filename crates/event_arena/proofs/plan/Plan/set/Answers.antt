use Rattle.std.proofs.Common.{◌∙◌, ap, refl, rules, sym}
use Rattle.std.specs.Prelude.{map}
use Rattle.event_arena.specs.Changes.{with_field}
use Rattle.event_arena.specs.Touched.{indexed_of}
use Rattle.event_arena.proofs.ChangeLemmas.{id_with_field}
use Rattle.event_arena.proofs.TouchedLemmas.{differ_unseen, indexed_changed, touched_changed}
use Rattle.event_arena.proofs.plan.Plan.set.Goals as goal

pub invariant_of-self-then-is_indexed : goal.invariant_of-self-then-is_indexed
invariant_of-self-then-is_indexed c = record {
  sound = c.self.invariant.sound;
  later = c.self.invariant.later;
  spent = search rules;
  none_back = search rules;
  touched =
      touched_changed c.args.id c.self.inside.touched c.add.new.self c.self.inside.before c.self.inside.after c.set.new.self c.add.ensures c.self.invariant.touched (with_field c.args.field)
      (id_with_field c.args.field) c.in_ok-set.ensures.ok;
}

pub invariant_of-self-else-is_indexed : goal.invariant_of-self-else-is_indexed
invariant_of-self-else-is_indexed c = record {
  sound = c.self.invariant.sound;
  later = c.self.invariant.later;
  spent = search rules;
  none_back = search rules;
  touched =
      differ_unseen c.self.inside.touched c.self.inside.before c.self.inside.after c.set.new.self
      (sym (ap (map indexed_of) c.in_ok-set.ensures.ok ∙ indexed_changed c.args.id (with_field c.args.field) (c.if-is_indexed.ensures refl) c.self.inside.after)) c.self.invariant.touched;
}
