use Rattle.std.proofs.Common.{◌≡◌}
use Rattle.renumbering.proofs.Steps.{next_at, renumbered_up_to}
use Rattle.renumbering.proofs.numbering.give_all.Given as goal

abbrev pub invariant-loop-place : goal.invariant-loop-place
invariant-loop-place l = record {
  before : l.plan.before ≡ l.initial.plan.before;
  after : l.plan.after ≡ renumbered_up_to l.place l.events.list;
  made_at : l.plan.made_at ≡ l.initial.plan.made_at;
  given : l.plan.next ≡ l.initial.plan.next;
  next : l.next ≡ next_at l.place l.events.list;
}
