use Rattle.std.proofs.Common.{◌≡◌, ◌≤◌, ◌+◌, drop, map}
use Rattle.plain_model.specs.declared.limit.TheConstants.{MAX_MARK}
use Rattle.renumbering.specs.Renumbered.{renumbered}
use Rattle.graft_unite.specs.Ages.{part_at}
use Rattle.graft_unite.specs.Uniting.{IsKnown, marked_parts}
use Rattle.graft_unite.proofs.uniting.joined_parts.Given as goal

abbrev pub invariant-loop-place : goal.invariant-loop-place
invariant-loop-place l = record {
  left : marked_parts l.prune (renumbered l.base.list) (map (part_at l.parts) l.places) ≡ marked_parts l.prune l.plan.after (map (part_at l.parts) (drop l.place-index l.places));
  known : IsKnown l.plan.after l.come.0 l.come.1 l.used l.dates;
  before : l.plan.before ≡ l.base.list;
  made_at : l.plan.made_at ≡ l.base.next_id;
  next : l.plan.next ≡ l.come.0;
  later : l.plan.made_at ≤ l.plan.next;
  fits : l.come.1 ≤ MAX_MARK + 1;
}
