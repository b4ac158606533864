use Rattle.std.proofs.Common.{◌≡◌, ◌∷◌, [], map, take}
use Rattle.std.specs.List.{AllByRecursion}
use Rattle.expunge_laws.specs.Apart.{AllOps, event_without}
use Rattle.expunge_laws.specs.Matching.{matched_by}
use Rattle.expunge_laws.specs.Untouched.{may_be_touched, may_touch}
use Rattle.plan_steps.specs.Flags.{FlagsNamed}
use Rattle.path_expunge.specs.Apart.{AreSides, IsNoted}
use Rattle.path_expunge.proofs.naming.Named.note_all.Given as goal

abbrev pub invariant-loop-place : goal.invariant-loop-place
invariant-loop-place l = record {
  same : l.matching ≡ l.fn.matching;
  sides : AreSides (matched_by l.fn.matching) l.self;
  noted : AllByRecursion (λ e. AllOps (IsNoted l.self) (e ∷ [])) (take l.place l.events.list);
  named : FlagsNamed l.events.list (take l.place (map (event_without (may_touch (matched_by l.fn.matching))) l.events.list)) l.named.items;
  touched : l.touched.items ≡ map (may_be_touched (matched_by l.fn.matching)) (take l.place l.events.list);
}
