use Rattle.std.proofs.Common.{◌≡◌, take}
use Rattle.std.specs.List.{AllByRecursion, list_any}
use Rattle.expunge_laws.specs.Matching.{matched_by}
use Rattle.expunge_laws.specs.Untouched.{may_touch}
use Rattle.path_expunge.specs.Apart.{AreSides, GoesOn, IsNoted}
use Rattle.plan_steps.specs.Flags.{FlagsAdd}
use Rattle.path_expunge.proofs.NamingLemmas.{blobs_left}
use Rattle.path_expunge.proofs.naming.Named.note_ops.Given as goal

abbrev pub invariant-loop-op : goal.invariant-loop-op
invariant-loop-op l = record {
  same : l.matching ≡ l.fn.matching;
  sides : AreSides (matched_by l.fn.matching) l.self;
  more : GoesOn l.fn.self l.self;
  noted : AllByRecursion (IsNoted l.self) (take l.op-index l.ops);
  named : FlagsAdd l.table (blobs_left (matched_by l.fn.matching) (take l.op-index l.ops)) l.initial.named l.named;
  taken : l.taken ≡ list_any (may_touch (matched_by l.fn.matching)) (take l.op-index l.ops);
}
