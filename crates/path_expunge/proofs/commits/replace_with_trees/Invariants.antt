use Rattle.std.proofs.Common.{◌≡◌, map, take}
use Rattle.expunge_laws.specs.Expunged.{replaced_event}
use Rattle.expunge_laws.specs.Untouched.{may_be_touched}
use Rattle.manifest_cache.specs.Kept.{AgreesWith}
use Rattle.expunge_laws.specs.Matching.{matched_by}
use Rattle.plan_steps.proofs.Steps.{so_far}
use Rattle.path_expunge.proofs.commits.replace_with_trees.Given as goal

abbrev pub invariant-loop-place : goal.invariant-loop-place
invariant-loop-place l = record {
  same : l.matching ≡ l.fn.matching;
  kept : AgreesWith l.events.list l.manifests;
  plan : l.plan ≡ record l.initial.plan { after = so_far (replaced_event (matched_by l.fn.matching) l.events.list) l.place l.events.list };
  touched : l.touched.items ≡ map (may_be_touched (matched_by l.fn.matching)) (take l.place l.events.list);
}
