use Rattle.std.proofs.Common.{◌≡◌, drop}
use Rattle.plain_model.specs.Snapshots.{refs, refs_after}
use Rattle.selection_eval.proofs.tags.tips_of.Given as goal

abbrev pub invariant-loop-place : goal.invariant-loop-place
invariant-loop-place l = refs_after l.tips (drop l.place l.events.list) ≡ refs l.events.list
