use Rattle.std.proofs.Common.{◌≡◌, None, take}
use Rattle.event_arena.specs.Changes.{without_all}
use Rattle.edit_laws.specs.Settling.{first_commit_mark}
use Rattle.graph_walk.proofs.settling.Progress.first_left.Given as goal

abbrev pub invariant-loop-place : goal.invariant-loop-place
invariant-loop-place l = first_commit_mark (without_all l.self.order (take l.place l.self.plan.now.after)) ≡ None
