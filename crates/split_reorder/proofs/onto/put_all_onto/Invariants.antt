use Rattle.std.proofs.Common.{◌≡◌}
use Rattle.split_reorder.specs.Copies.{put_onto}
use Rattle.plan_steps.proofs.Steps.{so_far}
use Rattle.split_reorder.proofs.onto.put_all_onto.Given as goal

abbrev pub invariant-loop-place : goal.invariant-loop-place
invariant-loop-place l =
    l.plan ≡ record l.initial.plan { after = so_far (put_onto l.commit l.copy) l.place l.events.list }
