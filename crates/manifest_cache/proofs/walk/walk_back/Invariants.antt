use Rattle.manifest_cache.specs.Lines.{line, size}
use Rattle.manifest_cache.proofs.Walking.{HasCome}
use Rattle.manifest_cache.specs.Listed.{events_of}
use Rattle.manifest_cache.proofs.walk.walk_back.Given as goal

abbrev pub invariant-loop-tree : goal.invariant-loop-tree
invariant-loop-tree l = HasCome l.kept.entries (events_of l.listed) l.fn.commit l.walk l.at

abbrev pub decreases-loop-tree : goal.decreases-loop-tree
decreases-loop-tree l = size (line (events_of l.listed) l.at)
