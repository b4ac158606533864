use Rattle.manifest_cache.specs.Kept.{AgreesWith}
use Rattle.tree_tests.proofs.tests.use_all.Given as goal

abbrev pub invariant-loop-number : goal.invariant-loop-number
invariant-loop-number l = AgreesWith l.events.list l.manifests
