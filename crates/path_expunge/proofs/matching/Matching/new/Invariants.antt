use Rattle.std.proofs.Common.{◌≡◌, map, take}
use Rattle.path_expunge.specs.Tests.{sought}
use Rattle.path_expunge.proofs.matching.Matching.new.Given as goal

abbrev pub invariant-loop-matcher : goal.invariant-loop-matcher
invariant-loop-matcher l = map sought l.tests.items ≡ take l.matcher-index l.matchers
