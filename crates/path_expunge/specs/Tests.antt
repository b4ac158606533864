-- What tests of paths look for.
use Rattle.path_expunge.specs.declared.matching.PathTest.{PathTest}
use Rattle.path_expunge.specs.declared.matching.PathTest.TheVariants.{Only, Found}
use Rattle.expunge_laws.specs.Matching.{Matches}
use Rattle.expunge_laws.specs.Matching.Matches.{only, found}

abbrev pub sought : PathTest → Matches
sought (Only path) = only path.now
sought (Found text) = found text
