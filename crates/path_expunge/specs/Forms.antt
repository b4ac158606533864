-- The forms of matchers, and of tests, as what they match.
use Rattle.path_expunge.specs.declared.matcher.Form.{Form}
use Rattle.path_expunge.specs.declared.matcher.Form.TheVariants.{Only, Found}
use Rattle.expunge_laws.specs.Matching.{Matches}
use Rattle.expunge_laws.specs.Matching.Matches.{only, found}

abbrev pub what : Form → Matches
what (Only path) = only path
what (Found text) = found text
