use Rattle.std.proofs.Common.{refl}
use Rattle.script_reader.proofs.examples.lines_are_written_as_these.Goals as goal

pub returns-clause-alone : goal.returns-clause-alone
returns-clause-alone c = refl

pub returns-clause-file : goal.returns-clause-file
returns-clause-file c = refl

pub returns-clause-selected : goal.returns-clause-selected
returns-clause-selected c = refl

pub returns-clause-option : goal.returns-clause-option
returns-clause-option c = refl

pub returns-clause-blank : goal.returns-clause-blank
returns-clause-blank c = refl

pub returns-clause-sign : goal.returns-clause-sign
returns-clause-sign c = refl

pub returns-clause-can : goal.returns-clause-can
returns-clause-can c = record { said = refl; whole = refl; selected = tt; short = refl }
