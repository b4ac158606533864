use Rattle.std.proofs.Common.{sym}
use Rattle.field_laws.proofs.Words.{word_cut, word_whole}
use Rattle.stream_fields.proofs.lines.words.Goals as goal

pub returns-in-Some-clause-first : goal.returns-in-Some-clause-first
returns-in-Some-clause-first c = sym (word_cut c.args.text.now c.in-Some.word.now c.in-Some.rest.now (sym c.in-Some.ensures)).0

pub returns-in-Some-clause-after : goal.returns-in-Some-clause-after
returns-in-Some-clause-after c = sym (word_cut c.args.text.now c.in-Some.word.now c.in-Some.rest.now (sym c.in-Some.ensures)).1

pub returns-in-None-clause-first : goal.returns-in-None-clause-first
returns-in-None-clause-first c = sym (word_whole c.args.text.now (sym c.in-None.ensures)).0

pub returns-in-None-clause-after : goal.returns-in-None-clause-after
returns-in-None-clause-after c = sym (word_whole c.args.text.now (sym c.in-None.ensures)).1
