use Rattle.std.proofs.Common.{rules}
use Rattle.stream_fields.proofs.WholePeople.{whole_person}
use Rattle.stream_fields.proofs.written_parts.push_person.Goals as goal

pub returns-clause-text : goal.returns-clause-text
returns-clause-text c = search (rules, whole_person)
