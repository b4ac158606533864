use Rattle.mailbox_laws.specs.Landing.{is_identity, is_moment, value_faults}
use Rattle.plain_model.specs.declared.fault.Fault.TheVariants as fault
use Rattle.mailbox_reader.specs.Reading.{value_of}
use Rattle.mailbox_reader.proofs.Together.{both}
use Rattle.mailbox_reader.proofs.judging.wrong_role.Goals as goal

pub returns : goal.returns
returns c =
    both (value_faults is_identity fault.BadMessage (value_of c.args.who)) (value_faults is_moment fault.BadMessage (value_of c.args.when))
    c.wrong_who.result c.wrong_when.result c.lower.result c.wrong_who.ensures c.wrong_when.ensures c.lower.ensures
