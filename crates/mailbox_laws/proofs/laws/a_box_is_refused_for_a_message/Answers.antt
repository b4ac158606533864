use Rattle.mailbox_laws.proofs.Causes.{land_refused}
use Rattle.mailbox_laws.proofs.laws.a_box_is_refused_for_a_message.Goals as goal

pub returns : goal.returns
returns c = land_refused
