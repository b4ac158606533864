use Rattle.std.proofs.Common.{sym}
use Rattle.field_laws.proofs.Blocks.{no_text, said_count, said_delimiter, said_more}
use Rattle.std.proofs.Common.{Ok, Err}
use Rattle.plain_model.specs.declared.fault.Why.TheVariants.{BadData}
use Rattle.stream_fields.proofs.data.extent_up_to.Goals as goal

pub returns-in_default : goal.returns-in_default
returns-in_default c = no_text c.args.line.now c.in_default.ensures

pub returns-in-Some-number_up_to : goal.returns-in-Some-number_up_to
returns-in-Some-number_up_to c =
    (said_count c.args.line.now c.in-Some.text.now c.in-Some.ensures c.args.most c.in-Some-number_up_to.count (sym c.in-Some-number_up_to.ensures.value), c.in-Some-number_up_to.ensures.within)

pub returns-in-None : goal.returns-in-None
returns-in-None c = said_more c.args.line.now c.in-Some.text.now c.in-Some.ensures c.args.most (sym c.if-is_number.ensures) (sym c.in-None.ensures.value)

pub returns-in-Some-delimiter_of : goal.returns-in-Some-delimiter_of
returns-in-Some-delimiter_of c =
    (said_delimiter c.args.line.now c.in-Some.text.now c.in-Some.ensures (Ok c.in-Some-delimiter_of.delimiter.now) (sym c.if-is_number.ensures) c.in-Some-delimiter_of.ensures.value, c.in-Some-delimiter_of.ensures.some)

pub returns-in-None-delimiter_of : goal.returns-in-None-delimiter_of
returns-in-None-delimiter_of c =
    said_delimiter c.args.line.now c.in-Some.text.now c.in-Some.ensures (Err BadData) (sym c.if-is_number.ensures) c.in-None-delimiter_of.ensures.value
