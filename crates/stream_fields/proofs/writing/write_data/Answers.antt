use Rattle.std.proofs.Common.{length, arith, rules}
use Rattle.field_laws.proofs.Decimals.{decimal_of_is}
use Rattle.field_laws.proofs.FieldsAgain.{data_again}
use Rattle.stream_fields.proofs.writing.write_data.Goals as goal

pub returns-in-Ok-clause-ok : goal.returns-in-Ok-clause-ok
returns-in-Ok-clause-ok c =
    let bytes = c.args.bytes.now in rw (decimal_of_is (length bytes) (omega arith)) (search rules)

pub returns-in-Ok-clause-again : goal.returns-in-Ok-clause-again
returns-in-Ok-clause-again c = λ rest. data_again c.args.bytes.now rest
