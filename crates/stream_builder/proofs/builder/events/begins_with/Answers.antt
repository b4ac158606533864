use Rattle.std.proofs.Common.{◌∙◌}
use Rattle.plain_model.proofs.Words.{pointwise_begins}
use Rattle.stream_builder.proofs.builder.events.begins_with.Goals as goal

pub returns : goal.returns
returns c = c.starts_with.ensures.value ∙ pointwise_begins c.args.word.now c.args.text.now
