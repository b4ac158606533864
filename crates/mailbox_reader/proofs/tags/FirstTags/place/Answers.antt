use Rattle.std.proofs.Common.{◌∙◌}
use Rattle.mailbox_reader.proofs.FirstNames.{found}
use Rattle.mailbox_reader.proofs.tags.FirstTags.place.Goals as goal

pub returns : goal.returns
returns c = rw (← c.self.view_is) (c.copied.ensures ∙ c.get.ensures.value ∙ found c.args.name.now c.self.inside.by_name.entries)
