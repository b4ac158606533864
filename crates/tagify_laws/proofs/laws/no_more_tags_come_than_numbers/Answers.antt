use Rattle.tagify_laws.proofs.Few.{no_more_than_numbers}
use Rattle.tagify_laws.proofs.laws.no_more_tags_come_than_numbers.Goals as goal

pub returns : goal.returns
returns c = no_more_than_numbers
