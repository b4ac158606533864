use Rattle.std.proofs.Common.{rules, tests}
use Rattle.std.proofs.lemmas.Iterator.{YieldsList-from_slice}
use Rattle.std.proofs.lemmas.Iterator.Search.{all_from_yields_List}
use Rattle.plain_model.specs.People.{is_clean_byte}
use Rattle.stream_fields.proofs.people.is_clean_text.Goals as goal

pub returns : goal.returns
returns c =
    all_from_yields_List is_clean_byte _ _ _ c.all.ensures.ran (YieldsList-from_slice c.args.text.now c.iter.ensures.rest) (λ x b q k. search (rules, tests))
