use Rattle.std.proofs.Common.{refl}
use Rattle.plain_model.specs.Parts.{cut_at, number_of, number_within, mark_of, name_of, zone_of, when_of, when_after, person_parts, rest_after}
use Rattle.plain_model.specs.Fields.{mark_in, name_in, person_in, turn, path_by, quoted_path, path_in, mode_in, content_in, last_path_in, extent_in, data_text}
use Rattle.stream_grammar.proofs.worked.fields_have_first_defects.Goals as goal

pub returns : goal.returns
unfolding cut_at number_of number_within mark_of name_of zone_of when_of when_after person_parts rest_after mark_in name_in person_in turn path_by quoted_path path_in mode_in content_in last_path_in extent_in data_text
returns c = record {
  mark = refl;
  mark_again = refl;
  name = refl;
  moment = refl;
  count = refl;
  mode = refl;
  path = refl;
  no_blob = refl;
  alias_again = refl;
  mark_of_a_tag = refl;
  no_branch = refl;
  source = refl;
  first_field = refl;
}
