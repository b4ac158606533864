use Rattle.std.proofs.Common.{refl}
use Rattle.plain_model.specs.Parts.{cut_at, number_of, number_within, mark_of, name_of, zone_of, when_of, when_after, person_parts, rest_after}
use Rattle.plain_model.specs.Fields.{mark_in, name_in, person_in, turn, path_by, quoted_path, path_in, mode_in, content_in, last_path_in, extent_in, data_text}
use Rattle.stream_grammar.proofs.worked.forms_have_first_defects.Goals as goal

pub returns : goal.returns
unfolding cut_at number_of number_within mark_of name_of zone_of when_of when_after person_parts rest_after mark_in name_in person_in turn path_by quoted_path path_in mode_in content_in last_path_in extent_in data_text
returns c = record {
  unknown = refl;
  no_data = refl;
  no_committer = refl;
  author_too_late = refl;
  operation_outside = refl;
  bare_word = refl;
  left_out = refl;
  mark_of_a_tag = refl;
  alias_without_mark = refl;
  alias_with_more = refl;
  left_out_feature = refl;
}
