use Rattle.std.proofs.Common.{refl}
use Rattle.plain_model.specs.Parts.{cut_at, number_of, number_within, mark_of, name_of, zone_of, when_of, when_after, person_parts, rest_after}
use Rattle.plain_model.specs.Fields.{mark_in, name_in, person_in, turn, path_by, quoted_path, path_in, mode_in, content_in, last_path_in, extent_in, data_text, modify_in, paths_in, op_in}
use Rattle.replay_laws.proofs.worked.marks_at_the_end.Goals as goal

pub returns : goal.returns
unfolding cut_at number_of number_within mark_of name_of zone_of when_of when_after person_parts rest_after mark_in name_in person_in turn path_by quoted_path path_in mode_in content_in last_path_in extent_in data_text modify_in paths_in op_in
returns c = record {
  inline = (refl, refl);
  referred = (refl, refl);
  further_marks = (refl, refl);
}
