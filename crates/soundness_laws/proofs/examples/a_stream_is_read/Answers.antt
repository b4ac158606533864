use Rattle.std.proofs.Common.{◌≡◌, Ok, refl}
use Rattle.plain_model.specs.Parts.{cut_at, number_of, number_within, mark_of, name_of, zone_of, when_of, when_after, person_parts, rest_after}
use Rattle.plain_model.specs.Fields.{mark_in, name_in, person_in, turn, path_by, quoted_path, path_in, mode_in, content_in, last_path_in, extent_in, data_text}
use Rattle.stream_grammar.specs.Limits.{stream_of}
use Rattle.soundness_laws.specs.Examples.{history_of_two, stream_of_two}
use Rattle.soundness_laws.proofs.StreamKept.{read_is_sound}
use Rattle.soundness_laws.proofs.examples.a_stream_is_read.Goals as goal

read : stream_of stream_of_two ≡ Ok history_of_two
unfolding cut_at number_of number_within mark_of name_of zone_of when_of when_after person_parts rest_after mark_in name_in person_in turn path_by quoted_path path_in mode_in content_in last_path_in extent_in data_text
read = refl

pub returns : goal.returns
returns c = record { read = read; sound = read_is_sound stream_of_two history_of_two read }
