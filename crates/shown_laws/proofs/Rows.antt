-- The worked history, by computation.
use Rattle.std.proofs.Common.{◌≡◌, ◌==◌, Some, refl, arith}
use Rattle.std.specs.Fmt.{digits}
use Rattle.plain_model.specs.Numbers.{decimal_of}
use Rattle.plain_model.specs.Parts.{cut_at, number_of, number_within, mark_of, name_of, zone_of, when_of, when_after, person_parts, rest_after}
use Rattle.plain_model.specs.Fields.{mark_in, name_in, person_in, turn, path_by, quoted_path, path_in, mode_in, content_in, last_path_in, extent_in, data_text}
use Rattle.plain_model.specs.Text.{text}
use Rattle.stream_grammar.specs.Lines.{history_in}
use Rattle.stream_grammar.specs.Worked.{lines}
use Rattle.plain_model.specs.Soundness.{IsSound}
use Rattle.round_trip_laws.proofs.Rows.{three_trees}
use Rattle.shown_laws.specs.Worked.{root_after_a_reset, root_on_a_tip, root_on_a_tip_lines}

pub is_written : text root_on_a_tip ≡ lines root_on_a_tip_lines
unfolding digits decimal_of
is_written = refl

pub is_read : history_in (lines root_on_a_tip_lines) ≡ Some root_after_a_reset
unfolding cut_at number_of number_within mark_of name_of zone_of when_of when_after person_parts rest_after mark_in name_in person_in turn path_by quoted_path path_in mode_in content_in last_path_in extent_in data_text
is_read = refl

pub is_sound : IsSound root_on_a_tip
is_sound = record {
  formed = (
    (refl, refl, refl, (refl, omega arith, omega arith), (refl, omega arith, omega arith), tt, tt, refl, omega arith, tt, tt, refl),
    (
      (refl, refl, refl, (refl, omega arith, omega arith), (refl, omega arith, omega arith), tt, (refl, tt), refl, omega arith, tt, tt, refl),
      (
        (refl, refl, refl, (refl, omega arith, omega arith), (refl, omega arith, omega arith), tt, tt, refl, omega arith, tt, tt, refl),
        tt,
      ),
    ),
  );
  trees = λ c h. three_trees (4 == c) (2 == c) (1 == c) _ _ _ h;
  spelled = (
    ((omega arith, omega arith), tt, tt),
    (
      ((omega arith, omega arith), tt, tt),
      (
        ((omega arith, omega arith), tt, tt),
        tt,
      ),
    ),
  );
}
