use Rattle.std.proofs.Common.{refl}
use Rattle.selection_parser.specs.Reading.{selection_at, step, nesting, inside, after_term, in_spot, after_spot, spot_begun, function_of, begins_name}
use Rattle.selection_parser.specs.Reading.{in_pattern, in_path, after_path_pattern}
use Rattle.selection_parser.specs.Spelling.{with_kind, with_field}
use Rattle.selection_parser.proofs.worked.lines_have_selections.Goals as goal

pub returns : goal.returns
unfolding selection_at step nesting inside after_term in_spot after_spot spot_begun function_of begins_name
    in_pattern in_path after_path_pattern with_kind with_field
returns c = record {
  items = refl;
  operators = refl;
  suffix = refl;
  pattern = refl;
  path = refl;
  paths = refl;
  trees = refl;
}
