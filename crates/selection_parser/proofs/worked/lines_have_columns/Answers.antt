use Rattle.std.proofs.Common.{refl}
use Rattle.selection_parser.specs.Reading.{selection_at, step, nesting, inside, after_term, in_spot, after_spot, spot_begun, function_of, begins_name}
use Rattle.selection_parser.specs.Reading.{in_pattern}
use Rattle.selection_parser.proofs.worked.lines_have_columns.Goals as goal

pub returns : goal.returns
unfolding selection_at step nesting inside after_term in_spot after_spot spot_begun function_of begins_name in_pattern
returns c = record {
  empty = refl;
  unclosed = refl;
  comma = refl;
  two_ranges = refl;
  empty_pattern = refl;
  deep = refl;
  too_deep = refl;
}
