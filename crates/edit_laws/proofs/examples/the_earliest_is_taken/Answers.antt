use Rattle.edit_laws.proofs.Rows.{circle_left, circle_mark, turned_done}
use Rattle.edit_laws.proofs.examples.the_earliest_is_taken.Goals as goal

pub returns : goal.returns
returns c = record { done = turned_done; circle = circle_left; mark = circle_mark }
