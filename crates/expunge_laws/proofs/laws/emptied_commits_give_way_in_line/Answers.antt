use Rattle.expunge_laws.proofs.Again.{trees_in_place}
use Rattle.expunge_laws.proofs.InLine.{all_in_line}
use Rattle.expunge_laws.proofs.laws.emptied_commits_give_way_in_line.Goals as goal

pub returns : goal.returns
returns c = record { links = all_in_line; trees = trees_in_place }
