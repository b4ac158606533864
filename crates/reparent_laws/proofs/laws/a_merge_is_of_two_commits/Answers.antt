use Rattle.reparent_laws.proofs.OneCommit.{merged_of_two, unmerged_of_one}
use Rattle.reparent_laws.proofs.laws.a_merge_is_of_two_commits.Goals as goal

pub returns : goal.returns
returns c = record { merge = merged_of_two; unmerge = unmerged_of_one }
