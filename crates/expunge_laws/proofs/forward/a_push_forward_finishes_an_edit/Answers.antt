use Rattle.expunge_laws.proofs.Finished.{finish_blobs, finish_commits, finish_ends, finish_limits, finish_shown, finish_sound, finish_trees}
use Rattle.expunge_laws.proofs.forward.a_push_forward_finishes_an_edit.Goals as goal

pub returns : goal.returns
returns c = record {
  ends = finish_ends;
  commits = finish_commits;
  trees = finish_trees;
  shown = finish_shown;
  sound = finish_sound;
  limits = finish_limits;
  blobs = finish_blobs;
}
