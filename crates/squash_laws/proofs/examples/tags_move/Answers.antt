use Rattle.squash_laws.proofs.Rows.{tag_back, tag_childless, tag_deleted, tag_forward, tag_nowhere, tag_of_root}
use Rattle.squash_laws.proofs.examples.tags_move.Goals as goal

pub returns : goal.returns
returns c = record {
  forward = tag_forward;
  back = tag_back;
  childless = tag_childless;
  root = tag_of_root;
  none = tag_nowhere;
  deleted = tag_deleted;
}
