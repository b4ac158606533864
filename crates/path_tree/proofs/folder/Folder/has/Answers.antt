use Rattle.path_tree.specs.Inside.{all_rows, member_of}
use Rattle.path_tree.proofs.Placing.{not_there}
use Rattle.path_tree.proofs.folder.Folder.has.Goals as goal

pub returns : goal.returns
returns c = record {
  none = λ free. not_there (λ n. member_of n.now) c.find.result c.is_some.result c.args.key.now (all_rows c.self.inside.children) c.args.self.now
      c.self.view_is c.self.invariant.rows c.find.ensures c.is_some.ensures free;
}
