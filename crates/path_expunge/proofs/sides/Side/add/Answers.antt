use Rattle.std.proofs.lemmas.Result.{on_ok_weaker}
use Rattle.path_expunge.proofs.FolderLemmas.{whole_with}
use Rattle.path_expunge.proofs.sides.Side.add.Goals as goal

pub returns-clause-whole : goal.returns-clause-whole
returns-clause-whole c =
    on_ok_weaker c.add_folders.result (λ there. whole_with c.args.self.now c.args.path.now c.add.new.self c.add_folders.new.folders c.requires c.in_ok-add.ensures there) c.add_folders.ensures
