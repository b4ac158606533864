use Rattle.std.proofs.Common.{None, Some, arith}
use Rattle.path_move_laws.specs.PathMaps.{image_of}
use Rattle.path_moves.specs.Commits.{IsKept}
use Rattle.path_moves.proofs.Keeping.{table_set}
use Rattle.path_moves.proofs.kept.Kept.keep.Goals as goal

pub returns-then-index-gt0-clause-pairs : goal.returns-then-index-gt0-clause-pairs
returns-then-index-gt0-clause-pairs c =
    let count = c.requires.pairs.count in
    let low = c.requires.place in
    table_set None (IsKept (image_of c.args.map.now) c.args.events.now.list) c.args.events.now.list c.args.self.now.pairs.items c.args.place (Some c.args.pair)
    c.requires.pairs c.requires.own (omega arith)
