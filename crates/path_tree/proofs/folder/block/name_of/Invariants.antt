use Rattle.std.proofs.Common.{◌≡◌, ◌++◌, take, drop}
use Rattle.path_tree.specs.Setting.{name_of}
use Rattle.path_tree.proofs.folder.block.name_of.Given as goal

abbrev pub invariant-loop-byte : goal.invariant-loop-byte
invariant-loop-byte l = record {
  len : l.len ≡ l.byte-index;
  name : name_of l.path ≡ take l.byte-index l.path ++ name_of (drop l.byte-index l.path);
}
