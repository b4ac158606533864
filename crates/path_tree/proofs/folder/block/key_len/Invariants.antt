use Rattle.std.proofs.Common.{◌≡◌, ◌++◌, take, drop}
use Rattle.path_tree.specs.Folders.{key_of, rest_of}
use Rattle.path_tree.proofs.folder.block.key_len.Given as goal

abbrev pub invariant-loop-byte : goal.invariant-loop-byte
invariant-loop-byte l = record {
  len : l.len ≡ l.byte-index;
  key : key_of l.path ≡ take l.byte-index l.path ++ key_of (drop l.byte-index l.path);
  rest : rest_of l.path ≡ rest_of (drop l.byte-index l.path);
}
