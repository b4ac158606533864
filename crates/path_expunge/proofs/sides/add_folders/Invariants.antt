use Rattle.std.proofs.Common.{◌≡◌, ◌<◌, length, true}
use Rattle.plain_model.specs.Paths.{Bytes, is_below}
use Rattle.path_expunge.specs.Apart.{is_in}
use Rattle.path_expunge.proofs.sides.add_folders.Given as goal

abbrev pub invariant-loop-place : goal.invariant-loop-place
invariant-loop-place l = record {
  there : (folder : Bytes) → length folder < l.place → is_below folder l.path ≡ true → is_in folder l.folders ≡ true;
  more : (folder : Bytes) → is_in folder l.fn.folders ≡ true → is_in folder l.folders ≡ true;
}
