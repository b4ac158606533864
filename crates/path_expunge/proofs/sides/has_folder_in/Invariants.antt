use Rattle.std.proofs.Common.{◌≡◌, ◌<◌, length, true, false}
use Rattle.plain_model.specs.Paths.{Bytes, is_below}
use Rattle.path_expunge.specs.Apart.{is_in}
use Rattle.path_expunge.proofs.sides.has_folder_in.Given as goal

abbrev pub invariant-loop-place : goal.invariant-loop-place
invariant-loop-place l = (folder : Bytes) → length folder < l.place → is_below folder l.path ≡ true → is_in folder l.paths ≡ false
