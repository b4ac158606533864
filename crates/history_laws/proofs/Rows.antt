-- Worked rows: the examples, computed.
use Rattle.std.proofs.Common.{◌≡◌, [], ◌∷◌, map, refl}
use Rattle.std.specs.Fmt.{digits}
use Rattle.plain_model.specs.Numbers.{decimal_of}
use Rattle.plain_model.specs.Histories.{tree}
use Rattle.plain_model.specs.Text.{text}
use Rattle.history_laws.specs.Examples.{put_in_turn, moved_in_turn, file_folder_file, reset_before_root, root_on_a_tip, second_root_written}

-- ---- a file where a folder was

-- files that are put
pub trees_of_puts : map (tree put_in_turn) (2 ∷ 3 ∷ 4 ∷ []) ≡ file_folder_file
trees_of_puts = refl

-- files that are renamed and copied
pub trees_of_moves : map (tree moved_in_turn) (2 ∷ 3 ∷ 4 ∷ []) ≡ file_folder_file
trees_of_moves = refl

-- ---- a second root on a branch

-- a reset event
pub reset_is_written : text reset_before_root ≡ second_root_written
unfolding digits decimal_of
reset_is_written = refl

-- a tip with no reset event
pub reset_is_put_in : text root_on_a_tip ≡ second_root_written
unfolding digits decimal_of
reset_is_put_in = refl
