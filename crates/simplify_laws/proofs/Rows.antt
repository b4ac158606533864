-- The examples, computed.
use Rattle.std.proofs.Common.{◌≡◌, [], refl, Ok, Some}
use Rattle.plain_model.specs.Histories.{tree}
use Rattle.simplify_laws.specs.Examples.{anew_at_once, begun_anew, folder_goes, folder_goes_last, foldered, one_blob, put_and_deleted, put_below, put_last, put_over, put_twice, renamed_between, third, two_blobs}
use Rattle.simplify_laws.specs.Simplify.{simpler, simplify_of}

pub put_once : simplify_of third put_twice ≡ Ok put_last
put_once = refl

pub blob_gone : simplify_of third (two_blobs put_over) ≡ Ok one_blob
blob_gone = refl

pub rename_between : simplify_of third (two_blobs renamed_between) ≡ Ok (two_blobs renamed_between)
rename_between = refl

pub below_folder : simplify_of third (two_blobs put_below) ≡ Ok (two_blobs put_below)
below_folder = refl

pub put_before : simplify_of third (two_blobs put_and_deleted) ≡ Ok (two_blobs put_and_deleted)
put_before = refl

pub put_away : tree (two_blobs put_and_deleted) 3 ≡ Some []
put_away = refl

pub anew : simplify_of third (two_blobs begun_anew) ≡ Ok (two_blobs anew_at_once)
anew = refl

pub folder_first : simplify_of third (foldered folder_goes) ≡ Ok (foldered folder_goes_last)
folder_first = refl

pub folder_tree : tree (foldered folder_goes_last) 3 ≡ tree (foldered folder_goes) 3
folder_tree = refl

pub folder_left : simpler folder_goes ≡ folder_goes_last
folder_left = refl
