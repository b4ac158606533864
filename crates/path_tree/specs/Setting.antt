-- What is at a path and below it becomes another file or folder, or nothing.
use Rattle.std.specs.Prelude.{◌≡◌, ◌<◌, bytes_eq, Bool, true, false, ◌==◌, ◌&&◌, [], ◌∷◌, length, drop, Option, None, Some, if◌then◌else◌}
use Rattle.plain_model.specs.declared.operation.Entry.{Entry}
use Rattle.plain_model.specs.Paths.{Bytes, is_empty, is_below, is_at_or_below}
use Rattle.plain_model.specs.Trees.{Tree, at}
use Rattle.path_tree.specs.Folders.{Member, prefixed, at_member, key_of, rest_of, Fits}
use Rattle.path_tree.specs.Folders.Member.{file, folder}
use Rattle.path_tree.specs.PathMaps.{IsInOrder}

-- up to the first slash, without it
abbrev pub name_of : Bytes → Bytes
name_of [] = []
name_of (b ∷ q) = if b == 47 then [] else b ∷ name_of q

-- the last byte is a slash
abbrev pub ends_with_slash : Bytes → Bool
ends_with_slash [] = false
ends_with_slash (b ∷ p) = if is_empty p then b == 47 else ends_with_slash p

-- what comes after the path of a file or a folder, if there is one: nothing, or a slash and a path of the folder
abbrev pub suffixes : Option Member → Tree
suffixes None = []
suffixes (Some (file entry)) = ([], entry) ∷ []
suffixes (Some (folder tree)) = prefixed (47 ∷ []) tree

-- a folder has paths, in order
abbrev pub FitsNode : Option Member → Type 0
FitsNode None = Unit {0}
FitsNode (Some (file entry)) = Unit {0}
FitsNode (Some (folder tree)) = (0 < length tree) × IsInOrder tree

-- the member fits its key, if there is one
abbrev pub FitsIf : Bytes → Option Member → Type 0
FitsIf key None = Unit {0}
FitsIf key (Some m) = Fits key m

-- what is at q where the member is put at the path, or nothing is left there, and q had this before; files in the
-- place of a folder on the way go, if that is asked
abbrev pub expected : Bytes → Option Member → Bool → Option Entry → Bytes → Option Entry
expected path member clear before q =
    if is_at_or_below path q then at (suffixes member) (drop (length path) q)
    else if clear && is_below q path then None
    else before

abbrev pub Places : Bytes → Option Member → Bool → Tree → Tree → Type 0
Places path member clear old new = (q : Bytes) → at new q ≡ expected path member clear (at old q) q

-- the same below the key, where all else stays
abbrev pub PlacesBelow : Bytes → Bytes → Option Member → Bool → Tree → Tree → Type 0
PlacesBelow key path member clear old new =
    (q : Bytes) → at new q ≡ (if bytes_eq key (key_of q) then expected path member clear (at old q) (rest_of q) else at old q)

-- under the key is the member, or nothing, and all else stays
abbrev pub PutsUnder : Bytes → Option Member → Tree → Tree → Type 0
PutsUnder key member old new =
    (q : Bytes) → at new q ≡ (if bytes_eq key (key_of q) then at_member member (rest_of q) else at old q)

-- and nothing is under the other key
abbrev pub PutsOver : Bytes → Bytes → Option Member → Tree → Tree → Type 0
PutsOver key other member old new =
    (q : Bytes) → at new q ≡ (if bytes_eq other (key_of q) then None else if bytes_eq key (key_of q) then at_member member (rest_of q) else at old q)

-- nothing is under the key
abbrev pub HasNone : Bytes → Tree → Type 0
HasNone key tree = (q : Bytes) → bytes_eq key (key_of q) ≡ true → at tree q ≡ None

-- the member is what the tree has at the path and below it
abbrev pub Finds : Bytes → Option Member → Tree → Type 0
Finds path member tree = (q : Bytes) → is_at_or_below path q ≡ true → at tree q ≡ at (suffixes member) (drop (length path) q)
