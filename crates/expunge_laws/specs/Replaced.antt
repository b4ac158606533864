-- `expunge`: what is in the place of an operation, so that it does to the tree without the matched paths what the
-- operation did to the tree (reposurgeon manual, `expunge`; what a copy or a rename carried out of a matched path is
-- kept: own).
use Rattle.std.specs.Prelude.{ℕ, Bool, false, not, ◌&&◌, ◌==◌, List, [], ◌∷◌, ◌++◌, filter, Option, Some, None, Ok, Err, bytes_eq, if◌then◌else◌}
use Rattle.std.specs.List.{list_any}
use Rattle.plain_model.specs.declared.operation.Mode.{Mode}
use Rattle.plain_model.specs.declared.operation.Mode.TheVariants.{Plain, Executable, Link, Gitlink}
use Rattle.plain_model.specs.declared.operation.Content.{Content}
use Rattle.plain_model.specs.declared.operation.Content.TheVariants.{Blob as OfBlob, Object}
use Rattle.plain_model.specs.declared.operation.Entry.{Entry}
use Rattle.plain_model.specs.declared.operation.FileOp.{FileOp}
use Rattle.plain_model.specs.declared.operation.FileOp.TheVariants.{Modify, Delete, Copy, Rename, DeleteAll}
use Rattle.plain_model.specs.Paths.{Bytes, do_conflict}
use Rattle.plain_model.specs.Trees.{Tree, TreeOf, apply, at, has, moved, subtree, where_path}
use Rattle.squash_laws.specs.Takings.{is_none}
use Rattle.edit_laws.specs.Puts.{puts_of}

-- ---- entries

abbrev pub mode_number : Mode → ℕ
mode_number Plain = 0
mode_number Executable = 1
mode_number Link = 2
mode_number Gitlink = 3

abbrev pub same_content : Content → Content → Bool
same_content (OfBlob a) (OfBlob b) = a == b
same_content (Object a) (Object b) = bytes_eq a b
same_content (OfBlob a) (Object b) = false
same_content (Object a) (OfBlob b) = false

-- the same mode and the same content
abbrev pub same_entry : Entry → Entry → Bool
same_entry a b = (mode_number a.mode == mode_number b.mode) && same_content a.content b.content

-- this entry is there
abbrev pub has_entry : Option Entry → Entry → Bool
has_entry None entry = false
has_entry (Some other) entry = same_entry other entry

-- ---- an operation for each path

-- each path of a tree is deleted, in byte order
abbrev pub deletes_of : Tree → List FileOp
deletes_of [] = []
deletes_of (e ∷ es) = Delete e.0 ∷ deletes_of es

module _ (matched : Bytes → Bool) where
  -- a tree without the matched paths
  abbrev pub restricted : {X : Type 0} → TreeOf X → TreeOf X
  restricted tree = where_path (λ p. not (matched p)) tree

  -- the tree has a matched path
  abbrev pub has_matched : Tree → Bool
  has_matched tree = list_any (λ e. matched e.0) tree

  -- from one tree to another, outside the matched paths: what goes, and then what comes or changes
  abbrev pub rewritten : Tree → Tree → List FileOp
  rewritten old new =
      deletes_of (where_path (λ p. not (has new p)) (restricted old))
      ++ puts_of (filter (λ e. not (has_entry (at old e.0) e.1)) (restricted new))

  -- a copy or a rename takes no matched path, and puts none
  abbrev pub is_clear : Bytes → Bytes → Tree → Bool
  is_clear source target old =
      not (has_matched (subtree source old)) && not (has_matched (moved source target (subtree source old)))

  -- what is in the place of an operation between the tree before it and the tree after it
  abbrev pub replaced : FileOp → Tree → Tree → List FileOp
  replaced (Modify mode content path) old new =
      if matched path then deletes_of (where_path (do_conflict path) (restricted old))
      else Modify mode content path ∷ []
  replaced (Delete path) old new =
      if matched path && is_none (restricted (subtree path old)) then [] else Delete path ∷ []
  replaced (Copy source target) old new =
      if is_clear source target old then Copy source target ∷ [] else rewritten old new
  replaced (Rename source target) old new =
      if is_clear source target old then Rename source target ∷ [] else rewritten old new
  replaced DeleteAll old new = DeleteAll ∷ []

  -- in the place of the operations of a commit that begins with a tree; the trees are those of the old operations
  abbrev pub replaced_all : List FileOp → Tree → List FileOp
  replaced_all [] old = []
  replaced_all (op ∷ ops) old = elim (apply op old) [
    | Ok new ↦ replaced op old new ++ replaced_all ops new
    | Err why ↦ []
  ]
