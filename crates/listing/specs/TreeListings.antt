-- The trees of commits, a line for each path (reposurgeon manual, `manifest`; the forms of the lines: own)
use Rattle.std.specs.Prelude.{ℕ, List, [], ◌++◌, flat_map, Option, Some, None, codes}
use Rattle.plain_model.specs.declared.id.AnyId.{AnyId}
use Rattle.plain_model.specs.declared.operation.Entry.{Entry}
use Rattle.plain_model.specs.declared.event.PlainEvent.{PlainEvent}
use Rattle.plain_model.specs.declared.event.PlainEvent.TheVariants.{Blob, Commit, Tag, Reset, Pass}
use Rattle.plain_model.specs.Histories.{tree}
use Rattle.plain_model.specs.Paths.{Bytes}
use Rattle.plain_model.specs.Text.{last_path, line, marked, mode_text, raw_content, raw_content_text}
use Rattle.plain_model.specs.Trees.{Tree}
use Rattle.listing.specs.Listings.{lines_of}

-- the mode, the mark of the blob or the digits of the object, and the path as it is written at the end of a line
abbrev pub entry_line : List PlainEvent → Bytes × Entry → Bytes
entry_line whole at =
    line (mode_text at.1.mode ++ codes " " ++ raw_content_text (raw_content whole at.1.content) ++ codes " "
    ++ last_path at.0)

-- what is at each path of a tree, in byte order of the paths
abbrev pub tree_lines : List PlainEvent → Option Tree → Bytes
tree_lines whole (Some paths) = flat_map (entry_line whole) paths
tree_lines whole None = []

-- a commit's mark, and then its tree; other events have no lines
abbrev pub manifest_lines : List PlainEvent → ℕ → PlainEvent → Bytes
manifest_lines whole n (Commit id mark branch author committer encoding comment parents ops aliases) =
    line (codes "commit " ++ marked mark) ++ tree_lines whole (tree whole id)
manifest_lines whole n (Blob id mark bytes) = []
manifest_lines whole n (Tag id name target tagger comment mark) = []
manifest_lines whole n (Reset id branch target) = []
manifest_lines whole n (Pass id bytes) = []

unfoldable pub manifest_text : List PlainEvent → List AnyId → Bytes
manifest_text events ids = lines_of (manifest_lines events) events ids
