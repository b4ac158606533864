-- Parts of the written text, cut as the code puts them one after another.
use Rattle.std.specs.Prelude.{ℕ, List, [], ◌++◌, codes, decimal, flat_map, Option}
use Rattle.plain_model.specs.declared.event.PlainEvent.{PlainEvent}
use Rattle.plain_model.specs.declared.operation.Mode.{Mode}
use Rattle.plain_model.specs.declared.operation.Content.{Content}
use Rattle.plain_model.specs.declared.operation.FileOp.{FileOp}
use Rattle.plain_model.specs.declared.person.Signed.{Signed}
use Rattle.plain_model.specs.Paths.{Bytes}
use Rattle.plain_model.specs.Snapshots.{commit_mark}
use Rattle.plain_model.specs.Text.{line, marked, mode_text, raw_content, raw_content_text, last_path, person, encoding_text, data_block, parents_text, op_text}

abbrev pub modify_text : List PlainEvent → Mode → Content → Bytes → Bytes
modify_text whole mode content path = codes "M " ++ mode_text mode ++ codes " " ++ raw_content_text (raw_content whole content) ++ codes " " ++ last_path path

abbrev pub merges_text : List PlainEvent → List ℕ → Bytes
merges_text whole merges = flat_map (λ q. line (codes "merge " ++ marked (commit_mark whole q))) merges

-- the lines of a commit up to its people
abbrev pub head_text : Bytes → ℕ → Signed → Signed → Bytes
head_text branch mark author committer =
    line (codes "commit " ++ branch) ++ line (codes "mark " ++ marked mark)
    ++ line (codes "author " ++ person author) ++ line (codes "committer " ++ person committer)

-- its lines after them, and the empty one
abbrev pub body_text : List PlainEvent → Option Bytes → Bytes → List ℕ → List FileOp → Bytes
body_text whole encoding comment parents ops =
    encoding_text whole encoding ++ data_block comment ++ parents_text whole parents ++ flat_map (op_text whole) ops ++ line []

-- the lines of a blob before its bytes, of which there are so many
abbrev pub blob_head : ℕ → ℕ → Bytes
blob_head mark size = line (codes "blob") ++ line (codes "mark " ++ marked mark) ++ line (codes "data " ++ decimal size)

abbrev pub blob_text : ℕ → Bytes → Bytes
blob_text mark bytes = line (codes "blob") ++ line (codes "mark " ++ marked mark) ++ data_block bytes
