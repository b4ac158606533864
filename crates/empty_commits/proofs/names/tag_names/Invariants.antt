use Rattle.std.proofs.Common.{◌≡◌, take}
use Rattle.std.specs.Prelude.{bytes_eq}
use Rattle.std.specs.List.{list_any}
use Rattle.plain_model.specs.Paths.{Bytes}
use Rattle.tagify_laws.specs.Tagify.{has_tag_named}
use Rattle.empty_commits.proofs.names.tag_names.Given as goal

abbrev pub invariant-loop-place : goal.invariant-loop-place
invariant-loop-place l = (name : Bytes) → list_any (bytes_eq name) l.names ≡ has_tag_named (take l.place l.events.list) name
