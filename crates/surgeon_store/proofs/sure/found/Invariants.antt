use Rattle.std.proofs.Common.{◌≡◌, drop}
use Rattle.surgeon_store.specs.Entries.{lookup}
use Rattle.surgeon_store.proofs.sure.found.Given as goal

abbrev pub invariant-loop-file : goal.invariant-loop-file
invariant-loop-file l = lookup l.name (drop l.file-index l.files) ≡ lookup l.name l.files
