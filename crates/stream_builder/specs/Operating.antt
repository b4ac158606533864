-- What one more operation does to the commit that is being read.
use Rattle.std.specs.Prelude.{◌≡◌, List, [], ◌∷◌, ◌++◌, Result, Ok, Err, Some, None}
use Rattle.plain_model.specs.declared.event.PlainEvent.{PlainEvent}
use Rattle.plain_model.specs.declared.operation.FileOp.{FileOp}
use Rattle.stream_grammar.specs.Limits.{limit_on}
use Rattle.stream_builder.specs.declared.fault.LineFault.{LineFault}
use Rattle.stream_builder.specs.declared.fault.LineFault.TheVariants as line
use Rattle.stream_builder.specs.declared.known.Trees.{Trees}
use Rattle.stream_builder.specs.declared.open.OpenCommit.{OpenCommit}
use Rattle.stream_builder.specs.Agreement.{TreesAgree, open_tree}

-- the operation is after the others, or it passes a limit and the commit stays as it was
abbrev pub PutsLast : List PlainEvent → OpenCommit → FileOp → Result (Unit {0}) LineFault → OpenCommit → Trees → Type 0
PutsLast events old op (Ok tt) new trees =
    (new ≡ record old { ops = old.ops ++ op ∷ [] }) × TreesAgree trees events old.parents (old.ops ++ op ∷ []) × (limit_on op (open_tree events old.parents old.ops) ≡ None)
PutsLast events old op (Err (line.Limit which)) new trees =
    (new ≡ old) × TreesAgree trees events old.parents old.ops × (limit_on op (open_tree events old.parents old.ops) ≡ Some which)
PutsLast events old op (Err line.Memory) new trees = (new ≡ old) × TreesAgree trees events old.parents old.ops
PutsLast events old op (Err (line.Bad why)) new trees = ⊥
