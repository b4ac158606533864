use Rattle.std.proofs.Common.{◌≡◌, ◌++◌, drop}
use Rattle.std.specs.Prelude.{flat_map}
use Rattle.plain_model.specs.Text.{alias_text}
use Rattle.stream_writer.proofs.events.push_aliases.Given as goal

abbrev pub invariant-loop-alias : goal.invariant-loop-alias
invariant-loop-alias l = l.out ++ flat_map (alias_text l.mark) (drop l.alias-index l.aliases) ≡ l.fn.out ++ flat_map (alias_text l.mark) l.aliases
