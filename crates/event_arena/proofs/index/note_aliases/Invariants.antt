use Rattle.std.proofs.Common.{◌≡◌, ◌+◌, ◌++◌, take}
use Rattle.std.specs.Prelude.{vec_capacity, vec_len}
use Rattle.plain_model.specs.declared.id.AnyId.TheVariants.{Commit}
use Rattle.history_laws.specs.Once.{named}
use Rattle.event_arena.proofs.index.note_aliases.Given as goal

abbrev pub invariant-loop-alias : goal.invariant-loop-alias
invariant-loop-alias l = record {
  items : l.marks.items ≡ l.fn.marks.items ++ named (Commit l.id) (take l.alias-index l.aliases);
  len : vec_len l.marks ≡ vec_len l.fn.marks + l.alias-index;
  room : vec_capacity l.marks ≡ vec_capacity l.fn.marks;
}
