use Rattle.std.proofs.Common.{◌≡◌, length}
use Rattle.selection_eval.specs.Names.{names_of}
use Rattle.selection_eval.proofs.NameSteps.{live_first}
use Rattle.selection_eval.proofs.names.Names.keep_live.Given as goal

abbrev pub invariant-loop-place : goal.invariant-loop-place
invariant-loop-place l = record {
  names : names_of l.self-inside.by_name.entries ≡ live_first l.events.list l.place l.fn.self;
  count : length l.self-inside.by_name.entries ≡ l.place-end;
}
