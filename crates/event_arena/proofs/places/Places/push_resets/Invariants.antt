use Rattle.std.proofs.Common.{◌≡◌, ℕ, take, true}
use Rattle.std.specs.List.{Contains}
use Rattle.plain_model.specs.declared.id.AnyId.TheVariants as any
use Rattle.plain_model.specs.Lookups.{is_listed}
use Rattle.event_arena.specs.Pointers.{AreAmong}
use Rattle.event_arena.proofs.places.Places.push_resets.Given as goal

abbrev pub invariant-loop-number : goal.invariant-loop-number
invariant-loop-number l = record {
  old : AreAmong l.initial.list l.list;
  all : (n : ℕ) → Contains (take l.number-index l.number-items) n → is_listed (any.Reset n) l.list ≡ true;
}
