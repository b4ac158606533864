use Rattle.std.proofs.Common.{◌≡◌, take}
use Rattle.std.specs.Prelude.{map}
use Rattle.plain_model.specs.Lookups.{id_of, is_listed}
use Rattle.event_arena.proofs.table.EventTable.listed.Given as goal

-- the places of the ids so far are marked
abbrev pub invariant-loop-id : goal.invariant-loop-id
invariant-loop-id l = l.listed.items ≡ map (λ e. is_listed (id_of e) (take l.id-index l.ids)) l.self
