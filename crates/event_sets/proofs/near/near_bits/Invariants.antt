use Rattle.std.proofs.Common.{◌≡◌, length, map, take}
use Rattle.std.specs.Prelude.{flat_map}
use Rattle.plain_model.specs.Lookups.{id_of, is_listed}
use Rattle.event_sets.specs.Bits.{bits_of}
use Rattle.event_sets.specs.Once.{AreLive}
use Rattle.event_sets.specs.Sets.{Ids, around, members}
use Rattle.event_sets.proofs.near.near_bits.Given as goal

abbrev pub invariant-loop-place : goal.invariant-loop-place
invariant-loop-place l = record {
  count : length l.near.items ≡ l.place;
  near : (ids : Ids) → l.bits ≡ bits_of l.events.list ids → AreLive l.events.list ids →
      l.near.items ≡ map (λ e. is_listed (id_of e) (flat_map (around l.events.list) (members l.events.list ids)))
      (take l.place l.events.list);
}
