use Rattle.std.proofs.Common.{◌≡◌, false, take}
use Rattle.std.specs.List.{list_any}
use Rattle.std.specs.Prelude.{flat_map}
use Rattle.plain_model.specs.Lookups.{is_listed, op_blobs}
use Rattle.event_sets.specs.Bits.{bits_of}
use Rattle.event_sets.specs.Once.{AreLive}
use Rattle.event_sets.specs.Sets.{Ids}
use Rattle.event_sets.proofs.near.put_blobs.Given as goal

abbrev pub invariant-loop-op : goal.invariant-loop-op
invariant-loop-op l = (ids : Ids) → l.bits ≡ bits_of l.events.list ids → AreLive l.events.list ids →
    list_any (λ b. is_listed b ids) (flat_map op_blobs (take l.op-index l.ops)) ≡ false
