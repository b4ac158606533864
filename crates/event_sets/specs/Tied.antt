-- What the fields of a set stand for. (own)
use Rattle.event_sets.specs.declared.set.EventSet.TheInside as set
use Rattle.event_sets.specs.Bits.{AreTied, value_of}
use Rattle.event_sets.specs.Once.{AreLive}
use Rattle.event_sets.specs.Subsets.{Subset}

abbrev pub subset : set.Inside → Subset
subset s = record { events = s.events.now.list; ids = value_of s.events.now.list s.bits.items s.order }

-- the bits are those of the list, and all of it is there
pub record IsTied (s : set.Inside) : Type 0 where
  pub tied : AreTied s.events.now.list s.bits.items s.order
  pub live : AreLive s.events.now.list (value_of s.events.now.list s.bits.items s.order)
