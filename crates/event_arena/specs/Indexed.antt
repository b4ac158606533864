-- What is true of every history and of every plan. (own)
use Rattle.std.specs.Prelude.{◌≤◌, length, vec_capacity}
use Rattle.plain_model.specs.Lookups.{AreIdsBelow}
use Rattle.plain_model.specs.Soundness.{IsSound}
use Rattle.event_arena.specs.declared.events.Events.TheInside as events
use Rattle.event_arena.specs.declared.plan.Plan.TheInside as plan
use Rattle.event_arena.specs.Graphs.{Change, Graph}
use Rattle.event_arena.specs.Indices.{HasChildren, IsMarkIndex}
use Rattle.event_arena.specs.Spent.{BringsNoneBack}
use Rattle.event_arena.specs.Touched.{DifferAtMost}

abbrev pub graph : events.Inside → Graph
graph s = record { list = s.table; next_id = s.next_id; slots = length s.links.lists; room = s.room }

-- the list is sound, its ids are spent, and the indices agree with it and have the room
pub record IsIndexed (s : events.Inside) : Type 0 where
  pub sound : IsSound s.table
  pub spent : AreIdsBelow s.next_id s.table
  pub marks : IsMarkIndex s.marks.items s.table
  -- there is a place for each event, and perhaps for more
  pub places : length s.table ≤ length s.links.lists
  pub slot_room : length s.links.lists ≤ s.room
  pub children : HasChildren s.links.lists s.table s.table
  pub place_room : s.room ≤ s.links.place_room
  pub link_room : s.room ≤ s.links.link_room
  pub mark_room : s.room ≤ vec_capacity s.marks

abbrev pub change : plan.Inside → Change
change s = record { before = s.before; after = s.after; made_at = s.made_at; next = s.next }

-- the history before was sound, ids are given from made_at on, no spent id comes back, and what the plan touched is told
pub record IsPlanned (s : plan.Inside) : Type 0 where
  pub sound : IsSound s.before
  pub later : s.made_at ≤ s.next
  pub spent : AreIdsBelow s.next s.after
  pub none_back : BringsNoneBack s.made_at s.before s.after
  pub touched : DifferAtMost s.touched s.before s.after
