-- The children at each place of a list, and the room for more. (own)
use Rattle.std.specs.Prelude.{◌≡◌, ℕ, List, length}

pub record Families : Type 0 where
  pub lists : List (List ℕ)
  -- how many children there are at all places
  pub used : ℕ
  -- room for places and for children, those that are there included
  pub place_room : ℕ
  pub link_room : ℕ

-- as many places as before, and the same room
pub record IsRoomKept (old new : Families) : Type 0 where
  pub places : length new.lists ≡ length old.lists
  pub place_room : new.place_room ≡ old.place_room
  pub link_room : new.link_room ≡ old.link_room
