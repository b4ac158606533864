use Rattle.std.proofs.Common.{refl}
use Rattle.event_sets.specs.Kinds.{is_of}
use Rattle.event_sets.specs.Sets.{called}
use Rattle.event_sets.proofs.worked.worked_sets.Goals as goal

pub returns : goal.returns
unfolding is_of called
returns c = record {
  either = refl;
  both = refl;
  others = refl;
  between = refl;
  near_commit = refl;
  near_blob = refl;
  near_tag = refl;
  near_reset = refl;
  near_line = refl;
  near_twice = refl;
  least = refl;
  greatest = refl;
  whole = refl;
  nothing = refl;
  parents = refl;
  children = refl;
  descendants = refl;
  ancestors = refl;
  before = refl;
  none_before = refl;
  after = refl;
  none_after = refl;
  sorted = refl;
  heads = refl;
  roots = refl;
  merges = refl;
  forks = refl;
  empties = refl;
  several = refl;
}
