use Rattle.std.proofs.Common.{arith}
use Rattle.coalesce_laws.proofs.Added.{still_below, still_within}
use Rattle.coalesce_laws.proofs.Coalesced.{stays_sound}
use Rattle.coalesce_laws.proofs.laws.a_coalesce_is_an_edit.Goals as goal

pub returns : goal.returns
returns c seconds set next events h below selection = (
  record { sound = stays_sound seconds set events h.sound; within = still_within seconds set events h.sound h.within },
  still_below seconds set events h.sound next below,
  omega arith,
)
