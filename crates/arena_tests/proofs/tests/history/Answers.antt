use Rattle.std.proofs.Common.{◌≤◌, length, arith}
use Rattle.plain_model.specs.declared.limit.TheConstants.{MAX_EVENTS}
use Rattle.round_trip_laws.specs.AsRead.{IsAsRead}
use Rattle.history_laws.proofs.PlacedIds.{placed_low}
use Rattle.arena_tests.proofs.tests.history.Goals as goal

pub from_plain-requires-clause-sound : goal.from_plain-requires-clause-sound
from_plain-requires-clause-sound c = (c.what_is_read_is_sound.ensures c.args.stream.now c.in-Ok.list c.in-Ok.ensures.list).sound

pub from_plain-requires-clause-low : goal.from_plain-requires-clause-low
from_plain-requires-clause-low c =
    let as_read : IsAsRead c.in-Ok.list = c.what_is_read_is_sound.ensures c.args.stream.now c.in-Ok.list c.in-Ok.ensures.list in
    let few : length c.in-Ok.list ≤ MAX_EVENTS = (c.what_is_read_passes_no_limit.ensures c.args.stream.now c.in-Ok.list c.in-Ok.ensures.list).0 in
    placed_low 1 4611686018427387904 c.in-Ok.list as_read.placed (omega (arith, few))
