use Rattle.std.proofs.Common.{◌≤◌, length, arith}
use Rattle.plain_model.specs.declared.limit.TheConstants.{MAX_EVENTS}
use Rattle.round_trip_laws.specs.AsRead.{IsAsRead}
use Rattle.history_laws.proofs.PlacedIds.{placed_low}
use Rattle.stream_tests.proofs.writing.history.Goals as goal

pub from_plain-requires-clause-sound : goal.from_plain-requires-clause-sound
from_plain-requires-clause-sound c =
    (c.what_is_read_is_sound.ensures c.args.stream.now c.in_ok-list.list c.in_ok-list.ensures.list).sound

pub from_plain-requires-clause-low : goal.from_plain-requires-clause-low
from_plain-requires-clause-low c =
    let as_read : IsAsRead c.in_ok-list.list = c.what_is_read_is_sound.ensures c.args.stream.now c.in_ok-list.list c.in_ok-list.ensures.list in
    let few : length c.in_ok-list.list ≤ MAX_EVENTS = (c.what_is_read_passes_no_limit.ensures c.args.stream.now c.in_ok-list.list c.in_ok-list.ensures.list).0 in
    placed_low 1 4611686018427387904 c.in_ok-list.list as_read.placed (omega (arith, few))
