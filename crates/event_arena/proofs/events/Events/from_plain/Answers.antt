use Rattle.std.proofs.Common.{◌∙◌, ap, length, sym, subst, arith}
use Rattle.plain_model.specs.Soundness.{IsSound}
use Rattle.history_laws.proofs.Ids.{below_next}
use Rattle.event_arena.specs.Needs.{need}
use Rattle.event_arena.proofs.MeasureLemmas.{parents_need}
use Rattle.history_laws.proofs.SoundOnce.{sound_once}
use Rattle.event_arena.proofs.WeightLemmas.{need_weight}
use Rattle.event_arena.proofs.events.Events.from_plain.Goals as goal

pub from_list-requires : goal.from_list-requires
from_list-requires c = (sound_once c.args.list c.requires.sound).ids

pub fill-requires-clause-ids : goal.fill-requires-clause-ids
fill-requires-clause-ids c = rw c.in_ok-table.ensures ((sound_once c.args.list c.requires.sound).ids)

pub fill-requires-clause-marked : goal.fill-requires-clause-marked
fill-requires-clause-marked c = rw c.in_ok-table.ensures ((sound_once c.args.list c.requires.sound).marks)

pub fill-requires-clause-once : goal.fill-requires-clause-once
fill-requires-clause-once c = rw c.in_ok-table.ensures ((sound_once c.args.list c.requires.sound).parents)

pub fill-requires-clause-mark_room : goal.fill-requires-clause-mark_room
fill-requires-clause-mark_room c =
    let weighed = need_weight c.in_ok-table.table in
    let most = c.in-Some.ensures in
    let room = c.in_ok-marks.ensures.capacity in
    omega arith

pub fill-requires-clause-place_room : goal.fill-requires-clause-place_room
fill-requires-clause-place_room c =
    let weighed = need_weight c.in_ok-table.table in
    let most = c.in-Some.ensures in
    let room = c.in_ok-reserve.ensures.ok in
    omega arith

pub returns-clause-room : goal.returns-clause-room
returns-clause-room c =
    let weighed = need_weight c.in_ok-table.table in
    let most = c.in-Some.ensures in
    let same = ap need c.in_ok-table.ensures in
    omega arith

pub fill-requires-clause-link_room : goal.fill-requires-clause-link_room
fill-requires-clause-link_room c =
    let parents = parents_need c.in_ok-table.table in
    let weighed = need_weight c.in_ok-table.table in
    let most = c.in-Some.ensures in
    let room = c.in_ok-reserve.ensures.ok in
    omega arith

pub invariant_of-result : goal.invariant_of-result
invariant_of-result c =
    let filled = c.fill.ensures in
    let room = c.in_ok-reserve.ensures.ok in
    let spare = c.in_ok-marks.ensures.exact in
    let weighed = need_weight c.in_ok-table.table in
    let most = c.in-Some.ensures in
    let empty = ap length (c.reserve.ensures.lists ∙ c.new-links.ensures) in
    let slots = filled.places in
    record {
      sound = subst IsSound (sym c.in_ok-table.ensures) c.requires.sound;
      spent = rw c.next_number-next_id.ensures.value (below_next c.in_ok-table.table);
      marks = filled.index;
      places = omega arith;
      slot_room = omega arith;
      children = filled.children;
      place_room = omega arith;
      link_room = omega arith;
      mark_room = omega arith;
    }
