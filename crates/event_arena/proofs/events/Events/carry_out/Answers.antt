use Rattle.std.proofs.Common.{ap, arith, length, sym, subst}
use Rattle.plain_model.specs.Lookups.{AreIdsBelow}
use Rattle.plain_model.specs.Soundness.{IsSound}
use Rattle.event_arena.specs.Graphs.{Graph}
use Rattle.event_arena.proofs.KeptMarkLemmas.{index_kept}
use Rattle.event_arena.proofs.MeasureLemmas.{parents_need}
use Rattle.history_laws.proofs.SoundOnce.{sound_once}
use Rattle.event_arena.proofs.events.Events.carry_out.Goals as goal
use Rattle.event_arena.proofs.events.Events.carry_out.Goals.{then-not-mend, else-not-mend}

pub fill-requires-clause-ids : goal.fill-requires-clause-ids
fill-requires-clause-ids c = rw c.into_after-table.ensures.after ((sound_once c.args.plan.after c.requires.sound).ids)

pub fill-requires-clause-marked : goal.fill-requires-clause-marked
fill-requires-clause-marked c = rw c.into_after-table.ensures.after ((sound_once c.args.plan.after c.requires.sound).marks)

pub fill-requires-clause-once : goal.fill-requires-clause-once
fill-requires-clause-once c = rw c.into_after-table.ensures.after ((sound_once c.args.plan.after c.requires.sound).parents)

pub fill-requires-clause-link_room : goal.fill-requires-clause-link_room
fill-requires-clause-link_room c =
    let same = ap (λ (g : Graph). g.room) c.self.view_is in
    let own = c.mend.ensures.room.link_room in
    let room = c.self.invariant.link_room in
    let needed = c.requires.room in
    let parents = parents_need c.args.plan.after in
    rw c.into_after-table.ensures.after (omega arith)

pub invariant_of-self : goal.invariant_of-self
invariant_of-self c =
    let v = c.self.invariant in
    let sound : IsSound c.into_after-table.result.0 = subst IsSound (sym c.into_after-table.ensures.after) c.requires.sound in
    let spent : AreIdsBelow c.into_after-table.result.1 c.into_after-table.result.0 = rw (c.into_after-table.ensures.after, c.into_after-table.ensures.next) c.into_after-table.ensures.spent in
    let mended = c.mend.ensures in
    elim c.if-not-mend.branch [
      | else-not-mend w ↦
          let done = w.if-not-mend.false in
          let count = mended.count done in
          let places = v.places in
          let slots = v.slot_room in
          let same = mended.room.places in
          let place_room = v.place_room in
          let link_room = v.link_room in
          let place_same = mended.room.place_room in
          let link_same = mended.room.link_room in
          rw w.self-inside-is (record {
            sound = sound;
            spent = spent;
            marks = index_kept c.self.inside.marks.items c.self.inside.table c.into_after-table.result.0 (sound_once c.self.inside.table v.sound) (sound_once c.into_after-table.result.0 sound) v.marks (mended.marks done);
            places = omega arith;
            slot_room = omega arith;
            children = mended.children done;
            place_room = omega arith;
            link_room = omega arith;
            mark_room = v.mark_room;
          })
      | then-not-mend w ↦
          let filled = w.fill.ensures in
          let now = filled.places in
          let slots = v.slot_room in
          let kept = mended.room.places in
          let count = ap length c.into_after-table.ensures.after in
          let needed = c.requires.room in
          let same = ap (λ (g : Graph). g.room) c.self.view_is in
          let place_room = v.place_room in
          let link_room = v.link_room in
          let place_kept = mended.room.place_room in
          let link_kept = mended.room.link_room in
          let place_now = filled.place_room in
          let link_now = filled.link_room in
          let mark_room = v.mark_room in
          let mark_now = filled.mark_room in
          rw w.self-inside-is (record {
            sound = sound;
            spent = spent;
            marks = filled.index;
            places = omega arith;
            slot_room = omega arith;
            children = filled.children;
            place_room = omega arith;
            link_room = omega arith;
            mark_room = omega arith;
          })
    ]
