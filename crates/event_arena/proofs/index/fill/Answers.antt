use Rattle.std.proofs.Common.{◌≡◌, ◌∙◌, ◌-◌, ◌+◌, ◌++◌, ap, arith, drop, rules, suc}
use Rattle.std.proofs.lemmas.List.Sorted.{IsNonDecreasingBy-from_sort_by_key, IsPermutation-append_comm, IsPermutation-append_left, IsPermutation-trans}
use Rattle.std.specs.List.Sorted.{IsPermutation}
use Rattle.plain_model.specs.Lookups.{event_parents, marks_of, own_marks}
use Rattle.event_arena.proofs.LinkLemmas.{linked_step, once_at}
use Rattle.event_arena.proofs.ListLemmas.{drop_item, length_flat_drop, length_flat_item}
use Rattle.event_arena.proofs.MarkLemmas.{index_made}
use Rattle.event_arena.proofs.index.fill.Goals as goal

pub note_event-requires : goal.note_event-requires
note_event-requires c =
    let k = c.count-count.result - 1 - c.loop-done.done in
    let next : c.count-count.result - c.loop-done.done ≡ suc k = let t = c.loop-done-test.true in omega arith in
    let here = length_flat_item own_marks c.args.table.now k c.nth-event.result.now c.nth-event.ensures.event in
    let all = length_flat_drop own_marks c.args.table.now k in
    let len = rw next at c.loop-done.invariant.len in
    let room = c.requires.mark_room in
    let same = c.loop-done.invariant.mark_room in
    omega arith

pub link-requires-clause-once : goal.link-requires-clause-once
link-requires-clause-once c = once_at c.args.table.now _ c.nth-event.result.now c.nth-event.ensures.event c.requires.once

pub link-requires-clause-room : goal.link-requires-clause-room
link-requires-clause-room c =
    let k = c.count-count.result - 1 - c.loop-done.done in
    let next : c.count-count.result - c.loop-done.done ≡ suc k = let t = c.loop-done-test.true in omega arith in
    let here = length_flat_item event_parents c.args.table.now k c.nth-event.result.now c.nth-event.ensures.event in
    let all = length_flat_drop event_parents c.args.table.now k in
    let used = rw next at c.loop-done.invariant.used in
    let room = c.requires.link_room in
    let same = c.loop-done.invariant.link_room in
    omega arith

pub loop-done-preserved : goal.loop-done-preserved
loop-done-preserved c =
    let es = c.args.table.now in
    let k = c.count-count.result - 1 - c.loop-done.done in
    let event = c.nth-event.result.now in
    let t = c.loop-done-test.true in
    let v = c.loop-done.invariant in
    let next : c.count-count.result - c.loop-done.done ≡ suc k = omega arith in
    let now : c.count-count.result - (c.loop-done.done + 1) ≡ k = omega arith in
    let e = c.link.ensures in
    let step = linked_step es k event c.loop-done.links.lists c.link.new.links.lists c.loop-done.links.used c.link.new.links.used c.nth-event.ensures.event
    (rw next at v.used) e.used (rw next at v.children) e.linked in
    let own = own_marks event in
    let later = marks_of (drop (suc k) es) in
    let marks = c.loop-done.marks.items in
    let split : marks_of (drop k es) ≡ own ++ later = ap marks_of (drop_item es k event c.nth-event.ensures.event) in
    let noted = IsPermutation-trans (own ++ later) (later ++ own) (marks ++ own) (IsPermutation-append_comm own later) (IsPermutation-append_left own later marks (rw next at v.marks)) in
    let here = length_flat_item own_marks es k event c.nth-event.ensures.event in
    let before = rw next at v.len in
    let added = c.note_event.ensures.len in
    rw now (record {
      marks = rw (split, c.note_event.ensures.items) noted;
      len = omega arith;
      mark_room = c.note_event.ensures.room ∙ v.mark_room;
      places = e.places ∙ v.places;
      used = step.0;
      children = step.1;
      place_room = e.place_room ∙ v.place_room;
      link_room = e.link_room ∙ v.link_room;
    })

pub returns-clause-index : goal.returns-clause-index
returns-clause-index c =
    let es = c.args.table.now in
    let ended = c.loop-done-test.false in
    let none : c.count-count.result - c.loop-done.done ≡ 0 = omega arith in
    let noted : IsPermutation (marks_of es) c.loop-done.marks.items = rw none at c.loop-done.invariant.marks in
    let sorted = c.sort_unstable_by_key.ensures in
    index_made es _ c.requires.ids c.requires.marked
    (IsPermutation-trans (marks_of es) c.loop-done.marks.items c.sort_unstable_by_key.new.self.items noted sorted.permutation)
    (IsNonDecreasingBy-from_sort_by_key (λ m. m.0) _ sorted.sorted (λ a r q k. search rules))
