use Rattle.std.proofs.Common.{◌∙◌, Some, ap, sym, rules}
use Rattle.std.proofs.lemmas.List.{get_or_read}
use Rattle.std.proofs.lemmas.List.Sorted.{answers_always}
use Rattle.event_arena.proofs.MarkLemmas.{mark_found, searched}
use Rattle.event_arena.proofs.events.Events.by_mark.Goals as goal

pub returns-then-is_some : goal.returns-then-is_some
returns-then-is_some c =
    let ms = c.self.inside.marks.items in
    let es = c.self.inside.table in
    let mark = c.args.mark in
    let index = c.self.invariant.marks in
    let halving = c.binary_search_by_key.ensures in
    let by_key = halving.position (λ m. m.0) (answers_always _ _ _ (λ f a r g called. search rules)) in
    let here = rw c.in-Ok.is at (searched ms es mark index _ (rw c.deref.ensures.value at halving.bound) (rw (c.deref.ensures.value, c.number-number.ensures.value) at by_key)) in
    let first = c.index.result.now in
    let again = c.index-then-is_some.result.now in
    let one = get_or_read ms c.in-Ok.at again here.0 c.index-then-is_some.ensures first in
    let placed = rw c.index.ensures at c.place.ensures.place in
    let found = mark_found ms es mark index c.in-Ok.at first c.place.result here.0 (here.1 first) placed in
    rw (← c.self.view_is) (ap (λ m. Some m.1) one ∙ rw (sym c.if-is_some.ensures) at found)

pub returns-else-is_some : goal.returns-else-is_some
returns-else-is_some c =
    let ms = c.self.inside.marks.items in
    let es = c.self.inside.table in
    let mark = c.args.mark in
    let index = c.self.invariant.marks in
    let halving = c.binary_search_by_key.ensures in
    let by_key = halving.position (λ m. m.0) (answers_always _ _ _ (λ f a r g called. search rules)) in
    let here = rw c.in-Ok.is at (searched ms es mark index _ (rw c.deref.ensures.value at halving.bound) (rw (c.deref.ensures.value, c.number-number.ensures.value) at by_key)) in
    let first = c.index.result.now in
    let placed = rw c.index.ensures at c.place.ensures.place in
    let found = mark_found ms es mark index c.in-Ok.at first c.place.result here.0 (here.1 first) placed in
    rw (← c.self.view_is) (rw (sym c.if-is_some.ensures) at found)

pub returns-in-Err : goal.returns-in-Err
returns-in-Err c =
    let ms = c.self.inside.marks.items in
    let es = c.self.inside.table in
    let index = c.self.invariant.marks in
    let halving = c.binary_search_by_key.ensures in
    let by_key = halving.position (λ m. m.0) (answers_always _ _ _ (λ f a r g called. search rules)) in
    let gone = rw c.in-Err.is at (searched ms es c.args.mark index _ (rw c.deref.ensures.value at halving.bound) (rw (c.deref.ensures.value, c.number-number.ensures.value) at by_key)) in
    rw (← c.self.view_is) gone
