use Rattle.std.proofs.Common.{◌<◌, ◌≤◌, length, arith, subst}
use Rattle.std.proofs.lemmas.List.{get_or_read}
use Rattle.std.specs.Prelude.{IfSome}
use Rattle.plan_steps.specs.Near.{ArePlacesNear, NoneNear, places_in}
use Rattle.plan_steps.specs.Chosen.{Chosen}
use Rattle.plan_steps.proofs.NearPlaces.{between, gap, no_earlier}
use Rattle.plan_steps.proofs.selection.Selected.next_near.Goals as goal

pub returns-in-Err-clause-later : goal.returns-in-Err-clause-later
returns-in-Err-clause-later c =
    let places = c.in-Some.near.items in
    let near : ArePlacesNear c.self.inside.set c.self.inside.list.now places = subst (λ o. IfSome (places_in o) (ArePlacesNear c.self.inside.set c.self.inside.list.now)) c.in-Some.is c.self.invariant.around in
    let i = c.in-Err.index in
    let g = gap places c.args.place c.binary_search.result i near.rising (rw c.deref.ensures.value at c.binary_search.ensures.position) c.in-Err.is in
    let low : i < length places = let len = c.len.ensures in let test = c.if-index-len.true in omega arith in
    let read = get_or_read places i c.index.result.now low c.index.ensures 0 in
    let past = g.1 i (omega arith) low in
    omega arith

pub returns-in-Err-clause-apart : goal.returns-in-Err-clause-apart
returns-in-Err-clause-apart c =
    let places = c.in-Some.near.items in
    let near : ArePlacesNear c.self.inside.set c.self.inside.list.now places = subst (λ o. IfSome (places_in o) (ArePlacesNear c.self.inside.set c.self.inside.list.now)) c.in-Some.is c.self.invariant.around in
    let i = c.in-Err.index in
    let g = gap places c.args.place c.binary_search.result i near.rising (rw c.deref.ensures.value at c.binary_search.ensures.position) c.in-Err.is in
    let low : i < length places = let len = c.len.ensures in let test = c.if-index-len.true in omega arith in
    let read = get_or_read places i c.index.result.now low c.index.ensures 0 in
    subst (λ (r : Chosen). NoneNear r.set r.events c.args.place c.index.result.now) c.self.view_is
    (between c.self.inside.set c.self.inside.list.now places i c.args.place c.index.result.now near g.0
    (λ j from under. let up = no_earlier places near.rising i j from under in omega arith))

pub returns-in-Err-2-clause-apart : goal.returns-in-Err-2-clause-apart
returns-in-Err-2-clause-apart c =
    let places = c.in-Some.near.items in
    let near : ArePlacesNear c.self.inside.set c.self.inside.list.now places = subst (λ o. IfSome (places_in o) (ArePlacesNear c.self.inside.set c.self.inside.list.now)) c.in-Some.is c.self.invariant.around in
    let i = c.in-Err.index in
    let g = gap places c.args.place c.binary_search.result i near.rising (rw c.deref.ensures.value at c.binary_search.ensures.position) c.in-Err.is in
    let past : length places ≤ i = let len = c.len.ensures in let test = c.if-index-len.false in omega arith in
    subst (λ (r : Chosen). NoneNear r.set r.events c.args.place c.count.result) c.self.view_is
    (between c.self.inside.set c.self.inside.list.now places i c.args.place c.count.result near g.0
    (λ j from under. absurd (omega arith)))
