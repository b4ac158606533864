use Rattle.std.proofs.Common.{◌≡◌, ◌-◌, ◌<◌, ◌⊎◌, Ok, Err, suc, length, arith, subst}
use Rattle.std.proofs.lemmas.List.{get_or_read}
use Rattle.std.specs.Prelude.{IfSome}
use Rattle.plan_steps.specs.Near.{ArePlacesNear, NoneNear, places_in}
use Rattle.plan_steps.specs.Chosen.{Chosen}
use Rattle.plan_steps.proofs.NearPlaces.{between, near_index, no_earlier}
use Rattle.plan_steps.proofs.selection.Selected.near_before.Goals as goal
use Rattle.plan_steps.proofs.selection.Selected.near_before.Goals.{in-Ok, in-Ok-2}

pub returns-then-index-eq0 : goal.returns-then-index-eq0
returns-then-index-eq0 c =
    let places = c.in-Some.near.items in
    let set = c.self.inside.set in
    let events = c.self.inside.list.now in
    let near : ArePlacesNear set events places = subst (λ o. IfSome (places_in o) (ArePlacesNear set events)) c.in-Some.is c.self.invariant.around in
    let i = c.match-binary_search.index in
    let either : (c.binary_search.result ≡ Ok i) ⊎ (c.binary_search.result ≡ Err i) = elim c.match-binary_search.branch [
      | in-Ok w ↦ rw w.index-is w.in-Ok.is
      | in-Ok-2 w ↦ rw w.index-is w.in-Ok.is
    ] in
    let s = near_index places c.args.place c.binary_search.result i near.rising (rw c.deref.ensures.value at c.binary_search.ensures.position) either in
    subst (λ (r : Chosen). NoneNear r.set r.events 0 c.args.place) c.self.view_is
    (between set events places i 0 c.args.place near (λ j under. let first = c.if-index-eq0.true in absurd (omega arith)) s.2)

pub returns-else-index-eq0 : goal.returns-else-index-eq0
returns-else-index-eq0 c =
    let places = c.in-Some.near.items in
    let set = c.self.inside.set in
    let events = c.self.inside.list.now in
    let near : ArePlacesNear set events places = subst (λ o. IfSome (places_in o) (ArePlacesNear set events)) c.in-Some.is c.self.invariant.around in
    let i = c.match-binary_search.index in
    let found = c.index.result.now in
    let either : (c.binary_search.result ≡ Ok i) ⊎ (c.binary_search.result ≡ Err i) = elim c.match-binary_search.branch [
      | in-Ok w ↦ rw w.index-is w.in-Ok.is
      | in-Ok-2 w ↦ rw w.index-is w.in-Ok.is
    ] in
    let s = near_index places c.args.place c.binary_search.result i near.rising (rw c.deref.ensures.value at c.binary_search.ensures.position) either in
    let within = s.0 in
    let test = c.if-index-eq0.false in
    let low : i - 1 < length places = omega arith in
    let read = get_or_read places (i - 1) found low c.index.ensures 0 in
    let earlier = s.1 (i - 1) (omega arith) in (
      omega arith,
      subst (λ (r : Chosen). NoneNear r.set r.events (suc found) c.args.place) c.self.view_is
          (between set events places i (suc found) c.args.place near (λ j under. let up = no_earlier places near.rising j (i - 1) (omega arith) low in omega arith) s.2),
    )
