use Rattle.std.proofs.Common.{◌≡◌, ◌∙◌, ◌-◌, [], Some, None, ap, refl, subst, sym, arith}
use Rattle.std.specs.List.{AllByRecursion}
use Rattle.std.specs.Option.{option_map_or}
use Rattle.std.specs.Prelude.{IsSome}
use Rattle.plain_model.specs.declared.id.AnyId.TheVariants as any
use Rattle.plain_model.specs.Lookups.{event_parents, find_event, place_of}
use Rattle.history_laws.proofs.SoundOnce.{sound_once}
use Rattle.graph_walk.proofs.PlaceLemmas.{place_found}
use Rattle.plan_steps.specs.Depths.{depth, parents_at}
use Rattle.squash_delete.specs.Chains.{IsNearest}
use Rattle.plan_steps.proofs.Depths.{depth_at}
use Rattle.squash_delete.proofs.ChainLemmas.{all_before, nearest_nil, own_before}
use Rattle.plan_steps.proofs.NodeLemmas.{found_at, parents_there}
use Rattle.squash_delete.proofs.chains.nearest_before.Goals as goal

pub nearest-requires-clause-before : goal.nearest-requires-clause-before
nearest-requires-clause-before c =
    let events = c.args.removal.now.events in
    let sound = c.count-count.ensures.sound in
    let e = c.in-Some.event.now in
    let found : find_event (any.Commit c.args.commit) events ≡ Some e = sym (c.in-Some.ensures ∙ ap (find_event (any.Commit c.args.commit)) c.list.ensures) in
    let a = found_at events sound c.args.commit e found in
    all_before events c.args.table.now.count (let count = c.requires.count in omega arith) c.parents.result.now
    (subst (AllByRecursion (λ p. IsSome (find_event (any.Commit p) events))) (sym c.parents.ensures) (parents_there events sound a.place e a.at))

pub returns-in-Some : goal.returns-in-Some
returns-in-Some c =
    let events = c.args.removal.now.events in
    let set = c.args.removal.now.set in
    let sound = c.count-count.ensures.sound in
    let e = c.in-Some.event.now in
    let found : find_event (any.Commit c.args.commit) events ≡ Some e = sym (c.in-Some.ensures ∙ ap (find_event (any.Commit c.args.commit)) c.list.ensures) in
    let a = found_at events sound c.args.commit e found in
    let there : place_of (any.Commit c.args.commit) events ≡ Some a.place = ap (λ id. place_of id events) a.own ∙ (place_found events a.place e a.at (sound_once events sound).ids).0 in
    let deep = depth_at events c.args.commit a.place there in
    let most : a.place ≡ depth events c.args.commit - 1 = omega arith in
    let parents : c.parents.result.now ≡ parents_at events c.args.commit = c.parents.ensures ∙ sym (ap (λ o. option_map_or event_parents o []) found) in
    subst (λ m. IsNearest set events m (parents_at events c.args.commit) c.nearest.result) most
    (subst (λ ps. IsNearest set events a.place ps c.nearest.result) parents
    (c.nearest.ensures a.place (own_before events sound a.place a.place e c.parents.result.now a.at refl c.parents.ensures)))

pub returns-in-None : goal.returns-in-None
returns-in-None c =
    let events = c.args.removal.now.events in
    let set = c.args.removal.now.set in
    let found : find_event (any.Commit c.args.commit) events ≡ None = sym (c.in-None.ensures ∙ ap (find_event (any.Commit c.args.commit)) c.list.ensures) in
    subst (λ ps. IsNearest set events (depth events c.args.commit - 1) ps None) (sym (ap (λ o. option_map_or event_parents o []) found)) (nearest_nil set events (depth events c.args.commit - 1))
