use Rattle.std.proofs.Common.{◌≡◌, ◌∙◌, [], List, ℕ, Option, arith, ap, subst, sym}
use Rattle.std.specs.Option.{option_map_or}
use Rattle.plain_model.specs.declared.event.PlainEvent.{PlainEvent}
use Rattle.plan_steps.specs.Depths.{depth, parents_at}
use Rattle.coalesce_simplify.specs.Joining.{first_joined}
use Rattle.coalesce_simplify.proofs.Walks.{IsOn, shallower, walk_begins, walk_goes_on}
use Rattle.coalesce_simplify.proofs.chains.joined_before.Goals as goal

pub loop-at-init : goal.loop-at-init
loop-at-init c =
    let events = c.args.going.now.events in
    let set = c.args.going.now.set in
    let ps = c.args.parents.now in
    subst (IsOn set events ps c.first_joined-at.result) (sym c.new-commits.ensures.items)
    (subst (λ (o : Option ℕ). IsOn set events ps o []) (sym c.first_joined-at.ensures) (walk_begins set events c.count-count.ensures.sound ps))

pub loop-at-smaller : goal.loop-at-smaller
loop-at-smaller c =
    let events = c.args.going.now.events in
    let set = c.args.going.now.set in
    let d = c.in-Some.commit in
    let parents : c.parents_of.result.now ≡ parents_at events d = c.parents_of.ensures.found ∙ ap (λ (es : List PlainEvent). parents_at es d) c.events.ensures in
    let next : c.first_joined-at-in-Some.result ≡ first_joined set events (parents_at events d) = c.first_joined-at-in-Some.ensures ∙ ap (first_joined set events) parents in
    let less = shallower set events c.count-count.ensures.sound d (c.loop-at.invariant.there d c.in-Some.is) in
    let new : option_map_or (depth events) c.first_joined-at-in-Some.result 0 ≡ option_map_or (depth events) (first_joined set events (parents_at events d)) 0 = ap (λ (o : Option ℕ). option_map_or (depth events) o 0) next in
    let old : option_map_or (depth events) c.loop-at.at 0 ≡ depth events d = ap (λ (o : Option ℕ). option_map_or (depth events) o 0) c.in-Some.is in
    omega arith

pub loop-at-preserved : goal.loop-at-preserved
loop-at-preserved c =
    let events = c.args.going.now.events in
    let set = c.args.going.now.set in
    let ps = c.args.parents.now in
    let d = c.in-Some.commit in
    let walk = c.loop-at.commits.items in
    let parents : c.parents_of.result.now ≡ parents_at events d = c.parents_of.ensures.found ∙ ap (λ (es : List PlainEvent). parents_at es d) c.events.ensures in
    let next : c.first_joined-at-in-Some.result ≡ first_joined set events (parents_at events d) = c.first_joined-at-in-Some.ensures ∙ ap (first_joined set events) parents in
    let was = subst (λ (o : Option ℕ). IsOn set events ps o walk) c.in-Some.is c.loop-at.invariant in
    subst (λ (o : Option ℕ). IsOn set events ps o c.push.new.self.items) (sym next)
    (subst (IsOn set events ps (first_joined set events (parents_at events d))) (sym c.in_ok-push.ensures.items) (walk_goes_on set events c.count-count.ensures.sound ps walk d was))
