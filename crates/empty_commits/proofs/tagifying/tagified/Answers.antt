use Rattle.std.proofs.Common.{◌≡◌, ◌∙◌, ◌++◌, ◌+◌, List, map, length, ap, sym, subst}
use Rattle.std.specs.List.Sorted.{IsPermutation}
use Rattle.std.proofs.lemmas.List.Sorted.{IsPermutation-map}
use Rattle.plain_model.specs.declared.id.AnyId.{AnyId}
use Rattle.plain_model.specs.declared.event.PlainEvent.{PlainEvent}
use Rattle.plain_model.specs.Lookups.{id_of}
use Rattle.event_arena.specs.Changes.{in_order, without_all}
use Rattle.event_arena.specs.Graphs.{Change}
use Rattle.event_arena.specs.Plans.{leaving}
use Rattle.tagify_laws.specs.InPlace.{in_place, moved}
use Rattle.tagify_laws.specs.Tagify.{tagged}
use Rattle.empty_commits.specs.Tagging.{new_tags}
use Rattle.empty_commits.proofs.PlacingLemmas.{in_order_of, placed}
use Rattle.empty_commits.proofs.tagifying.tagified.Goals as goal

pub set_order-requires : goal.set_order-requires
set_order-requires c =
    let events = c.args.events.now in
    let set = c.args.empties.now.set in
    let es = c.args.empties.now.events in
    let next = events.next_id in
    let gone = tagged set es in
    let whole = map (moved set es) es ++ new_tags set es next es in
    let now = in_place set es next es in
    let order : c.in_ok-order.order ≡ map id_of now = c.in_ok-order.ensures ∙ ap (λ n. map id_of (in_place set es n es)) c.next_id.ensures.value in
    let moves : c.move_all.new.plan ≡ leaving events (map (moved set es) es) =
    c.in_ok-move_all.ensures ∙ ap (λ (p : Change). record p { after = map (moved set es) es }) c.in_ok-plan.ensures in
    let tags : c.append_all.new.plan ≡ record (leaving events whole) { next = next + length gone } =
    c.in_ok-append_all.ensures ∙ ap (λ (p : Change). record p { after = p.after ++ new_tags set es p.next es; next = p.next + length gone }) moves in
    let left : c.remove_all.new.self ≡ record (leaving events (without_all gone whole)) { next = next + length gone } =
    c.in_ok-remove_all.ensures.ok ∙ (λ i. record (tags i) { after = without_all (c.ids.ensures i) ((tags i).after) }) in
    let same : IsPermutation c.remove_all.new.self.after now =
    subst (λ (l : List PlainEvent). IsPermutation l now) (sym (ap (λ (p : Change). p.after) left)) (placed set es c.count-count.ensures.sound next) in
    subst (IsPermutation (map id_of c.remove_all.new.self.after)) (sym order) (IsPermutation-map id_of c.remove_all.new.self.after now same)

pub returns : goal.returns
returns c =
    let events = c.args.events.now in
    let set = c.args.empties.now.set in
    let es = c.args.empties.now.events in
    let next = events.next_id in
    let gone = tagged set es in
    let whole = map (moved set es) es ++ new_tags set es next es in
    let now = in_place set es next es in
    let order : c.in_ok-order.order ≡ map id_of now = c.in_ok-order.ensures ∙ ap (λ n. map id_of (in_place set es n es)) c.next_id.ensures.value in
    let moves : c.move_all.new.plan ≡ leaving events (map (moved set es) es) =
    c.in_ok-move_all.ensures ∙ ap (λ (p : Change). record p { after = map (moved set es) es }) c.in_ok-plan.ensures in
    let tags : c.append_all.new.plan ≡ record (leaving events whole) { next = next + length gone } =
    c.in_ok-append_all.ensures ∙ ap (λ (p : Change). record p { after = p.after ++ new_tags set es p.next es; next = p.next + length gone }) moves in
    let left : c.remove_all.new.self ≡ record (leaving events (without_all gone whole)) { next = next + length gone } =
    c.in_ok-remove_all.ensures.ok ∙ (λ i. record (tags i) { after = without_all (c.ids.ensures i) ((tags i).after) }) in
    let same : IsPermutation c.remove_all.new.self.after now =
    subst (λ (l : List PlainEvent). IsPermutation l now) (sym (ap (λ (p : Change). p.after) left)) (placed set es c.count-count.ensures.sound next) in
    let ordered : in_order c.in_ok-order.order c.remove_all.new.self.after ≡ now =
    ap (λ (ids : List AnyId). in_order ids c.remove_all.new.self.after) order ∙ in_order_of c.remove_all.new.self.after now c.count-left.ensures.once same in
    c.in_ok-set_order.ensures.ok ∙ (λ i. record (left i) { after = ordered i })
