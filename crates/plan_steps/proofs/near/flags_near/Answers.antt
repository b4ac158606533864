use Rattle.std.proofs.Common.{◌≡◌, ◌∙◌, ◌++◌, List, ap, subst, sym}
use Rattle.std.specs.Prelude.{flat_map}
use Rattle.plain_model.specs.declared.id.AnyId.{AnyId}
use Rattle.plain_model.specs.declared.event.PlainEvent.{PlainEvent}
use Rattle.event_arena.specs.Pointers.{AreAmong}
use Rattle.graph_walk.specs.Children.{children_of_all}
use Rattle.graph_walk.specs.Flags.{FlagsOf}
use Rattle.graph_walk.proofs.FlagLemmas.{if_ok}
use Rattle.plan_steps.specs.Near.{on_flagged}
use Rattle.plan_steps.proofs.NearLemmas.{all_back, all_front, near_flagged}
use Rattle.plan_steps.proofs.near.flags_near.Goals as goal

pub returns : goal.returns
returns c =
    let events = c.args.events.now.list in
    let set = c.args.set.now in
    let flags = c.args.flags.now in
    let children = children_of_all events set in
    let pointers = c.in_ok-pointers.pointers in
    let on = flat_map (on_flagged flags events) pointers in
    let ids = c.push_all_on.new.list in
    let sound = c.count-count.ensures.sound in
    let both : c.push_ids.new.list ≡ children ++ set = c.in_ok-push_ids.ensures ∙ ap (λ (xs : List AnyId). xs ++ set) c.in_ok-ids.ensures in
    let all : ids ≡ (children ++ set) ++ on =
    c.in_ok-push_all_on.ensures ∙ ap (λ (xs : List AnyId). c.push_ids.new.list ++ flat_map (on_flagged flags events) xs) c.as_slice.ensures
    ∙ ap (λ (xs : List AnyId). xs ++ on) both
    in
    let more : AreAmong (children ++ set) ids = subst (AreAmong (children ++ set)) (sym all) (all_front (children ++ set) on) in
    let last : AreAmong on ids = subst (AreAmong on) (sym all) (all_back (children ++ set) on) in
    if_ok c.flags_of.result _ _ (λ near f.
    near_flagged set events sound flags c.requires pointers ids near.items c.in_ok-pointers.ensures
    (subst (λ (es : List PlainEvent). FlagsOf es ids near.items) c.table.ensures.table (subst (λ xs. FlagsOf c.table.result.now xs near.items) c.as_slice-2.ensures f))
    (λ id h. more id (all_front children set id h)) (λ id h. more id (all_back children set id h)) last) c.flags_of.ensures
