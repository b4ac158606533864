use Rattle.std.proofs.Common.{◌≡◌, ◌∙◌, ◌≤◌, Option, ℕ, Some, None, true, false, get_or, ap, arith, sym}
use Rattle.std.specs.Prelude.{unwrap_or}
use Rattle.plain_model.specs.declared.id.AnyId.TheVariants as any
use Rattle.plain_model.specs.Lookups.{is_listed, place_of}
use Rattle.history_laws.proofs.Ids.{placeless}
use Rattle.graph_walk.proofs.PlaceLemmas.{event_placed}
use Rattle.squash_laws.specs.Removed.{is_removed}
use Rattle.plan_steps.proofs.WayLemmas.{commit_own}
use Rattle.coalesce_simplify.proofs.Leading.{absent_stays, end_gone, end_stays}
use Rattle.coalesce_simplify.proofs.ends.end_of.Goals as goal

pub returns-in_default : goal.returns-in_default
returns-in_default c =
    let events = c.args.going.now.events in
    let set = c.args.going.now.set in
    let sound = c.count-count.ensures.sound in
    let own = any.Commit c.args.commit in
    let lost : place_of own events ≡ None = ap (place_of own) (sym c.events.ensures) ∙ sym c.place.ensures.place ∙ c.in_default.is in
    end_stays set events sound c.requires.joined c.args.commit (absent_stays set events sound c.requires.joined c.args.commit (placeless events own lost))

pub returns-then-has_at : goal.returns-then-has_at
returns-then-has_at c =
    let events = c.args.going.now.events in
    let set = c.args.going.now.set in
    let own = any.Commit c.args.commit in
    let k = c.in-Some.at in
    let there : place_of own events ≡ Some k = ap (place_of own) (sym c.events.ensures) ∙ sym c.in-Some.ensures.place in
    let p = event_placed events own k there in
    let gone : is_removed set c.args.commit ≡ true = ap (λ i. is_listed i set) p.own ∙ sym (c.has_at.ensures p.event p.at) ∙ c.if-has_at.true in
    let low : 0 ≤ k = omega arith in
    let end = c.requires.ends.entry k p.event p.at low c.args.commit (commit_own c.args.commit p.event p.own) gone in
    c.unwrap_or.ensures ∙ ap (λ (o : Option ℕ). unwrap_or o c.args.commit) c.end_in.ensures
    ∙ end_gone set events c.count-count.ensures.sound c.requires.joined c.args.commit (get_or c.args.ends.now k None) gone end

pub returns-else-has_at : goal.returns-else-has_at
returns-else-has_at c =
    let events = c.args.going.now.events in
    let set = c.args.going.now.set in
    let own = any.Commit c.args.commit in
    let k = c.in-Some.at in
    let there : place_of own events ≡ Some k = ap (place_of own) (sym c.events.ensures) ∙ sym c.in-Some.ensures.place in
    let p = event_placed events own k there in
    let stays : is_removed set c.args.commit ≡ false = ap (λ i. is_listed i set) p.own ∙ sym (c.has_at.ensures p.event p.at) ∙ c.if-has_at.false in
    end_stays set events c.count-count.ensures.sound c.requires.joined c.args.commit stays
