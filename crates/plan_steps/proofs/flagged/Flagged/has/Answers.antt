use Rattle.std.proofs.Common.{◌≡◌, ◌∙◌, ◌<◌, Some, true, false, length, arith, ap, sym}
use Rattle.std.specs.Prelude.{◌&&◌, is_some}
use Rattle.std.proofs.lemmas.List.{get_or_read}
use Rattle.plain_model.specs.declared.id.AnyId.TheVariants as any
use Rattle.plain_model.specs.Lookups.{is_listed, place_of}
use Rattle.plain_model.specs.Soundness.{has_id}
use Rattle.graph_walk.proofs.PlaceLemmas.{event_placed, has_id_place, place_within}
use Rattle.plan_steps.specs.Chosen.{Chosen}
use Rattle.plan_steps.proofs.flagged.Flagged.has.Goals as goal

pub returns-in-Some : goal.returns-in-Some
returns-in-Some c =
    let events = c.self.inside.events.now.list in
    let set = c.self.inside.set in
    let own = any.Commit c.args.commit in
    let flags = c.self.inside.flags.items in
    let k = c.in-Some.place in
    let there : place_of own events ≡ Some k = sym c.in-Some.ensures.place in
    let p = event_placed events own k there in
    let low : k < length flags = let within = place_within events own k there in let count = c.self.invariant.count in omega arith in
    let known : has_id events own ≡ true = has_id_place events own ∙ ap is_some there in
    get_or_read flags k c.index.result.now low c.index.ensures false ∙ c.self.invariant.flag k p.event p.at
    ∙ ap (λ id. is_listed id set) (sym p.own)
    ∙ sym (ap (λ b. b && is_listed own set) known)
    ∙ ap (λ (r : Chosen). has_id r.events own && is_listed own r.set) c.self.view_is

pub returns-in-None : goal.returns-in-None
returns-in-None c =
    let events = c.self.inside.events.now.list in
    let set = c.self.inside.set in
    let own = any.Commit c.args.commit in
    let known : has_id events own ≡ false = has_id_place events own ∙ ap is_some (sym c.in-None.ensures.place) in
    sym (ap (λ b. b && is_listed own set) known)
    ∙ ap (λ (r : Chosen). has_id r.events own && is_listed own r.set) c.self.view_is
