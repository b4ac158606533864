use Rattle.std.proofs.Common.{◌≡◌, ◌∙◌, ℕ, List, Option, Some, None, ap, subst, sym}
use Rattle.std.specs.Prelude.{IsSome, is_some, option_and_then, slice_index_or, unwrap_or}
use Rattle.plain_model.specs.declared.event.PlainEvent.{PlainEvent}
use Rattle.plain_model.specs.declared.id.AnyId.TheVariants as any
use Rattle.plain_model.specs.Lookups.{find_event, place_of}
use Rattle.graph_walk.proofs.ParentLemmas.{found_place}
use Rattle.plan_steps.specs.Chosen.{Chosen}
use Rattle.plan_steps.proofs.WayLemmas.{commit_placed}
use Rattle.squash_laws.specs.Takings.{back_of}
use Rattle.tagify_laws.specs.Tagify.{base_of, tagged}
use Rattle.empty_commits.proofs.empties.Empties.base_of.Goals as goal

pub unwrap-place-requires : goal.unwrap-place-requires
unwrap-place-requires c =
    let own = any.Commit c.args.commit in
    let same = c.events.ensures ∙ ap (λ (r : Chosen). r.events) c.self.view_is in
    ap is_some c.place.ensures.place
    ∙ found_place c.events.result.now.list own (subst (λ (es : List PlainEvent). IsSome (find_event own es)) (sym same) c.requires)

pub returns : goal.returns
returns c =
    let own = any.Commit c.args.commit in
    let chosen = c.self.inside.selection in
    let set = tagged chosen.set chosen.events in
    let there : place_of own chosen.events ≡ Some c.unwrap-place.result =
    ap (place_of own) (sym c.events.ensures) ∙ sym c.place.ensures.place ∙ c.unwrap-place.ensures in
    let b = commit_placed chosen.events c.args.commit c.unwrap-place.result there in
    c.unwrap_or.ensures
    ∙ ap (λ (o : Option ℕ). unwrap_or o c.args.commit)
    (c.way_at.ensures ∙ ap (λ (l : List (Option ℕ)). slice_index_or l c.unwrap-place.result None) c.deref.ensures.value ∙ c.self.invariant.back.entry c.unwrap-place.result b.event b.at ∙ ap (option_and_then (back_of set chosen.events)) b.own)
    ∙ ap (λ (r : Chosen). base_of r.set r.events c.args.commit) c.self.view_is
