use Rattle.std.proofs.Common.{◌∙◌, ◌∷◌, ◌++◌, [], ap, append_assoc, map, sym, subst}
use Rattle.std.proofs.lemmas.List.{map-append}
use Rattle.plain_model.specs.declared.id.AnyId.TheVariants.{Commit}
use Rattle.event_arena.specs.Relinked.{HasPlaces}
use Rattle.event_arena.proofs.RelinkLemmas.{no_places, places_more}
use Rattle.event_arena.proofs.relinking.push_children.Goals as goal

pub loop-child-init : goal.loop-child-init
loop-child-init c = record { items = c.into_iter-child-iterator.ensures.into_iter_gives; old = λ k h. h; new = no_places c.args.table.now c.args.places.now.items }

pub loop-child-preserved : goal.loop-child-preserved
loop-child-preserved c =
    let v = c.loop-child.invariant in
    let e = c.push_place.ensures in
    record {
      items = append_assoc c.loop-child.yielded (c.in-Some.child ∷ []) c.next.new.self ∙ ap (λ t. c.loop-child.yielded ++ t) (sym c.in-Some.ensures.steps) ∙ v.items;
      old = λ k h. e.old k (v.old k h);
      new = subst (λ ids. HasPlaces ids c.args.table.now c.push_place.new.places.items) (sym (map-append Commit c.loop-child.yielded (c.in-Some.child ∷ [])))
          (places_more (map Commit c.loop-child.yielded) (Commit c.in-Some.child) c.args.table.now c.loop-child.places.items c.push_place.new.places.items v.new e.old (e.new c.if-not-push_place.false));
    }
