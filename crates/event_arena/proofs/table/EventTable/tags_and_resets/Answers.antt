use Rattle.std.proofs.Common.{◌≡◌, ◌∙◌, ◌++◌, List, ◌∷◌, [], ap, sym, subst, false, arith}
use Rattle.std.proofs.lemmas.Bool.{or_left}
use Rattle.std.proofs.lemmas.Option.{same_Some}
use Rattle.plain_model.specs.declared.id.AnyId.{AnyId}
use Rattle.plain_model.specs.Lookups.{id_of, is_listed, same_id}
use Rattle.history_laws.proofs.Ids.{place_within, same_id_refl}
use Rattle.event_arena.specs.Pointers.{HasNotedResets, HasNotedTags}
use Rattle.event_arena.specs.Rows.{IsPlaced}
use Rattle.event_arena.proofs.PointerLemmas.{all_pointers}
use Rattle.event_arena.proofs.table.EventTable.tags_and_resets.Goals as goal
use Rattle.event_arena.proofs.table.EventTable.tags_and_resets.Goals.{then-count-gt0+in_ok-push, else-count-gt0}

pub returns : goal.returns
returns c =
    let es = c.args.self.now in
    let placed = subst (IsPlaced c.self.inside.places.value) c.self.view_is c.self.invariant.placed in
    let count = c.count.ensures.count in
    all_pointers c.self.inside.places.value es c.if-count-gt0.ids c.push_tags.new.list c.push_resets.new.list placed
    (λ e at. elim c.if-count-gt0.branch [
      | then-count-gt0+in_ok-push w ↦
          let same = same_Some e w.nth.result.now (sym at ∙ w.nth.ensures.event) in
          let list : c.if-count-gt0.ids ≡ id_of e ∷ [] =
          w.ids-is ∙ w.in_ok-push.ensures.ok ∙ ap (λ (xs : List AnyId). xs ++ w.id.result ∷ []) c.empty-ids.ensures
          ∙ ap (λ (i : AnyId). i ∷ []) (w.id.ensures ∙ ap id_of (sym same))
          in
          ap (is_listed (id_of e)) list ∙ or_left (same_id (id_of e) (id_of e)) false (same_id_refl (id_of e))
      | else-count-gt0 w ↦ absurd (let within = place_within es 0 e at in let none = w.if-count-gt0.false in omega arith)
    ])
    c.in_ok-push_tags.ensures.old
    (subst (λ p. HasNotedTags p c.push_tags.new.list) c.as_ref.ensures c.in_ok-push_tags.ensures.all)
    c.in_ok-push_resets.ensures.old
    (subst (λ p. HasNotedResets p c.push_resets.new.list) c.as_ref-2.ensures c.in_ok-push_resets.ensures.all)
