use Rattle.std.proofs.Common.{◌≡◌, ◌∙◌, ◌∷◌, ◌++◌, [], List, ℕ, map, append_assoc, sym, ap}
use Rattle.std.proofs.lemmas.List.{map-append}
use Rattle.plain_model.specs.declared.id.AnyId.TheVariants as any
use Rattle.plain_model.specs.declared.event.PlainEvent.{PlainEvent}
use Rattle.event_arena.specs.Changes.{changed, with_parents}
use Rattle.event_arena.specs.Graphs.{Change}
use Rattle.commit_laws.specs.Selected.{node_of}
use Rattle.reorder_laws.specs.Reorder.{instead}
use Rattle.split_reorder.specs.Parents.{moved_parents, with_all}
use Rattle.split_reorder.proofs.Relinked.{all_push}
use Rattle.split_reorder.proofs.relinking.move_children.Goals as goal

pub loop-child-preserved : goal.loop-child-preserved
loop-child-preserved c =
    let start = c.args.plan.now in
    let events = c.args.events.now.list in
    let x = c.in-Some.child in
    let so_far = c.loop-child.yielded in
    let v = c.loop-child.invariant in
    let to = instead c.args.old c.args.new in
    let before = moved_parents events c.args.old c.args.new so_far in
    let given : c.in_ok-parents.parents ≡ map to (node_of events x).parents = c.in_ok-parents.ensures ∙ ap (map to) c.parents_of.ensures.node in
    record {
      items = append_assoc so_far (x ∷ []) c.next.new.self ∙ ap (λ l. so_far ++ l) (sym c.in-Some.ensures.steps) ∙ v.items;
      plan = c.in_ok-give_parents.ensures
          ∙ ap (λ (p : Change). record p { after = changed (any.Commit x) (with_parents c.in_ok-parents.parents) p.after }) v.plan
          ∙ ap (λ (es : List PlainEvent). record start { after = es })
          (ap (λ ps. changed (any.Commit x) (with_parents ps) (with_all before start.after)) given
          ∙ sym (all_push before (x, map to (node_of events x).parents) start.after)
          ∙ ap (λ (cs : List (ℕ × List ℕ)). with_all cs start.after) (sym (map-append (λ n. (n, map to (node_of events n).parents)) so_far (x ∷ []))));
    }
