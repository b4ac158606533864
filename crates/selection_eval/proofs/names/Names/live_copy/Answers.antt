use Rattle.std.proofs.Common.{◌≡◌, ◌∙◌, ◌++◌, ◌∷◌, [], List, ℕ, add-one, sym}
use Rattle.plain_model.specs.declared.id.AnyId.{AnyId}
use Rattle.selection_eval.specs.Names.{assigned}
use Rattle.selection_eval.proofs.NameSteps.{absent_before, copied_more}
use Rattle.selection_eval.proofs.names.Names.live_copy.Goals as goal

pub assign-requires : goal.assign-requires
assign-requires c =
    let entry = c.unwrap.result in
    let name_is = c.in_ok-name.ensures ∙ c.as_slice.ensures.value in
    (λ i. assigned (name_is i) (c.loop-place.invariant i))
    ∙ absent_before c.self.inside.by_name.entries c.loop-place.place (entry.0.now, entry.1.now) (sym (rw c.unwrap.ensures at c.get_index.ensures.entry)) c.len-place-end.ensures.unique

pub loop-place-preserved : goal.loop-place-preserved
loop-place-preserved c =
    let entry = c.unwrap.result in
    let name_is : c.in_ok-name.name ≡ entry.0.now.items = c.in_ok-name.ensures ∙ c.as_slice.ensures.value in
    let list_is : c.in_ok-list.list ≡ entry.1.now.items = c.in_ok-list.ensures ∙ c.as_slice-in-loop-place.ensures.value in
    let pair : List ℕ → List AnyId → List ℕ × List AnyId = λ name list. (name, list) in
    rw add-one
    (c.in_ok-assign.ensures.ok ∙ (λ i. c.loop-place.invariant i ++ pair (name_is i) (list_is i) ∷ [])
    ∙ sym (copied_more c.self.inside.by_name.entries c.loop-place.place (entry.0.now, entry.1.now) (sym (rw c.unwrap.ensures at c.get_index.ensures.entry))))
