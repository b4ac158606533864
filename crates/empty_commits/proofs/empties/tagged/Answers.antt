use Rattle.std.proofs.Common.{◌∙◌, ◌∷◌, [], cond, add-one, append-nil, arith, ap, sym}
use Rattle.plain_model.specs.declared.id.AnyId.{AnyId}
use Rattle.plain_model.specs.Lookups.{id_of}
use Rattle.history_laws.proofs.Lists.{item_at}
use Rattle.tagify_laws.specs.Tagify.{becomes_tag}
use Rattle.plan_steps.proofs.SweepLemmas.{passing_item}
use Rattle.empty_commits.proofs.empties.tagged.Goals as goal
use Rattle.empty_commits.proofs.empties.tagged.Goals.{then-becomes_tag+in_ok-push, else-becomes_tag}

pub loop-place-preserved : goal.loop-place-preserved
loop-place-preserved c =
    let events = c.args.selection.now.events in
    let set = c.args.selection.now.set in
    let place = c.loop-place.place in
    elim c.if-becomes_tag.branch [
      | then-becomes_tag+in_ok-push w ↦
          let e = w.nth.result.now in
          let at = w.nth.ensures.event in
          w.ids-is ∙ w.in_ok-push.ensures.ok
          ∙ rw add-one (passing_item (becomes_tag set) events place e c.loop-place.ids (w.id.result ∷ []) at c.loop-place.invariant
          (ap (λ (id : AnyId). id ∷ []) w.id.ensures ∙ sym (ap (λ b. cond b (id_of e ∷ []) []) (sym (c.becomes_tag.ensures e at) ∙ w.if-becomes_tag.true))))
      | else-becomes_tag w ↦
          let item = item_at events place (let test = c.loop-place-test.true in let count = c.count-place-end.ensures.count in omega arith) in
          let e = item.0 in
          let at = item.1 in
          w.ids-is ∙ sym (append-nil c.loop-place.ids)
          ∙ rw add-one (passing_item (becomes_tag set) events place e c.loop-place.ids [] at c.loop-place.invariant
          (sym (ap (λ b. cond b (id_of e ∷ []) []) (sym (c.becomes_tag.ensures e at) ∙ w.if-becomes_tag.false))))
    ]
