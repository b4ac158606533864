use Rattle.std.proofs.Common.{◌≡◌, ◌∙◌, ◌∷◌, [], List, ℕ, take, add-one, sym, ap}
use Rattle.plain_model.specs.declared.id.AnyId.TheVariants as any
use Rattle.plain_model.specs.declared.event.PlainEvent.{PlainEvent}
use Rattle.event_arena.specs.Changes.{changed, with_parents}
use Rattle.event_arena.specs.Graphs.{Change}
use Rattle.event_arena.proofs.ListLemmas.{take_more}
use Rattle.reorder_laws.specs.Reorder.{last_of, lined_up}
use Rattle.split_reorder.specs.Parents.{with_all}
use Rattle.split_reorder.proofs.Relinked.{all_push, last_push, lined_push}
use Rattle.split_reorder.proofs.relinking.line_up.Goals as goal

pub loop-commit-preserved : goal.loop-commit-preserved
loop-commit-preserved c =
    let start = c.args.plan.now in
    let first = c.args.first in
    let parents = c.args.parents.now in
    let k = c.loop-commit.commit-index in
    let x = c.commit-item.result in
    let so_far = take k c.args.rest.now in
    let more = take_more c.args.rest.now k x c.loop-commit-test.true c.commit-item.is in
    let v = c.loop-commit.invariant in
    let given : c.in_ok-of-2.field-0 ≡ last_of first so_far ∷ [] = c.in_ok-of-2.ensures ∙ ap (λ b. b ∷ []) v.before in
    rw add-one (record {
      before = sym (ap (last_of first) more ∙ last_push first so_far x);
      plan = c.in_ok-give_parents-2.ensures
          ∙ ap (λ (p : Change). record p { after = changed (any.Commit x) (with_parents c.in_ok-of-2.field-0) p.after }) v.plan
          ∙ ap (λ (es : List PlainEvent). record start { after = es })
          (ap (λ ps. changed (any.Commit x) (with_parents ps) (with_all (lined_up parents (first ∷ so_far)) start.after)) given
          ∙ sym (all_push (lined_up parents (first ∷ so_far)) (x, last_of first so_far ∷ []) start.after)
          ∙ ap (λ (cs : List (ℕ × List ℕ)). with_all cs start.after) (sym (lined_push parents first so_far x))
          ∙ ap (λ us. with_all (lined_up parents (first ∷ us)) start.after) (sym more));
    })
