use Rattle.std.proofs.Common.{◌∙◌, ◌+◌, ◌++◌, ◌∷◌, [], add-one, arith, ap, sym}
use Rattle.std.proofs.lemmas.Option.{same_Some}
use Rattle.plain_model.specs.declared.id.AnyId.TheVariants as any
use Rattle.plain_model.specs.Lookups.{id_of}
use Rattle.history_laws.proofs.Lists.{item_at}
use Rattle.empty_commits.proofs.TaggingLemmas.{count_other, count_tag, few_so_far, ids_other, ids_tag}
use Rattle.empty_commits.proofs.tagging.order_from.Goals as goal
use Rattle.empty_commits.proofs.tagging.order_from.Goals.{then-becomes_tag+in_ok-push, else-becomes_tag+in_ok-push-2}

pub overflow_add-number : goal.overflow_add-number
overflow_add-number c =
    let events = c.args.empties.now.events in
    let number = c.loop-place.invariant.number in
    let fewer = few_so_far c.args.empties.now.set events c.loop-place.place in
    let few = c.no_more_tags_come_than_numbers.ensures c.args.empties.now.set c.args.next events c.count-place-end.ensures.sound c.requires.below in
    let low = c.requires.low in
    omega arith

pub loop-place-preserved : goal.loop-place-preserved
loop-place-preserved c =
    let set = c.args.empties.now.set in
    let events = c.args.empties.now.events in
    let place = c.loop-place.place in
    let item = item_at events place (let test = c.loop-place-test.true in let count = c.count-place-end.ensures.count in omega arith) in
    let v = c.loop-place.invariant in
    elim c.if-becomes_tag.branch [
      | then-becomes_tag+in_ok-push w ↦
          let becomes = sym (c.becomes_tag.ensures item.0 item.1) ∙ w.if-becomes_tag.true in
          let more = count_tag set events place item.0 item.1 becomes in
          let now = w.number-is in
          let was = v.number in
          rw add-one (record {
            ids = w.ids-is ∙ w.in_ok-push.ensures.ok
                ∙ (λ i. v.ids i ++ any.Tag ((w.new-then-becomes_tag.ensures ∙ v.number) i) ∷ [])
                ∙ sym (ids_tag set events place item.0 item.1 c.args.next becomes);
            number = omega arith;
          })
      | else-becomes_tag+in_ok-push-2 w ↦
          let becomes = sym (c.becomes_tag.ensures item.0 item.1) ∙ w.if-becomes_tag.false in
          let own = w.id.ensures ∙ ap id_of (same_Some w.nth.result.now item.0 (sym w.nth.ensures.event ∙ item.1)) in
          rw add-one (record {
            ids = w.ids-is ∙ w.in_ok-push-2.ensures.ok ∙ (λ i. v.ids i ++ own i ∷ []) ∙ sym (ids_other set events place item.0 item.1 c.args.next becomes);
            number = w.number-is ∙ v.number ∙ ap (λ n. c.args.next + n) (sym (count_other set events place item.0 item.1 becomes));
          })
    ]
