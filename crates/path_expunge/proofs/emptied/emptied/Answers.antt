use Rattle.std.proofs.Common.{◌≡◌, ◌∙◌, ◌∷◌, [], List, Bool, false, cond, filter, map, add-one, append-nil, arith, ap, get_or, refl, sym}
use Rattle.std.specs.Prelude.{slice_get}
use Rattle.std.proofs.lemmas.Option.{same_Some}
use Rattle.plain_model.specs.declared.id.AnyId.{AnyId}
use Rattle.plain_model.specs.declared.event.PlainEvent.{PlainEvent}
use Rattle.plain_model.specs.Lookups.{id_of}
use Rattle.event_arena.proofs.ListLemmas.{take_all}
use Rattle.history_laws.proofs.Lists.{item_at}
use Rattle.expunge_laws.specs.Expunged.{is_emptied, replaced_event}
use Rattle.expunge_laws.specs.Untouched.{may_be_touched}
use Rattle.plan_steps.proofs.SweepLemmas.{passing_item}
use Rattle.plan_steps.proofs.Steps.{item_map}
use Rattle.plan_steps.proofs.Tables.{map_at}
use Rattle.path_expunge.proofs.KeptNames.{not_emptied_by_name}
use Rattle.path_expunge.proofs.emptied.emptied.Goals as goal
use Rattle.path_expunge.proofs.emptied.emptied.Goals.{
  then-touched-place+then-is_emptied_at+in_ok-push,
  else-touched-place,
  else-touched-place-via-then-touched-place+else-is_emptied_at,
  else-touched-place-via-else-touched-place,
}

pub loop-place-preserved : goal.loop-place-preserved
loop-place-preserved c matched is touched =
    let events = c.args.plan.now.before in
    let place = c.loop-place.place in
    let item = item_at events place (let test = c.loop-place-test.true in let count = c.old_count-place-end.ensures.count in omega arith) in
    let e = item.0 in
    let at = item.1 in
    let there = ap (λ (es : List PlainEvent). slice_get es place) is ∙ item_map (replaced_event matched events) events place e at in
    let before = c.loop-place.invariant matched is touched in
    elim c.if-touched-place.branch [
      | then-touched-place+then-is_emptied_at+in_ok-push w ↦
          let test : is_emptied matched events e ≡ w.is_emptied_at.result = sym (w.is_emptied_at.ensures matched events e (replaced_event matched events e) at there refl) in
          let x = w.id_at.ensures in
          let same : x.0 ≡ e = same_Some x.0 e (sym (ap (λ (es : List PlainEvent). slice_get es place) (sym c.before-old.ensures) ∙ x.1) ∙ at) in
          w.ids-is ∙ w.in_ok-push.ensures.ok
          ∙ rw add-one (passing_item (is_emptied matched events) events place e c.loop-place.ids (w.id_at.result ∷ []) at before
          (ap (λ (id : AnyId). id ∷ []) (x.2 ∙ ap id_of same) ∙ sym (ap (λ b. cond b (id_of e ∷ []) []) (test ∙ w.if-is_emptied_at.true))))
      | else-touched-place w ↦
          let stays : is_emptied matched events e ≡ false = elim w.else-touched-place.branch [
            | else-touched-place-via-then-touched-place+else-is_emptied_at v ↦
                sym (v.is_emptied_at.ensures matched events e (replaced_event matched events e) at there refl) ∙ v.if-is_emptied_at.false
            | else-touched-place-via-else-touched-place v ↦
                let none : may_be_touched matched e ≡ false =
                sym (ap (λ (fs : List Bool). get_or fs place false) touched ∙ map_at (may_be_touched matched) events place e at) ∙ v.if-touched-place.false in
                not_emptied_by_name matched events c.old_count-place-end.ensures.sound place e at none
          ] in
          w.ids-is ∙ sym (append-nil c.loop-place.ids)
          ∙ rw add-one (passing_item (is_emptied matched events) events place e c.loop-place.ids [] at before
          (sym (ap (λ b. cond b (id_of e ∷ []) []) stays)))
    ]

pub returns : goal.returns
returns c matched is touched =
    let events = c.args.plan.now.before in
    c.loop-place.invariant matched is touched
    ∙ ap (λ (es : List PlainEvent). map id_of (filter (is_emptied matched events) es))
    (take_all events c.loop-place.place (let all = c.loop-place-test.false in let count = c.old_count-place-end.ensures.count in omega arith))
