use Rattle.std.proofs.Common.{◌≡◌, ◌∙◌, suc, List, Some, add-one, arith, subst, sym}
use Rattle.std.specs.Prelude.{slice_get}
use Rattle.plain_model.specs.declared.event.PlainEvent.{PlainEvent}
use Rattle.plain_model.specs.Lookups.{event_parents}
use Rattle.plain_model.specs.Soundness.{are_distinct}
use Rattle.history_laws.proofs.SoundOnce.{sound_once}
use Rattle.graph_walk.proofs.TurnLemmas.{all_at}
use Rattle.std.specs.Prelude.{IsTrue}
use Rattle.plan_steps.specs.Tables.{IsTableTo}
use Rattle.plan_steps.proofs.NearLemmas.{is_apart}
use Rattle.plan_steps.proofs.Tables.{table_all, table_push}
use Rattle.path_expunge.specs.declared.fates.Fate.{Fate}
use Rattle.path_expunge.specs.declared.fates.Fate.TheVariants.{Same}
use Rattle.path_expunge.specs.Fates.{FateIs}
use Rattle.path_expunge.proofs.FateLemmas.{apart_fated}
use Rattle.path_expunge.proofs.fates.fates.Goals as goal
use Rattle.path_expunge.proofs.fates.fates.Goals.{then-place-near+in_ok-push, else-place-near+in_ok-fate_at+in_ok-push-2}

pub loop-place-preserved : goal.loop-place-preserved
loop-place-preserved c =
    let set = c.args.removal.now.set in
    let events = c.args.removal.now.events in
    let place = c.loop-place.place in
    let so_far = c.loop-place.invariant in
    elim c.if-place-near.branch [
      | then-place-near+in_ok-push w ↦
          let test = w.if-place-near.true in
          let same : c.if-place-near.near ≡ c.loop-place.near = w.near-is in
          let own : (e : PlainEvent) → slice_get events place ≡ Some e → FateIs set events e Same =
          λ e at. apart_fated set events e
          (all_at (λ x. IsTrue (are_distinct (event_parents x))) events place e (sound_once events c.count-place-end.ensures.sound).parents at)
          (is_apart set e (so_far.apart place e (omega arith) test at)) in
          record {
            later = let low = so_far.later in omega arith;
            apart = λ k e low high at. so_far.apart k e (omega arith) (omega arith) at;
            table = rw add-one (subst (λ (l : List Fate). IsTableTo Same (FateIs set events) events (suc place) l) (sym ((λ i. (w.table-is i).items) ∙ w.in_ok-push.ensures.items))
                (table_push Same (FateIs set events) events place c.loop-place.table.items Same so_far.table own));
          }
      | else-place-near+in_ok-fate_at+in_ok-push-2 w ↦
          let near = w.next_near-near-else-place-near.ensures in
          record {
            later = let low = near.later in let is = w.near-is in omega arith;
            apart = λ k e low high at. let is = w.near-is in near.apart k e (omega arith) (omega arith) at;
            table = rw add-one (subst (λ (l : List Fate). IsTableTo Same (FateIs set events) events (suc place) l) (sym ((λ i. (w.table-is i).items) ∙ w.in_ok-push-2.ensures.items))
                (table_push Same (FateIs set events) events place c.loop-place.table.items w.in_ok-fate_at.field-0 so_far.table w.in_ok-fate_at.ensures));
          }
    ]

pub returns : goal.returns
returns c =
    let set = c.args.removal.now.set in
    let events = c.args.removal.now.events in
    let whole = c.count-place-end.ensures.count in
    let most = c.loop-place.auto.place-end in
    let test = c.loop-place-test.false in
    table_all Same (FateIs set events) events c.loop-place.place c.loop-place.table.items (omega arith) c.loop-place.invariant.table
