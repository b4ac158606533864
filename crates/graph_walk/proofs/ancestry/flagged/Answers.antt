use Rattle.std.proofs.Common.{◌∙◌, ◌++◌, ◌∷◌, [], ◌<◌, Some, take, true, false, length, add-one, append-nil, arith, ap, sym}
use Rattle.std.proofs.lemmas.Option.{slice_get-get_or}
use Rattle.plain_model.specs.declared.id.AnyId.{AnyId}
use Rattle.history_laws.proofs.Lists.{item_at}
use Rattle.graph_walk.specs.Flags.{flagged_ids}
use Rattle.graph_walk.proofs.FlagLemmas.{flagged_item}
use Rattle.graph_walk.proofs.ancestry.flagged.Goals as goal
use Rattle.graph_walk.proofs.ancestry.flagged.Goals.{then-flags-place+in_ok-push, else-flags-place}

pub loop-place-preserved : goal.loop-place-preserved
loop-place-preserved c =
    let events = c.args.events.now.list in
    let flags = c.args.flags.now in
    let place = c.loop-place.place in
    let within : place < length events = let test = c.loop-place-test.true in let count = c.count-place-end.ensures.count in omega arith in
    let low : place < length flags = let same = c.requires in omega arith in
    elim c.if-flags-place.branch [
      | then-flags-place+in_ok-push w ↦
          w.ids-is ∙ w.in_ok-push.ensures.ok ∙ ap (λ ids. ids ++ w.id.result ∷ []) c.loop-place.invariant ∙ ap (λ (id : AnyId). flagged_ids (take place flags) (take place events) ++ id ∷ []) w.id.ensures
          ∙ sym (rw add-one (flagged_item flags events place w.nth.result.now true w.nth.ensures.event (slice_get-get_or flags place false low ∙ ap Some w.if-flags-place.true)))
      | else-flags-place w ↦
          let item = item_at events place within in
          w.ids-is ∙ c.loop-place.invariant ∙ sym (append-nil (flagged_ids (take place flags) (take place events)))
          ∙ sym (rw add-one (flagged_item flags events place item.0 false item.1 (slice_get-get_or flags place false low ∙ ap Some w.if-flags-place.false)))
    ]
