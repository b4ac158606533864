use Rattle.std.proofs.Common.{◌≡◌, ◌++◌, ◌∙◌, List, false, true, take, get_or, add-one, ap, append-nil, flat_map, subst, sym}
use Rattle.std.proofs.lemmas.Option.{none-some, same_Some}
use Rattle.plain_model.specs.Lookups.{op_blobs}
use Rattle.plain_model.specs.declared.id.AnyId.{AnyId}
use Rattle.event_arena.proofs.ListLemmas.{take_more}
use Rattle.plan_steps.specs.Flags.{FlagsIds}
use Rattle.plan_steps.proofs.SweepLemmas.{flat_push, ids_push}
use Rattle.plan_steps.proofs.sweeping.are_flagged.Goals as goal
use Rattle.plan_steps.proofs.sweeping.are_flagged.Goals.{in-Some+in-Some-place+else-not-flags-place, in-Some+in_default-place, in_default}

pub loop-op-preserved : goal.loop-op-preserved
loop-op-preserved c =
    let events = c.args.plan.now.after in
    let flags = c.args.flags.now in
    let once = c.count-count.ensures.once in
    let i = c.loop-op.op-index in
    let so_far = flat_map op_blobs (take i c.args.ops.now) in
    let more = ap (flat_map op_blobs) (take_more c.args.ops.now i c.op-item.result c.loop-op-test.true c.op-item.is) ∙ flat_push op_blobs (take i c.args.ops.now) c.op-item.result in
    rw (add-one, more) (elim c.match-blob_of.branch [
      | in-Some+in-Some-place+else-not-flags-place w ↦ subst (λ (ids : List AnyId). FlagsIds events (so_far ++ ids) flags) w.in-Some.ensures
          (ids_push events so_far w.in-Some.id flags once c.loop-op.invariant (λ k there.
          subst (λ x. get_or flags x false ≡ true) (same_Some w.in-Some-place.place k (w.in-Some-place.ensures.place ∙ there)) w.if-not-flags-place.false))
      | in-Some+in_default-place w ↦ subst (λ (ids : List AnyId). FlagsIds events (so_far ++ ids) flags) w.in-Some.ensures
          (ids_push events so_far w.in-Some.id flags once c.loop-op.invariant (λ k there. absurd (none-some k (w.in_default-place.ensures.place ∙ there))))
      | in_default w ↦ subst (λ (ids : List AnyId). FlagsIds events (so_far ++ ids) flags) w.in_default.ensures
          (subst (λ (ids : List AnyId). FlagsIds events ids flags) (sym (append-nil so_far)) c.loop-op.invariant)
    ])
