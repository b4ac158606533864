use Rattle.std.proofs.Common.{◌≡◌, ◌++◌, ◌∙◌, ◌∷◌, [], suc, List, cond, filter, take, add-one, ap, append-nil, append_assoc, flat_map, sym}
use Rattle.std.proofs.lemmas.List.Elements.{filter-append}
use Rattle.plain_model.specs.Lookups.{op_blobs}
use Rattle.plain_model.specs.declared.id.AnyId.{AnyId}
use Rattle.event_arena.proofs.ListLemmas.{take_all, take_more}
use Rattle.plan_steps.specs.Flags.{is_unflagged}
use Rattle.plan_steps.proofs.SweepLemmas.{flat_push}
use Rattle.plan_steps.proofs.sweeping.push_unflagged.Goals as goal
use Rattle.plan_steps.proofs.sweeping.push_unflagged.Goals.{in-Some+then-is_unflagged+in_ok-push, in-Some+else-is_unflagged, in_default}

pub loop-op-preserved : goal.loop-op-preserved
loop-op-preserved c =
    let off = is_unflagged c.args.flags.now c.args.table.now in
    let k = c.loop-op.op-index in
    let op = c.op-item.result in
    let so_far = flat_map op_blobs (take k c.args.ops.now) in
    let before = c.args.ids.now in
    let more : filter off (flat_map op_blobs (take (suc k) c.args.ops.now)) ≡ filter off so_far ++ filter off (op_blobs op) =
    ap (filter off) (ap (flat_map op_blobs) (take_more c.args.ops.now k op c.loop-op-test.true c.op-item.is) ∙ flat_push op_blobs (take k c.args.ops.now) op)
    ∙ filter-append off so_far (op_blobs op) in
    let goes_on = λ (found : List AnyId) (own : found ≡ filter off (op_blobs op)).
    ap (λ (l : List AnyId). l ++ found) c.loop-op.invariant ∙ append_assoc before (filter off so_far) found
    ∙ ap (λ (l : List AnyId). before ++ (filter off so_far ++ l)) own ∙ ap (λ (l : List AnyId). before ++ l) (sym more) in
    rw add-one (elim c.match-blob_of.branch [
      | in-Some+then-is_unflagged+in_ok-push w ↦
          w.ids-is ∙ w.in_ok-push.ensures.ok
          ∙ goes_on (w.in-Some.id ∷ []) (sym (ap (filter off) (sym w.in-Some.ensures) ∙ ap (λ b. cond b (w.in-Some.id ∷ []) []) (sym w.is_unflagged.ensures ∙ w.if-is_unflagged.true)))
      | in-Some+else-is_unflagged w ↦
          w.ids-is ∙ sym (append-nil c.loop-op.ids)
          ∙ goes_on [] (sym (ap (filter off) (sym w.in-Some.ensures) ∙ ap (λ b. cond b (w.in-Some.id ∷ []) []) (sym w.is_unflagged.ensures ∙ w.if-is_unflagged.false)))
      | in_default w ↦ w.ids-is ∙ sym (append-nil c.loop-op.ids) ∙ goes_on [] (ap (filter off) w.in_default.ensures)
    ])

pub returns : goal.returns
returns c =
    let off = is_unflagged c.args.flags.now c.args.table.now in
    c.loop-op.invariant ∙ ap (λ ops. c.args.ids.now ++ filter off (flat_map op_blobs ops)) (take_all c.args.ops.now c.loop-op.op-index c.loop-op-test.false)
