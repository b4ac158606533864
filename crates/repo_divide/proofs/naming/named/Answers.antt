use Rattle.history_laws.proofs.Lists.{item_at}
use Rattle.event_arena.proofs.ListLemmas.{take_all}
use Rattle.std.proofs.Common.{◌≡◌, ◌∙◌, ◌≤◌, List, Bool, false, add-one, ap, arith, filter, flat_map, get_or, length, suc, subst, sym, take}
use Rattle.plain_model.specs.declared.event.PlainEvent.{PlainEvent}
use Rattle.plain_model.specs.declared.operation.FileOp.{FileOp}
use Rattle.plain_model.specs.Lookups.{op_blobs}
use Rattle.divide_laws.specs.Sides.{is_commit_among}
use Rattle.graph_walk.proofs.FlagLemmas.{refilled}
use Rattle.plan_steps.specs.Flags.{FlagsAdd, FlagsNamed, event_blobs}
use Rattle.plan_steps.proofs.SweepLemmas.{filtered_more, filtered_same}
use Rattle.repo_divide.proofs.HalvingLemmas.{named_flags}
use Rattle.plan_steps.proofs.Tables.{map_at}
use Rattle.repo_divide.proofs.naming.named.Goals as goal
use Rattle.repo_divide.proofs.naming.named.Goals.{then-commits-place, else-commits-place}

pub loop-place-preserved : goal.loop-place-preserved
loop-place-preserved c =
    let events = c.args.plan.now.after in
    let k = c.loop-place.place in
    let old = c.loop-place.flags.items in
    let v = c.loop-place.invariant in
    let item = item_at events k (let test = c.loop-place-test.true in let count = c.count-place-end.ensures.count in omega arith) in
    rw add-one (elim c.if-commits-place.branch [
      | then-commits-place w ↦
          let e = w.nth.result.now in
          let new = w.flag_blobs.new.flags in
          let adds : FlagsAdd events (event_blobs e) old new =
          subst (λ (ops : List FileOp). FlagsAdd events (flat_map op_blobs ops) old new) w.ops.ensures
          (subst (λ (fs : List Bool). FlagsAdd events (flat_map op_blobs w.ops.result.now) fs new) w.deref_mut.ensures.value w.flag_blobs.ensures) in
          let old_count : length old ≡ c.loop-place.flags.len = ap length (sym w.deref_mut.ensures.value) ∙ w.deref_mut.ensures.len in
          let whole = refilled c.loop-place.flags.len new old (adds.count ∙ old_count) old_count in
          rw w.flags-is (record {
            count = ap length whole ∙ adds.count ∙ v.count;
            named = λ has is.
                subst (FlagsNamed events (filter (is_commit_among has) (take (suc k) events))) (sym whole)
                (filtered_more (is_commit_among has) events events k e old new w.nth.ensures.event
                (sym (ap (λ (fs : List Bool). get_or fs k false) is ∙ map_at (is_commit_among has) events k e w.nth.ensures.event) ∙ w.if-commits-place.true) (v.named has is) adds);
          })
      | else-commits-place w ↦
          rw w.flags-is (record {
            count = v.count;
            named = λ has is.
                filtered_same (is_commit_among has) events events k item.0 old item.1
                (sym (ap (λ (fs : List Bool). get_or fs k false) is ∙ map_at (is_commit_among has) events k item.0 item.1) ∙ w.if-commits-place.false) (v.named has is);
          })
    ])

pub returns-clause-named : goal.returns-clause-named
returns-clause-named c =
    let events = c.args.plan.now.after in
    let all : length events ≤ c.loop-place.place = let test = c.loop-place-test.false in let count = c.count-place-end.ensures.count in omega arith in
    λ has is.
    named_flags has events c.loop-place.flags.items
    (subst (λ (es : List PlainEvent). FlagsNamed events (filter (is_commit_among has) es) c.loop-place.flags.items) (take_all events c.loop-place.place all) (c.loop-place.invariant.named has is))
