use Rattle.std.proofs.Common.{◌≡◌, ◌∙◌, ◌+◌, [], List, Bool, true, false, length, filter, take, suc, add-one, ap, arith, flat_map, subst, sym}
use Rattle.std.specs.Prelude.{replicate}
use Rattle.plain_model.specs.Lookups.{id_of, is_listed, op_blobs}
use Rattle.plain_model.specs.declared.operation.FileOp.{FileOp}
use Rattle.history_laws.proofs.Lists.{item_at}
use Rattle.graph_walk.proofs.FlagLemmas.{refilled}
use Rattle.plan_steps.specs.Flags.{FlagsAdd, FlagsNamed, event_blobs}
use Rattle.plan_steps.proofs.NearPlaces.{named_over}
use Rattle.plan_steps.proofs.SweepLemmas.{filtered_more, filtered_same, names_first}
use Rattle.plan_steps.proofs.sweeping.named_by_removed.Goals as goal
use Rattle.plan_steps.proofs.sweeping.named_by_removed.Goals.{then-has_at, else-has_at}

pub loop-place-init : goal.loop-place-init
loop-place-init c =
    let after = c.args.plan.now.after in
    let near = c.next_near-place.ensures in
    record {
      within = near.within;
      named = named_over c.args.removal.now.set c.args.removal.now.events after c.in_ok-flags.flags.items 0 c.next_near-place.result near.later near.within near.apart
          (subst (FlagsNamed after []) (sym (c.in_ok-flags.ensures.items_if_clones_equal (λ y e. e) ∙ ap (λ n. replicate n false) c.count.ensures.count)) (names_first after));
    }

pub loop-place-preserved : goal.loop-place-preserved
loop-place-preserved c =
    let after = c.args.plan.now.after in
    let set = c.args.removal.now.set in
    let events = c.args.removal.now.events in
    let place = c.loop-place.place in
    let old = c.loop-place.flags.items in
    let near = c.next_near-place-in-loop-place.ensures in
    let item = item_at events place (let test = c.loop-place-test.true in let count = c.count-count.ensures.count in omega arith) in
    let one_more : FlagsNamed after (filter (λ x. is_listed (id_of x) set) (take (place + 1) events)) c.if-has_at.flags.items =
    rw add-one (elim c.if-has_at.branch [
      | then-has_at w ↦
          let e = w.nth.result.now in
          let new = w.flag_blobs.new.flags in
          let adds : FlagsAdd after (event_blobs e) old new =
          subst (λ (ops : List FileOp). FlagsAdd after (flat_map op_blobs ops) old new) w.ops.ensures
          (subst (λ (fs : List Bool). FlagsAdd after (flat_map op_blobs w.ops.result.now) fs new) w.deref_mut.ensures.value w.flag_blobs.ensures) in
          let gone : is_listed (id_of e) set ≡ true = sym (c.has_at.ensures e w.nth.ensures.event) ∙ w.if-has_at.true in
          let more = filtered_more (λ x. is_listed (id_of x) set) after events place e old new w.nth.ensures.event gone c.loop-place.invariant.named adds in
          let old_count : length old ≡ c.loop-place.flags.len = ap length (sym w.deref_mut.ensures.value) ∙ w.deref_mut.ensures.len in
          rw w.flags-is (subst (FlagsNamed after (filter (λ x. is_listed (id_of x) set) (take (suc place) events)))
          (sym (refilled c.loop-place.flags.len new old (adds.count ∙ old_count) old_count)) more)
      | else-has_at w ↦
          rw w.flags-is (filtered_same (λ x. is_listed (id_of x) set) after events place item.0 old item.1 (sym (c.has_at.ensures item.0 item.1) ∙ w.if-has_at.false) c.loop-place.invariant.named)
    ]) in
    record { within = near.within; named = named_over set events after c.if-has_at.flags.items (place + 1) c.next_near-place-in-loop-place.result near.later near.within near.apart one_more }
