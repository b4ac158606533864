use Rattle.std.proofs.Common.{◌≡◌, ◌∙◌, ◌+◌, List, true, filter, take, add-one, arith, flat_map, subst, sym}
use Rattle.plain_model.specs.Lookups.{id_of, is_listed, op_blobs}
use Rattle.plain_model.specs.declared.event.PlainEvent.{PlainEvent}
use Rattle.plain_model.specs.declared.operation.FileOp.{FileOp}
use Rattle.history_laws.proofs.Lists.{item_at}
use Rattle.plan_steps.specs.Flags.{FlagsAll, FlagsIds, event_blobs}
use Rattle.plan_steps.proofs.NearPlaces.{flagged_over}
use Rattle.plan_steps.proofs.SweepLemmas.{filter_in, filter_out, flags_none, flags_push}
use Rattle.plan_steps.proofs.sweeping.are_all_flagged.Goals as goal
use Rattle.plan_steps.proofs.sweeping.are_all_flagged.Goals.{else-has_at-via-then-has_at+else-not-are_flagged, else-has_at-via-else-has_at}

pub loop-place-init : goal.loop-place-init
loop-place-init c =
    let near = c.next_near-place.ensures in
    record {
      within = near.within;
      flagged = flagged_over c.args.removal.now.set c.args.removal.now.events c.args.plan.now.after c.args.flags.now 0 c.next_near-place.result near.later near.within near.apart
          (flags_none c.args.plan.now.after c.args.flags.now);
    }

pub loop-place-preserved : goal.loop-place-preserved
loop-place-preserved c =
    let after = c.args.plan.now.after in
    let flags = c.args.flags.now in
    let events = c.args.removal.now.events in
    let set = c.args.removal.now.set in
    let place = c.loop-place.place in
    let near = c.next_near-place-in-loop-place.ensures in
    let item = item_at events place (let test = c.loop-place-test.true in let count = c.count-count.ensures.count in omega arith) in
    let one_more : FlagsAll after (filter (λ e. is_listed (id_of e) set) (take (place + 1) events)) flags =
    rw add-one (elim c.else-has_at.branch [
      | else-has_at-via-then-has_at+else-not-are_flagged w ↦
          let e = w.nth.result.now in
          let gone : is_listed (id_of e) set ≡ true = sym (c.has_at.ensures e w.nth.ensures.event) ∙ w.if-has_at.true in
          let own : FlagsIds after (event_blobs e) flags =
          subst (λ (ops : List FileOp). FlagsIds after (flat_map op_blobs ops) flags) w.ops.ensures (w.are_flagged.ensures w.if-not-are_flagged.false) in
          subst (λ (es : List PlainEvent). FlagsAll after es flags) (sym (filter_in (λ x. is_listed (id_of x) set) events place e w.nth.ensures.event gone))
          (flags_push after (filter (λ x. is_listed (id_of x) set) (take place events)) e flags c.loop-place.invariant.flagged own)
      | else-has_at-via-else-has_at w ↦
          subst (λ (es : List PlainEvent). FlagsAll after es flags)
          (sym (filter_out (λ x. is_listed (id_of x) set) events place item.0 item.1 (sym (c.has_at.ensures item.0 item.1) ∙ w.if-has_at.false)))
          c.loop-place.invariant.flagged
    ]) in
    record {
      within = near.within;
      flagged = flagged_over set events after flags (place + 1) c.next_near-place-in-loop-place.result near.later near.within near.apart one_more;
    }
