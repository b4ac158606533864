use Rattle.std.proofs.Common.{◌≡◌, ◌∙◌, List, Bool, length, take, suc, add-one, ap, flat_map, subst, sym}
use Rattle.std.specs.Prelude.{slice_get}
use Rattle.plain_model.specs.Lookups.{op_blobs}
use Rattle.plain_model.specs.declared.operation.FileOp.{FileOp}
use Rattle.graph_walk.proofs.FlagLemmas.{refilled}
use Rattle.plan_steps.specs.Flags.{FlagsAdd, FlagsNamed, event_blobs}
use Rattle.plan_steps.proofs.SweepLemmas.{names_more}
use Rattle.plan_steps.proofs.sweeping.named_after.Goals as goal

pub loop-place-preserved : goal.loop-place-preserved
loop-place-preserved c =
    let events = c.args.plan.now.after in
    let named = c.args.plan.now.after in
    let place = c.loop-place.place in
    let old = c.loop-place.flags.items in
    let new = c.flag_blobs.new.flags in
    let at = c.ops_at.ensures in
    let e = at.0 in
    let here = ap (λ es. slice_get es place) (sym c.after.ensures) ∙ at.1 in
    let adds : FlagsAdd events (event_blobs e) old new =
    subst (λ (ops : List FileOp). FlagsAdd events (flat_map op_blobs ops) old new) at.2
    (subst (λ (fs : List Bool). FlagsAdd events (flat_map op_blobs c.ops_at.result.now) fs new) c.deref_mut.ensures.value c.flag_blobs.ensures) in
    let more = names_more events named place e old new here c.loop-place.invariant adds in
    let old_count : length old ≡ c.loop-place.flags.len = ap length (sym c.deref_mut.ensures.value) ∙ c.deref_mut.ensures.len in
    rw add-one (subst (FlagsNamed events (take (suc place) named)) (sym (refilled c.loop-place.flags.len new old (adds.count ∙ old_count) old_count)) more)
