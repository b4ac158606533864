use Rattle.std.proofs.Common.{List, [], subst, sym, true}
use Rattle.std.proofs.Math.ListN.{set}
use Rattle.plain_model.specs.declared.id.AnyId.{AnyId}
use Rattle.plan_steps.specs.Flags.{FlagsAdd}
use Rattle.plan_steps.proofs.SweepLemmas.{adds_nothing, adds_push, adds_skip}
use Rattle.plan_steps.proofs.sweeping.flag_blob.Goals as goal

pub returns-in-Some-place : goal.returns-in-Some-place
returns-in-Some-place c =
    let events = c.args.table.now in
    let old = c.args.flags.now in
    let place = c.in-Some-place.place in
    subst (λ (ids : List AnyId). FlagsAdd events ids old (set old place true)) c.in-Some.ensures
    (adds_push events [] c.in-Some.id place old old c.count-count.ensures.once c.requires (sym c.in-Some-place.ensures.place) (adds_nothing events old))

pub returns-in_default-place : goal.returns-in_default-place
returns-in_default-place c =
    let events = c.args.table.now in
    let old = c.args.flags.now in
    subst (λ (ids : List AnyId). FlagsAdd events ids old old) c.in-Some.ensures
    (adds_skip events [] c.in-Some.id old old c.count-count.ensures.once (sym c.in_default-place.ensures.place) (adds_nothing events old))

pub returns-in_default : goal.returns-in_default
returns-in_default c =
    let events = c.args.table.now in
    let old = c.args.flags.now in
    subst (λ (ids : List AnyId). FlagsAdd events ids old old) c.in_default.ensures (adds_nothing events old)
