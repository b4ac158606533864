use Rattle.std.proofs.Common.{◌++◌, ◌∷◌, [], List, Bool, take, add-one, subst, sym}
use Rattle.plain_model.specs.declared.id.AnyId.{AnyId}
use Rattle.event_arena.proofs.ListLemmas.{take_all, take_more}
use Rattle.graph_walk.specs.Flags.{FlagsOf}
use Rattle.graph_walk.proofs.FlagLemmas.{ids_first, ids_push, ids_skip}
use Rattle.graph_walk.proofs.flags.flag_ids.Goals as goal
use Rattle.graph_walk.proofs.flags.flag_ids.Goals.{in-Some, in_default}

pub loop-id-init : goal.loop-id-init
loop-id-init c = subst (FlagsOf c.args.events.now []) (sym c.requires) (ids_first c.args.events.now)

pub loop-id-preserved : goal.loop-id-preserved
loop-id-preserved c =
    let events = c.args.events.now in
    let once = c.count-count.ensures.once in
    let so_far = take c.loop-id.id-index c.args.ids.now in
    let more = take_more c.args.ids.now c.loop-id.id-index c.id-item.result c.loop-id-test.true c.id-item.is in
    rw (add-one, more) (elim c.match-place.branch [
      | in-Some w ↦ subst (λ (new : List Bool). FlagsOf events (so_far ++ c.id-item.result ∷ []) new) (sym w.flags-is)
          (ids_push events so_far c.id-item.result w.in-Some.place c.loop-id.flags once (sym w.in-Some.ensures.place) c.loop-id.invariant)
      | in_default w ↦ subst (λ (new : List Bool). FlagsOf events (so_far ++ c.id-item.result ∷ []) new) (sym w.flags-is)
          (ids_skip events so_far c.id-item.result c.loop-id.flags once (sym w.in_default.ensures.place) c.loop-id.invariant)
    ])

pub returns : goal.returns
returns c =
    subst (λ (ids : List AnyId). FlagsOf c.args.events.now ids c.loop-id.flags) (take_all c.args.ids.now c.loop-id.id-index c.loop-id-test.false) c.loop-id.invariant
