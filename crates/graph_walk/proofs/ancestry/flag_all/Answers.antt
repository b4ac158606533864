use Rattle.std.proofs.Common.{◌++◌, ◌∷◌, [], List, Bool, take, add-one, subst, sym}
use Rattle.history_laws.proofs.SoundOnce.{sound_once}
use Rattle.event_arena.proofs.ListLemmas.{take_more}
use Rattle.graph_walk.specs.Flags.{FlagsMore}
use Rattle.graph_walk.proofs.FlagLemmas.{flags_push, flags_skip}
use Rattle.graph_walk.proofs.ancestry.flag_all.Goals as goal
use Rattle.graph_walk.proofs.ancestry.flag_all.Goals.{in-Some, in_default}

pub loop-commit-preserved : goal.loop-commit-preserved
loop-commit-preserved c =
    let events = c.args.events.now.list in
    let once = (sound_once events c.count-count.ensures.sound).ids in
    let so_far = take c.loop-commit.commit-index c.args.set.now in
    let more = take_more c.args.set.now c.loop-commit.commit-index c.commit-item.result c.loop-commit-test.true c.commit-item.is in
    rw (add-one, more) (elim c.match-place.branch [
      | in-Some w ↦ subst (λ (new : List Bool). FlagsMore events (so_far ++ c.commit-item.result ∷ []) c.args.flags.now new) (sym w.flags-is)
          (flags_push events so_far c.commit-item.result w.in-Some.place c.args.flags.now c.loop-commit.flags once c.requires (sym w.in-Some.ensures.place) c.loop-commit.invariant)
      | in_default w ↦ subst (λ (new : List Bool). FlagsMore events (so_far ++ c.commit-item.result ∷ []) c.args.flags.now new) (sym w.flags-is)
          (flags_skip events so_far c.commit-item.result c.args.flags.now c.loop-commit.flags once (sym w.in_default.ensures.place) c.loop-commit.invariant)
    ])
