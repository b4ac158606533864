use Rattle.std.proofs.Common.{◌+◌, length, arith}
use Rattle.edit_laws.proofs.Edits.{edit_with}
use Rattle.graft_laws.specs.Graft.{graft_of}
use Rattle.graft_laws.specs.Joining.{without_passes}
use Rattle.graft_laws.proofs.laws.a_graft_is_an_edit.Goals as goal

pub returns : goal.returns
returns c prune name part h bytes =
    edit_with (λ next. next + length (without_passes part)) (λ set next base. graft_of prune next name part set base) (λ next. omega arith)
    (λ set next base new lawful below selected made. (
      record {
        sound = c.a_graft_keeps_soundness.ensures prune next name part set base new lawful.sound h.sound bytes below selected made;
        within = c.a_graft_keeps_the_limits.ensures prune next name part set base new made;
      },
      c.a_graft_keeps_the_base.ensures.ids prune next name part set base new h.sound below made,
    ))
