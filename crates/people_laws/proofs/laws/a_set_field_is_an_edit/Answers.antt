use Rattle.std.proofs.Common.{arith}
use Rattle.mailbox_laws.proofs.SoundBare.{below_kept, within_kept}
use Rattle.people_laws.specs.Values.{set_field_of}
use Rattle.people_laws.proofs.Valued.{valued_alike, valued_sound}
use Rattle.people_laws.proofs.laws.a_set_field_is_an_edit.Goals as goal

pub returns : goal.returns
returns c = λ value fits set next events h below selection.
    let new = set_field_of value set events in
    let same = valued_alike value set events in (
      record {
        sound = valued_sound value set events h.sound fits;
        within = within_kept events new same h.within;
      },
      below_kept events new next same below,
      omega arith,
    )
