use Rattle.edit_laws.proofs.Edits.{edit_without}
use Rattle.mailbox_laws.specs.Landing.{land_of}
use Rattle.mailbox_laws.proofs.Landings.{landing_sound, words_land}
use Rattle.mailbox_laws.proofs.SoundBare.{below_kept, within_kept}
use Rattle.mailbox_laws.proofs.Wordless.{words_alike}
use Rattle.mailbox_laws.proofs.laws.a_landing_is_an_edit.Goals as goal

pub returns : goal.returns
returns c = λ bytes. edit_without (λ set events. land_of events bytes) (λ set events new h selection e.
    let same = words_alike events new (words_land events bytes new e) in (
      record {
        sound = landing_sound events bytes new h.sound e;
        within = within_kept events new same h.within;
      },
      λ next below. below_kept events new next same below,
    ))
