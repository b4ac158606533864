use Rattle.edit_laws.proofs.Edits.{edit_without}
use Rattle.mailbox_laws.proofs.SoundBare.{below_kept, within_kept}
use Rattle.mailbox_laws.proofs.Wordless.{words_alike}
use Rattle.people_laws.specs.Dates.{time_offset_of}
use Rattle.people_laws.proofs.Moved.{moved_sound, moved_words}
use Rattle.people_laws.proofs.laws.a_time_offset_is_an_edit.Goals as goal

pub returns : goal.returns
returns c = λ seconds zone right. edit_without (λ set events. time_offset_of seconds zone set events) (λ set events new h selection done.
    let same = words_alike events new (moved_words seconds zone set events new done) in (
      record {
        sound = moved_sound seconds zone set events new done h.sound right;
        within = within_kept events new same h.within;
      },
      λ next below. below_kept events new next same below,
    ))
