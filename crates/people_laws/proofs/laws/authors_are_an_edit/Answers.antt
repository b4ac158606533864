use Rattle.edit_laws.proofs.Edits.{edit_without}
use Rattle.mailbox_laws.proofs.SoundBare.{below_kept, within_kept}
use Rattle.mailbox_laws.proofs.Wordless.{words_alike}
use Rattle.people_laws.specs.Authors.{authors_of}
use Rattle.people_laws.proofs.Put.{put_sound, put_words}
use Rattle.people_laws.proofs.laws.authors_are_an_edit.Goals as goal

pub returns : goal.returns
returns c = λ bytes. edit_without (λ set events. authors_of bytes events) (λ set events new h selection done.
    let same = words_alike events new (put_words bytes events new done) in (
      record {
        sound = put_sound bytes events new done h.sound;
        within = within_kept events new same h.within;
      },
      λ next below. below_kept events new next same below,
    ))
