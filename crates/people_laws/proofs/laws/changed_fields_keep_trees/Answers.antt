use Rattle.mailbox_laws.proofs.Bare.{same_trees}
use Rattle.mailbox_laws.proofs.Wordless.{all_else, words_alike}
use Rattle.people_laws.proofs.Labels.{the_rest}
use Rattle.people_laws.proofs.Moved.{moved_words}
use Rattle.people_laws.proofs.Put.{put_words}
use Rattle.people_laws.proofs.Valued.{valued_alike}
use Rattle.people_laws.specs.Values.{set_field_of}
use Rattle.people_laws.proofs.laws.changed_fields_keep_trees.Goals as goal

pub returns-clause-authors : goal.returns-clause-authors
returns-clause-authors c = λ bytes events new done.
    let words = put_words bytes events new done in
    (same_trees events new (words_alike events new words), all_else events new words)

pub returns-clause-dates : goal.returns-clause-dates
returns-clause-dates c = λ seconds zone set events new done.
    let words = moved_words seconds zone set events new done in
    (same_trees events new (words_alike events new words), all_else events new words)

pub returns-clause-values : goal.returns-clause-values
returns-clause-values c = λ value set events.
    let new = set_field_of value set events in
    let same = valued_alike value set events in
    (same_trees events new same, the_rest events new same)
