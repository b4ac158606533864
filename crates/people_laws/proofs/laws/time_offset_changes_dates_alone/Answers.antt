use Rattle.people_laws.proofs.Moved.{moved_dates, moved_others, moved_words}
use Rattle.people_laws.proofs.laws.time_offset_changes_dates_alone.Goals as goal

pub returns-clause-dates : goal.returns-clause-dates
returns-clause-dates c = moved_dates

pub returns-clause-others : goal.returns-clause-others
returns-clause-others c = moved_others

pub returns-clause-words : goal.returns-clause-words
returns-clause-words c = moved_words
