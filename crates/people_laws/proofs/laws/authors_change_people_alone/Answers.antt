use Rattle.people_laws.proofs.Put.{put_people, put_words}
use Rattle.people_laws.proofs.laws.authors_change_people_alone.Goals as goal

pub returns-clause-people : goal.returns-clause-people
returns-clause-people c = put_people

pub returns-clause-words : goal.returns-clause-words
returns-clause-words c = put_words
