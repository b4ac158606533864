use Rattle.production_laws.proofs.FirstWrong.{clean_is_right, right_is_clean, stops_wrong}
use Rattle.production_laws.proofs.Wrong.{defect_is_found, found_defect}
use Rattle.production_laws.proofs.laws.a_first_defect_is_one_of_spelled_texts.Goals as goal

pub returns-clause-right : goal.returns-clause-right
returns-clause-right c = λ n bytes. (clean_is_right n bytes, right_is_clean n bytes)

pub returns-clause-stops : goal.returns-clause-stops
returns-clause-stops c = stops_wrong

pub returns-clause-exactly : goal.returns-clause-exactly
returns-clause-exactly c = λ bytes n why. (found_defect bytes n why, defect_is_found bytes n why)
