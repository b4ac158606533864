use Rattle.production_laws.proofs.Given as given
use Rattle.production_laws.proofs.Wrong.{found_defect}
use Rattle.production_laws.proofs.laws.what_is_given_is_spelled.Goals as goal

pub returns-clause-history : goal.returns-clause-history
returns-clause-history c =
    let limits = c.limits_refuse_nothing_else.ensures in
    let defects = c.what_is_no_history_has_a_first_defect.ensures in
    given.given_history limits.history limits.defect defects.first defects.either

pub returns-clause-stream : goal.returns-clause-stream
returns-clause-stream c =
    let limits = c.limits_refuse_nothing_else.ensures in
    let defects = c.what_is_no_history_has_a_first_defect.ensures in
    given.is_given limits.history limits.defect defects.first defects.either

pub returns-clause-refused : goal.returns-clause-refused
returns-clause-refused c =
    let limits = c.limits_refuse_nothing_else.ensures in
    let defects = c.what_is_no_history_has_a_first_defect.ensures in
    λ bytes n why e. (
      given.refused limits.history limits.defect defects.first defects.either bytes n why e,
      found_defect bytes n why ((defects.first bytes n why).1 (limits.defect bytes n why e)),
    )
