use Rattle.edit_laws.proofs.Limits.{limits_hold}
use Rattle.edit_laws.proofs.laws.a_passed_limit_is_found.Goals as goal

pub returns : goal.returns
returns c = limits_hold
