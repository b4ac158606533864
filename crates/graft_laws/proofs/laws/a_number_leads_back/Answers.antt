use Rattle.std.proofs.Common.{◌∙◌}
use Rattle.plain_model.specs.declared.id.AnyId.TheVariants as any
use Rattle.graft_laws.proofs.Passes.{still_there, without_there}
use Rattle.graft_laws.proofs.Sources.{leads_back}
use Rattle.graft_laws.proofs.laws.a_number_leads_back.Goals as goal

pub returns : goal.returns
returns c = record {
  back = λ part first id there. (leads_back part first id there).0;
  within = λ part first id there. let its = leads_back part first id there in (its.1, its.2);
  commits = λ part d there. still_there part (any.Commit d) tt ∙ there;
  events = without_there;
}
