use Rattle.graft_laws.specs.Unite.{Part}
use Rattle.graft_laws.proofs.Order.{oldest_first, sorted_by_age, stable_by_age}
use Rattle.graft_laws.proofs.laws.parts_come_by_age.Goals as goal

pub returns : goal.returns
returns c = record {
  sorted = sorted_by_age (λ (part : Part). part.events);
  stable = λ a. stable_by_age (λ (part : Part). part.events) a;
  first = oldest_first (λ (part : Part). part.events);
}
