use Rattle.std.proofs.Common.{subst}
use Rattle.history_machine.proofs.Lawful.{ChangesWell}
use Rattle.history_machine.proofs.Several.{divided_well, joined_well, united_well}
use Rattle.history_machine.proofs.laws.several_repositories_keep_it.Goals as goal

pub returns : goal.returns
returns c = record {
  joining = λ s after name edit ids is_joining h once lives done. subst ChangesWell done (joined_well s name edit ids is_joining h once lives);
  uniting = λ s after names united is_uniting h done. subst ChangesWell done (united_well s names united is_uniting h);
  dividing = λ s after halves_of is_division h done. subst ChangesWell done (divided_well s halves_of is_division h);
}
