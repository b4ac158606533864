use Rattle.std.proofs.Common.{List}
use Rattle.std.specs.List.{AllByRecursion}
use Rattle.history_laws.proofs.Ids.{below_next}
use Rattle.history_laws.proofs.Lists.{all_imply}
use Rattle.graft_laws.specs.Joined.{IsLawfulPart, IsPart}
use Rattle.graft_laws.specs.Unite.{Part}
use Rattle.graft_laws.proofs.UniteDone.{several, united}
use Rattle.graft_laws.proofs.laws.a_unite_is_lawful.Goals as goal

sound_parts : (parts : List Part) → AllByRecursion IsLawfulPart parts → AllByRecursion IsPart parts
sound_parts parts h = all_imply IsLawfulPart IsPart (λ part lawful. record { sound = lawful.history.sound; name = lawful.name }) parts h

pub returns : goal.returns
returns c = record {
  lawful = λ prune parts new h made. (
    record {
      sound = c.a_unite_keeps_soundness.ensures prune parts new (sound_parts parts h) made;
      within = c.a_unite_keeps_the_limits.ensures prune parts new made;
    },
    below_next new,
  );
  several = λ prune parts new made. several prune parts new (united prune parts new made);
}
