use Rattle.std.proofs.Common.{◌≤◌, subst}
use Rattle.plain_model.specs.declared.limit.TheConstants.{MAX_OPERATIONS}
use Rattle.edit_laws.proofs.Sound.{in_parts}
use Rattle.sample_history.specs.Sample.{sample}
use Rattle.history_machine.proofs.Counts.{ops_alike}
use Rattle.history_machine.proofs.laws.a_sample_is_lawful.Goals as goal

pub returns : goal.returns
returns c count start =
    let given = c.samples_are_lawful.ensures in
    let sound = given.sound count start in
    record {
      sound = sound;
      within = record {
        few_events = given.few_events count start;
        few_operations = subst (λ n. n ≤ MAX_OPERATIONS) (ops_alike (sample count start)) (given.few_operations count start);
        few_parents = (in_parts (sample count start) sound).few;
        few_aliases = given.few_aliases count start;
      };
    }
