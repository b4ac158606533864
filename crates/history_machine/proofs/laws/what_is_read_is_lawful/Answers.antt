use Rattle.std.proofs.Common.{◌≤◌, subst}
use Rattle.plain_model.specs.declared.limit.TheConstants.{MAX_OPERATIONS}
use Rattle.edit_laws.proofs.Sound.{in_parts}
use Rattle.history_machine.proofs.Counts.{ops_alike}
use Rattle.history_machine.proofs.laws.what_is_read_is_lawful.Goals as goal

pub returns : goal.returns
returns c bytes events is =
    let sound = (c.what_is_read_is_sound.ensures bytes events is).sound in
    let counts = c.what_is_read_passes_no_limit.ensures bytes events is in
    record {
      sound = sound;
      within = record {
        few_events = counts.0;
        few_operations = subst (λ n. n ≤ MAX_OPERATIONS) (ops_alike events) counts.1;
        few_parents = (in_parts events sound).few;
        few_aliases = counts.2;
      };
    }
