use Rattle.reparent_laws.proofs.Cycles.{found_descends, none_descends}
use Rattle.reparent_laws.proofs.laws.a_cycle_is_a_path_of_parents.Goals as goal

pub returns : goal.returns
returns c = record {
  refused = λ events c p new h. found_descends events c h new p;
  others = λ events c new h. none_descends events c h new;
}
