use Rattle.std.proofs.Common.{◌≡◌, ◌∷◌, ◌++◌, drop}
use Rattle.std.specs.Prelude.{flat_map}
use Rattle.history_machine.specs.Several.{joined_name}
use Rattle.load_list.proofs.list.uniting.joined.Given as goal

abbrev pub invariant-loop-name : goal.invariant-loop-name
invariant-loop-name l = l.text ++ flat_map (λ other. 43 ∷ other) (drop l.name-index l.others) ≡ joined_name l.names
