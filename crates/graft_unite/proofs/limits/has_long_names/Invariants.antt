use Rattle.std.proofs.Common.{◌≡◌, [], ◌∷◌, false, length, take}
use Rattle.std.specs.List.{list_any}
use Rattle.std.specs.Prelude.{nat_lt}
use Rattle.plain_model.specs.declared.limit.TheConstants.{MAX_NAME_BYTES}
use Rattle.graft_laws.specs.Names.{names_of}
use Rattle.graft_unite.proofs.limits.has_long_names.Given as goal

abbrev pub invariant-loop-place : goal.invariant-loop-place
invariant-loop-place l = list_any (λ e. list_any (λ name. nat_lt MAX_NAME_BYTES (length name)) (names_of (e ∷ []))) (take l.place l.plan.after) ≡ false
