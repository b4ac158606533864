use Rattle.std.proofs.Common.{◌≡◌, ◌⊎◌, true}
use Rattle.plain_model.specs.Lookups.{next_number}
use Rattle.plain_model.specs.Soundness.{has_id}
use Rattle.graft_laws.specs.Sources.{IsFromOne}
use Rattle.graft_laws.proofs.AllParts.{in_order, no_others}
use Rattle.graft_laws.proofs.UniteDone.{united}
use Rattle.graft_laws.proofs.laws.a_unite_has_no_other_events.Goals as goal

pub returns : goal.returns
returns c prune parts others base new id good h order there =
    let u = united prune parts new h in
    in_order (λ first further. (has_id first.events id ≡ true) ⊎ IsFromOne further (next_number first.events) id) prune parts new u base others order
    (no_others prune parts new u good id there)
