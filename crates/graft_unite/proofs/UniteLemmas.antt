-- What a `unite` answers, fault by fault.
use Rattle.std.proofs.Common.{◌≡◌, ◌∙◌, Bool, List, [], refl, ap, subst, None, Result, Ok, Err}
use Rattle.std.specs.List.{AllByRecursion}
use Rattle.plain_model.specs.declared.event.PlainEvent.{PlainEvent}
use Rattle.plain_model.specs.declared.fault.Fault.{Fault}
use Rattle.plain_model.specs.declared.fault.Halt.{Halt}
use Rattle.plain_model.specs.declared.fault.Halt.TheVariants as halt
use Rattle.plain_model.specs.Faults.{Returns}
use Rattle.plain_model.specs.Histories.{IsLinkedPast, past}
use Rattle.plain_model.specs.Soundness.{IsSound}
use Rattle.renumbering.specs.Renumbered.{renumbered}
use Rattle.graft_laws.specs.Faults.{long_name_fault}
use Rattle.graft_laws.specs.Joined.{IsPart}
use Rattle.graft_laws.specs.Unite.{Part, with_parts}
use Rattle.graft_laws.proofs.UniteDone.{parents_first}
use Rattle.graft_unite.specs.Uniting.{marked}

-- a call that answers no list
module _ {X : Type 0} (view : X → List PlainEvent) where
  pub refuses : (why : Halt) (specified : Result (List PlainEvent) Fault) → ((f : Fault) → why ≡ halt.Refused f → specified ≡ Err f) → Returns view (Err why) specified
  refuses (halt.Refused f) specified h = h f refl
  refuses halt.Memory specified h = tt

-- the same fault, whatever the value would be
pub refused_too : {X Y : Type 0} (one : X → List PlainEvent) (other : Y → List PlainEvent) (why : Halt) (specified : Result (List PlainEvent) Fault) → Returns one (Err why) specified → Returns other (Err why) specified
refused_too one other (halt.Refused f) specified h = h
refused_too one other halt.Memory specified h = tt

module _ (prune : Bool) (after : List PlainEvent) where
  -- its parents come first, where no name is too long
  pub parents_before : (base : List PlainEvent) (parts : List Part) → IsSound base → AllByRecursion IsPart parts → marked (with_parts prune base parts) ≡ Ok after
      → long_name_fault after ≡ None → IsLinkedPast (past after)
  parents_before base parts sound good is short = go (with_parts prune base parts) refl is
    where
      go : (joined : Result (List PlainEvent) Fault) → with_parts prune base parts ≡ joined → marked joined ≡ Ok after → IsLinkedPast (past after)
      go (Ok events) own x =
          let same : renumbered events ≡ after = cc in
          subst (λ (l : List PlainEvent). IsLinkedPast (past l)) same
          (parents_first prune (record { name = []; events = base }) parts events own (record { sound = sound; name = refl }) good (ap long_name_fault same ∙ short))
      go (Err why) own x = absurd cc
