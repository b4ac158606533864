use Rattle.std.proofs.Common.{◌≡◌, drop}
use Rattle.std.specs.List.{AllByRecursion}
use Rattle.mailbox_edit.specs.Landings.{IsLandable, landed_all}
use Rattle.mailbox_edit.proofs.carrying.land_all.Given as goal

abbrev pub invariant-loop-landing : goal.invariant-loop-landing
invariant-loop-landing l = record {
  landed : record l.plan { after = landed_all (drop l.landing-index l.landings) l.plan.after }
      ≡ record l.fn.plan { after = landed_all l.landings l.fn.plan.after };
  landable : AllByRecursion (IsLandable l.plan.after) (drop l.landing-index l.landings);
}
