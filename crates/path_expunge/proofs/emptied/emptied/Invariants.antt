use Rattle.std.proofs.Common.{◌≡◌, Bool, filter, map, take}
use Rattle.plain_model.specs.Lookups.{id_of}
use Rattle.plain_model.specs.Paths.{Bytes}
use Rattle.expunge_laws.specs.Expunged.{is_emptied, replaced_events}
use Rattle.expunge_laws.specs.Untouched.{may_be_touched}
use Rattle.path_expunge.proofs.emptied.emptied.Given as goal

abbrev pub invariant-loop-place : goal.invariant-loop-place
invariant-loop-place l = (matched : Bytes → Bool) → l.plan.after ≡ replaced_events matched l.plan.before →
    l.touched ≡ map (may_be_touched matched) l.plan.before →
    l.ids ≡ map id_of (filter (is_emptied matched l.plan.before) (take l.place l.plan.before))
