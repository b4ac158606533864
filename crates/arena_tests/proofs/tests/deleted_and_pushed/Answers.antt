use Rattle.std.proofs.Common.{◌∷◌, []}
use Rattle.plain_model.specs.declared.policy.Lean.TheVariants as lean
use Rattle.plain_model.specs.declared.policy.Push.TheVariants as push
use Rattle.arena_tests.proofs.tests.deleted_and_pushed.Goals as goal

pub pushed-requires-clause-limits : goal.pushed-requires-clause-limits
pushed-requires-clause-limits c =
    c.a_squash_keeps_the_limits.ensures (record { push = push.Discard; tags = lean.Back }) (c.args.gone ∷ []) _ _ c.count-count.ensures.sound c.in-Ok.ensures.plans.0
