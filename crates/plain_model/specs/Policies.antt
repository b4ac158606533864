-- How events are removed (reposurgeon manual, `squash`, `delete`).
use Rattle.plain_model.specs.declared.policy.Lean.TheVariants as lean
use Rattle.plain_model.specs.declared.policy.Policy.{Policy}
use Rattle.plain_model.specs.declared.policy.Push.TheVariants as push

-- how `delete` goes: where tags lean doesn't count
abbrev pub delete_how : Policy
delete_how = record { push = push.Discard; tags = lean.Forward }
