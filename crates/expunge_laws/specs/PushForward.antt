-- A push forward after another edit: a blob is swept that was named before that edit, and is named no more. (own)
use Rattle.std.specs.Prelude.{ℕ, Bool, List, Some, None, Result, Ok, Err, if◌then◌else◌}
use Rattle.plain_model.specs.declared.fault.Fault.{Fault}
use Rattle.plain_model.specs.declared.id.AnyId.{AnyId}
use Rattle.plain_model.specs.declared.event.PlainEvent.{PlainEvent}
use Rattle.plain_model.specs.Paths.{Bytes}
use Rattle.edit_laws.specs.Passing.{limit_fault}
use Rattle.edit_laws.specs.Settling.{settle}
use Rattle.edit_laws.specs.Sweeping.{swept}
use Rattle.squash_laws.specs.Removed.{Takings, all_left}
use Rattle.squash_laws.specs.Takings.{comment_after, ops_after, target_after}
use Rattle.plain_model.specs.declared.policy.Lean.{Lean}
use Rattle.plain_model.specs.declared.policy.Push.TheVariants as push

-- a comment after those of the removed commits before it, or as it is
abbrev pub comment_taken : List AnyId → List PlainEvent → Bool → ℕ → List ℕ → Bytes → Bytes
comment_taken set events comments c parents comment =
    if comments then comment_after set events push.Forward c parents comment else comment

-- as in a squash that pushes forward, but comments are joined only where that is wanted
abbrev pub forward_takes : List AnyId → List PlainEvent → Bool → Lean → Takings
forward_takes set events comments tags = record {
  ops = ops_after set events push.Forward;
  comment = comment_taken set events comments;
  target = target_after set events push.Forward tags;
}

-- from the history before the other edit, and from what that edit made of it
abbrev pub pushed_forward :
    List PlainEvent → List AnyId → List PlainEvent → Bool → Lean → Result (List PlainEvent) (List PlainEvent)
pushed_forward before set events comments tags =
    settle (swept before (all_left set events (forward_takes set events comments tags)))

-- a new history, if it passes no limit; settling always comes to its end
abbrev pub unless_limit : List PlainEvent → Result (List PlainEvent) (List PlainEvent) → Result (List PlainEvent) Fault
unless_limit events (Ok new) = elim (limit_fault new) [ Some why ↦ Err why | None ↦ Ok new ]
unless_limit events (Err never) = Ok events

-- the history after a push forward, or the limit that it passes
abbrev pub push_forward_of :
    List PlainEvent → List AnyId → List PlainEvent → Bool → Lean → Result (List PlainEvent) Fault
push_forward_of before set events comments tags = unless_limit events (pushed_forward before set events comments tags)
