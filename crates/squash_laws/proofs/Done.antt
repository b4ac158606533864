-- What a squash that isn't refused leaves.
use Rattle.std.proofs.Common.{◌≡◌, ℕ, not, List, refl, sym, ap, subst, ◌∙◌, Option, Some, None, Result, Ok, Err}
use Rattle.std.specs.Prelude.{◌&&◌, IsSome}
use Rattle.std.specs.List.{AllByRecursion}
use Rattle.plain_model.specs.declared.fault.Fault.{Fault}
use Rattle.plain_model.specs.declared.id.AnyId.{AnyId}
use Rattle.plain_model.specs.declared.id.AnyId.TheVariants as any
use Rattle.plain_model.specs.declared.event.PlainEvent.{PlainEvent}
use Rattle.plain_model.specs.Histories.{tree}
use Rattle.plain_model.specs.Soundness.{IsCommitOf, IsSound, has_id}
use Rattle.edit_laws.specs.Passing.{limit_fault}
use Rattle.edit_laws.specs.Passing.{IsWithinLimits}
use Rattle.edit_laws.proofs.Limits.{limits_hold}
use Rattle.edit_laws.proofs.Trees.{linked_in_order}
use Rattle.edit_laws.proofs.Settles.{any_event, settled_in_order, settled_once, settled_trees}
use Rattle.edit_laws.proofs.Settled.{settled}
use Rattle.edit_laws.proofs.Swept.{swept_nodes}
use Rattle.edit_laws.specs.Equations.{Fits}
use Rattle.edit_laws.proofs.Checked.{check_finds}
use Rattle.squash_laws.specs.Squash.{checked_after, fault_before, squash_of, trees_checked}
use Rattle.squash_laws.specs.Removed.{is_removed, all_left, without_set}
use Rattle.squash_laws.specs.Takings.{hanging, last_of, squashed, takes}
use Rattle.plain_model.specs.declared.policy.Lean.{Lean}
use Rattle.plain_model.specs.declared.policy.Push.{Push}
use Rattle.plain_model.specs.declared.policy.Push.TheVariants as push
use Rattle.plain_model.specs.declared.policy.Policy.{Policy}
use Rattle.squash_laws.proofs.Back.{pulled_fits, pulled_there, pulled_tree}
use Rattle.squash_laws.proofs.Squashed.{forward_keeps, forward_sound, squash_commits, squash_ends, squash_settles, squash_sound, was_there}

-- what is true where a squash isn't refused
pub record IsDone (how : Policy) (set : List AnyId) (events new : List PlainEvent) : Type 0 where
  pub before : fault_before how.push set events ≡ None
  pub is : squashed set events how ≡ Ok new
  pub limits : limit_fault new ≡ None
  pub trees : trees_checked how.push new ≡ Ok tt

-- the checks of what is left
abbrev done_or : Result (Unit {0}) Fault → List PlainEvent → Result (List PlainEvent) Fault
done_or checks x = elim checks [ Ok done ↦ Ok x | Err why ↦ Err why ]

both_pass : (to : Push) (x : List PlainEvent) → checked_after to x ≡ Ok tt →
    (limit_fault x ≡ None) × (trees_checked to x ≡ Ok tt)
both_pass to x h = go (limit_fault x) refl h
  where
    go : (o : Option Fault) → limit_fault x ≡ o →
        ◌≡◌ {A = Result (Unit {0}) Fault} (elim o [ Some why ↦ Err why | None ↦ trees_checked to x ]) (Ok tt) →
        (limit_fault x ≡ None) × (trees_checked to x ≡ Ok tt)
    go None e h = (e, h)
    go (Some why) e h = absurd cc

passed : (to : Push) (checks : Result (Unit {0}) Fault) (x new : List PlainEvent) → checked_after to x ≡ checks →
    done_or checks x ≡ Ok new → (x ≡ new) × ((limit_fault x ≡ None) × (trees_checked to x ≡ Ok tt))
passed to (Ok tt) x new e h = let is : x ≡ new = cc in (is, both_pass to x e)
passed to (Err why) x new e h = absurd cc

pub done_parts : (how : Policy) (set : List AnyId) (events new : List PlainEvent) → IsSound events →
    squash_of how set events ≡ Ok new → IsDone how set events new
done_parts how set events new h d = first (fault_before how.push set events) refl d
  where
    second : (r : Result (List PlainEvent) (List PlainEvent)) → squashed set events how ≡ r →
        fault_before how.push set events ≡ None →
        ◌≡◌ {A = Result (List PlainEvent) Fault} (elim r [ Ok x ↦ done_or (checked_after how.push x) x | Err never ↦ Ok events ]) (Ok new) →
        IsDone how set events new
    second (Ok x) e none d =
        let parts = passed how.push (checked_after how.push x) x new refl d in
        record {
          before = none;
          is = e ∙ ap Ok parts.0;
          limits = subst (λ (l : List PlainEvent). limit_fault l ≡ None) parts.0 parts.1.0;
          trees = subst (λ (l : List PlainEvent). trees_checked how.push l ≡ Ok tt) parts.0 parts.1.1;
        }
    second (Err never) e none d =
        let ends = squash_ends set events h how in
        let is : ◌≡◌ {A = Result (List PlainEvent) (List PlainEvent)} (Err never) (Ok ends.0) = sym e ∙ ends.1 in
        absurd cc

    first : (o : Option Fault) → fault_before how.push set events ≡ o →
        ◌≡◌ {A = Result (List PlainEvent) Fault} (elim o [
          | Some why ↦ Err why
          | None ↦ elim (squashed set events how) [ Ok x ↦ done_or (checked_after how.push x) x | Err never ↦ Ok events ]
        ]) (Ok new) → IsDone how set events new
    first None e d = second (squashed set events how) refl e d
    first (Some why) e d = absurd cc

-- it is within the limits
pub done_limits : (how : Policy) (set : List AnyId) (events new : List PlainEvent) → IsSound events →
    squash_of how set events ≡ Ok new → IsWithinLimits new
done_limits how set events new h d = (limits_hold new).0 (done_parts how set events new h d).limits

-- a push forward that isn't refused leaves a sound history
pub forward_done_sound : (set : List AnyId) (events : List PlainEvent) (tags : Lean) (new : List PlainEvent) →
    IsSound events → squash_of (record { push = push.Forward; tags = tags }) set events ≡ Ok new → IsSound new
forward_done_sound set events tags new h d =
    let how : Policy = record { push = push.Forward; tags = tags } in
    let done = done_parts how set events new h d in
    forward_sound set events h tags new done.is (done_limits how set events new h d).few_parents

-- so does a deletion
pub delete_done_sound : (set : List AnyId) (events : List PlainEvent) (tags : Lean) (new : List PlainEvent) →
    IsSound events → squash_of (record { push = push.Discard; tags = tags }) set events ≡ Ok new → IsSound new
delete_done_sound set events tags new h d =
    let how : Policy = record { push = push.Discard; tags = tags } in
    let done = done_parts how set events new h d in
    let left = without_set set events (takes set events how) in
    let can = squash_settles set events h how in
    let once = settled_once left new can.once (settled (λ e. Unit {0}) left new (any_event left) done.is) in
    let linked = linked_in_order new once (settled_in_order left new done.is) in
    squash_sound set events h how new done.is (done_limits how set events new h d).few_parents
    ((check_finds new linked).1 done.trees)

-- ---- push back

pub back_trees : (set : List AnyId) (events : List PlainEvent) (tags : Lean) (new : List PlainEvent) → IsSound events → squash_of (record { push = push.Back; tags = tags }) set events ≡ Ok new → (c : ℕ) → IsCommitOf new c → tree new c ≡ tree events (last_of c (hanging set events c))
back_trees set events tags new h d c there =
    let how : Policy = record { push = push.Back; tags = tags } in
    let done = done_parts how set events new h d in
    let taking = takes set events how in
    settled_trees (pulled_tree set events) (without_set set events taking) new
    (subst (AllByRecursion (Fits (pulled_tree set events))) (sym (swept_nodes events (all_left set events taking))) (pulled_fits set events h done.before tags))
    done.is c there

pub back_done_sound : (set : List AnyId) (events : List PlainEvent) (tags : Lean) (new : List PlainEvent) → IsSound events → squash_of (record { push = push.Back; tags = tags }) set events ≡ Ok new → IsSound new
back_done_sound set events tags new h d =
    let how : Policy = record { push = push.Back; tags = tags } in
    let done = done_parts how set events new h d in
    squash_sound set events h how new done.is (done_limits how set events new h d).few_parents
    (λ c there. subst IsSome (sym (back_trees set events tags new h d c there))
    (pulled_there set events h done.before tags c (was_there set events h how new done.is c there)))

-- ---- any squash

pub done_sound : (how : Policy) (set : List AnyId) (events new : List PlainEvent) → IsSound events → squash_of how set events ≡ Ok new → IsSound new
done_sound how set events new h d = go how.push refl
  where
    go : (p : Push) → how.push ≡ p → IsSound new
    go push.Forward e = forward_done_sound set events how.tags new h (ap (λ p. squash_of (record { push = p; tags = how.tags }) set events) (sym e) ∙ d)
    go push.Back e = back_done_sound set events how.tags new h (ap (λ p. squash_of (record { push = p; tags = how.tags }) set events) (sym e) ∙ d)
    go push.Discard e = delete_done_sound set events how.tags new h (ap (λ p. squash_of (record { push = p; tags = how.tags }) set events) (sym e) ∙ d)

-- the commits that aren't removed are there, and no others
pub done_commits : (how : Policy) (set : List AnyId) (events new : List PlainEvent) → IsSound events → squash_of how set events ≡ Ok new → (c : ℕ) → has_id new (any.Commit c) ≡ has_id events (any.Commit c) && not (is_removed set c)
done_commits how set events new h d c = squash_commits set events h how new (done_parts how set events new h d).is c

pub done_trees : (set : List AnyId) (events : List PlainEvent) (tags : Lean) (new : List PlainEvent) → IsSound events → squash_of (record { push = push.Forward; tags = tags }) set events ≡ Ok new → (c : ℕ) → IsCommitOf new c → tree new c ≡ tree events c
done_trees set events tags new h d c there = forward_keeps set events h tags new (done_parts (record { push = push.Forward; tags = tags }) set events new h d).is c there
