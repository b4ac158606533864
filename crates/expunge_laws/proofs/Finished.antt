-- What a push forward that passes no limit leaves, which limits it can pass, and that a squash is one.
use Rattle.std.proofs.Common.{◌≡◌, ℕ, ◌≤◌, Bool, true, false, cond, not, List, length, refl, sym, ap, subst, ◌∙◌, le_trans, Option, Some, None, Result, Ok, Err, nat_lt}
use Rattle.std.specs.Prelude.{◌&&◌, IsOk, if◌then◌else◌}
use Rattle.std.specs.List.{AllByRecursion, list_any}
use Rattle.std.proofs.lemmas.Bool.{cond-false}
use Rattle.plain_model.specs.declared.fault.Fault.{Fault}
use Rattle.plain_model.specs.declared.fault.Fault.TheVariants as fault
use Rattle.plain_model.specs.declared.fault.Which.TheVariants as limit
use Rattle.plain_model.specs.declared.id.AnyId.{AnyId}
use Rattle.plain_model.specs.declared.id.AnyId.TheVariants as any
use Rattle.plain_model.specs.declared.limit.TheConstants.{MAX_ALIASES, MAX_EVENTS, MAX_OPERATIONS, MAX_PARENTS}
use Rattle.plain_model.specs.declared.event.PlainEvent.{PlainEvent}
use Rattle.plain_model.specs.Histories.{nodes, tree}
use Rattle.plain_model.specs.Lookups.{alias_count, event_parents}
use Rattle.plain_model.specs.Snapshots.{shown_tree}
use Rattle.plain_model.specs.Soundness.{IsCommitOf, IsSound, has_id}
use Rattle.history_laws.specs.FirstParents.{ops_along}
use Rattle.history_laws.proofs.Ids.{each_found}
use Rattle.history_laws.proofs.SoundOnce.{sound_once}
use Rattle.edit_laws.specs.Passing.{IsWithinLimits, limit_fault}
use Rattle.edit_laws.specs.Sweeping.{is_named}
use Rattle.edit_laws.proofs.Limits.{limits_hold, not_many}
use Rattle.squash_laws.specs.Squash.{checked_after, squash_of}
use Rattle.squash_laws.specs.Remaining.{IsBareOneOf}
use Rattle.squash_laws.specs.Removed.{is_removed}
use Rattle.plain_model.specs.declared.policy.Lean.{Lean}
use Rattle.plain_model.specs.declared.policy.Push.TheVariants as push
use Rattle.squash_laws.proofs.Added.{all_one}
use Rattle.expunge_laws.specs.PushForward.{forward_takes, push_forward_of, pushed_forward, unless_limit}
use Rattle.expunge_laws.proofs.Added.{nothing_added}
use Rattle.expunge_laws.proofs.Forwarded.{pushed_blobs, pushed_commits, pushed_done, pushed_ends, pushed_shown, pushed_sound, pushed_trees}

module _ (before : List PlainEvent) (set : List AnyId) (events : List PlainEvent) (comments : Bool) (tags : Lean) where
  pub finish_ends : IsSound events → IsOk (pushed_forward before set events comments tags)
  finish_ends h = let ends = pushed_ends before set events comments tags h in subst IsOk (sym ends.1) refl

  module _ (new : List PlainEvent) (h : IsSound events) (d : push_forward_of before set events comments tags ≡ Ok new) where
    pub finish_is : pushed_forward before set events comments tags ≡ Ok new
    finish_is = (pushed_done before set events comments tags h events new d).0

    pub finish_limits : IsWithinLimits new
    finish_limits = (limits_hold new).0 (pushed_done before set events comments tags h events new d).1

    pub finish_sound : IsSound new
    finish_sound = pushed_sound before set events comments tags h new finish_is finish_limits.few_parents

    pub finish_commits : (c : ℕ) → has_id new (any.Commit c) ≡ has_id events (any.Commit c) && not (is_removed set c)
    finish_commits c = pushed_commits before set events comments tags h new finish_is c

    pub finish_trees : (c : ℕ) → IsCommitOf new c → tree new c ≡ tree events c
    finish_trees c there = pushed_trees before set events comments tags h new finish_is c there

    pub finish_shown : (c : ℕ) → IsCommitOf new c → shown_tree new c ≡ shown_tree events c
    finish_shown c there = pushed_shown before set events comments tags h new finish_is finish_sound c there

    pub finish_blobs : (b : ℕ) → has_id new (any.Blob b) ≡ has_id events (any.Blob b) && not (is_named before b && not (is_named new b))
    finish_blobs b = pushed_blobs before set events comments tags h new finish_is b

    pub finish_stays : AllByRecursion (IsBareOneOf events) new
    finish_stays = all_one set events (forward_takes set events comments tags) (each_found events (sound_once events h).ids) before new finish_is

-- ---- the limits

abbrev pub unless : Option Fault → List PlainEvent → Result (List PlainEvent) Fault
unless limits x = elim limits [ Some why ↦ Err why | None ↦ Ok x ]

-- some commit has too many parents
abbrev pub has_many_parents : List PlainEvent → Bool
has_many_parents new = list_any (λ e. nat_lt MAX_PARENTS (length (event_parents e))) new

-- a history with no more events and aliases than it may have passes no limit but those of operations and parents
pub two_alone : (new : List PlainEvent) → length new ≤ MAX_EVENTS → alias_count new ≤ MAX_ALIASES →
    unless (limit_fault new) new
    ≡ (if nat_lt MAX_OPERATIONS (length (ops_along (nodes new))) then Err (fault.Limit limit.Operations MAX_OPERATIONS)
    else if has_many_parents new then Err (fault.Limit limit.Parents MAX_PARENTS) else Ok new)
two_alone new small some =
    ap (λ (o : Option Fault). unless o new)
    (cond-false (nat_lt MAX_EVENTS (length new)) _ _ (not_many MAX_EVENTS (length new) small)
    ∙ ap (λ (o : Option Fault). cond (nat_lt MAX_OPERATIONS (length (ops_along (nodes new)))) (Some (fault.Limit limit.Operations MAX_OPERATIONS)) (cond (has_many_parents new) (Some (fault.Limit limit.Parents MAX_PARENTS)) o))
    (cond-false (nat_lt MAX_ALIASES (alias_count new)) _ _ (not_many MAX_ALIASES (alias_count new) some)))
    ∙ go (nat_lt MAX_OPERATIONS (length (ops_along (nodes new)))) (has_many_parents new)
  where
    go : (a b : Bool) → unless (cond a (Some (fault.Limit limit.Operations MAX_OPERATIONS)) (cond b (Some (fault.Limit limit.Parents MAX_PARENTS)) None)) new
        ≡ cond a (Err (fault.Limit limit.Operations MAX_OPERATIONS)) (cond b (Err (fault.Limit limit.Parents MAX_PARENTS)) (Ok new))
    go true b = refl
    go false true = refl
    go false false = refl

-- what refuses a push forward of a history with no more events and aliases than it may have
pub refused_for_two : (before : List PlainEvent) (set : List AnyId) (events : List PlainEvent) (comments : Bool) (tags : Lean) (new : List PlainEvent) →
    length events ≤ MAX_EVENTS → alias_count events ≤ MAX_ALIASES → pushed_forward before set events comments tags ≡ Ok new →
    push_forward_of before set events comments tags
    ≡ (if nat_lt MAX_OPERATIONS (length (ops_along (nodes new))) then Err (fault.Limit limit.Operations MAX_OPERATIONS)
    else if has_many_parents new then Err (fault.Limit limit.Parents MAX_PARENTS) else Ok new)
refused_for_two before set events comments tags new small some is =
    ap (unless_limit events) is
    ∙ two_alone new (le_trans (nothing_added before set events comments tags new is).events small) (le_trans (nothing_added before set events comments tags new is).aliases some)

-- ---- a squash

abbrev limits_of : Option Fault → Result (Unit {0}) Fault
limits_of limits = elim limits [ Some why ↦ Err why | None ↦ Ok tt ]

-- a squash that pushes forward
pub squash_is : (set : List AnyId) (events : List PlainEvent) (tags : Lean) →
    squash_of (record { push = push.Forward; tags = tags }) set events ≡ push_forward_of events set events true tags
squash_is set events tags = go (pushed_forward events set events true tags)
  where
    checked : (limits : Option Fault) (new : List PlainEvent) → ◌≡◌ {A = Result (List PlainEvent) Fault}
        (elim (limits_of limits) [ Ok done ↦ Ok new | Err why ↦ Err why ])
        (elim limits [ Some why ↦ Err why | None ↦ Ok new ])
    checked None new = refl
    checked (Some why) new = refl

    go : (r : Result (List PlainEvent) (List PlainEvent)) → ◌≡◌ {A = Result (List PlainEvent) Fault}
        (elim r [ Ok new ↦ elim (checked_after push.Forward new) [ Ok done ↦ Ok new | Err why ↦ Err why ] | Err never ↦ Ok events ])
        (unless_limit events r)
    go (Ok new) = checked (limit_fault new) new
    go (Err never) = refl
