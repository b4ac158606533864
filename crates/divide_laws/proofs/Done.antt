-- A division that isn't refused, and one that is.
use Rattle.edit_laws.specs.Keeping.{AddsNothing}
use Rattle.reparent_laws.specs.Remaining.{IsRewritten}
use Rattle.std.proofs.Common.{◌≡◌, ℕ, ◌≤◌, Bool, true, false, cond, not, List, length, filter, map, refl, sym, ap, subst, ◌∙◌, ltb-false, nat_lt, Some, Result, Ok, Err, true≢false}
use Rattle.std.specs.List.{AllByRecursion}
use Rattle.plain_model.specs.declared.fault.Fault.{Fault}
use Rattle.plain_model.specs.declared.fault.Fault.TheVariants as fault
use Rattle.plain_model.specs.declared.fault.Which.TheVariants as limit
use Rattle.plain_model.specs.declared.id.AnyId.{AnyId}
use Rattle.plain_model.specs.declared.id.AnyId.TheVariants as any
use Rattle.plain_model.specs.declared.limit.TheConstants.{MAX_OPERATIONS}
use Rattle.plain_model.specs.declared.event.PlainEvent.{PlainEvent}
use Rattle.plain_model.specs.Histories.{nodes}
use Rattle.plain_model.specs.Lookups.{find_event, id_of}
use Rattle.plain_model.specs.Snapshots.{commit_mark}
use Rattle.plain_model.specs.Soundness.{IsCommitOf, IsSound, has_id}
use Rattle.history_laws.specs.FirstParents.{ops_along}
use Rattle.edit_laws.specs.Parts.{AreComplete}
use Rattle.edit_laws.specs.Passing.{IsWithinLimits}
use Rattle.divide_laws.specs.declared.halves.Halves.{Halves}
use Rattle.divide_laws.specs.Divide.{cut_link, divide_at, divide_of, divided, loses, unless_many}
use Rattle.divide_laws.specs.declared.link.Link.{Link}
use Rattle.divide_laws.specs.Links.{IsChain, is_late}
use Rattle.divide_laws.specs.Remaining.{HasTreesOf, IsPlaced}
use Rattle.divide_laws.proofs.Halved.{adds_nothing_early, adds_nothing_late, all_placed, early_as_was, early_commit, early_complete, early_sound, early_trees, early_turns, early_within, late_as_was, late_commit, late_complete, late_sound, late_trees, late_turns, late_within}
use Rattle.divide_laws.proofs.Joined.{late_chain, late_child}
use Rattle.divide_laws.proofs.Said.{child_there, link_is, parent_there}

-- ---- at a link

record IsDone (events : List PlainEvent) (cut : Link) (halves : Halves) : Type 0 where
  apart : is_late events cut cut.parent ≡ false
  few : length (ops_along (nodes (divided events cut).late)) ≤ MAX_OPERATIONS
  is : divided events cut ≡ halves

at_done : (events : List PlainEvent) (cut : Link) (halves : Halves) → divide_at events cut ≡ Ok halves → IsDone events cut halves
at_done events cut halves d = first (is_late events cut cut.parent) refl d
  where
    second : (b : Bool) → nat_lt MAX_OPERATIONS (length (ops_along (nodes (divided events cut).late))) ≡ b → is_late events cut cut.parent ≡ false
        → ◌≡◌ {A = Result Halves Fault} (cond b (Err (fault.Limit limit.Operations MAX_OPERATIONS)) (Ok (divided events cut))) (Ok halves) → IsDone events cut halves
    second true e apart d = absurd cc
    second false e apart d =
        let is : divided events cut ≡ halves = cc in
        record { apart = apart; few = ltb-false MAX_OPERATIONS (length (ops_along (nodes (divided events cut).late))) e; is = is }

    first : (b : Bool) → is_late events cut cut.parent ≡ b
        → ◌≡◌ {A = Result Halves Fault} (cond b (Err (fault.StillConnected (commit_mark events cut.child))) (unless_many (divided events cut))) (Ok halves) → IsDone events cut halves
    first true e d = absurd cc
    first false e d = second (nat_lt MAX_OPERATIONS (length (ops_along (nodes (divided events cut).late)))) refl e d

-- the division, where this is what is known of the link
abbrev at_said : List PlainEvent → Result Link Fault → Result Halves Fault
at_said events r = elim r [ Ok cut ↦ divide_at events cut | Err why ↦ Err why ]

link_done : (set : List AnyId) (events : List PlainEvent) (cut : Link) (halves : Halves) → cut_link set events ≡ Ok cut → divide_of set events ≡ Ok halves → IsDone events cut halves
link_done set events cut halves link d = at_done events cut halves (sym (ap (at_said events) link) ∙ d)

-- whatever is true of the halves at each link
done_of : (P : Halves → Type 0) (set : List AnyId) (events : List PlainEvent) (halves : Halves) → divide_of set events ≡ Ok halves →
    ((cut : Link) → cut_link set events ≡ Ok cut → IsDone events cut halves → P (divided events cut)) → P halves
done_of P set events halves d f = go (cut_link set events) refl d
  where
    go : (r : Result Link Fault) → cut_link set events ≡ r → at_said events r ≡ Ok halves → P halves
    go (Ok cut) e k = let done = at_done events cut halves k in subst P done.is (f cut e done)
    go (Err why) e k = absurd cc

-- ---- refused

pub refused : (set : List AnyId) (events : List PlainEvent) (cut : Link) → cut_link set events ≡ Ok cut → IsChain events cut cut.child cut.parent →
    divide_of set events ≡ Err (fault.StillConnected (commit_mark events cut.child))
refused set events cut link chain =
    ap (at_said events) link
    ∙ ap (λ b. cond b (Err (fault.StillConnected (commit_mark events cut.child))) (unless_many (divided events cut))) ((late_chain events cut cut.parent).1 chain)

pub not_joined : (set : List AnyId) (events : List PlainEvent) (cut : Link) (halves : Halves) → cut_link set events ≡ Ok cut → divide_of set events ≡ Ok halves →
    IsChain events cut cut.child cut.parent → ⊥
not_joined set events cut halves link d chain =
    true≢false (sym ((late_chain events cut cut.parent).1 chain) ∙ (link_done set events cut halves link d).apart)

-- ---- which commits are late

module _ (set : List AnyId) (events : List PlainEvent) (cut : Link) (halves : Halves) where
  pub late_are : (c : ℕ) → cut_link set events ≡ Ok cut → divide_of set events ≡ Ok halves → IsCommitOf events c → has_id halves.late (any.Commit c) ≡ is_late events cut c
  late_are c link d there =
      subst (λ (x : Halves). has_id x.late (any.Commit c) ≡ is_late events cut c) (link_done set events cut halves link d).is (late_commit events cut c there)

  pub child_late : cut_link set events ≡ Ok cut → divide_of set events ≡ Ok halves → IsCommitOf halves.late cut.child
  child_late link d = late_are cut.child link d (child_there events cut (link_is events cut set link)) ∙ late_child events cut

  pub parent_early : IsSound events → cut_link set events ≡ Ok cut → divide_of set events ≡ Ok halves → IsCommitOf halves.early cut.parent
  parent_early h link d =
      let done = link_done set events cut halves link d in
      subst (λ (x : Halves). has_id x.early (any.Commit cut.parent) ≡ true) done.is
      (early_commit events cut cut.parent (parent_there events cut h (link_is events cut set link)) ∙ ap not done.apart)

  pub late_were : IsSound events → cut_link set events ≡ Ok cut → divide_of set events ≡ Ok halves → AllByRecursion (IsRewritten cut.child (loses events cut.parent) events) halves.late
  late_were h link d =
      subst (λ (x : Halves). AllByRecursion (IsRewritten cut.child (loses events cut.parent) events) x.late) (link_done set events cut halves link d).is (late_as_was events cut h)

-- ---- both halves

not_twice : (b : Bool) → b ≡ not (not b)
not_twice true = refl
not_twice false = refl

module _ (set : List AnyId) (events : List PlainEvent) (halves : Halves) where
  pub commits_once : divide_of set events ≡ Ok halves → (c : ℕ) → IsCommitOf events c → has_id halves.late (any.Commit c) ≡ not (has_id halves.early (any.Commit c))
  commits_once d c there =
      done_of (λ x. has_id x.late (any.Commit c) ≡ not (has_id x.early (any.Commit c))) set events halves d
      (λ cut link done. late_commit events cut c there ∙ not_twice (is_late events cut c) ∙ ap not (sym (early_commit events cut c there)))

  pub sound_early : IsSound events → divide_of set events ≡ Ok halves → IsSound halves.early
  sound_early h d = done_of (λ x. IsSound x.early) set events halves d (λ cut link done. early_sound events cut h)

  pub sound_late : IsSound events → divide_of set events ≡ Ok halves → IsSound halves.late
  sound_late h d = done_of (λ x. IsSound x.late) set events halves d (λ cut link done. late_sound events cut h)

  pub placed : IsSound events → divide_of set events ≡ Ok halves → AllByRecursion (IsPlaced halves) events
  placed h d = done_of (λ x. AllByRecursion (IsPlaced x) events) set events halves d (λ cut link done. all_placed events cut h)

  pub complete_early : IsSound events → divide_of set events ≡ Ok halves → AreComplete halves.early
  complete_early h d = done_of (λ x. AreComplete x.early) set events halves d (λ cut link done. early_complete events cut h)

  pub complete_late : IsSound events → divide_of set events ≡ Ok halves → AreComplete halves.late
  complete_late h d = done_of (λ x. AreComplete x.late) set events halves d (λ cut link done. late_complete events cut h)

  pub early_were : IsSound events → divide_of set events ≡ Ok halves → AllByRecursion (λ e. find_event (id_of e) events ≡ Some e) halves.early
  early_were h d = done_of (λ x. AllByRecursion (λ e. find_event (id_of e) events ≡ Some e) x.early) set events halves d (λ cut link done. early_as_was events cut h)

  pub turns_early : IsSound events → divide_of set events ≡ Ok halves → map id_of halves.early ≡ filter (has_id halves.early) (map id_of events)
  turns_early h d = done_of (λ x. map id_of x.early ≡ filter (has_id x.early) (map id_of events)) set events halves d (λ cut link done. early_turns events cut h)

  pub turns_late : IsSound events → divide_of set events ≡ Ok halves → map id_of halves.late ≡ filter (has_id halves.late) (map id_of events)
  turns_late h d = done_of (λ x. map id_of x.late ≡ filter (has_id x.late) (map id_of events)) set events halves d (λ cut link done. late_turns events cut h)

  pub fewer_early : divide_of set events ≡ Ok halves → AddsNothing events halves.early
  fewer_early d = done_of (λ x. AddsNothing events x.early) set events halves d (λ cut link done. adds_nothing_early events cut)

  pub fewer_late : divide_of set events ≡ Ok halves → AddsNothing events halves.late
  fewer_late d = done_of (λ x. AddsNothing events x.late) set events halves d (λ cut link done. adds_nothing_late events cut)

  pub limits_early : IsSound events → IsWithinLimits events → divide_of set events ≡ Ok halves → IsWithinLimits halves.early
  limits_early h within d = done_of (λ x. IsWithinLimits x.early) set events halves d (λ cut link done. early_within events cut h within)

  pub limits_late : IsSound events → IsWithinLimits events → divide_of set events ≡ Ok halves → IsWithinLimits halves.late
  limits_late h within d = done_of (λ x. IsWithinLimits x.late) set events halves d (λ cut link done. late_within events cut h done.few within)

  pub keeps_early : IsSound events → divide_of set events ≡ Ok halves → HasTreesOf events halves.early
  keeps_early h d = done_of (λ x. HasTreesOf events x.early) set events halves d (λ cut link done. early_trees events cut h)

  pub keeps_late : IsSound events → divide_of set events ≡ Ok halves → HasTreesOf events halves.late
  keeps_late h d = done_of (λ x. HasTreesOf events x.late) set events halves d (λ cut link done. late_trees events cut h)
