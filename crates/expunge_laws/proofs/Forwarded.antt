-- What a push forward after another edit leaves.
use Rattle.std.proofs.Common.{◌≡◌, ℕ, Bool, true, false, not, List, refl, sym, ap, subst, ◌∙◌, Option, Some, None, Result, Ok, Err}
use Rattle.std.specs.Prelude.{◌&&◌, IsSome}
use Rattle.std.specs.List.{AllByRecursion}
use Rattle.plain_model.specs.declared.fault.Fault.{Fault}
use Rattle.plain_model.specs.declared.id.AnyId.{AnyId}
use Rattle.plain_model.specs.declared.id.AnyId.TheVariants as any
use Rattle.plain_model.specs.declared.event.PlainEvent.{PlainEvent}
use Rattle.plain_model.specs.declared.event.PlainEvent.TheVariants.{Blob, Commit, Tag, Reset, Pass}
use Rattle.plain_model.specs.Histories.{tree}
use Rattle.plain_model.specs.Lookups.{is_listed}
use Rattle.plain_model.specs.Snapshots.{shown_tree}
use Rattle.plain_model.specs.Soundness.{IsCommitOf, IsSound, has_id}
use Rattle.edit_laws.specs.Blobs.{HasBytesOf}
use Rattle.edit_laws.specs.Equations.{Fits}
use Rattle.edit_laws.specs.Parts.{CanBeSettled, HasFewParents}
use Rattle.edit_laws.specs.Passing.{limit_fault}
use Rattle.edit_laws.specs.Sweeping.{is_left_over, is_named, swept}
use Rattle.edit_laws.proofs.Fine.{IsFine}
use Rattle.edit_laws.proofs.Lists.{all_filter, all_flat}
use Rattle.edit_laws.proofs.Settles.{fine_nodes, settled_all, settled_ids, settled_sound, settled_trees, settling_ends, sound_settles, swept_settles}
use Rattle.edit_laws.proofs.Shown.{has_own_bytes, shown_alike}
use Rattle.edit_laws.proofs.Sound.{in_parts}
use Rattle.edit_laws.proofs.Swept.{swept_commit, swept_nodes}
use Rattle.squash_laws.specs.Removed.{Takings, is_removed, left_of, all_left, parents_after}
use Rattle.plain_model.specs.declared.policy.Lean.{Lean}
use Rattle.plain_model.specs.declared.policy.Push.TheVariants as push
use Rattle.squash_laws.proofs.Forward.{left_fits}
use Rattle.squash_laws.proofs.Left.{blobs_left, commits_left, left_settles, one_left, one_moved}
use Rattle.squash_laws.proofs.Takes.{taken_ops, target_stays}
use Rattle.expunge_laws.specs.PushForward.{comment_taken, forward_takes, pushed_forward, unless_limit}
use Rattle.edit_laws.proofs.Naming.{blobs_after}

abbrev unless : Option Fault → List PlainEvent → Result (List PlainEvent) Fault
unless limits x = elim limits [ Some why ↦ Err why | None ↦ Ok x ]

no_fault : (limits : Option Fault) (x new : List PlainEvent) → unless limits x ≡ Ok new → (limits ≡ None) × (x ≡ new)
no_fault None x new h = let is : x ≡ new = cc in (refl, is)
no_fault (Some f) x new h = absurd cc

module _ (before : List PlainEvent) (set : List AnyId) (events : List PlainEvent) (comments : Bool) (tags : Lean) where
  abbrev taking : Takings
  taking = forward_takes set events comments tags

  abbrev left : List PlainEvent
  left = all_left set events taking

  -- a fact of every event
  pub pushed_all : (P : PlainEvent → Type 0) → AllByRecursion P left → (new : List PlainEvent) → pushed_forward before set events comments tags ≡ Ok new → AllByRecursion P new
  pushed_all P a new is = settled_all P (swept before left) new (all_filter P (λ e. not (is_left_over before left e)) left a) is

  module _ (h : IsSound events) where
    pub pushed_settles : CanBeSettled (swept before left)
    pushed_settles =
        swept_settles before left
        (left_settles set events taking h
        (λ c parents ops own. taken_ops set events (IsFine events) (tt, tt, tt) (fine_nodes events h) push.Forward c parents ops own)
        (λ c t k is. target_stays set events push.Forward tags c t k is))

    pub pushed_ends : (new : List PlainEvent) × (pushed_forward before set events comments tags ≡ Ok new)
    pushed_ends = settling_ends (swept before left) pushed_settles

    -- what isn't refused
    pub pushed_done : (other new : List PlainEvent) → unless_limit other (pushed_forward before set events comments tags) ≡ Ok new → (pushed_forward before set events comments tags ≡ Ok new) × (limit_fault new ≡ None)
    pushed_done other new d = go (pushed_forward before set events comments tags) refl d
      where
        go : (r : Result (List PlainEvent) (List PlainEvent)) → pushed_forward before set events comments tags ≡ r → unless_limit other r ≡ Ok new → (pushed_forward before set events comments tags ≡ Ok new) × (limit_fault new ≡ None)
        go (Ok x) e d =
            let parts = no_fault (limit_fault x) x new d in
            (e ∙ ap (λ (l : List PlainEvent). Ok l) parts.1, ap limit_fault (sym parts.1) ∙ parts.0)
        go (Err never) e d = let ends = pushed_ends in let is : ◌≡◌ {A = Result (List PlainEvent) (List PlainEvent)} (Err never) (Ok ends.0) = sym e ∙ ends.1 in absurd cc

    module _ (new : List PlainEvent) (is : pushed_forward before set events comments tags ≡ Ok new) where
      pub pushed_commits : (c : ℕ) → has_id new (any.Commit c) ≡ has_id events (any.Commit c) && not (is_removed set c)
      pushed_commits c =
          settled_ids (swept before left) new is (any.Commit c)
          ∙ swept_commit before left c
          ∙ commits_left set events taking c

      pub pushed_was_there : (c : ℕ) → IsCommitOf new c → IsCommitOf events c
      pushed_was_there c there = first (has_id events (any.Commit c)) (not (is_removed set c)) (sym (pushed_commits c) ∙ there)
        where
          first : (a b : Bool) → a && b ≡ true → a ≡ true
          first true b h = refl
          first false b h = h

      pub pushed_trees : (c : ℕ) → IsCommitOf new c → tree new c ≡ tree events c
      pushed_trees c there =
          settled_trees (tree events) (swept before left) new
          (subst (AllByRecursion (Fits (tree events))) (sym (swept_nodes before left)) (left_fits set events tags (comment_taken set events comments) h))
          is c there

      pub pushed_sound : AllByRecursion HasFewParents new → IsSound new
      pushed_sound few = settled_sound (swept before left) new pushed_settles is few (λ c there. subst IsSome (sym (pushed_trees c there)) (h.trees c (pushed_was_there c there)))

      pub pushed_blobs : (b : ℕ) → has_id new (any.Blob b) ≡ has_id events (any.Blob b) && not (is_named before b && not (is_named new b))
      pushed_blobs b = blobs_after before left new is b ∙ ap (λ x. x && not (is_named before b && not (is_named new b))) (blobs_left set events taking b)

      -- ---- shown trees

      bytes_left : (e : PlainEvent) → HasBytesOf events e → AllByRecursion (HasBytesOf events) (left_of set events taking e)
      bytes_left (Commit id mark branch author committer encoding comment parents ops aliases) f =
          one_left (HasBytesOf events) (is_removed set id)
          (Commit id mark branch author committer encoding (taking.comment id parents comment) (parents_after set events taking parents) (taking.ops id parents ops) aliases)
          (λ stays. tt)
      bytes_left (Blob id mark bytes) f = (f, tt)
      bytes_left (Tag id name target tagger comment mark) f = one_moved (HasBytesOf events) (is_listed (any.Tag id) set) (λ t. Tag id name t tagger comment mark) (taking.target target) (λ t is. tt)
      bytes_left (Reset id branch None) f = one_left (HasBytesOf events) (is_listed (any.Reset id) set) (Reset id branch None) (λ stays. tt)
      bytes_left (Reset id branch (Some target)) f = one_moved (HasBytesOf events) (is_listed (any.Reset id) set) (λ t. Reset id branch (Some t)) (taking.target target) (λ t is. tt)
      bytes_left (Pass id line) f = one_left (HasBytesOf events) (is_listed (any.Pass id) set) (Pass id line) (λ stays. tt)

      pub pushed_shown : IsSound new → (c : ℕ) → IsCommitOf new c → shown_tree new c ≡ shown_tree events c
      pushed_shown sound c there =
          shown_alike events new
          (pushed_all (HasBytesOf events) (all_flat (HasBytesOf events) (HasBytesOf events) (left_of set events taking) bytes_left events (has_own_bytes events (in_parts events h).once)) new is)
          (sound_settles new sound).complete c c (pushed_trees c there)
