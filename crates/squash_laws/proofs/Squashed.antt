-- What a squash leaves is sound, and after a push forward each commit that stays has the tree that it had.
use Rattle.std.proofs.Common.{◌≡◌, ℕ, Bool, true, false, not, List, refl, sym, subst, ◌∙◌, Ok}
use Rattle.std.specs.Prelude.{◌&&◌, IsSome}
use Rattle.std.specs.List.{AllByRecursion}
use Rattle.plain_model.specs.declared.id.AnyId.{AnyId}
use Rattle.plain_model.specs.declared.id.AnyId.TheVariants as any
use Rattle.plain_model.specs.declared.event.PlainEvent.{PlainEvent}
use Rattle.plain_model.specs.declared.event.PlainEvent.TheVariants.{Commit}
use Rattle.plain_model.specs.Histories.{tree}
use Rattle.plain_model.specs.Soundness.{IsCommitOf, IsSound, has_id}
use Rattle.edit_laws.specs.Equations.{Fits}
use Rattle.edit_laws.specs.Parts.{CanBeSettled, HasFewParents}
use Rattle.edit_laws.proofs.Fine.{IsFine}
use Rattle.edit_laws.proofs.Settles.{fine_nodes, settled_ids, settled_sound, settled_trees, settling_ends}
use Rattle.edit_laws.proofs.Swept.{swept_commit, swept_nodes}
use Rattle.squash_laws.specs.Removed.{is_removed, all_left, without_set}
use Rattle.squash_laws.specs.Takings.{comment_after, squashed, takes}
use Rattle.plain_model.specs.declared.policy.Lean.{Lean}
use Rattle.plain_model.specs.declared.policy.Push.TheVariants as push
use Rattle.plain_model.specs.declared.policy.Policy.{Policy}
use Rattle.squash_laws.proofs.Forward.{left_fits}
use Rattle.squash_laws.proofs.Left.{commits_left, without_settles}
use Rattle.squash_laws.proofs.Takes.{taken_ops, target_stays}

module _ (set : List AnyId) (events : List PlainEvent) (h : IsSound events) where
  pub squash_settles : (how : Policy) → CanBeSettled (without_set set events (takes set events how))
  squash_settles how =
      without_settles set events (takes set events how) h
      (λ c parents ops own. taken_ops set events (IsFine events) (tt, tt, tt) (fine_nodes events h) how.push c parents ops own)
      (λ c t k is. target_stays set events how.push how.tags c t k is)

  -- a squash comes to its end
  pub squash_ends : (how : Policy) → (new : List PlainEvent) × (squashed set events how ≡ Ok new)
  squash_ends how = settling_ends (without_set set events (takes set events how)) (squash_settles how)

  -- its commits are those that aren't removed
  pub squash_commits : (how : Policy) (new : List PlainEvent) → squashed set events how ≡ Ok new → (c : ℕ) → has_id new (any.Commit c) ≡ has_id events (any.Commit c) && not (is_removed set c)
  squash_commits how new is c =
      settled_ids (without_set set events (takes set events how)) new is (any.Commit c)
      ∙ swept_commit events (all_left set events (takes set events how)) c
      ∙ commits_left set events (takes set events how) c

  pub squash_sound : (how : Policy) (new : List PlainEvent) → squashed set events how ≡ Ok new → AllByRecursion HasFewParents new → ((c : ℕ) → IsCommitOf new c → IsSome (tree new c)) → IsSound new
  squash_sound how new is few trees = settled_sound (without_set set events (takes set events how)) new (squash_settles how) is few trees

  -- ---- push forward

  pub forward_keeps : (tags : Lean) (new : List PlainEvent) → squashed set events (record { push = push.Forward; tags = tags }) ≡ Ok new → (c : ℕ) → IsCommitOf new c → tree new c ≡ tree events c
  forward_keeps tags new is c there =
      let taking = takes set events (record { push = push.Forward; tags = tags }) in
      settled_trees (tree events) (without_set set events taking) new
      (subst (AllByRecursion (Fits (tree events))) (sym (swept_nodes events (all_left set events taking))) (left_fits set events tags (comment_after set events push.Forward) h))
      is c there

  pub was_there : (how : Policy) (new : List PlainEvent) → squashed set events how ≡ Ok new → (c : ℕ) → IsCommitOf new c → IsCommitOf events c
  was_there how new is c there = first (has_id events (any.Commit c)) (not (is_removed set c)) (sym (squash_commits how new is c) ∙ there)
    where
      first : (a b : Bool) → a && b ≡ true → a ≡ true
      first true b h = refl
      first false b h = h

  pub forward_sound : (tags : Lean) (new : List PlainEvent) → squashed set events (record { push = push.Forward; tags = tags }) ≡ Ok new → AllByRecursion HasFewParents new → IsSound new
  forward_sound tags new is few =
      squash_sound (record { push = push.Forward; tags = tags }) new is few
      (λ c there. subst IsSome (sym (forward_keeps tags new is c there)) (h.trees c (was_there (record { push = push.Forward; tags = tags }) new is c there)))
