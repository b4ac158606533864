-- What the commits that stay take over: operations that were there, and tags and resets go to commits that stay.
use Rattle.std.proofs.Common.{◌≡◌, ℕ, Bool, true, false, cond, not, List, [], ◌∷◌, ◌++◌, refl, sym, subst, ◌∙◌, Option, Some, None}
use Rattle.std.specs.Prelude.{◌==◌, ◌&&◌}
use Rattle.std.specs.List.{AllByRecursion}
use Rattle.std.specs.Option.{option_or}
use Rattle.plain_model.specs.declared.id.AnyId.{AnyId}
use Rattle.plain_model.specs.declared.id.AnyId.TheVariants as any
use Rattle.plain_model.specs.declared.operation.FileOp.{FileOp}
use Rattle.plain_model.specs.declared.operation.FileOp.TheVariants.{DeleteAll}
use Rattle.plain_model.specs.declared.event.PlainEvent.{PlainEvent}
use Rattle.plain_model.specs.Histories.{Node, knows, nodes, past}
use Rattle.plain_model.specs.Soundness.{has_id}
use Rattle.history_laws.specs.FirstParents.{ops_along}
use Rattle.edit_laws.specs.Removal.{expand_all}
use Rattle.edit_laws.proofs.Chains.{back_stays, chain_all, forward_stays}
use Rattle.ancestry_laws.proofs.Pasts.{any_reverse, known_past}
use Rattle.history_laws.proofs.Lists.{all_join, all_reverse}
use Rattle.edit_laws.proofs.Lists.{all_filter, all_flat}
use Rattle.squash_laws.specs.Removed.{is_removed}
use Rattle.squash_laws.specs.Takings.{anew, back_of, forward_of, hanging, is_from_root, is_it, is_none, links, moved, ops_after, target_after}
use Rattle.plain_model.specs.declared.policy.Lean.{Lean}
use Rattle.plain_model.specs.declared.policy.Lean.TheVariants as lean
use Rattle.plain_model.specs.declared.policy.Push.{Push}
use Rattle.plain_model.specs.declared.policy.Push.TheVariants as push

module _ (set : List AnyId) (events : List PlainEvent) where
  -- ---- operations

  -- what is true of `deleteall` and of all operations of a history is true of those that a commit takes
  pub taken_ops : (P : FileOp → Type 0) → P DeleteAll → AllByRecursion (λ (n : Node). AllByRecursion P n.ops) (nodes events) → (to : Push) (c : ℕ) (parents : List ℕ) (ops : List FileOp) → AllByRecursion P ops → AllByRecursion P (ops_after set events to c parents ops)
  taken_ops P d a push.Forward c parents ops own =
      all_join P (anew (links set events parents) (expand_all (is_removed set) (past events) parents)) (ops_along (links set events parents) ++ ops)
      (begins (is_from_root (links set events parents) && not (is_none (expand_all (is_removed set) (past events) parents))))
      (all_join P (ops_along (links set events parents)) ops
      (all_flat (λ (n : Node). AllByRecursion P n.ops) P (λ (n : Node). n.ops) (λ n x. x) (links set events parents)
      (chain_all (is_removed set) (λ (n : Node). AllByRecursion P n.ops) (past events) (all_reverse (λ (n : Node). AllByRecursion P n.ops) (nodes events) a) parents))
      own)
    where
      begins : (b : Bool) → AllByRecursion P (cond b (DeleteAll ∷ []) [])
      begins true = (d, tt)
      begins false = tt
  taken_ops P d a push.Back c parents ops own =
      all_join P ops (ops_along (hanging set events c)) own
      (all_flat (λ (n : Node). AllByRecursion P n.ops) P (λ (n : Node). n.ops) (λ n x. x) (hanging set events c)
      (all_filter (λ (n : Node). AllByRecursion P n.ops) (λ n. is_removed set n.id && is_it c (back_of set events n.id)) (nodes events) a))
  taken_ops P d a push.Discard c parents ops own = own

  -- ---- tags and resets

  abbrev Stays : ℕ → Type 0
  Stays t = (is_removed set t ≡ false) × (has_id events (any.Commit t) ≡ true)

  known_node : (c : ℕ) → knows (nodes events) c ≡ has_id events (any.Commit c)
  known_node c = sym (any_reverse (λ n. n.id == c) (nodes events)) ∙ known_past events c

  forward_to : (c t : ℕ) → forward_of set events c ≡ Some t → Stays t
  forward_to c t h = let to = forward_stays (is_removed set) (nodes events) c t h in (to.0, sym (known_node t) ∙ to.1)

  back_to : (c t : ℕ) → back_of set events c ≡ Some t → Stays t
  back_to c t h = let to = back_stays (is_removed set) (past events) (c ∷ []) t h in (to.0, sym (known_past events t) ∙ to.1)

  either_way : (a b : Option ℕ) (t : ℕ) → (a ≡ Some t → Stays t) → (b ≡ Some t → Stays t) → option_or a b ≡ Some t → Stays t
  either_way None b t f g h = g h
  either_way (Some x) b t f g h = f h

  moved_to : (tags : Lean) (c t : ℕ) → moved set events tags c ≡ Some t → Stays t
  moved_to lean.Forward c t h = either_way (forward_of set events c) (back_of set events c) t (forward_to c t) (back_to c t) h
  moved_to lean.Back c t h = either_way (back_of set events c) (forward_of set events c) t (back_to c t) (forward_to c t) h

  -- a commit that stays is kept, and another one gives way
  kept_or : (c t : ℕ) (o : Option ℕ) → has_id events (any.Commit c) ≡ true → (o ≡ Some t → Stays t) → (b : Bool) → is_removed set c ≡ b → cond b o (Some c) ≡ Some t → Stays t
  kept_or c t o k f true r h = f h
  kept_or c t o k f false r h = let is : c ≡ t = cc in subst Stays is (r, k)

  pub target_stays : (to : Push) (tags : Lean) (c t : ℕ) → has_id events (any.Commit c) ≡ true → target_after set events to tags c ≡ Some t → (is_removed set t ≡ false) × (has_id events (any.Commit t) ≡ true)
  target_stays push.Forward tags c t k h = kept_or c t (moved set events tags c) k (moved_to tags c t) (is_removed set c) refl h
  target_stays push.Back tags c t k h = kept_or c t (moved set events tags c) k (moved_to tags c t) (is_removed set c) refl h
  target_stays push.Discard tags c t k h = kept_or c t None k (λ none. absurd cc) (is_removed set c) refl h
