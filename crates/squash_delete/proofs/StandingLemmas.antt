-- What stands for a removed commit is what stands for its parents together.
use Rattle.std.proofs.Common.{◌≡◌, ℕ, true, List, [], ◌∷◌, ◌++◌, Some, refl, sym}
use Rattle.plain_model.specs.declared.id.AnyId.{AnyId}
use Rattle.plain_model.specs.declared.id.AnyId.TheVariants as any
use Rattle.plain_model.specs.declared.event.PlainEvent.{PlainEvent}
use Rattle.plain_model.specs.Histories.{past}
use Rattle.plain_model.specs.Lookups.{event_parents, find_event}
use Rattle.plain_model.specs.Soundness.{IsSound}
use Rattle.ancestry_laws.proofs.Pasts.{linked_past}
use Rattle.edit_laws.specs.Removal.{expand, expand_all}
use Rattle.edit_laws.proofs.Following.{expand_at}
use Rattle.graph_walk.specs.Joined.{with_all, with_one}
use Rattle.squash_laws.specs.Removed.{is_removed}
use Rattle.plan_steps.proofs.NodeLemmas.{found_node, node_of}

-- adding some, and then others
pub with_all_both : (xs ys zs : List ℕ) → with_all (with_all xs ys) zs ≡ with_all xs (ys ++ zs)
with_all_both xs [] zs = refl
with_all_both xs (y ∷ ys) zs = with_all_both (with_one xs y) ys zs

pub stands_gone : (set : List AnyId) (events : List PlainEvent) → IsSound events → (c : ℕ) (e : PlainEvent) → find_event (any.Commit c) events ≡ Some e →
    is_removed set c ≡ true → expand_all (is_removed set) (past events) (event_parents e) ≡ expand (is_removed set) (past events) c
stands_gone set events h c e is gone =
    sym (expand_at (is_removed set) (past events) (linked_past events h) c (node_of c e) (found_node events h c e is) gone)
