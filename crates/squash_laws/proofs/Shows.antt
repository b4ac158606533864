-- What the trees after a squash show, and what a deletion leaves.
use Rattle.std.proofs.Common.{◌≡◌, ℕ, not, List, refl, subst, Some, None, Ok}
use Rattle.std.specs.List.{AllByRecursion}
use Rattle.std.proofs.lemmas.List.{reverse-reverse}
use Rattle.plain_model.specs.declared.id.AnyId.{AnyId}
use Rattle.plain_model.specs.declared.id.AnyId.TheVariants as any
use Rattle.plain_model.specs.declared.event.PlainEvent.{PlainEvent}
use Rattle.plain_model.specs.declared.event.PlainEvent.TheVariants.{Blob, Commit, Tag, Reset, Pass}
use Rattle.plain_model.specs.Histories.{Node, node_at, nodes, past, tree}
use Rattle.plain_model.specs.Lookups.{is_listed}
use Rattle.plain_model.specs.Snapshots.{shown_tree}
use Rattle.plain_model.specs.Soundness.{IsCommitOf, IsSound}
use Rattle.edit_laws.specs.Blobs.{HasBytesOf}
use Rattle.edit_laws.specs.Equations.{Fits}
use Rattle.edit_laws.specs.Settling.{settle}
use Rattle.edit_laws.specs.Sweeping.{is_left_over}
use Rattle.ancestry_laws.proofs.Pasts.{linked_past}
use Rattle.edit_laws.specs.Keeping.{HasOperationsOf}
use Rattle.edit_laws.proofs.Lists.{OfNodes, all_filter, all_flat, events_of_nodes, nodes_of_events}
use Rattle.edit_laws.proofs.Settles.{settled_all, sound_settles}
use Rattle.edit_laws.proofs.Shown.{has_own_bytes, shown_alike}
use Rattle.edit_laws.proofs.Sound.{in_parts}
use Rattle.edit_laws.proofs.Trees.{nodes_found, trees_fit}
use Rattle.squash_laws.specs.Squash.{squash_of}
use Rattle.squash_laws.specs.Removed.{Takings, is_removed, left_of, all_left, parents_after, without_set}
use Rattle.squash_laws.specs.Takings.{last_hanging, takes}
use Rattle.plain_model.specs.declared.policy.Lean.{Lean}
use Rattle.plain_model.specs.declared.policy.Push.TheVariants as push
use Rattle.plain_model.specs.declared.policy.Policy.{Policy}
use Rattle.squash_laws.proofs.Done.{back_done_sound, back_trees, done_parts, done_sound, done_trees, forward_done_sound}
use Rattle.squash_laws.proofs.Left.{one_left, one_moved}
use Rattle.history_laws.proofs.Lists.{all_reverse}

-- ---- blobs

module _ (set : List AnyId) (events : List PlainEvent) (taking : Takings) where
  bytes_left : (e : PlainEvent) → HasBytesOf events e → AllByRecursion (HasBytesOf events) (left_of set events taking e)
  bytes_left (Commit id mark branch author committer encoding comment parents ops aliases) f =
      one_left (HasBytesOf events) (is_removed set id)
      (Commit id mark branch author committer encoding (taking.comment id parents comment) (parents_after set events taking parents) (taking.ops id parents ops) aliases)
      (λ stays. tt)
  bytes_left (Blob id mark bytes) f = (f, tt)
  bytes_left (Tag id name target tagger comment mark) f = one_moved (HasBytesOf events) (is_listed (any.Tag id) set) (λ t. Tag id name t tagger comment mark) (taking.target target) (λ t is. tt)
  bytes_left (Reset id branch None) f = one_left (HasBytesOf events) (is_listed (any.Reset id) set) (Reset id branch None) (λ stays. tt)
  bytes_left (Reset id branch (Some target)) f = one_moved (HasBytesOf events) (is_listed (any.Reset id) set) (λ t. Reset id branch (Some t)) (taking.target target) (λ t is. tt)
  bytes_left (Pass id line) f = one_left (HasBytesOf events) (is_listed (any.Pass id) set) (Pass id line) (λ stays. tt)

  bytes_new : IsSound events → (new : List PlainEvent) → settle (without_set set events taking) ≡ Ok new → AllByRecursion (HasBytesOf events) new
  bytes_new h new is =
      let left = all_left set events taking in
      settled_all (HasBytesOf events) (without_set set events taking) new
      (all_filter (HasBytesOf events) (λ e. not (is_left_over events left e)) left
      (all_flat (HasBytesOf events) (HasBytesOf events) (left_of set events taking) bytes_left events (has_own_bytes events (in_parts events h).once))) is

shown_new : (set : List AnyId) (events : List PlainEvent) (how : Policy) (new : List PlainEvent) → IsSound events →
    squash_of how set events ≡ Ok new → IsSound new → (c d : ℕ) → tree new c ≡ tree events d → shown_tree new c ≡ shown_tree events d
shown_new set events how new h d sound c e same =
    shown_alike events new (bytes_new set events (takes set events how) h new (done_parts how set events new h d).is) (sound_settles new sound).complete c e same

pub forward_shown : (set : List AnyId) (events : List PlainEvent) (tags : Lean) (new : List PlainEvent) → IsSound events → squash_of (record { push = push.Forward; tags = tags }) set events ≡ Ok new → (c : ℕ) → IsCommitOf new c → shown_tree new c ≡ shown_tree events c
forward_shown set events tags new h d c there = shown_new set events (record { push = push.Forward; tags = tags }) new h d (forward_done_sound set events tags new h d) c c (done_trees set events tags new h d c there)

pub back_shown : (set : List AnyId) (events : List PlainEvent) (tags : Lean) (new : List PlainEvent) → IsSound events → squash_of (record { push = push.Back; tags = tags }) set events ≡ Ok new → (c : ℕ) → IsCommitOf new c → shown_tree new c ≡ shown_tree events (last_hanging set events c)
back_shown set events tags new h d c there = shown_new set events (record { push = push.Back; tags = tags }) new h d (back_done_sound set events tags new h d) c (last_hanging set events c) (back_trees set events tags new h d c there)

-- ---- a deletion

module _ (set : List AnyId) (events : List PlainEvent) (tags : Lean) where
  abbrev how : Policy
  how = record { push = push.Discard; tags = tags }

  as_left : (e : PlainEvent) → OfNodes (λ (n : Node). node_at (past events) n.id ≡ Some n) e → AllByRecursion (OfNodes (HasOperationsOf events)) (left_of set events (takes set events how) e)
  as_left (Commit id mark branch author committer encoding comment parents ops aliases) f =
      one_left (OfNodes (HasOperationsOf events)) (is_removed set id)
      (Commit id mark branch author committer encoding comment (parents_after set events (takes set events how) parents) ops aliases)
      (λ stays. ((record { id = id; parents = parents; ops = ops }, f.0, refl), tt))
  as_left (Blob id mark bytes) f = (tt, tt)
  as_left (Tag id name target tagger comment mark) f = one_moved (OfNodes (HasOperationsOf events)) (is_listed (any.Tag id) set) (λ t. Tag id name t tagger comment mark) ((takes set events how).target target) (λ t is. tt)
  as_left (Reset id branch None) f = one_left (OfNodes (HasOperationsOf events)) (is_listed (any.Reset id) set) (Reset id branch None) (λ stays. tt)
  as_left (Reset id branch (Some target)) f = one_moved (OfNodes (HasOperationsOf events)) (is_listed (any.Reset id) set) (λ t. Reset id branch (Some t)) ((takes set events how).target target) (λ t is. tt)
  as_left (Pass id line) f = one_left (OfNodes (HasOperationsOf events)) (is_listed (any.Pass id) set) (Pass id line) (λ stays. tt)

  pub deleted_ops : (new : List PlainEvent) → IsSound events → squash_of how set events ≡ Ok new → AllByRecursion (HasOperationsOf events) (nodes new)
  deleted_ops new h d =
      let left = all_left set events (takes set events how) in
      let its = subst (AllByRecursion (λ (n : Node). node_at (past events) n.id ≡ Some n)) (reverse-reverse (nodes events)) (all_reverse (λ (n : Node). node_at (past events) n.id ≡ Some n) (past events) (nodes_found (past events) (linked_past events h))) in
      events_of_nodes (HasOperationsOf events) new
      (settled_all (OfNodes (HasOperationsOf events)) (without_set set events (takes set events how)) new
      (all_filter (OfNodes (HasOperationsOf events)) (λ e. not (is_left_over events left e)) left
      (all_flat (OfNodes (λ (n : Node). node_at (past events) n.id ≡ Some n)) (OfNodes (HasOperationsOf events)) (left_of set events (takes set events how)) as_left events
      (nodes_of_events (λ (n : Node). node_at (past events) n.id ≡ Some n) events its)))
      (done_parts how set events new h d).is)

  pub deleted_fits : (new : List PlainEvent) → IsSound events → squash_of how set events ≡ Ok new → AllByRecursion (Fits (tree new)) (nodes new)
  deleted_fits new h d = let parts = in_parts new (done_sound how set events new h d) in trees_fit new parts.once parts.in_order
