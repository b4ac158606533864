-- The parents that commits have after an expunge.
use Rattle.std.proofs.Common.{◌≡◌, ℕ, Bool, false, true, cond, List, [], ◌∷◌, ◌++◌, map, reverse, refl, sym, ap, ◌∙◌, Some, Ok}
use Rattle.std.specs.Prelude.{◌==◌, flat_map}
use Rattle.std.specs.List.{AllByRecursion}
use Rattle.std.proofs.lemmas.List.{map-append, reverse-append}
use Rattle.plain_model.specs.declared.event.PlainEvent.{PlainEvent}
use Rattle.plain_model.specs.declared.id.AnyId.{AnyId}
use Rattle.plain_model.specs.declared.event.PlainEvent.TheVariants.{Blob, Commit, Tag, Reset, Pass}
use Rattle.plain_model.specs.declared.policy.Lean.TheVariants as lean
use Rattle.plain_model.specs.Histories.{Node, Past, node_at, nodes, past}
use Rattle.plain_model.specs.Paths.{Bytes}
use Rattle.plain_model.specs.Soundness.{IsSound}
use Rattle.history_laws.proofs.Lists.{all_imply}
use Rattle.edit_laws.specs.Removal.{expand, once_each}
use Rattle.edit_laws.proofs.Lists.{OfNodes, all_flat, events_of_nodes}
use Rattle.squash_laws.specs.Remaining.{HasParentsFor, stand_for}
use Rattle.squash_laws.specs.Removed.{is_removed, left_of}
use Rattle.squash_laws.proofs.Parents.{IsOwn, own_nodes, parents_of_one}
use Rattle.expunge_laws.specs.Expunged.{emptied, expunge_of, ops_left, replaced_event, replaced_events}
use Rattle.expunge_laws.specs.PushForward.{forward_takes}
use Rattle.expunge_laws.proofs.Changed.{replaced_sound}
use Rattle.expunge_laws.proofs.Forwarded.{pushed_all, pushed_done}

-- ---- other operations

-- a list turned round and changed item by item
map_reverse : {X Y : Type 0} (f : X → Y) (xs : List X) → map f (reverse xs) ≡ reverse (map f xs)
map_reverse f [] = refl
map_reverse f (x ∷ xs) =
    ap (map f) (reverse-append (x ∷ []) xs) ∙ map-append f (reverse xs) (x ∷ []) ∙ ap (λ ys. ys ++ f x ∷ []) (map_reverse f xs)
    ∙ sym (reverse-append (f x ∷ []) (map f xs))

-- where commits have other operations and the same parents
module _ (ops : Node → Node) (same_id : (n : Node) → (ops n).id ≡ n.id) (same_parents : (n : Node) → (ops n).parents ≡ n.parents) where
  expand_same : (removed : ℕ → Bool) (a : Past) (c : ℕ) → expand removed (map ops a) c ≡ expand removed a c
  expand_same removed [] c = refl
  expand_same removed (n ∷ older) c = λ i.
      cond (same_id n i == c) (cond (removed c) (once_each (flat_map (λ q. expand_same removed older q i) (same_parents n i))) (c ∷ []))
      (expand_same removed older c i)

  parents_at : (a : Past) (c : ℕ) (n : Node) → node_at (map ops a) c ≡ Some n → (old : Node) × (node_at a c ≡ Some old) × (old.parents ≡ n.parents)
  parents_at [] c n h = absurd cc
  parents_at (m ∷ older) c n h = go (m.id == c) (ap (λ k. cond (k == c) (Some (ops m)) (node_at (map ops older) c)) (sym (same_id m)) ∙ h) (parents_at older c n)
    where
      go : (b : Bool) → cond b (Some (ops m)) (node_at (map ops older) c) ≡ Some n
          → (node_at (map ops older) c ≡ Some n → (old : Node) × (node_at older c ≡ Some old) × (old.parents ≡ n.parents))
          → (old : Node) × (cond b (Some m) (node_at older c) ≡ Some old) × (old.parents ≡ n.parents)
      go true h rec = let is : ops m ≡ n = cc in (m, refl, sym (same_parents m) ∙ ap (λ (k : Node). k.parents) is)
      go false h rec = rec h

-- ---- the history

module _ (matched : Bytes → Bool) (events : List PlainEvent) where
  abbrev set : List AnyId
  set = emptied matched events

  abbrev changed : List PlainEvent
  changed = replaced_events matched events

  abbrev pub ops_of : Node → Node
  ops_of n = record n { ops = ops_left matched events n.parents n.ops }

  pub nodes_changed : (es : List PlainEvent) → nodes (map (replaced_event matched events) es) ≡ map ops_of (nodes es)
  nodes_changed [] = refl
  nodes_changed (Commit id mark branch author committer encoding comment parents ops aliases ∷ es) =
      ap (λ (ns : List Node). record { id = id; parents = parents; ops = ops_left matched events parents ops } ∷ ns) (nodes_changed es)
  nodes_changed (Blob id mark bytes ∷ es) = nodes_changed es
  nodes_changed (Tag id name target tagger comment mark ∷ es) = nodes_changed es
  nodes_changed (Reset id branch target ∷ es) = nodes_changed es
  nodes_changed (Pass id line ∷ es) = nodes_changed es

  pub past_changed : past changed ≡ map ops_of (past events)
  past_changed = ap reverse (nodes_changed events) ∙ sym (map_reverse ops_of (nodes events))

  stand_same : (ps : List ℕ) → stand_for set changed ps ≡ stand_for set events ps
  stand_same ps =
      ap (λ (a : Past). once_each (flat_map (expand (is_removed set) a) ps)) past_changed
      ∙ (λ i. once_each (flat_map (λ q. expand_same ops_of (λ n. refl) (λ n. refl) (is_removed set) (past events) q i) ps))

  for_old : (n : Node) → HasParentsFor set changed n → HasParentsFor set events n
  for_old n h =
      let old = parents_at ops_of (λ m. refl) (λ m. refl) (past events) n.id h.0 (ap (λ (a : Past). node_at a n.id) (sym past_changed) ∙ h.1) in
      (old.0, old.1, ap (stand_for set events) old.2 ∙ sym (stand_same h.0.parents) ∙ h.2)

pub parents_left : (matched : Bytes → Bool) (events new : List PlainEvent) → IsSound events → expunge_of matched events ≡ Ok new
    → AllByRecursion (HasParentsFor (emptied matched events) events) (nodes new)
parents_left matched events new h d =
    let gone = set matched events in
    let after = changed matched events in
    let taking = forward_takes gone after false lean.Forward in
    let sound = replaced_sound matched events h in
    let is = (pushed_done events gone after false lean.Forward sound events new d).0 in
    all_imply (HasParentsFor gone after) (HasParentsFor gone events) (for_old matched events) (nodes new)
    (events_of_nodes (HasParentsFor gone after) new
    (pushed_all events gone after false lean.Forward (OfNodes (HasParentsFor gone after))
    (all_flat (OfNodes (IsOwn gone after taking)) (OfNodes (HasParentsFor gone after)) (left_of gone after taking) (parents_of_one gone after taking) after (own_nodes gone after taking sound))
    new is))
