-- Commits of a history by their ids: what is found there is what its trees hang on.
use Rattle.std.proofs.Common.{◌≡◌, ◌∙◌, ℕ, true, List, [], ◌∷◌, Option, Some, None, refl, sym, ap, subst, true≢false, IsTrue}
use Rattle.std.specs.Prelude.{IsSome, is_some, slice_get, take}
use Rattle.std.specs.List.{AllByRecursion, list_all}
use Rattle.std.proofs.lemmas.List.{reverse-reverse}
use Rattle.std.proofs.lemmas.Option.{none-some, same_Some}
use Rattle.plain_model.specs.declared.id.AnyId.TheVariants as any
use Rattle.plain_model.specs.declared.event.PlainEvent.{PlainEvent}
use Rattle.plain_model.specs.declared.event.PlainEvent.TheVariants.{Blob, Commit, Tag, Reset, Pass}
use Rattle.plain_model.specs.Histories.{Node, node_at, nodes, past}
use Rattle.plain_model.specs.Lookups.{event_ops, event_parents, find_event, id_of, place_of}
use Rattle.plain_model.specs.Soundness.{IsCommitOf, IsSound, has_id}
use Rattle.ancestry_laws.proofs.Pasts.{linked_past}
use Rattle.history_laws.specs.Once.{AreDistinct}
use Rattle.history_laws.proofs.SoundOnce.{has_id_find, sound_once}
use Rattle.history_laws.proofs.Lists.{all_reverse}
use Rattle.edit_laws.specs.Settling.{is_ready}
use Rattle.edit_laws.proofs.Lists.{OfNodes, all_true, nodes_of_events}
use Rattle.edit_laws.proofs.Settles.{sound_settles}
use Rattle.edit_laws.proofs.Trees.{nodes_found}
use Rattle.graph_walk.proofs.EarlierLemmas.{is_earlier, parents_before}
use Rattle.graph_walk.proofs.ParentLemmas.{found_place}
use Rattle.graph_walk.proofs.PlaceLemmas.{event_placed, place_found}
use Rattle.graph_walk.proofs.TurnLemmas.{all_at}
use Rattle.plan_steps.specs.Targets.{target_for}

-- the node of a commit
abbrev pub node_of : ℕ → PlainEvent → Node
node_of c e = record { id = c; parents = event_parents e; ops = event_ops e }

-- the place of an event that is nodes_found
pub record IsAt (events : List PlainEvent) (c : ℕ) (e : PlainEvent) : Type 0 where
  pub place : ℕ
  pub at : slice_get events place ≡ Some e
  pub own : any.Commit c ≡ id_of e

module _ (events : List PlainEvent) (h : IsSound events) where
  once : AreDistinct events
  once = (sound_once events h).ids

  pub found_at : (c : ℕ) (e : PlainEvent) → find_event (any.Commit c) events ≡ Some e → IsAt events c e
  found_at c e is = by (place_of (any.Commit c) events) refl (found_place events (any.Commit c) (ap is_some is))
    where
      by : (o : Option ℕ) → place_of (any.Commit c) events ≡ o → is_some o ≡ true → IsAt events c e
      by None there some = absurd (true≢false (sym some))
      by (Some k) there some =
          let x = event_placed events (any.Commit c) k there in
          let found_x = (place_found events k x.event x.at once).1 in
          let same : x.event ≡ e = same_Some x.event e (sym found_x ∙ ap (λ id. find_event id events) (sym x.own) ∙ is) in
          record { place = k; at = x.at ∙ ap Some same; own = x.own ∙ ap id_of same }

  -- what is nodes_found is its node
  pub found_node : (c : ℕ) (e : PlainEvent) → find_event (any.Commit c) events ≡ Some e → node_at (past events) c ≡ Some (node_of c e)
  found_node c e is =
      let a = found_at c e is in
      let all = subst (AllByRecursion (λ (n : Node). node_at (past events) n.id ≡ Some n)) (reverse-reverse (nodes events)) (all_reverse (λ (n : Node). node_at (past events) n.id ≡ Some n) (past events) (nodes_found (past events) (linked_past events h))) in
      own e a.own (all_at (OfNodes (λ (n : Node). node_at (past events) n.id ≡ Some n)) events a.place e (nodes_of_events (λ (n : Node). node_at (past events) n.id ≡ Some n) events all) a.at)
    where
      own : (e : PlainEvent) → any.Commit c ≡ id_of e → OfNodes (λ (n : Node). node_at (past events) n.id ≡ Some n) e → node_at (past events) c ≡ Some (node_of c e)
      own (Commit id mark branch author committer encoding comment parents ops aliases) same p =
          let is_c : id ≡ c = cc in
          subst (λ x. node_at (past events) x ≡ Some (record { id = x; parents = parents; ops = ops })) is_c p.0
      own (Blob id mark bytes) same p = absurd cc
      own (Tag id name target tagger comment mark) same p = absurd cc
      own (Reset id branch target) same p = absurd cc
      own (Pass id line) same p = absurd cc

  -- a commit that is earlier is nodes_found
  pub earlier_there : (k p : ℕ) → IsCommitOf (take k events) p → IsSome (find_event (any.Commit p) events)
  earlier_there k p known =
      let b = is_earlier events k p known in
      ap (λ id. is_some (find_event id events)) b.own ∙ ap is_some (place_found events b.place b.event b.at once).1

  -- so are the parents of an event
  pub parents_there : (k : ℕ) (e : PlainEvent) → slice_get events k ≡ Some e → AllByRecursion (λ p. IsSome (find_event (any.Commit p) events)) (event_parents e)
  parents_there k e at = each (event_parents e) (parents_before [] events k e h.formed at)
    where
      each : (ps : List ℕ) → AllByRecursion (IsCommitOf (take k events)) ps → AllByRecursion (λ p. IsSome (find_event (any.Commit p) events)) ps
      each [] a = tt
      each (p ∷ ps) a = (earlier_there k p a.0, each ps a.1)

  -- what a tag or a reset is on is there
  pub target_there : (k t : ℕ) (e : PlainEvent) → slice_get events k ≡ Some e → target_for Some e ≡ Some t → IsSome (find_event (any.Commit t) events)
  target_there k t e at is = by e (all_at (λ x. IsTrue (is_ready events x)) events k e (sound_settles events h).complete at) is
    where
      on : (c : ℕ) → list_all (has_id events) (any.Commit c ∷ []) ≡ true → Some c ≡ Some t → IsSome (find_event (any.Commit t) events)
      on c ready same =
          subst (λ x. IsSome (find_event (any.Commit x) events)) (same_Some c t same)
          (sym (has_id_find events (any.Commit c)) ∙ (all_true (has_id events) (any.Commit c ∷ []) ready).0)

      by : (e : PlainEvent) → is_ready events e ≡ true → target_for Some e ≡ Some t → IsSome (find_event (any.Commit t) events)
      by (Tag id name target tagger comment mark) ready is = on target ready is
      by (Reset id branch (Some target)) ready is = on target ready is
      by (Reset id branch None) ready is = absurd (none-some t is)
      by (Blob id mark bytes) ready is = absurd (none-some t is)
      by (Commit id mark branch author committer encoding comment parents ops aliases) ready is = absurd (none-some t is)
      by (Pass id line) ready is = absurd (none-some t is)
