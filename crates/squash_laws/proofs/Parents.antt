-- The parents that commits have after a squash, and that a deletion leaves all else.
use Rattle.std.proofs.Common.{◌≡◌, ℕ, Bool, true, false, cond, not, List, refl, ap, subst, Some, None, Ok}
use Rattle.std.specs.List.{AllByRecursion}
use Rattle.std.proofs.lemmas.List.{reverse-reverse}
use Rattle.plain_model.specs.declared.id.AnyId.{AnyId}
use Rattle.plain_model.specs.declared.id.AnyId.TheVariants as any
use Rattle.plain_model.specs.declared.event.PlainEvent.{PlainEvent}
use Rattle.plain_model.specs.declared.event.PlainEvent.TheVariants.{Blob, Commit, Tag, Reset, Pass}
use Rattle.plain_model.specs.Histories.{Node, node_at, nodes, past}
use Rattle.plain_model.specs.Lookups.{find_event, id_of, is_listed}
use Rattle.plain_model.specs.Soundness.{IsSound}
use Rattle.history_laws.proofs.Ids.{each_found}
use Rattle.history_laws.proofs.SoundOnce.{sound_once}
use Rattle.history_laws.proofs.Lists.{all_reverse}
use Rattle.ancestry_laws.proofs.Pasts.{linked_past}
use Rattle.edit_laws.specs.Settling.{settle}
use Rattle.edit_laws.specs.Sweeping.{is_left_over}
use Rattle.edit_laws.proofs.Lists.{OfNodes, all_filter, all_flat, events_of_nodes, nodes_of_events}
use Rattle.edit_laws.proofs.Settles.{settled_all}
use Rattle.edit_laws.proofs.Trees.{nodes_found}
use Rattle.squash_laws.specs.Squash.{squash_of}
use Rattle.squash_laws.specs.Remaining.{HasParentsFor, IsOneOn, stand_for}
use Rattle.squash_laws.specs.Removed.{Takings, all_left, is_removed, left_of, parents_after, without_set}
use Rattle.squash_laws.specs.Takings.{takes}
use Rattle.plain_model.specs.declared.policy.Lean.{Lean}
use Rattle.plain_model.specs.declared.policy.Policy.{Policy}
use Rattle.plain_model.specs.declared.policy.Push.TheVariants as push
use Rattle.squash_laws.proofs.Done.{done_parts}
use Rattle.squash_laws.proofs.Left.{one_left, one_moved}

-- what is so of all that is left of each event is so of all that is settled
module _ (set : List AnyId) (events : List PlainEvent) (taking : Takings) where
  all_settled : (Is P : PlainEvent → Type 0) → ((e : PlainEvent) → Is e → AllByRecursion P (left_of set events taking e)) → AllByRecursion Is events
      → (new : List PlainEvent) → settle (without_set set events taking) ≡ Ok new → AllByRecursion P new
  all_settled Is P each all new is =
      let left = all_left set events taking in
      settled_all P (without_set set events taking) new
      (all_filter P (λ e. not (is_left_over events left e)) left (all_flat Is P (left_of set events taking) each events all)) is

  abbrev pub IsOwn : Node → Type 0
  IsOwn n = node_at (past events) n.id ≡ Some n

  pub parents_of_one : (e : PlainEvent) → OfNodes IsOwn e → AllByRecursion (OfNodes (HasParentsFor set events)) (left_of set events taking e)
  parents_of_one (Commit id mark branch author committer encoding comment parents ops aliases) f =
      one_left (OfNodes (HasParentsFor set events)) (is_removed set id)
      (Commit id mark branch author committer encoding (taking.comment id parents comment) (parents_after set events taking parents) (taking.ops id parents ops) aliases)
      (λ stays. ((record { id = id; parents = parents; ops = ops }, f.0, refl), tt))
  parents_of_one (Blob id mark bytes) f = (tt, tt)
  parents_of_one (Tag id name target tagger comment mark) f =
      one_moved (OfNodes (HasParentsFor set events)) (is_listed (any.Tag id) set) (λ t. Tag id name t tagger comment mark) (taking.target target) (λ t is. tt)
  parents_of_one (Reset id branch None) f = one_left (OfNodes (HasParentsFor set events)) (is_listed (any.Reset id) set) (Reset id branch None) (λ stays. tt)
  parents_of_one (Reset id branch (Some target)) f =
      one_moved (OfNodes (HasParentsFor set events)) (is_listed (any.Reset id) set) (λ t. Reset id branch (Some t)) (taking.target target) (λ t is. tt)
  parents_of_one (Pass id line) f = one_left (OfNodes (HasParentsFor set events)) (is_listed (any.Pass id) set) (Pass id line) (λ stays. tt)

  pub own_nodes : IsSound events → AllByRecursion (OfNodes IsOwn) events
  own_nodes h =
      nodes_of_events IsOwn events
      (subst (AllByRecursion IsOwn) (reverse-reverse (nodes events)) (all_reverse IsOwn (past events) (nodes_found (past events) (linked_past events h))))

pub parents_stood_for : (how : Policy) (set : List AnyId) (events new : List PlainEvent) → IsSound events → squash_of how set events ≡ Ok new
    → AllByRecursion (HasParentsFor set events) (nodes new)
parents_stood_for how set events new h d =
    let taking = takes set events how in
    events_of_nodes (HasParentsFor set events) new
    (all_settled set events taking (OfNodes (IsOwn set events taking)) (OfNodes (HasParentsFor set events)) (parents_of_one set events taking)
    (own_nodes set events taking h) new (done_parts how set events new h d).is)

-- ---- a deletion

module _ (set : List AnyId) (events : List PlainEvent) (tags : Lean) where
  abbrev how : Policy
  how = record { push = push.Discard; tags = tags }

  abbrev IsFound : PlainEvent → Type 0
  IsFound e = find_event (id_of e) events ≡ Some e

  abbrev On : PlainEvent → Type 0
  On e = IsOneOn (stand_for set events) events e

  -- what is on a commit that stays is on it afterwards
  same_target : (c t : ℕ) (gone : Bool) → cond gone None (Some c) ≡ Some t → c ≡ t
  same_target c t true h = absurd cc
  same_target c t false h = cc

  on_one : (e : PlainEvent) → IsFound e → AllByRecursion On (left_of set events (takes set events how) e)
  on_one (Commit id mark branch author committer encoding comment parents ops aliases) f =
      one_left On (is_removed set id) (Commit id mark branch author committer encoding comment (stand_for set events parents) ops aliases)
      (λ stays. (Commit id mark branch author committer encoding comment parents ops aliases, f, refl))
  on_one (Blob id mark bytes) f = ((Blob id mark bytes, f, refl), tt)
  on_one (Tag id name target tagger comment mark) f =
      one_moved On (is_listed (any.Tag id) set) (λ t. Tag id name t tagger comment mark) ((takes set events how).target target)
      (λ t is. (Tag id name target tagger comment mark, f, ap (λ t. Tag id name t tagger comment mark) (same_target target t (is_removed set target) is)))
  on_one (Reset id branch None) f = one_left On (is_listed (any.Reset id) set) (Reset id branch None) (λ stays. (Reset id branch None, f, refl))
  on_one (Reset id branch (Some target)) f =
      one_moved On (is_listed (any.Reset id) set) (λ t. Reset id branch (Some t)) ((takes set events how).target target)
      (λ t is. (Reset id branch (Some target), f, ap (λ t. Reset id branch (Some t)) (same_target target t (is_removed set target) is)))
  on_one (Pass id line) f = one_left On (is_listed (any.Pass id) set) (Pass id line) (λ stays. (Pass id line, f, refl))

pub deleted_on : (set : List AnyId) (events : List PlainEvent) (tags : Lean) (new : List PlainEvent) → IsSound events
    → squash_of (record { push = push.Discard; tags = tags }) set events ≡ Ok new → AllByRecursion (IsOneOn (stand_for set events) events) new
deleted_on set events tags new h d =
    all_settled set events (takes set events (how set events tags)) (IsFound set events tags) (On set events tags) (on_one set events tags)
    (each_found events (sound_once events h).ids) new (done_parts (how set events tags) set events new h d).is
