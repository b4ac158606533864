-- What settling makes of what an edit leaves.
use Rattle.std.proofs.Common.{◌≡◌, ℕ, true, not, Option, List, [], ◌∷◌, ◌++◌, sym, ap, subst, ◌∙◌, arith, append_assoc, Ok, IsTrue}
use Rattle.std.specs.Prelude.{◌||◌, IsSome}
use Rattle.std.specs.List.{AllByRecursion}
use Rattle.plain_model.specs.declared.id.AnyId.{AnyId}
use Rattle.plain_model.specs.declared.event.PlainEvent.{PlainEvent}
use Rattle.plain_model.specs.Histories.{Node, nodes, tree}
use Rattle.plain_model.specs.Lookups.{referents_of}
use Rattle.plain_model.specs.Soundness.{IsCommitOf, IsFormedEvent, IsSound, has_id}
use Rattle.plain_model.specs.Trees.{Tree}
use Rattle.plain_model.specs.declared.event.PlainEvent.TheVariants.{Blob, Commit, Pass, Reset, Tag}
use Rattle.edit_laws.specs.Equations.{Fits}
use Rattle.edit_laws.specs.Parts.{AreInOrder, AreOnce, CanBeSettled, HasFewParents, IsAbove, IsLawful, of_id, of_mark, tally}
use Rattle.edit_laws.specs.Settling.{is_ready, settle}
use Rattle.edit_laws.specs.Sweeping.{is_left_over, swept}
use Rattle.edit_laws.proofs.Lists.{all_filter, all_true, true_all, nodes_of_events, events_of_nodes, OfNodes, tally_filter}
use Rattle.history_laws.proofs.Ids.{has_id_append}
use Rattle.history_laws.proofs.Lists.{all_imply}
use Rattle.edit_laws.proofs.Fine.{IsFine, fine, ready_ops}
use Rattle.edit_laws.proofs.Numbered.{sound_numbered}
use Rattle.edit_laws.proofs.Settled.{Settles, in_order_stays, settle_ends, settled}
use Rattle.edit_laws.proofs.Sound.{from_parts, in_parts}
use Rattle.edit_laws.proofs.Swept.{swept_complete, swept_nodes}
use Rattle.edit_laws.proofs.Trees.{trees_solve}

-- ---- a sound history

-- what is ready after some events is ready after more
pub more_ready : (xs ys : List PlainEvent) (e : PlainEvent) → is_ready xs e ≡ true → is_ready (xs ++ ys) e ≡ true
more_ready xs ys e h = true_all (has_id (xs ++ ys)) (referents_of e)
    (all_imply (λ r. has_id xs r ≡ true) (λ r. has_id (xs ++ ys) r ≡ true) (λ r k. has_id_append xs ys r ∙ ap (λ b. b || has_id ys r) k) (referents_of e) (all_true (has_id xs) (referents_of e) h))

-- in order, all that events refer to is there
pub complete : (earlier events : List PlainEvent) → AreInOrder earlier events →
    AllByRecursion (λ e. IsTrue (is_ready (earlier ++ events) e)) events
complete earlier [] s = tt
complete earlier (e ∷ es) s = (
  more_ready earlier (e ∷ es) e s.0,
  subst (λ (l : List PlainEvent). AllByRecursion (λ e. IsTrue (is_ready l e)) es) (append_assoc earlier (e ∷ []) es) (complete (earlier ++ e ∷ []) es s.1),
)

pub sound_settles : (events : List PlainEvent) → IsSound events → CanBeSettled events
sound_settles events h =
    let parts = in_parts events h in
    record { lawful = parts.lawful; spelled = parts.spelled; once = parts.once; complete = complete [] events parts.in_order; numbered = sound_numbered events h }

pub sound_stays : (events : List PlainEvent) → IsSound events → settle events ≡ Ok events
sound_stays events h = in_order_stays events (in_parts events h).in_order

-- ---- sweeping

pub swept_settles : (old new : List PlainEvent) → CanBeSettled new → CanBeSettled (swept old new)
swept_settles old new h = record {
  lawful = all_filter IsLawful (λ e. not (is_left_over old new e)) new h.lawful;
  spelled = all_filter IsFormedEvent (λ e. not (is_left_over old new e)) new h.spelled;
  once = record {
    ids = λ id. let one = h.once.ids id in let fewer = tally_filter (of_id id) (λ e. not (is_left_over old new e)) new in omega arith;
    marks = λ m. let one = h.once.marks m in let fewer = tally_filter (of_mark m) (λ e. not (is_left_over old new e)) new in omega arith;
  };
  complete = swept_complete old new h.complete;
  numbered = (h.numbered.0, subst (AllByRecursion (IsAbove h.numbered.0)) (sym (swept_nodes old new)) h.numbered.1);
}

-- ---- settling

pub settling_ends : (events : List PlainEvent) → CanBeSettled events →
    (new : List PlainEvent) × (settle events ≡ Ok new)
settling_ends events h = settle_ends events h.complete h.numbered

pub settled_once : (events new : List PlainEvent) → AreOnce events → Settles (λ e. Unit {0}) [] events new → AreOnce new
settled_once events new o s = record {
  ids = λ id. let one = o.ids id in let same = s.sums (of_id id) in omega arith;
  marks = λ m. let one = o.marks m in let same = s.sums (of_mark m) in omega arith;
}

pub any_event : (es : List PlainEvent) → AllByRecursion (λ e. Unit {0}) es
any_event [] = tt
any_event (e ∷ es) = (tt, any_event es)

pub settled_sound : (events new : List PlainEvent) → CanBeSettled events → settle events ≡ Ok new →
    AllByRecursion HasFewParents new → ((c : ℕ) → IsCommitOf new c → IsSome (tree new c)) → IsSound new
settled_sound events new h is few trees =
    let s = settled IsLawful events new h.lawful is in
    from_parts new (record {
      lawful = s.all;
      spelled = (settled IsFormedEvent events new h.spelled is).all;
      few = few;
      once = settled_once events new h.once (settled (λ e. Unit {0}) events new (any_event events) is);
      in_order = s.in_order;
      trees = trees;
    })

pub settled_all : (P : PlainEvent → Type 0) (events new : List PlainEvent) → AllByRecursion P events →
    settle events ≡ Ok new → AllByRecursion P new
settled_all P events new a is = (settled P events new a is).all

pub settled_ids : (events new : List PlainEvent) → settle events ≡ Ok new → (id : AnyId) →
    has_id new id ≡ has_id events id
settled_ids events new is id = (settled (λ e. Unit {0}) events new (any_event events) is).ids id

pub settled_sums : (events new : List PlainEvent) → settle events ≡ Ok new → (f : PlainEvent → ℕ) →
    tally f new ≡ tally f events
settled_sums events new is f = let same = (settled (λ e. Unit {0}) events new (any_event events) is).sums f in omega arith

pub settled_in_order : (events new : List PlainEvent) → settle events ≡ Ok new → AreInOrder [] new
settled_in_order events new is = (settled (λ e. Unit {0}) events new (any_event events) is).in_order

-- what fits the commits before gives their trees after
pub settled_trees : (tree_of : ℕ → Option Tree) (events new : List PlainEvent) →
    AllByRecursion (Fits tree_of) (nodes events) → settle events ≡ Ok new → (c : ℕ) → IsCommitOf new c →
    tree new c ≡ tree_of c
settled_trees tree_of events new k is c there =
    let s = settled (OfNodes (Fits tree_of)) events new (nodes_of_events (Fits tree_of) events k) is in
    trees_solve tree_of new s.in_order (events_of_nodes (Fits tree_of) new s.all) c there

-- the operations of a sound history are lawful, and their blobs are there
pub fine_nodes : (events : List PlainEvent) → IsSound events → AllByRecursion (λ (n : Node). AllByRecursion (IsFine events) n.ops) (nodes events)
fine_nodes events h = let s = sound_settles events h in events_of_nodes (λ (n : Node). AllByRecursion (IsFine events) n.ops) events (each events s.lawful s.spelled s.complete)
  where
    each : (es : List PlainEvent) → AllByRecursion IsLawful es → AllByRecursion IsFormedEvent es →
        AllByRecursion (λ e. IsTrue (is_ready events e)) es →
        AllByRecursion (OfNodes (λ (n : Node). AllByRecursion (IsFine events) n.ops)) es
    each [] l f r = tt
    each (Commit id mark branch author committer encoding comment parents ops aliases ∷ es) l f r =
        ((fine events ops l.0.5 f.0.1 (ready_ops events parents ops r.0), tt), each es l.1 f.1 r.1)
    each (Blob id mark bytes ∷ es) l f r = (tt, each es l.1 f.1 r.1)
    each (Tag id name target tagger comment mark ∷ es) l f r = (tt, each es l.1 f.1 r.1)
    each (Reset id branch target ∷ es) l f r = (tt, each es l.1 f.1 r.1)
    each (Pass id line ∷ es) l f r = (tt, each es l.1 f.1 r.1)
