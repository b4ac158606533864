-- What is given of each event of a sound history.
use Rattle.std.proofs.Common.{◌≡◌, ℕ, true, List, [], ◌∷◌, ◌++◌, drop, map, take, subst, sym, Some, IsTrue}
use Rattle.std.specs.Prelude.{flat_map}
use Rattle.std.specs.List.{AllByRecursion, list_all}
use Rattle.std.proofs.lemmas.List.{take-append-drop}
use Rattle.plain_model.specs.declared.id.AnyId.TheVariants as any
use Rattle.plain_model.specs.declared.operation.FileOp.{FileOp}
use Rattle.plain_model.specs.declared.event.PlainEvent.{PlainEvent}
use Rattle.plain_model.specs.Histories.{Node, node_at, past, tree}
use Rattle.plain_model.specs.Lookups.{id_of, op_blobs}
use Rattle.plain_model.specs.Soundness.{IsFormedEvent, IsFormedOp, IsSound, has_id}
use Rattle.edit_laws.specs.Equations.{Fits}
use Rattle.edit_laws.specs.Parts.{HasFewParents, IsAbove, IsLawful, IsLawfulOp}
use Rattle.edit_laws.specs.Settling.{is_ready}
use Rattle.edit_laws.proofs.Fine.{IsFine, There}
use Rattle.edit_laws.proofs.Lists.{OfNodes, all_front, all_rear, all_true, nodes_of_events, own_here}
use Rattle.edit_laws.proofs.Settles.{sound_settles}
use Rattle.edit_laws.proofs.Sound.{in_parts}
use Rattle.edit_laws.proofs.Trees.{trees_fit}
use Rattle.commit_laws.proofs.Found.{all_found}

-- a commit of the history
abbrev pub IsHere : List PlainEvent → ℕ → Type 0
IsHere events c = has_id events (any.Commit c) ≡ true

-- the numbers of the commits
abbrev pub rank : (events : List PlainEvent) → IsSound events → ℕ → ℕ
rank events h = (sound_settles events h).numbered.0

pub record IsGiven (events : List PlainEvent) (number : ℕ → ℕ) (e : PlainEvent) : Type 0 where
  pub lawful : IsLawful e
  pub spelled : IsFormedEvent e
  pub few : HasFewParents e
  pub ready : is_ready events e ≡ true
  pub low : OfNodes (IsAbove number) e
  pub fits : OfNodes (Fits (tree events)) e
  pub found : OfNodes (λ (n : Node). node_at (past events) n.id ≡ Some n) e
  pub here : has_id events (id_of e) ≡ true

given_each : (events : List PlainEvent) (number : ℕ → ℕ) (es : List PlainEvent) → AllByRecursion IsLawful es → AllByRecursion IsFormedEvent es → AllByRecursion HasFewParents es → AllByRecursion (λ e. IsTrue (is_ready events e)) es → AllByRecursion (OfNodes (IsAbove number)) es → AllByRecursion (OfNodes (Fits (tree events))) es
    → AllByRecursion (OfNodes (λ (n : Node). node_at (past events) n.id ≡ Some n)) es → AllByRecursion (λ e. has_id events (id_of e) ≡ true) es → AllByRecursion (IsGiven events number) es
given_each events number [] l s w r a f n k = tt
given_each events number (e ∷ es) l s w r a f n k =
    (record { lawful = l.0; spelled = s.0; few = w.0; ready = r.0; low = a.0; fits = f.0; found = n.0; here = k.0 }, given_each events number es l.1 s.1 w.1 r.1 a.1 f.1 n.1 k.1)

pub all_given : (events : List PlainEvent) (h : IsSound events) → AllByRecursion (IsGiven events (rank events h)) events
all_given events h =
    let s = sound_settles events h in
    let parts = in_parts events h in
    given_each events (rank events h) events s.lawful s.spelled parts.few s.complete (nodes_of_events (IsAbove (rank events h)) events s.numbered.1)
    (nodes_of_events (Fits (tree events)) events (trees_fit events parts.once parts.in_order))
    (nodes_of_events (λ (n : Node). node_at (past events) n.id ≡ Some n) events (all_found events h))
    (own_here events)

-- ---- parts of a commit

pub parents_here : (xs : List PlainEvent) (parents : List ℕ) (ops : List FileOp) → list_all (has_id xs) (map any.Commit parents ++ flat_map op_blobs ops) ≡ true → AllByRecursion (IsHere xs) parents
parents_here xs parents ops r = go parents (all_front (There xs) (map any.Commit parents) (flat_map op_blobs ops) (all_true (has_id xs) (map any.Commit parents ++ flat_map op_blobs ops) r))
  where
    go : (ps : List ℕ) → AllByRecursion (There xs) (map any.Commit ps) → AllByRecursion (IsHere xs) ps
    go [] h = tt
    go (p ∷ ps) h = (h.0, go ps h.1)

pub here_parents : (xs : List PlainEvent) (ps : List ℕ) → AllByRecursion (IsHere xs) ps → AllByRecursion (There xs) (map any.Commit ps)
here_parents xs [] h = tt
here_parents xs (p ∷ ps) h = (h.0, here_parents xs ps h.1)

pub fine_ops : (xs : List PlainEvent) (parents : List ℕ) (ops : List FileOp) → AllByRecursion IsLawfulOp ops → AllByRecursion IsFormedOp ops → list_all (has_id xs) (map any.Commit parents ++ flat_map op_blobs ops) ≡ true → AllByRecursion (IsFine xs) ops
fine_ops xs parents ops l f r = go ops l f (all_rear (There xs) (map any.Commit parents) (flat_map op_blobs ops) (all_true (has_id xs) (map any.Commit parents ++ flat_map op_blobs ops) r))
  where
    go : (ops : List FileOp) → AllByRecursion IsLawfulOp ops → AllByRecursion IsFormedOp ops → AllByRecursion (There xs) (flat_map op_blobs ops) → AllByRecursion (IsFine xs) ops
    go [] l f h = tt
    go (op ∷ ops) l f h = (
      (l.0, f.0, all_front (There xs) (op_blobs op) (flat_map op_blobs ops) h),
      go ops l.1 f.1 (all_rear (There xs) (op_blobs op) (flat_map op_blobs ops) h),
    )

-- ---- parts of lists

pub all_take : {X : Type 0} (P : X → Type 0) (n : ℕ) (xs : List X) → AllByRecursion P xs → AllByRecursion P (take n xs)
all_take P n xs a = all_front P (take n xs) (drop n xs) (subst (AllByRecursion P) (sym (take-append-drop n xs)) a)

pub all_drop : {X : Type 0} (P : X → Type 0) (n : ℕ) (xs : List X) → AllByRecursion P xs → AllByRecursion P (drop n xs)
all_drop P n xs a = all_rear P (take n xs) (drop n xs) (subst (AllByRecursion P) (sym (take-append-drop n xs)) a)
