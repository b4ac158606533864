-- The trees of a history are the one solution of an equation for each commit. So the order of the events doesn't count.
use Rattle.std.proofs.Common.{◌≡◌, ℕ, true, false, List, [], ◌∷◌, ◌++◌, map, refl, sym, ap, subst, ◌∙◌, inl, inr, eqb-true, eq-eqb, true≢false, Option, IsTrue, append-nil, append_assoc, Bool, cond, Some}
use Rattle.std.specs.Prelude.{◌||◌, ◌==◌, flat_map}
use Rattle.std.specs.List.{AllByRecursion}
use Rattle.std.proofs.lemmas.Bool.{cases_Bool, or_right, cond-true, cond-false}
use Rattle.std.proofs.lemmas.List.{reverse-reverse}
use Rattle.plain_model.specs.declared.id.AnyId.TheVariants as any
use Rattle.plain_model.specs.declared.event.PlainEvent.{PlainEvent}
use Rattle.plain_model.specs.declared.event.PlainEvent.TheVariants.{Blob, Commit, Tag, Reset, Pass}
use Rattle.plain_model.specs.Histories.{Node, Past, folded, begun, tree_in, tree, past, nodes, knows, IsLinkedPast, node_at}
use Rattle.plain_model.specs.Lookups.{id_of, op_blobs}
use Rattle.plain_model.specs.Trees.{Tree}
use Rattle.plain_model.specs.Soundness.{IsCommitOf, has_id}
use Rattle.history_laws.proofs.LineLaws.{FirstKnown, first_known, known_before}
use Rattle.history_laws.proofs.Lists.{all_reverse}
use Rattle.edit_laws.specs.Equations.{Fits}
use Rattle.edit_laws.specs.Parts.{AreInOrder, AreOnce}
use Rattle.edit_laws.specs.Settling.{is_ready}
use Rattle.edit_laws.proofs.Lists.{all_front, all_true, has_own_id}
use Rattle.ancestry_laws.proofs.Pasts.{known_past, past_append}
use Rattle.edit_laws.proofs.Sound.{new_there}

-- ---- what is known

pub known_later : (n : Node) (older : Past) (p : ℕ) → knows older p ≡ true → knows (n ∷ older) p ≡ true
known_later n older p h = or_right (n.id == p) (knows older p) h

-- a known id is not a fresh one
pub not_fresh : (n : Node) (older : Past) (p : ℕ) → knows older n.id ≡ false → knows older p ≡ true →
    (n.id == p) ≡ false
not_fresh n older p fresh h =
    elim (cases_Bool (n.id == p)) [
      | inl same ↦ absurd (true≢false (sym h ∙ ap (knows older) (sym (eqb-true n.id p same)) ∙ fresh))
      | inr other ↦ other
    ]

pub tree_here : (n : Node) (older : Past) (c : ℕ) → (n.id == c) ≡ true →
    tree_in (n ∷ older) c ≡ folded n.ops (begun (tree_in older) n.parents)
tree_here n older c same = cond-true (n.id == c) (folded n.ops (begun (tree_in older) n.parents)) (tree_in older c) same

pub tree_other : (n : Node) (older : Past) (c : ℕ) → (n.id == c) ≡ false → tree_in (n ∷ older) c ≡ tree_in older c
tree_other n older c other =
    cond-false (n.id == c) (folded n.ops (begun (tree_in older) n.parents)) (tree_in older c) other

pub begun_alike : (f g : ℕ → Option Tree) (ps : List ℕ) (older : Past) → FirstKnown older ps →
    ((p : ℕ) → knows older p ≡ true → f p ≡ g p) → begun f ps ≡ begun g ps
begun_alike f g [] older k same = refl
begun_alike f g (p ∷ ps) older k same = same p k

-- ---- a past with parents first

abbrev pub IsParentsFirst : Past → Type 0
IsParentsFirst [] = Unit {0}
IsParentsFirst (n ∷ older) = AllByRecursion (λ p. IsTrue (knows older p)) n.parents × IsParentsFirst older

-- what fits the commits of a past are its trees
pub solved : (tree_of : ℕ → Option Tree) (b : Past) → IsParentsFirst b → AllByRecursion (Fits tree_of) b → (c : ℕ) →
    knows b c ≡ true → tree_in b c ≡ tree_of c
solved tree_of [] s k c h = absurd (true≢false (sym h))
solved tree_of (n ∷ older) s k c h =
    elim (cases_Bool (n.id == c)) [
      | inr other ↦ tree_other n older c other ∙ solved tree_of older s.1 k.1 c (known_before n older c other h)
      | inl same ↦
          tree_here n older c same
          ∙ ap (folded n.ops) (begun_alike (tree_in older) tree_of n.parents older (first_known older n.parents s.0) (λ p x. solved tree_of older s.1 k.1 p x))
          ∙ sym k.0
          ∙ ap tree_of (eqb-true n.id c same)
    ]

-- the trees of a past fit its commits
pub fit : (a : Past) → IsLinkedPast a → AllByRecursion (Fits (tree_in a)) a
fit [] s = tt
fit (n ∷ older) s =
    let further : (p : ℕ) → knows older p ≡ true → tree_in older p ≡ tree_in (n ∷ older) p = λ p k. sym (tree_other n older p (not_fresh n older p s.0 k)) in (
      tree_here n older n.id (eq-eqb n.id n.id refl)
          ∙ ap (folded n.ops) (begun_alike (tree_in older) (tree_in (n ∷ older)) n.parents older (first_known older n.parents s.1) further),
      each older (fit older s.2) s.2 further,
    )
  where
    each : (ms : Past) → AllByRecursion (Fits (tree_in older)) ms → IsLinkedPast ms →
        ((p : ℕ) → knows ms p ≡ true → tree_in older p ≡ tree_in (n ∷ older) p) →
        AllByRecursion (Fits (tree_in (n ∷ older))) ms
    each [] k t further = tt
    each (m ∷ ms) k t further = (
      sym (further m.id (ap (λ b. b || knows ms m.id) (eq-eqb m.id m.id refl)))
          ∙ k.0
          ∙ ap (folded m.ops) (begun_alike (tree_in older) (tree_in (n ∷ older)) m.parents ms (first_known ms m.parents t.1) (λ p x. further p (known_later m ms p x))),
      each ms k.1 t.2 (λ p x. further p (known_later m ms p x)),
    )

-- ---- lists of events

parents_known : (earlier : List PlainEvent) (ps : List ℕ) →
    AllByRecursion (λ r. has_id earlier r ≡ true) (map any.Commit ps) →
    AllByRecursion (λ p. IsTrue (knows (past earlier) p)) ps
parents_known earlier [] h = tt
parents_known earlier (p ∷ ps) h = (known_past earlier p ∙ h.0, parents_known earlier ps h.1)

first_more : (earlier : List PlainEvent) (e : PlainEvent) → is_ready earlier e ≡ true → IsParentsFirst (past earlier) →
    IsParentsFirst (past (earlier ++ e ∷ []))
first_more earlier (Commit id mark branch author committer encoding comment parents ops aliases) r s =
    subst IsParentsFirst (sym (past_append earlier ((Commit id mark branch author committer encoding comment parents ops aliases) ∷ []))) (
      parents_known earlier parents (all_front (λ r. has_id earlier r ≡ true) (map any.Commit parents) (flat_map op_blobs ops) (all_true (has_id earlier) (map any.Commit parents ++ flat_map op_blobs ops) r)),
      s,
    )
first_more earlier (Blob id mark bytes) r s =
    subst IsParentsFirst (sym (past_append earlier ((Blob id mark bytes) ∷ []))) s
first_more earlier (Tag id name target tagger comment mark) r s =
    subst IsParentsFirst (sym (past_append earlier ((Tag id name target tagger comment mark) ∷ []))) s
first_more earlier (Reset id branch target) r s =
    subst IsParentsFirst (sym (past_append earlier ((Reset id branch target) ∷ []))) s
first_more earlier (Pass id line) r s = subst IsParentsFirst (sym (past_append earlier ((Pass id line) ∷ []))) s

pub first_in_order : (earlier events : List PlainEvent) → AreInOrder earlier events → IsParentsFirst (past earlier) →
    IsParentsFirst (past (earlier ++ events))
first_in_order earlier [] s k = subst (λ (l : List PlainEvent). IsParentsFirst (past l)) (sym (append-nil earlier)) k
first_in_order earlier (e ∷ es) s k =
    subst (λ (l : List PlainEvent). IsParentsFirst (past l)) (append_assoc earlier (e ∷ []) es)
    (first_in_order (earlier ++ e ∷ []) es s.1 (first_more earlier e s.0 k))

linked_more : (earlier : List PlainEvent) (e : PlainEvent) → has_id earlier (id_of e) ≡ false →
    IsParentsFirst (past (earlier ++ e ∷ [])) → IsLinkedPast (past earlier) → IsLinkedPast (past (earlier ++ e ∷ []))
linked_more earlier (Commit id mark branch author committer encoding comment parents ops aliases) new s k =
    let more = past_append earlier ((Commit id mark branch author committer encoding comment parents ops aliases) ∷ []) in
    let first = subst IsParentsFirst more s in
    subst IsLinkedPast (sym more) (known_past earlier id ∙ new, first.0, k)
linked_more earlier (Blob id mark bytes) new s k =
    subst IsLinkedPast (sym (past_append earlier ((Blob id mark bytes) ∷ []))) k
linked_more earlier (Tag id name target tagger comment mark) new s k =
    subst IsLinkedPast (sym (past_append earlier ((Tag id name target tagger comment mark) ∷ []))) k
linked_more earlier (Reset id branch target) new s k =
    subst IsLinkedPast (sym (past_append earlier ((Reset id branch target) ∷ []))) k
linked_more earlier (Pass id line) new s k = subst IsLinkedPast (sym (past_append earlier ((Pass id line) ∷ []))) k

linked_once : (earlier events : List PlainEvent) → AreOnce (earlier ++ events) → AreInOrder earlier events →
    IsParentsFirst (past earlier) → IsLinkedPast (past earlier) → IsLinkedPast (past (earlier ++ events))
linked_once earlier [] o s k l = subst (λ (l : List PlainEvent). IsLinkedPast (past l)) (sym (append-nil earlier)) l
linked_once earlier (e ∷ es) o s k l =
    let first = first_more earlier e s.0 k in
    let new = new_there (id_of e) earlier e es (o.ids (id_of e)) (has_own_id e) in
    subst (λ (l : List PlainEvent). IsLinkedPast (past l)) (append_assoc earlier (e ∷ []) es)
    (linked_once (earlier ++ e ∷ []) es (subst AreOnce (sym (append_assoc earlier (e ∷ []) es)) o) s.1 first (linked_more earlier e new first l))

-- where ids occur once and each event is after what it refers to, the past is linked
pub linked_in_order : (events : List PlainEvent) → AreOnce events → AreInOrder [] events → IsLinkedPast (past events)
linked_in_order events o s = linked_once [] events o s tt tt

-- ---- trees of lists

pub trees_solve : (tree_of : ℕ → Option Tree) (events : List PlainEvent) → AreInOrder [] events →
    AllByRecursion (Fits tree_of) (nodes events) → (c : ℕ) → IsCommitOf events c → tree events c ≡ tree_of c
trees_solve tree_of events s k c h =
    solved tree_of (past events) (first_in_order [] events s tt) (all_reverse (Fits tree_of) (nodes events) k) c (known_past events c ∙ h)

pub trees_fit : (events : List PlainEvent) → AreOnce events → AreInOrder [] events →
    AllByRecursion (Fits (tree events)) (nodes events)
trees_fit events o s =
    subst (AllByRecursion (Fits (tree events))) (reverse-reverse (nodes events))
    (all_reverse (Fits (tree events)) (past events) (fit (past events) (linked_in_order events o s)))

pub nodes_found : (a : Past) → IsLinkedPast a → AllByRecursion (λ (n : Node). node_at a n.id ≡ Some n) a
nodes_found [] s = tt
nodes_found (n ∷ older) s = (
  cond-true (n.id == n.id) (Some n) (node_at older n.id) (eq-eqb n.id n.id refl),
  go older (nodes_found older s.2),
)
  where
    known : (ms : Past) (m : Node) (c : ℕ) → node_at ms c ≡ Some m → knows ms c ≡ true
    known [] m c h = absurd cc
    known (k ∷ ms) m c h = pick (k.id == c) refl h (λ x. known ms m c x)
      where
        pick : (b : Bool) → (k.id == c) ≡ b → cond b (Some k) (node_at ms c) ≡ Some m → (node_at ms c ≡ Some m → knows ms c ≡ true) → knows (k ∷ ms) c ≡ true
        pick true x y f = ap (λ t. t || knows ms c) x
        pick false x y f = ap (λ t. t || knows ms c) x ∙ f y

    go : (ms : Past) → AllByRecursion (λ (m : Node). node_at older m.id ≡ Some m) ms → AllByRecursion (λ (m : Node). node_at (n ∷ older) m.id ≡ Some m) ms
    go [] k = tt
    go (m ∷ ms) k = (cond-false (n.id == m.id) (Some n) (node_at older m.id) (not_fresh n older m.id s.0 (known older m m.id k.0)) ∙ k.0, go ms k.1)
