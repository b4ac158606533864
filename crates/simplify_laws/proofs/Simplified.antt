-- Simplifying keeps trees and soundness, where it isn't refused; and it is refused for the number of paths alone.
use Rattle.std.proofs.Common.{◌≡◌, ℕ, ◌+◌, Bool, true, false, cond, not, List, [], ◌∷◌, ◌++◌, map, reverse, refl, sym, ap, subst, ◌∙◌, inl, inr, arith, eq-eqb, true≢false, Option, Some, None, option_map, Result, Ok, Err}
use Rattle.std.specs.Prelude.{◌||◌, ◌==◌, flat_map, IsSome, if◌then◌else◌, option_and_then}
use Rattle.std.specs.List.{AllByRecursion}
use Rattle.std.specs.Option.{option_or}
use Rattle.std.proofs.lemmas.Bool.{cases_Bool, or_left}
use Rattle.std.proofs.lemmas.List.{map-append, reverse-append, reverse-reverse}
use Rattle.plain_model.specs.declared.fault.Fault.{Fault}
use Rattle.plain_model.specs.declared.fault.Fault.TheVariants as fault
use Rattle.plain_model.specs.declared.fault.Which.TheVariants as limit
use Rattle.plain_model.specs.declared.id.AnyId.{AnyId}
use Rattle.plain_model.specs.declared.id.AnyId.TheVariants as any
use Rattle.plain_model.specs.declared.limit.TheConstants.{MAX_PATHS}
use Rattle.plain_model.specs.declared.operation.FileOp.{FileOp}
use Rattle.plain_model.specs.declared.event.PlainEvent.{PlainEvent}
use Rattle.plain_model.specs.declared.event.PlainEvent.TheVariants.{Blob, Commit, Tag, Reset, Pass}
use Rattle.plain_model.specs.Histories.{IsLinkedPast, Node, Past, begun, folded, if_ok, knows, nodes, past, tree, tree_in}
use Rattle.plain_model.specs.Lookups.{id_of, is_listed, op_blobs, referents_of, same_id}
use Rattle.plain_model.specs.Soundness.{IsCommitOf, IsFormedEvent, IsFormedOp, IsSound, has_id}
use Rattle.plain_model.specs.Trees.{Refusal, Tree, apply_all}
use Rattle.history_laws.proofs.Ids.{has_id_append}
use Rattle.history_laws.proofs.Lists.{all_imply, all_join, all_reverse}
use Rattle.history_laws.proofs.TreeMaps.{IsOrdered}
use Rattle.ancestry_laws.proofs.Pasts.{known_past, linked_past}
use Rattle.edit_laws.specs.Checking.{event_fault, fault_of, first_fault, first_refused, tree_check, unless}
use Rattle.edit_laws.specs.Equations.{Fits}
use Rattle.edit_laws.specs.Parts.{AreInOrder, AreOnce, HasFewParents, IsLawful, IsLawfulOp, of_id, of_mark, one_if, tally}
use Rattle.edit_laws.specs.Settling.{is_ready}
use Rattle.edit_laws.specs.Sweeping.{is_left_over}
use Rattle.edit_laws.proofs.Checked.{checked}
use Rattle.edit_laws.proofs.Fine.{There, joined_blobs, parted_blobs}
use Rattle.edit_laws.proofs.Lists.{OfNodes, all_filter, all_front, all_rear, all_true, nodes_of_events, own_id, tally_filter, true_all}
use Rattle.edit_laws.proofs.Sound.{from_parts, in_parts}
use Rattle.edit_laws.proofs.Swept.{swept_commit, swept_in_order, swept_nodes}
use Rattle.edit_laws.proofs.Trees.{known_later, not_fresh, tree_here, tree_other, trees_fit}
use Rattle.simplify_laws.specs.Simplify.{is_void, ops_left, simpler, simplified, simplified_event, simplify_of}
use Rattle.simplify_laws.proofs.Voided.{apply_all_free, first_paths, free_all, order_all, simpler_same, simpler_tree}

-- ---- operations that are left

simpler_all : (P : FileOp → Type 0) (ops : List FileOp) → AllByRecursion P ops → AllByRecursion P (simpler ops)
simpler_all P [] a = tt
simpler_all P (op ∷ ops) a =
    let rest = simpler_all P ops a.1 in
    elim (is_void op ops) as (λ b. AllByRecursion P (if b then simpler ops else op ∷ simpler ops)) [ true ↦ rest | false ↦ (a.0, rest) ]

pub either_all : (P : FileOp → Type 0) (b : Bool) (ops : List FileOp) → AllByRecursion P ops → AllByRecursion P (ops_left b ops)
either_all P true ops a = simpler_all P ops a
either_all P false ops a = a

module _ (set : List AnyId) where
  abbrev pub simple : PlainEvent → PlainEvent
  simple e = simplified_event set e

  -- ---- each event

  pub same_id_of : (e : PlainEvent) → id_of (simple e) ≡ id_of e
  same_id_of (Commit id mark branch author committer encoding comment parents ops aliases) = refl
  same_id_of (Blob id mark bytes) = refl
  same_id_of (Tag id name target tagger comment mark) = refl
  same_id_of (Reset id branch target) = refl
  same_id_of (Pass id line) = refl

  pub one_same : (e : PlainEvent) (id : AnyId) → has_id (simple e ∷ []) id ≡ has_id (e ∷ []) id
  one_same e id = own_id (simple e) id ∙ ap (same_id id) (same_id_of e) ∙ sym (own_id e id)

  pub ids_same : (es : List PlainEvent) (id : AnyId) → has_id (map simple es) id ≡ has_id es id
  ids_same [] id = refl
  ids_same (e ∷ es) id =
      has_id_append (simple e ∷ []) (map simple es) id
      ∙ (λ i. one_same e id i || ids_same es id i)
      ∙ sym (has_id_append (e ∷ []) es id)

  lawful : (e : PlainEvent) → IsLawful e → IsLawful (simple e)
  lawful (Commit id mark branch author committer encoding comment parents ops aliases) l = (l.0, l.1, l.2, l.3, l.4, either_all IsLawfulOp (is_listed (any.Commit id) set) ops l.5, l.6)
  lawful (Blob id mark bytes) l = l
  lawful (Tag id name target tagger comment mark) l = l
  lawful (Reset id branch target) l = l
  lawful (Pass id line) l = l

  spelled : (e : PlainEvent) → IsFormedEvent e → IsFormedEvent (simple e)
  spelled (Commit id mark branch author committer encoding comment parents ops aliases) f = (f.0, either_all IsFormedOp (is_listed (any.Commit id) set) ops f.1, f.2)
  spelled (Blob id mark bytes) f = f
  spelled (Tag id name target tagger comment mark) f = f
  spelled (Reset id branch target) f = f
  spelled (Pass id line) f = f

  pub few : (e : PlainEvent) → HasFewParents e → HasFewParents (simple e)
  few (Commit id mark branch author committer encoding comment parents ops aliases) f = f
  few (Blob id mark bytes) f = f
  few (Tag id name target tagger comment mark) f = f
  few (Reset id branch target) f = f
  few (Pass id line) f = f

  ready : (earlier : List PlainEvent) (e : PlainEvent) → is_ready earlier e ≡ true → is_ready earlier (simple e) ≡ true
  ready earlier (Commit id mark branch author committer encoding comment parents ops aliases) r =
      let refs = all_true (has_id earlier) (map any.Commit parents ++ flat_map op_blobs ops) r in
      let new = ops_left (is_listed (any.Commit id) set) ops in
      true_all (has_id earlier) (map any.Commit parents ++ flat_map op_blobs new)
      (all_join (There earlier) (map any.Commit parents) (flat_map op_blobs new)
      (all_front (There earlier) (map any.Commit parents) (flat_map op_blobs ops) refs)
      (joined_blobs earlier new (either_all (λ op. AllByRecursion (There earlier) (op_blobs op)) (is_listed (any.Commit id) set) ops
      (parted_blobs earlier ops (all_rear (There earlier) (map any.Commit parents) (flat_map op_blobs ops) refs)))))
  ready earlier (Blob id mark bytes) r = r
  ready earlier (Tag id name target tagger comment mark) r = r
  ready earlier (Reset id branch target) r = r
  ready earlier (Pass id line) r = r

  pub all_simple : (P Q : PlainEvent → Type 0) → ((e : PlainEvent) → P e → Q (simple e)) → (es : List PlainEvent) → AllByRecursion P es → AllByRecursion Q (map simple es)
  all_simple P Q f [] a = tt
  all_simple P Q f (e ∷ es) a = (f e a.0, all_simple P Q f es a.1)

  pub sums_same : (f : PlainEvent → ℕ) → ((e : PlainEvent) → f (simple e) ≡ f e) → (es : List PlainEvent) → tally f (map simple es) ≡ tally f es
  sums_same f same [] = refl
  sums_same f same (e ∷ es) = λ i. same e i + sums_same f same es i

  pub mark_same : (m : ℕ) (e : PlainEvent) → of_mark m (simple e) ≡ of_mark m e
  mark_same m (Commit id mark branch author committer encoding comment parents ops aliases) = refl
  mark_same m (Blob id mark bytes) = refl
  mark_same m (Tag id name target tagger comment mark) = refl
  mark_same m (Reset id branch target) = refl
  mark_same m (Pass id line) = refl

  in_order : (xs es : List PlainEvent) → AreInOrder xs es → AreInOrder (map simple xs) (map simple es)
  in_order xs [] s = tt
  in_order xs (e ∷ es) s = (
    true_all (has_id (map simple xs)) (referents_of (simple e))
        (all_imply (There xs) (There (map simple xs)) (λ r h. ids_same xs r ∙ h) (referents_of (simple e)) (all_true (has_id xs) (referents_of (simple e)) (ready xs e s.0))),
    subst (λ (l : List PlainEvent). AreInOrder l (map simple es)) (map-append simple xs (e ∷ [])) (in_order (xs ++ e ∷ []) es s.1),
  )

  -- ---- trees

  abbrev pub simple_node : Node → Node
  simple_node n = record { id = n.id; parents = n.parents; ops = ops_left (is_listed (any.Commit n.id) set) n.ops }

  pub nodes_simple : (es : List PlainEvent) → nodes (map simple es) ≡ map simple_node (nodes es)
  nodes_simple [] = refl
  nodes_simple (Commit id mark branch author committer encoding comment parents ops aliases ∷ es) = ap (λ (l : List Node). simple_node (record { id = id; parents = parents; ops = ops }) ∷ l) (nodes_simple es)
  nodes_simple (Blob id mark bytes ∷ es) = nodes_simple es
  nodes_simple (Tag id name target tagger comment mark ∷ es) = nodes_simple es
  nodes_simple (Reset id branch target ∷ es) = nodes_simple es
  nodes_simple (Pass id line ∷ es) = nodes_simple es

  map_reverse : (ns : List Node) → reverse (map simple_node ns) ≡ map simple_node (reverse ns)
  map_reverse [] = refl
  map_reverse (n ∷ ns) =
      reverse-append (simple_node n ∷ []) (map simple_node ns)
      ∙ ap (λ (l : List Node). l ++ simple_node n ∷ []) (map_reverse ns)
      ∙ sym (map-append simple_node (reverse ns) (n ∷ []))
      ∙ ap (map simple_node) (sym (reverse-append (n ∷ []) ns))

  -- a tree, if there is one, is in order
  abbrev pub IfOrdered : Option Tree → Type 0
  IfOrdered None = Unit {0}
  IfOrdered (Some t) = IsOrdered t

  folded_ordered : (ops : List FileOp) (o : Option Tree) → IfOrdered o → IfOrdered (folded ops o)
  folded_ordered ops None h = tt
  folded_ordered ops (Some t) h = go (apply_all ops t) refl
    where
      go : (r : Result Tree Refusal) → apply_all ops t ≡ r → IfOrdered (if_ok r)
      go (Ok u) e = order_all ops t u h e
      go (Err why) e = tt

  ordered : (a : Past) (c : ℕ) → IfOrdered (tree_in a c)
  ordered [] c = tt
  ordered (n ∷ older) c =
      elim (n.id == c) as (λ b. IfOrdered (cond b (folded n.ops (begun (tree_in older) n.parents)) (tree_in older c))) [
        | true ↦ folded_ordered n.ops (begun (tree_in older) n.parents) (starts n.parents (λ p. ordered older p))
        | false ↦ ordered older c
      ]
    where
      starts : (ps : List ℕ) → ((p : ℕ) → IfOrdered (tree_in older p)) → IfOrdered (begun (tree_in older) ps)
      starts [] f = tt
      starts (p ∷ ps) f = f p

  pub begun_ordered : (a : Past) (ps : List ℕ) → IfOrdered (begun (tree_in a) ps)
  begun_ordered a [] = tt
  begun_ordered a (p ∷ ps) = ordered a p

  -- the operations that are left, from a tree that is the old one where there is one
  pub carried : (b : Bool) (ops : List FileOp) (o new : Option Tree) → IfOrdered o → ((t : Tree) → new ≡ Some t → o ≡ Some t) →
      IsSome (folded ops o) → (u : Tree) → folded (ops_left b ops) new ≡ Some u → folded ops o ≡ Some u
  carried b ops o None h same x u is = absurd cc
  carried false ops o (Some t) h same x u is = ap (folded ops) (same t refl) ∙ is
  carried true ops o (Some t) h same x u is =
      ap (folded ops) (same t refl)
      ∙ go (apply_all ops t) refl (apply_all (simpler ops) t) refl (subst (λ (y : Option Tree). IsSome (folded ops y)) (same t refl) x) is
    where
      go : (r : Result Tree Refusal) → apply_all ops t ≡ r → (q : Result Tree Refusal) → apply_all (simpler ops) t ≡ q →
          IsSome (if_ok r) → if_ok q ≡ Some u → if_ok r ≡ Some u
      go (Err why) a q b x is = absurd (true≢false (sym x))
      go (Ok v) a (Err why) b x is = absurd cc
      go (Ok v) a (Ok w) b x is =
          let same_one : w ≡ u = cc in
          ap Some (sym (simpler_tree ops t w v (subst IfOrdered (same t refl) h) a b) ∙ same_one)

  -- a tree, if there is one, is the old one
  old_or_none : (a : Past) → IsLinkedPast a → ((c : ℕ) → knows a c ≡ true → IsSome (tree_in a c)) → (c : ℕ) (u : Tree) →
      tree_in (map simple_node a) c ≡ Some u → tree_in a c ≡ Some u
  old_or_none [] s old c u h = absurd cc
  old_or_none (n ∷ older) s old c u h =
      let rest = old_or_none older s.2 (λ d x. subst IsSome (tree_other n older d (not_fresh n older d s.0 x)) (old d (known_later n older d x))) in
      elim (cases_Bool (n.id == c)) [
        | inl same ↦
            let was = tree_here n older c same in
            let is = tree_here (simple_node n) (map simple_node older) c same in
            was
            ∙ carried (is_listed (any.Commit n.id) set) n.ops (begun (tree_in older) n.parents) (begun (tree_in (map simple_node older)) n.parents)
            (begun_ordered older n.parents) (starts n.parents rest) (subst IsSome was (old c (or_left (n.id == c) (knows older c) same))) u (sym is ∙ h)
        | inr other ↦ tree_other n older c other ∙ rest c u (sym (tree_other (simple_node n) (map simple_node older) c other) ∙ h)
      ]
    where
      starts : (ps : List ℕ) → ((d : ℕ) (v : Tree) → tree_in (map simple_node older) d ≡ Some v → tree_in older d ≡ Some v) →
          (t : Tree) → begun (tree_in (map simple_node older)) ps ≡ Some t → begun (tree_in older) ps ≡ Some t
      starts [] f t h = h
      starts (p ∷ ps) f t h = f p t h

  -- ---- the whole history

  pub done : (events result : List PlainEvent) → simplify_of set events ≡ Ok result →
      (tree_check (simplified set events) ≡ Ok tt) × (simplified set events ≡ result)
  done events result d = go (tree_check (simplified set events)) refl d
    where
      go : (r : Result (Unit {0}) Fault) → tree_check (simplified set events) ≡ r →
          ◌≡◌ {A = Result (List PlainEvent) Fault} (elim r [ Ok y ↦ Ok (simplified set events) | Err why ↦ Err why ]) (Ok result) →
          (tree_check (simplified set events) ≡ Ok tt) × (simplified set events ≡ result)
      go (Ok tt) is d = let same : simplified set events ≡ result = cc in (is, same)
      go (Err why) is d = absurd cc

  pub refused : (events : List PlainEvent) (why : Fault) → simplify_of set events ≡ Err why →
      first_fault (simplified set events) (simplified set events) ≡ Some why
  refused events why d = go (first_fault (simplified set events) (simplified set events)) refl d
    where
      go : (o : Option Fault) → first_fault (simplified set events) (simplified set events) ≡ o →
          ◌≡◌ {A = Result (List PlainEvent) Fault} (elim (unless o) [ Ok y ↦ Ok (simplified set events) | Err f ↦ Err f ]) (Err why) →
          o ≡ Some why
      go None is d = absurd cc
      go (Some f) is d = let same : f ≡ why = cc in ap Some same

  pub other_ids : (events : List PlainEvent) (c : ℕ) → has_id (simplified set events) (any.Commit c) ≡ has_id events (any.Commit c)
  other_ids events c = swept_commit events (map simple events) c ∙ ids_same events (any.Commit c)

  module _ (events : List PlainEvent) (h : IsSound events) where
    abbrev new : List PlainEvent
    new = simplified set events

    pub once : AreOnce new
    once = record {
      ids = λ id.
          let same = sums_same (of_id id) (λ e. ap one_if (one_same e id)) events in
          let fewer = tally_filter (of_id id) (λ e. not (is_left_over events (map simple events) e)) (map simple events) in
          let one = (in_parts events h).once.ids id in
          omega arith;
      marks = λ m.
          let same = sums_same (of_mark m) (mark_same m) events in
          let fewer = tally_filter (of_mark m) (λ e. not (is_left_over events (map simple events) e)) (map simple events) in
          let one = (in_parts events h).once.marks m in
          omega arith;
    }

    pub order : AreInOrder [] new
    order = swept_in_order events (map simple events) (in_order [] events (in_parts events h).in_order)

    past_is : past new ≡ map simple_node (past events)
    past_is = ap (λ (l : List Node). reverse l) (swept_nodes events (map simple events) ∙ nodes_simple events) ∙ map_reverse (nodes events)

    -- a tree, if there is one, is the old one
    old_tree : (c : ℕ) (u : Tree) → tree new c ≡ Some u → tree events c ≡ Some u
    old_tree c u is =
        old_or_none (past events) (linked_past events h) (λ e k. h.trees e (sym (known_past events e) ∙ k)) c u
        (sym (ap (λ (a : Past). tree_in a c) past_is) ∙ is)

    pub new_sound : tree_check new ≡ Ok tt → IsSound new
    new_sound d =
        let parts = in_parts events h in
        let kept = λ (e : PlainEvent). not (is_left_over events (map simple events) e) in
        from_parts new (record {
          lawful = all_filter IsLawful kept (map simple events) (all_simple IsLawful IsLawful lawful events parts.lawful);
          spelled = all_filter IsFormedEvent kept (map simple events) (all_simple IsFormedEvent IsFormedEvent spelled events parts.spelled);
          few = all_filter HasFewParents kept (map simple events) (all_simple HasFewParents HasFewParents few events parts.few);
          once = once;
          in_order = order;
          trees = (checked new once order).1 d;
        })

    pub new_trees : tree_check new ≡ Ok tt → (c : ℕ) → IsCommitOf events c → tree new c ≡ tree events c
    new_trees d c there = go (tree new c) refl ((checked new once order).1 d c (other_ids events c ∙ there))
      where
        go : (o : Option Tree) → tree new c ≡ o → IsSome o → tree new c ≡ tree events c
        go None is some = absurd (true≢false (sym some))
        go (Some u) is some = is ∙ sym (old_tree c u is)

    -- ---- what is refused

    -- the operations of a commit can be carried out
    abbrev pub IsCarriedOut : Node → Type 0
    IsCarriedOut n = IsSome (folded n.ops (begun (tree events) n.parents))

    pub known_here : (a : Past) → AllByRecursion (λ (n : Node). knows a n.id ≡ true) a
    known_here [] = tt
    known_here (n ∷ older) = (or_left (n.id == n.id) (knows older n.id) (eq-eqb n.id n.id refl), all_imply (λ (m : Node). knows older m.id ≡ true) (λ (m : Node). knows (n ∷ older) m.id ≡ true) (λ m k. known_later n older m.id k) older (known_here older))

    pub all_carried_out : (ns : List Node) → AllByRecursion (Fits (tree events)) ns → AllByRecursion (λ (n : Node). knows (past events) n.id ≡ true) ns → AllByRecursion IsCarriedOut ns
    all_carried_out [] f k = tt
    all_carried_out (n ∷ ns) f k = (subst IsSome f.0 (h.trees n.id (sym (known_past events n.id) ∙ k.0)), all_carried_out ns f.1 k.1)

    pub all_known : AllByRecursion (λ (n : Node). knows (past events) n.id ≡ true) (nodes events)
    all_known =
        subst (AllByRecursion (λ (n : Node). knows (past events) n.id ≡ true)) (reverse-reverse (nodes events))
        (all_reverse (λ (n : Node). knows (past events) n.id ≡ true) (past events) (known_here (past events)))

    pub old_fit : AllByRecursion (Fits (tree events)) (nodes events)
    old_fit = let parts = in_parts events h in trees_fit events parts.once parts.in_order

    pub carried_out : AllByRecursion IsCarriedOut (nodes events)
    carried_out = all_carried_out (nodes events) old_fit all_known

    abbrev pub too_many : Fault
    too_many = fault.Limit limit.Paths MAX_PATHS

    abbrev IsForPaths : PlainEvent → Type 0
    IsForPaths e = (why : Fault) → event_fault new e ≡ Some why → why ≡ too_many

    pub starts : (ps : List ℕ) (t : Tree) → begun (tree new) ps ≡ Some t → begun (tree events) ps ≡ Some t
    starts [] t is = is
    starts (p ∷ ps) t is = old_tree p t is

    either_free : (b : Bool) (ops : List FileOp) (t v : Tree) → IsOrdered t → free_all ops t ≡ Some v → free_all (ops_left b ops) t ≡ Some v
    either_free true ops t v o f = simpler_same ops t v o f
    either_free false ops t v o f = f

    for_paths : (e : PlainEvent) → OfNodes IsCarriedOut e → IsForPaths (simple e)
    for_paths (Commit id mark branch author committer encoding comment parents ops aliases) f why is = first (is_listed (any.Commit id) set) (begun (tree new) parents) refl is
      where
        third : (b : Bool) (t v : Tree) → free_all ops t ≡ Some v → IsOrdered t → (r : Option (ℕ × Refusal)) → first_refused 1 (ops_left b ops) t ≡ r →
            option_map (fault_of mark) r ≡ Some why → why ≡ too_many
        third b t v free o None e is = absurd cc
        third b t v free o (Some (k, w)) e is =
            let same : fault_of mark (k, w) ≡ why = cc in
            sym same ∙ ap (λ (x : Refusal). fault_of mark (k, x)) (first_paths (ops_left b ops) 1 t v k w (either_free b ops t v o free) e)

        second : (b : Bool) (t : Tree) → begun (tree events) parents ≡ Some t → (r : Result Tree Refusal) → apply_all ops t ≡ r → IsSome (if_ok r) →
            option_map (fault_of mark) (first_refused 1 (ops_left b ops) t) ≡ Some why → why ≡ too_many
        second b t old (Err x) e some is = absurd (true≢false (sym some))
        second b t old (Ok v) e some is =
            third b t v (apply_all_free ops t v e) (subst IfOrdered old (begun_ordered (past events) parents)) (first_refused 1 (ops_left b ops) t) refl is

        first : (b : Bool) (o : Option Tree) → begun (tree new) parents ≡ o →
            option_and_then (λ t. option_map (fault_of mark) (first_refused 1 (ops_left b ops) t)) o ≡ Some why → why ≡ too_many
        first b None e is = absurd cc
        first b (Some t) e is =
            let old = starts parents t e in
            second b t old (apply_all ops t) refl (subst (λ (y : Option Tree). IsSome (folded ops y)) old f.0) is
    for_paths (Blob id mark bytes) f why is = absurd cc
    for_paths (Tag id name target tagger comment mark) f why is = absurd cc
    for_paths (Reset id branch target) f why is = absurd cc
    for_paths (Pass id line) f why is = absurd cc

    first_for_paths : (es : List PlainEvent) → AllByRecursion IsForPaths es → (why : Fault) → first_fault new es ≡ Some why → why ≡ too_many
    first_for_paths [] a why is = absurd cc
    first_for_paths (e ∷ es) a why is = go (event_fault new e) refl is (first_for_paths es a.1)
      where
        go : (o : Option Fault) → event_fault new e ≡ o → option_or o (first_fault new es) ≡ Some why →
            ((other : Fault) → first_fault new es ≡ Some other → other ≡ too_many) → why ≡ too_many
        go None here is rest = rest why is
        go (Some f) here is rest = a.0 why (here ∙ is)

    pub only_paths : (why : Fault) → simplify_of set events ≡ Err why → why ≡ too_many
    only_paths why d =
        first_for_paths new
        (all_filter IsForPaths (λ e. not (is_left_over events (map simple events) e)) (map simple events)
        (all_simple (OfNodes IsCarriedOut) IsForPaths for_paths events (nodes_of_events IsCarriedOut events carried_out)))
        why (refused events why d)
