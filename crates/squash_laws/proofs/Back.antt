-- After a push back a commit on which removed commits hang has the tree of the last of them, and all others keep theirs.
use Rattle.std.proofs.Common.{◌≡◌, ℕ, ◌+◌, ◌≤◌, Bool, true, false, cond, List, [], ◌∷◌, ◌++◌, length, reverse, filter, refl, sym, ap, subst, ◌∙◌, inl, inr, arith, eqb, eqb-true, eq-eqb, true≢false, append-nil, append_assoc, Option, Some, None, IsTrue}
use Rattle.std.specs.Prelude.{◌||◌, ◌&&◌, ◌==◌, nat_lt, if◌then◌else◌, IsSome}
use Rattle.std.specs.List.{AllByRecursion, list_any}
use Rattle.std.proofs.lemmas.Bool.{or_cases, or_left, or_right, and_from, and_parts, cond-true}
use Rattle.std.proofs.lemmas.Bool.Decides.{nat_tests}
use Rattle.std.proofs.lemmas.List.{reverse-append, reverse-reverse}
use Rattle.std.proofs.lemmas.List.Elements.{filter-append}
use Rattle.plain_model.specs.declared.fault.Fault.{Fault}
use Rattle.plain_model.specs.declared.id.AnyId.{AnyId}
use Rattle.plain_model.specs.declared.id.AnyId.TheVariants as any
use Rattle.plain_model.specs.declared.operation.FileOp.{FileOp}
use Rattle.plain_model.specs.declared.event.PlainEvent.{PlainEvent}
use Rattle.plain_model.specs.declared.event.PlainEvent.TheVariants.{Blob, Commit, Tag, Reset, Pass}
use Rattle.plain_model.specs.Histories.{Node, Past, begun, folded, nodes, past, knows, tree, IsLinkedPast}
use Rattle.plain_model.specs.Lookups.{is_listed}
use Rattle.plain_model.specs.Soundness.{IsSound, has_id}
use Rattle.plain_model.specs.Trees.{Tree}
use Rattle.history_laws.specs.FirstParents.{ops_along}
use Rattle.edit_laws.specs.Equations.{Fits}
use Rattle.edit_laws.specs.Parts.{one_if}
use Rattle.edit_laws.specs.Removal.{back, expand_all}
use Rattle.edit_laws.specs.Settling.{is_ready}
use Rattle.ancestry_laws.proofs.Pasts.{any_reverse, known_past, linked_past}
use Rattle.history_laws.proofs.LineLaws.{folded_more}
use Rattle.history_laws.proofs.Lists.{all_imply, all_reverse}
use Rattle.edit_laws.proofs.Chains.{Leads, leads_all}
use Rattle.edit_laws.proofs.Checked.{none_of_both}
use Rattle.edit_laws.proofs.Fine.{ready_parents}
use Rattle.edit_laws.proofs.Lists.{OfNodes, all_flat, events_of_nodes, nodes_of_events}
use Rattle.edit_laws.proofs.Settles.{sound_settles}
use Rattle.edit_laws.proofs.Sound.{in_parts}
use Rattle.edit_laws.proofs.Trees.{known_later, not_fresh, trees_fit}
use Rattle.squash_laws.specs.Squash.{back_fault, first_back_fault, first_children, is_first}
use Rattle.squash_laws.specs.Removed.{is_removed, left_of, all_left, parents_after}
use Rattle.squash_laws.specs.Takings.{hanging, is_it, last_of, ops_after, takes}
use Rattle.plain_model.specs.declared.policy.Lean.{Lean}
use Rattle.plain_model.specs.declared.policy.Push.TheVariants as push
use Rattle.plain_model.specs.declared.policy.Policy.{Policy}
use Rattle.squash_laws.proofs.Hung.{Holds, IsOnlyChild, back_first, back_gone, back_leads, back_other, back_some, has_kid, holds, hung, kids, some_kids}
use Rattle.squash_laws.proofs.Left.{one_left, one_moved}

-- ---- lists

-- so many pass a test, whichever way they are counted
kids_counted : (p : ℕ) (ns : List Node) → kids p ns ≡ length (filter (λ n. is_first p n.parents) ns)
kids_counted p [] = refl
kids_counted p (n ∷ ns) =
    let rest = kids_counted p ns in
    elim (is_first p n.parents) as (λ b. one_if b + kids p ns ≡ length (cond b (n ∷ filter (λ m. is_first p m.parents) ns) (filter (λ m. is_first p m.parents) ns))) [ true ↦ omega arith | false ↦ omega arith ]

kids_append : (p : ℕ) (xs ys : List Node) → kids p (xs ++ ys) ≡ kids p xs + kids p ys
kids_append p [] ys = omega arith
kids_append p (x ∷ xs) ys = let rest = kids_append p xs ys in omega arith

pub kids_reversed : (p : ℕ) (ns : List Node) → kids p (reverse ns) ≡ kids p ns
kids_reversed p [] = refl
kids_reversed p (n ∷ ns) =
    let rest = kids_reversed p ns in
    let parts = kids_append p (reverse ns) (n ∷ []) in
    let whole : kids p (reverse (n ∷ ns)) ≡ kids p (reverse ns ++ n ∷ []) = ap (kids p) (reverse-append (n ∷ []) ns) in
    omega arith

-- ---- the check

at_most_one : (n : ℕ) → nat_lt 1 n ≡ false → n ≤ 1
at_most_one n h = grind (arith, nat_tests)

module _ (set : List AnyId) (events : List PlainEvent) where
  -- where the check finds nothing, a removed commit has a first parent, and is its only child by first parents
  only_one : (mark : ℕ) (n : Node) → (if is_removed set n.id then back_fault set events mark n.parents else None) ≡ None → IsOnlyChild (is_removed set) (past events) n
  only_one mark n h gone = go n.parents (sym (cond-true (is_removed set n.id) (back_fault set events mark n.parents) None gone) ∙ h)
    where
      unless : (p : ℕ) (b : Bool) (x : Fault) → (if b then Some x else None) ≡ None → b ≡ false
      unless p true x h = absurd cc
      unless p false x h = refl

      go : (ps : List ℕ) → back_fault set events mark ps ≡ None → (p : ℕ) × (qs : List ℕ) × (ps ≡ p ∷ qs) × (kids p (past events) ≤ 1)
      go [] h = absurd cc
      go (p ∷ ps) h =
          let few = at_most_one (first_children events p) (unless p (nat_lt 1 (first_children events p)) _ h) in
          let same : kids p (past events) ≡ kids p (nodes events) = kids_reversed p (nodes events) in
          let counted = kids_counted p (nodes events) in
          (p, ps, refl, omega arith)

  only_ones : (es : List PlainEvent) → first_back_fault set events es ≡ None → AllByRecursion (IsOnlyChild (is_removed set) (past events)) (nodes es)
  only_ones [] h = tt
  only_ones (Commit id mark branch author committer encoding comment parents ops aliases ∷ es) h =
      let parts = none_of_both (if is_removed set id then back_fault set events mark parents else None) (first_back_fault set events es) h in
      (only_one mark (record { id = id; parents = parents; ops = ops }) parts.0, only_ones es parts.1)
  only_ones (Blob id mark bytes ∷ es) h = only_ones es h
  only_ones (Tag id name target tagger comment mark ∷ es) h = only_ones es h
  only_ones (Reset id branch target ∷ es) h = only_ones es h
  only_ones (Pass id line ∷ es) h = only_ones es h

  -- ---- what hangs, over the list and over the past

  abbrev gone : ℕ → Bool
  gone c = is_removed set c

  known_still : (xs older : Past) (p : ℕ) → knows older p ≡ true → knows (xs ++ older) p ≡ true
  known_still [] older p h = h
  known_still (x ∷ xs) older p h = known_later x (xs ++ older) p (known_still xs older p h)

  back_before : (xs older : Past) → IsLinkedPast (xs ++ older) → (p : ℕ) → knows older p ≡ true → back gone (xs ++ older) (p ∷ []) ≡ back gone older (p ∷ [])
  back_before [] older s p k = refl
  back_before (x ∷ xs) older s p k =
      back_other gone x (xs ++ older) p [] (not_fresh x (xs ++ older) p s.0 (known_still xs older p k)) ∙ back_before xs older s.2 p k

  abbrev hangs_on : Past → ℕ → Node → Bool
  hangs_on whole c n = gone n.id && is_it c (back gone whole (n.id ∷ []))

  hung_in : (xs older : Past) → IsLinkedPast (xs ++ older) → (c : ℕ) → filter (hangs_on (xs ++ older) c) (reverse older) ≡ hung gone older c
  hung_in xs [] s c = refl
  hung_in xs (n ∷ older) s c =
      ap (filter (hangs_on (xs ++ n ∷ older) c)) (reverse-append (n ∷ []) older)
      ∙ filter-append (hangs_on (xs ++ n ∷ older) c) (reverse older) (n ∷ [])
      ∙ ap (λ (l : List Node). l ++ filter (hangs_on (xs ++ n ∷ older) c) (n ∷ []))
      (subst (λ (w : Past). filter (hangs_on w c) (reverse older) ≡ hung gone older c) (append_assoc xs (n ∷ []) older)
      (hung_in (xs ++ n ∷ []) older (subst IsLinkedPast (sym (append_assoc xs (n ∷ []) older)) s) c))
      ∙ own (gone n.id) refl
    where
      self : knows (n ∷ older) n.id ≡ true
      self = or_left (n.id == n.id) (knows older n.id) (eq-eqb n.id n.id refl)

      either : (b : Bool) → hung gone older c ++ cond b (n ∷ []) [] ≡ cond b (hung gone older c ++ n ∷ []) (hung gone older c)
      either true = refl
      either false = append-nil (hung gone older c)

      own : (b : Bool) → gone n.id ≡ b → hung gone older c ++ filter (hangs_on (xs ++ n ∷ older) c) (n ∷ []) ≡ hung gone (n ∷ older) c
      own true g =
          ap (λ x. hung gone older c ++ cond (x && is_it c (back gone (xs ++ n ∷ older) (n.id ∷ []))) (n ∷ []) []) g
          ∙ ap (λ (o : Option ℕ). hung gone older c ++ cond (is_it c o) (n ∷ []) []) (back_before xs (n ∷ older) s n.id self ∙ back_gone gone n older n.id [] (eq-eqb n.id n.id refl) g)
          ∙ either (is_it c (back gone older n.parents))
          ∙ sym (ap (λ x. cond (x && is_it c (back gone older n.parents)) (hung gone older c ++ n ∷ []) (hung gone older c)) g)
      own false g =
          ap (λ x. hung gone older c ++ cond (x && is_it c (back gone (xs ++ n ∷ older) (n.id ∷ []))) (n ∷ []) []) g
          ∙ either false
          ∙ sym (ap (λ x. cond (x && is_it c (back gone older n.parents)) (hung gone older c ++ n ∷ []) (hung gone older c)) g)

  hanging_is : IsLinkedPast (past events) → (c : ℕ) → hanging set events c ≡ hung gone (past events) c
  hanging_is s c = ap (filter (hangs_on (past events) c)) (sym (reverse-reverse (nodes events))) ∙ hung_in [] (past events) s c

  -- ---- trees after the push back

  -- the tree of the last commit that hangs on one, or its own
  abbrev pub pulled_tree : ℕ → Option Tree
  pulled_tree c = tree events (last_of c (hanging set events c))

  module _ (h : IsSound events) (none : first_back_fault set events events ≡ None) (tags : Lean) where
    abbrev how : Policy
    how = record { push = push.Back; tags = tags }

    linked : IsLinkedPast (past events)
    linked = linked_past events h

    only : AllByRecursion (IsOnlyChild gone (past events)) (past events)
    only = all_reverse (IsOnlyChild gone (past events)) (nodes events) (only_ones events none)

    hold : Holds gone (past events)
    hold = holds gone (past events) (past events) linked only (λ p. omega arith)

    -- a commit that stays isn't a removed one's fellow
    no_kid : (p : ℕ) (n : Node) (ps : List ℕ) (ns : Past) → n.parents ≡ p ∷ ps → gone n.id ≡ false → list_any (λ (m : Node). eqb m.id n.id && is_first p m.parents) ns ≡ true → has_kid gone ns p ≡ true → 2 ≤ kids p ns
    no_kid p n ps [] e stays it kid = absurd (true≢false (sym it))
    no_kid p n ps (m ∷ ns) e stays it kid =
        elim (or_cases (eqb m.id n.id && is_first p m.parents) (list_any (λ (m : Node). eqb m.id n.id && is_first p m.parents) ns) it) [
          | inl here ↦
              let parts = and_parts (eqb m.id n.id) (is_first p m.parents) here in
              let own : one_if (is_first p m.parents) ≡ 1 = ap one_if parts.1 in
              let not_gone : gone m.id ≡ false = ap gone (eqb-true m.id n.id parts.0) ∙ stays in
              let others = some_kids gone ns p (sym (ap (λ b. b && is_first p m.parents || has_kid gone ns p) not_gone) ∙ kid) in
              omega arith
          | inr later ↦ elim (or_cases (gone m.id && is_first p m.parents) (has_kid gone ns p) kid) [
            | inl its ↦
                let own : one_if (is_first p m.parents) ≡ 1 = ap one_if (and_parts (gone m.id) (is_first p m.parents) its).1 in
                let others = some_it p n.id ns later in
                omega arith
            | inr rest ↦ let two = no_kid p n ps ns e stays later rest in omega arith
          ]
        ]
      where
        some_it : (p id : ℕ) (ns : Past) → list_any (λ (m : Node). eqb m.id id && is_first p m.parents) ns ≡ true → 1 ≤ kids p ns
        some_it p id [] h = absurd (true≢false (sym h))
        some_it p id (m ∷ ns) h =
            elim (or_cases (eqb m.id id && is_first p m.parents) (list_any (λ (m : Node). eqb m.id id && is_first p m.parents) ns) h) [
              | inl here ↦ let own : one_if (is_first p m.parents) ≡ 1 = ap one_if (and_parts (eqb m.id id) (is_first p m.parents) here).1 in omega arith
              | inr later ↦ let rest = some_it p id ns later in omega arith
            ]

    -- the one with a removed commit as its child by first parents has no other
    one_kid : (p : ℕ) (ns : Past) → AllByRecursion (IsOnlyChild gone (past events)) ns → has_kid gone ns p ≡ true → kids p (past events) ≤ 1
    one_kid p [] o kid = absurd (true≢false (sym kid))
    one_kid p (m ∷ ns) o kid =
        elim (or_cases (gone m.id && is_first p m.parents) (has_kid gone ns p) kid) [
          | inl here ↦
              let parts = and_parts (gone m.id) (is_first p m.parents) here in
              let its = o.0 parts.0 in
              let same : its.0 ≡ p = eqb-true its.0 p (sym (ap (is_first p) its.2) ∙ parts.1) in
              subst (λ q. kids q (past events) ≤ 1) same its.3
          | inr later ↦ one_kid p ns o.1 later
        ]

    -- the commits of the list with a first parent are found
    abbrev IsFound : Past → Node → Type 0
    IsFound ns n = (p : ℕ) → is_first p n.parents ≡ true → list_any (λ (m : Node). eqb m.id n.id && is_first p m.parents) ns ≡ true

    found_later : (m : Node) (ns all : List Node) → AllByRecursion (IsFound ns) all → AllByRecursion (IsFound (m ∷ ns)) all
    found_later m ns [] a = tt
    found_later m ns (n ∷ all) a = (λ p f. or_right (eqb m.id n.id && is_first p m.parents) (list_any (λ (m : Node). eqb m.id n.id && is_first p m.parents) ns) (a.0 p f), found_later m ns all a.1)

    each_found : (ns : List Node) → AllByRecursion (IsFound ns) ns
    each_found [] = tt
    each_found (n ∷ ns) = (
      λ p f. or_left (eqb n.id n.id && is_first p n.parents) (list_any (λ (m : Node). eqb m.id n.id && is_first p m.parents) ns) (and_from (eqb n.id n.id) (is_first p n.parents) (eq-eqb n.id n.id refl) f),
      found_later n ns ns (each_found ns),
    )

    found_back : (ns : List Node) → AllByRecursion (IsFound (nodes events)) ns → AllByRecursion (IsFound (past events)) ns
    found_back [] a = tt
    found_back (n ∷ ns) a = (λ p f. any_reverse (λ (m : Node). eqb m.id n.id && is_first p m.parents) (nodes events) ∙ a.0 p f, found_back ns a.1)

    -- ---- what fits

    first_pulled : (b : ℕ) (new : List ℕ) → Leads (b ∷ []) new → begun pulled_tree new ≡ pulled_tree b
    first_pulled b [] l = absurd l
    first_pulled b (q ∷ qs) l = ap pulled_tree (sym l)

    -- a commit begins as it did
    begins : (n : Node) → gone n.id ≡ false → IsFound (past events) n → (ps : List ℕ) → n.parents ≡ ps → AllByRecursion (λ p. IsTrue (knows (past events) p)) ps → begun pulled_tree (expand_all gone (past events) ps) ≡ begun (tree events) ps
    begins n stays found [] e k = refl
    begins n stays found (p ∷ ps) e k =
        let goes = back_some gone (past events) (past events) linked only p ps k.0 in
        let alone = back_first gone (past events) p [] ps ∙ goes.1 in
        first_pulled goes.0 (expand_all gone (past events) (p ∷ ps)) (leads_all gone (past events) (goes.0 ∷ []) (p ∷ ps) (back_leads gone (past events) (p ∷ ps) goes.0 goes.1))
        ∙ elim (hold.lasts p goes.0 k.0 alone) [
          | inl is ↦ ap (λ (l : List Node). tree events (last_of goes.0 l)) (hanging_is linked goes.0) ∙ ap (tree events) is
          | inr kid ↦
              let two = no_kid p n ps (past events) e stays (found p (ap (is_first p) e ∙ eq-eqb p p refl)) kid in
              let one = one_kid p (past events) only kid in
              absurd (omega arith)
        ]

    pulled_fit : (id : ℕ) (parents : List ℕ) (ops : List FileOp) → gone id ≡ false → knows (past events) id ≡ true → IsFound (past events) (record { id = id; parents = parents; ops = ops }) → AllByRecursion (λ p. IsTrue (knows (past events) p)) parents → Fits (tree events) (record { id = id; parents = parents; ops = ops })
        → Fits pulled_tree (record { id = id; parents = parents_after set events (takes set events how) parents; ops = ops_after set events push.Back id parents ops })
    pulled_fit id parents ops stays known found k fit =
        let hang = hanging set events id in
        let new = expand_all gone (past events) parents in
        ap (λ (l : List Node). tree events (last_of id l)) (hanging_is linked id)
        ∙ sym (hold.replays id stays known)
        ∙ ap (λ (l : List Node). folded (ops_along l) (tree events id)) (sym (hanging_is linked id))
        ∙ ap (folded (ops_along hang)) (fit ∙ ap (folded ops) (sym (begins (record { id = id; parents = parents; ops = ops }) stays found parents refl k)))
        ∙ sym (folded_more ops (ops_along hang) (begun pulled_tree new))

    record IsGiven (e : PlainEvent) : Type 0 where
      ready : is_ready events e ≡ true
      fits : OfNodes (Fits (tree events)) e
      found : OfNodes (IsFound (past events)) e
      known : OfNodes (λ n. knows (past events) n.id ≡ true) e

    fits_left : (e : PlainEvent) → IsGiven e → AllByRecursion (OfNodes (Fits pulled_tree)) (left_of set events (takes set events how) e)
    fits_left (Commit id mark branch author committer encoding comment parents ops aliases) g =
        one_left (OfNodes (Fits pulled_tree)) (is_removed set id)
        (Commit id mark branch author committer encoding ((takes set events how).comment id parents comment) (parents_after set events (takes set events how) parents) (ops_after set events push.Back id parents ops) aliases)
        (λ stays. (pulled_fit id parents ops stays g.known.0 g.found.0 (ready_parents events parents ops g.ready) g.fits.0, tt))
    fits_left (Blob id mark bytes) g = (tt, tt)
    fits_left (Tag id name target tagger comment mark) g = one_moved (OfNodes (Fits pulled_tree)) (is_listed (any.Tag id) set) (λ t. Tag id name t tagger comment mark) ((takes set events how).target target) (λ t is. tt)
    fits_left (Reset id branch None) g = one_left (OfNodes (Fits pulled_tree)) (is_listed (any.Reset id) set) (Reset id branch None) (λ stays. tt)
    fits_left (Reset id branch (Some target)) g = one_moved (OfNodes (Fits pulled_tree)) (is_listed (any.Reset id) set) (λ t. Reset id branch (Some t)) ((takes set events how).target target) (λ t is. tt)
    fits_left (Pass id line) g = one_left (OfNodes (Fits pulled_tree)) (is_listed (any.Pass id) set) (Pass id line) (λ stays. tt)

    given : (es : List PlainEvent) → AllByRecursion (λ e. IsTrue (is_ready events e)) es → AllByRecursion (OfNodes (Fits (tree events))) es → AllByRecursion (OfNodes (IsFound (past events))) es → AllByRecursion (OfNodes (λ n. knows (past events) n.id ≡ true)) es → AllByRecursion IsGiven es
    given [] r f d k = tt
    given (e ∷ es) r f d k = (record { ready = r.0; fits = f.0; found = d.0; known = k.0 }, given es r.1 f.1 d.1 k.1)

    each_known : (ns : Past) → AllByRecursion (λ (n : Node). knows ns n.id ≡ true) ns
    each_known [] = tt
    each_known (n ∷ ns) = (or_left (n.id == n.id) (knows ns n.id) (eq-eqb n.id n.id refl), all_imply (λ (m : Node). knows ns m.id ≡ true) (λ (m : Node). knows (n ∷ ns) m.id ≡ true) (λ m k. known_later n ns m.id k) ns (each_known ns))

    -- these trees fit the commits that are left
    pub pulled_fits : AllByRecursion (Fits pulled_tree) (nodes (all_left set events (takes set events how)))
    pulled_fits =
        let s = sound_settles events h in
        let parts = in_parts events h in
        let known = subst (AllByRecursion (λ (n : Node). knows (past events) n.id ≡ true)) (reverse-reverse (nodes events)) (all_reverse (λ (n : Node). knows (past events) n.id ≡ true) (past events) (each_known (past events))) in
        events_of_nodes (Fits pulled_tree) (all_left set events (takes set events how))
        (all_flat IsGiven (OfNodes (Fits pulled_tree)) (left_of set events (takes set events how)) fits_left events
        (given events s.complete (nodes_of_events (Fits (tree events)) events (trees_fit events parts.once parts.in_order))
        (nodes_of_events (IsFound (past events)) events (found_back (nodes events) (each_found (nodes events))))
        (nodes_of_events (λ (n : Node). knows (past events) n.id ≡ true) events known)))

    -- the last commit that hangs on one that is there is there
    pub pulled_there : (c : ℕ) → has_id events (any.Commit c) ≡ true → IsSome (pulled_tree c)
    pulled_there c k =
        h.trees (last_of c (hanging set events c))
        (sym (known_past events (last_of c (hanging set events c))) ∙ ap (λ (l : List Node). knows (past events) (last_of c l)) (hanging_is linked c) ∙ hold.known c (known_past events c ∙ k))
