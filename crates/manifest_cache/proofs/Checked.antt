-- The tree check, event by event.
use Rattle.std.proofs.Common.{◌≡◌, ℕ, zero, suc, ◌+◌, ◌<◌, ◌≤◌, ◌⊎◌, inl, inr, List, [], ◌∷◌, ◌++◌, length, take, drop, Option, Some, None, Ok, Err, refl, sym, ap, subst, ◌∙◌, arith, add-one, append_assoc}
use Rattle.std.specs.Prelude.{IfSome, IsSome, IsTrue, is_some, option_and_then, option_map, slice_get}
use Rattle.std.specs.List.{AllByRecursion}
use Rattle.std.specs.Option.{option_or}
use Rattle.std.proofs.lemmas.Bool.{cases_Bool, true≢false}
use Rattle.std.proofs.lemmas.List.{take-append-drop, take_all}
use Rattle.plain_model.specs.declared.id.AnyId.{AnyId}
use Rattle.plain_model.specs.declared.id.AnyId.TheVariants as any
use Rattle.plain_model.specs.declared.fault.Fault.{Fault}
use Rattle.plain_model.specs.declared.fault.Halt.{Halt}
use Rattle.plain_model.specs.declared.fault.Halt.TheVariants as halt
use Rattle.plain_model.specs.declared.operation.FileOp.{FileOp}
use Rattle.plain_model.specs.declared.event.PlainEvent.{PlainEvent}
use Rattle.plain_model.specs.declared.event.PlainEvent.TheVariants.{Blob, Commit, Tag, Reset, Pass}
use Rattle.plain_model.specs.Histories.{IsLinkedPast, Node, Past, begun, folded, knows, past, tree}
use Rattle.plain_model.specs.Lookups.{event_ops, event_parents, find_event, id_of, same_id}
use Rattle.plain_model.specs.declared.person.Signed.{Signed}
use Rattle.plain_model.specs.Paths.{Bytes}
use Rattle.plain_model.specs.Trees.{Tree}
use Rattle.history_laws.specs.Once.{AreDistinct}
use Rattle.event_arena.proofs.ListLemmas.{drop_item, take_item}
use Rattle.history_laws.proofs.SoundOnce.{has_id_find}
use Rattle.history_laws.proofs.Ids.{has_own, same_id_true}
use Rattle.history_laws.proofs.Lists.{all_imply, item_at}
use Rattle.edit_laws.specs.Checking.{event_fault, fault_of, first_fault, first_refused, tree_check, unless}
use Rattle.edit_laws.proofs.Checked.{none_refused}
use Rattle.manifest_cache.specs.Checking.{Applies, Checks, HaveTrees, begun_of}
use Rattle.manifest_cache.specs.Lines.{line, line_before}
use Rattle.manifest_cache.specs.Walks.{first_parent}
use Rattle.manifest_cache.proofs.Lines.{after_found, line_front, line_here, not_again, past_append, tree_along, tree_line, tree_more, unknown, with_commit}
use Rattle.manifest_cache.proofs.Prefixes.{find_more}

-- ---- faults of lists

pub fault_append : (events xs ys : List PlainEvent) → first_fault events (xs ++ ys) ≡ option_or (first_fault events xs) (first_fault events ys)
fault_append events [] ys = refl
fault_append events (x ∷ xs) ys = ap (option_or (event_fault events x)) (fault_append events xs ys) ∙ go (event_fault events x)
  where
    go : (o : Option Fault)
        → option_or o (option_or (first_fault events xs) (first_fault events ys)) ≡ option_or (option_or o (first_fault events xs)) (first_fault events ys)
    go None = refl
    go (Some f) = refl

-- ---- ids at the end of a list

pub found_last : (xs : List PlainEvent) (e : PlainEvent) (id : AnyId) → IsSome (find_event id (xs ++ e ∷ [])) → IsSome (find_event id xs) ⊎ (id ≡ id_of e)
found_last [] e id h = elim (cases_Bool (same_id id (id_of e))) [
  | inl it ↦ inr (same_id_true id (id_of e) it)
  | inr no_it ↦ absurd (true≢false (sym (rw no_it at h)))
]
found_last (x ∷ xs) e id h = elim (cases_Bool (same_id id (id_of x))) [
  | inl it ↦ rw it (inl refl)
  | inr no_it ↦ rw no_it (found_last xs e id (rw no_it at h))
]

-- the event is a commit with the mark
abbrev pub IsMarked : ℕ → PlainEvent → Type 0
IsMarked mark (Commit id m branch author committer encoding comment parents ops aliases) = m ≡ mark
IsMarked mark _ = ⊥

-- an event that is no commit has no commit's id
pub no_commit : (e : PlainEvent)
    → ((id mark : ℕ) (branch : Bytes) (author committer : Signed) (encoding : Option Bytes) (comment : Bytes) (parents : List ℕ) (ops : List FileOp) (aliases : List ℕ)
    → e ≡ Commit id mark branch author committer encoding comment parents ops aliases → ⊥)
    → (c : ℕ) → any.Commit c ≡ id_of e → ⊥
no_commit (Blob id mark bytes) h c own = cc
no_commit (Tag id name target tagger comment mark) h c own = cc
no_commit (Reset id branch target) h c own = cc
no_commit (Pass id line) h c own = cc
no_commit (Commit id mark branch author committer encoding comment parents ops aliases) h c own = h id mark branch author committer encoding comment parents ops aliases refl

-- ---- parents are earlier

linked_back : (a b : Past) → IsLinkedPast (a ++ b) → IsLinkedPast b
linked_back [] b h = h
linked_back (n ∷ a) b h = linked_back a b h.2

known_found : (xs : List PlainEvent) (p : ℕ) → IsTrue (knows (past xs) p) → IsSome (find_event (any.Commit p) xs)
known_found xs p h = go (find_event (any.Commit p) xs) refl
  where
    go : (o : Option PlainEvent) → find_event (any.Commit p) xs ≡ o → IsSome o
    go None none = absurd (true≢false (sym h ∙ unknown xs p none))
    go (Some e) some = refl

parents_found : (xs ys : List PlainEvent) (e : PlainEvent) → IsLinkedPast (past (xs ++ e ∷ ys))
    → AllByRecursion (λ p. IsSome (find_event (any.Commit p) xs)) (event_parents e)
parents_found xs ys (Blob id mark bytes) h = tt
parents_found xs ys (Tag id name target tagger comment mark) h = tt
parents_found xs ys (Reset id branch target) h = tt
parents_found xs ys (Pass id line) h = tt
parents_found xs ys (Commit id mark branch author committer encoding comment parents ops aliases) h =
    let e = Commit id mark branch author committer encoding comment parents ops aliases in
    let n : Node = record { id = id; parents = parents; ops = ops } in
    let whole : past (xs ++ e ∷ ys) ≡ past ys ++ (n ∷ past xs) =
    ap past (sym (append_assoc xs (e ∷ []) ys)) ∙ past_append (xs ++ e ∷ []) ys ∙ ap (λ (p : Past). past ys ++ p) (past_append xs (e ∷ [])) in
    all_imply (λ p. IsTrue (knows (past xs) p)) (λ p. IsSome (find_event (any.Commit p) xs)) (known_found xs) parents (linked_back (past ys) (n ∷ past xs) (subst IsLinkedPast whole h)).1

module _ (after : List PlainEvent) (once : AreDistinct after) (linked : IsLinkedPast (past after)) where
  module _ (k : ℕ) (e : PlainEvent) (at : slice_get after k ≡ Some e) where
    abbrev xs : List PlainEvent
    xs = take k after

    abbrev ys : List PlainEvent
    ys = drop (suc k) after

    is : after ≡ xs ++ e ∷ ys
    is = sym (take-append-drop k after) ∙ ap (λ (zs : List PlainEvent). xs ++ zs) (drop_item after k e at)

    distinct : AreDistinct (xs ++ e ∷ ys)
    distinct = subst AreDistinct is once

    found : AllByRecursion (λ p. IsSome (find_event (any.Commit p) xs)) (event_parents e)
    found = parents_found xs ys e (subst (λ (es : List PlainEvent). IsLinkedPast (past es)) is linked)

    same_before : (ps : List ℕ) → AllByRecursion (λ p. IsSome (find_event (any.Commit p) xs)) ps → line_before (line xs) ps ≡ line_before (line after) ps
    same_before [] h = refl
    same_before (p ∷ ps) h = sym (ap (λ (es : List PlainEvent). line es p) is ∙ line_front xs (e ∷ ys) p (after_found xs (e ∷ ys) (any.Commit p) distinct h.0))

    along : (ps : List ℕ) → tree_along (line_before (line after) ps) ≡ begun (tree after) ps
    along [] = refl
    along (p ∷ ps) = sym (tree_line after p)

    -- the tree of a commit at the place
    pub tree_here : (c : ℕ) → any.Commit c ≡ id_of e → tree after c ≡ folded (event_ops e) (begun (tree after) (event_parents e))
    tree_here c own =
        tree_line after c
        ∙ ap tree_along (
        ap (λ (es : List PlainEvent). line es c) is
        ∙ line_here xs ys e c own (ap (λ i. find_event i ys) own ∙ not_again xs ys e distinct)
        ∙ ap (with_commit c (event_ops e)) (same_before (event_parents e) found)
        )
        ∙ tree_more (line_before (line after) (event_parents e)) c (event_ops e)
        ∙ ap (folded (event_ops e)) (along (event_parents e))

    -- its first parent has a tree
    pub parent_tree : HaveTrees after xs → IfSome (first_parent e) (λ p. IsSome (tree after p))
    parent_tree have = go (event_parents e) found
      where
        go : (ps : List ℕ) → AllByRecursion (λ p. IsSome (find_event (any.Commit p) xs)) ps → IfSome (slice_get ps 0) (λ p. IsSome (tree after p))
        go [] h = tt
        go (p ∷ ps) h = have p h.0

    begun_is : (o : Option ℕ) (t : Tree) → o ≡ first_parent e → begun_of (tree after) o ≡ Some t → begun (tree after) (event_parents e) ≡ Some t
    begun_is o t is made = go (event_parents e) ∙ ap (begun_of (tree after)) (sym is) ∙ made
      where
        go : (ps : List ℕ) → begun (tree after) ps ≡ begun_of (tree after) (slice_get ps 0)
        go [] = refl
        go (p ∷ ps) = refl

    -- what its operations make is its tree
    pub made_here : (o : Option ℕ) (t u : Tree) (c : ℕ) → o ≡ first_parent e → begun_of (tree after) o ≡ Some t
        → folded (event_ops e) (Some t) ≡ Some u → any.Commit c ≡ id_of e → tree after c ≡ Some u
    made_here o t u c is made applied own = tree_here c own ∙ ap (folded (event_ops e)) (begun_is o t is made) ∙ applied

    -- what is refused is its fault
    pub fault_here : (o : Option ℕ) (t : Tree) (f : Fault) (mark : ℕ) → o ≡ first_parent e → begun_of (tree after) o ≡ Some t → IsMarked mark e
        → option_map (fault_of mark) (first_refused 1 (event_ops e) t) ≡ Some f → event_fault after e ≡ Some f
    fault_here o t f mark is made marked refused = go e marked (begun_is o t is made) refused
      where
        go : (e : PlainEvent) → IsMarked mark e → begun (tree after) (event_parents e) ≡ Some t
            → option_map (fault_of mark) (first_refused 1 (event_ops e) t) ≡ Some f → event_fault after e ≡ Some f
        go (Blob id m bytes) marked begins refused = absurd marked
        go (Tag id name target tagger comment m) marked begins refused = absurd marked
        go (Reset id branch target) marked begins refused = absurd marked
        go (Pass id line) marked begins refused = absurd marked
        go (Commit id m branch author committer encoding comment parents ops aliases) marked begins refused =
            ap (option_and_then (λ u. option_map (fault_of m) (first_refused 1 ops u))) begins ∙ ap (λ k. option_map (fault_of k) (first_refused 1 ops t)) marked ∙ refused

    -- where it has a tree, it has no fault
    pub no_fault : ((c : ℕ) → any.Commit c ≡ id_of e → IsSome (tree after c)) → event_fault after e ≡ None
    no_fault has = go e (λ c own. sym (ap is_some (tree_here c own)) ∙ has c own)
      where
        go : (e : PlainEvent) → ((c : ℕ) → any.Commit c ≡ id_of e → IsSome (folded (event_ops e) (begun (tree after) (event_parents e))))
            → event_fault after e ≡ None
        go (Blob id mark bytes) h = refl
        go (Tag id name target tagger comment mark) h = refl
        go (Reset id branch target) h = refl
        go (Pass id line) h = refl
        go (Commit id mark branch author committer encoding comment parents ops aliases) h = begins (begun (tree after) parents) (h id refl)
          where
            begins : (o : Option Tree) → IsSome (folded ops o) → option_and_then (λ t. option_map (fault_of mark) (first_refused 1 ops t)) o ≡ None
            begins None h = refl
            begins (Some t) h = ap (option_map (fault_of mark)) (none_refused 1 ops t h)

    -- one commit more has a tree
    pub one_more : HaveTrees after xs → ((c : ℕ) → any.Commit c ≡ id_of e → IsSome (tree after c)) → HaveTrees after (take (k + 1) after)
    one_more have own c h = elim (found_last xs e (any.Commit c) (subst (λ (es : List PlainEvent). IsSome (find_event (any.Commit c) es)) (ap (λ n. take n after) (add-one k) ∙ take_item after k e at) h)) [
      | inl earlier ↦ have c earlier
      | inr it ↦ own c it
    ]

  -- events in front whose commits have trees have no fault
  pub no_faults : (k : ℕ) → k ≤ length after → HaveTrees after (take k after) → first_fault after (take k after) ≡ None
  no_faults zero within have = refl
  no_faults (suc k) within have =
      let e = item_at after k (omega (arith, within)) in
      let more = take_item after k e.0 e.1 in
      let earlier : HaveTrees after (take k after) =
      λ c h. have c (subst (λ (es : List PlainEvent). IsSome (find_event (any.Commit c) es)) (sym more) (find_more (take k after) (e.0 ∷ []) (any.Commit c) h)) in
      ap (first_fault after) more
      ∙ fault_append after (take k after) (e.0 ∷ [])
      ∙ ap (λ (o : Option Fault). option_or o (first_fault after (e.0 ∷ []))) (no_faults k (omega (arith, within)) earlier)
      ∙ ap (λ (o : Option Fault). option_or o None) (no_fault k e.0 e.1 (λ c own. have c (subst (λ (es : List PlainEvent). IsSome (find_event (any.Commit c) es)) (sym more) (last_found (take k after) e.0 (any.Commit c) own))))
    where
      last_found : (xs : List PlainEvent) (e : PlainEvent) (id : AnyId) → id ≡ id_of e → IsSome (find_event id (xs ++ e ∷ []))
      last_found xs e id own = subst (λ i. IsSome (find_event i (xs ++ e ∷ []))) (sym own) (sym (has_id_find (xs ++ e ∷ []) (id_of e)) ∙ has_own xs [] e)

  -- the first fault is that of an event after such ones
  pub first_is : (k : ℕ) (e : PlainEvent) (f : Fault) → slice_get after k ≡ Some e → k < length after → HaveTrees after (take k after)
      → event_fault after e ≡ Some f → first_fault after after ≡ Some f
  first_is k e f at within have fault =
      ap (first_fault after) (is k e at)
      ∙ fault_append after (take k after) (e ∷ drop (suc k) after)
      ∙ ap (λ (o : Option Fault). option_or o (option_or (event_fault after e) (first_fault after (drop (suc k) after)))) (no_faults k (omega (arith, within)) have)
      ∙ ap (λ (o : Option Fault). option_or o (first_fault after (drop (suc k) after))) fault

  -- and where all have trees, there is none
  pub all_checked : (k : ℕ) → length after ≤ k → HaveTrees after (take k after) → HaveTrees after after × (tree_check after ≡ Ok tt)
  all_checked k all have =
      let whole = take_all k after all in
      let have_all : HaveTrees after after = subst (HaveTrees after) whole have in
      let none = ap (first_fault after) (sym (take_all (length after) after (omega arith))) ∙ no_faults (length after) (omega arith) (subst (HaveTrees after) (sym (take_all (length after) after (omega arith))) have_all) in
      (have_all, ap unless none)

  -- what is reported for a commit is the first fault
  pub refused_checks : (k : ℕ) (e : PlainEvent) → slice_get after k ≡ Some e → k < length after → HaveTrees after (take k after)
      → (o : Option ℕ) (t u : Tree) (mark : ℕ) → o ≡ first_parent e → begun_of (tree after) o ≡ Some t → IsMarked mark e
      → (h : Halt) → Applies mark (event_ops e) t (Err h) u → Checks after k (Err h)
  refused_checks k e at within have o t u mark first made marked (halt.Refused f) refused = first_is k e f at within have (fault_here k e at o t f mark first made marked refused)
  refused_checks k e at within have o t u mark first made marked halt.Memory refused = tt
