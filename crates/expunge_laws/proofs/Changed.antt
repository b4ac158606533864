-- A history whose operations were replaced is sound, and its trees are the old ones without the matched paths.
use Rattle.std.proofs.Common.{◌≡◌, ℕ, Bool, true, List, [], ◌∷◌, ◌++◌, length, drop, map, refl, sym, ap, subst, ◌∙◌, arith, Option, Some, None}
use Rattle.std.specs.Prelude.{◌+◌, ◌||◌, flat_map, IsSome}
use Rattle.std.specs.List.{AllByRecursion}
use Rattle.std.proofs.lemmas.Bool.{or_left}
use Rattle.std.proofs.lemmas.List.{map-append}
use Rattle.plain_model.specs.declared.id.AnyId.{AnyId}
use Rattle.plain_model.specs.declared.id.AnyId.TheVariants as any
use Rattle.plain_model.specs.declared.operation.Mode.{Mode}
use Rattle.plain_model.specs.declared.operation.Mode.TheVariants.{Plain, Executable, Link, Gitlink}
use Rattle.plain_model.specs.declared.operation.Content.{Content}
use Rattle.plain_model.specs.declared.operation.Content.TheVariants.{Blob as OfBlob, Object}
use Rattle.plain_model.specs.declared.operation.FileOp.{FileOp}
use Rattle.plain_model.specs.declared.operation.FileOp.TheVariants.{Modify}
use Rattle.plain_model.specs.declared.event.PlainEvent.{PlainEvent}
use Rattle.plain_model.specs.declared.event.PlainEvent.TheVariants.{Blob, Commit, Tag, Reset, Pass}
use Rattle.plain_model.specs.Histories.{past, tree}
use Rattle.plain_model.specs.Lookups.{id_of, op_blobs, referents_of, same_id}
use Rattle.plain_model.specs.Paths.{Bytes, IsPath}
use Rattle.plain_model.specs.Soundness.{IsCommitOf, IsFormedEvent, IsFormedOp, IsSound, has_id}
use Rattle.plain_model.specs.Trees.{Tree}
use Rattle.edit_laws.specs.Equations.{Fits}
use Rattle.edit_laws.specs.Parts.{AreInOrder, AreOnce, HasFewParents, IsLawful, IsLawfulOp, of_id, of_mark, one_if, tally}
use Rattle.edit_laws.specs.Settling.{is_ready}
use Rattle.history_laws.proofs.Ids.{has_id_append}
use Rattle.history_laws.proofs.Lists.{all_imply, all_join}
use Rattle.edit_laws.proofs.Fine.{IsFine, There, fine, ready_ops}
use Rattle.edit_laws.proofs.Lists.{OfNodes, all_flat, all_front, all_true, events_of_nodes, nodes_of_events, own_here, own_id, true_all}
use Rattle.edit_laws.proofs.Sound.{from_parts, in_parts}
use Rattle.edit_laws.proofs.Trees.{trees_fit, trees_solve}
use Rattle.expunge_laws.specs.Expunged.{ops_left, replaced_event, replaced_events}
use Rattle.expunge_laws.proofs.Earlier.{AllAfter, IsGiven, OfOps, ops_follow}
use Rattle.expunge_laws.proofs.Carried.{Carries}
use Rattle.expunge_laws.proofs.MovedPaths.{moved_path}
use Rattle.expunge_laws.proofs.TreesLeft.{fits_left, left_of_tree, tree_is}

-- ---- operations after what they name

still_there : (xs : List PlainEvent) (e : PlainEvent) (id : AnyId) → There xs id → There (xs ++ e ∷ []) id
still_there xs e id h = has_id_append xs (e ∷ []) id ∙ or_left (has_id xs id) (has_id (e ∷ []) id) h

pub fine_more : (xs : List PlainEvent) (e : PlainEvent) (op : FileOp) → IsFine xs op → IsFine (xs ++ e ∷ []) op
fine_more xs e op h = (h.0, h.1, all_imply (There xs) (There (xs ++ e ∷ [])) (still_there xs e) (op_blobs op) h.2)

module _ (matched : Bytes → Bool) (events : List PlainEvent) where
  abbrev new_event : PlainEvent → PlainEvent
  new_event e = replaced_event matched events e

  -- ---- each event

  same_id_of : (e : PlainEvent) → id_of (new_event e) ≡ id_of e
  same_id_of (Commit id mark branch author committer encoding comment parents ops aliases) = refl
  same_id_of (Blob id mark bytes) = refl
  same_id_of (Tag id name target tagger comment mark) = refl
  same_id_of (Reset id branch target) = refl
  same_id_of (Pass id line) = refl

  one_same : (e : PlainEvent) (id : AnyId) → has_id (new_event e ∷ []) id ≡ has_id (e ∷ []) id
  one_same e id = own_id (new_event e) id ∙ ap (same_id id) (same_id_of e) ∙ sym (own_id e id)

  pub ids_same : (es : List PlainEvent) (id : AnyId) → has_id (map new_event es) id ≡ has_id es id
  ids_same [] id = refl
  ids_same (e ∷ es) id =
      has_id_append (new_event e ∷ []) (map new_event es) id
      ∙ (λ i. one_same e id i || ids_same es id i)
      ∙ sym (has_id_append (e ∷ []) es id)

  sums_same : (f : PlainEvent → ℕ) → ((e : PlainEvent) → f (new_event e) ≡ f e) → (es : List PlainEvent) → tally f (map new_event es) ≡ tally f es
  sums_same f same [] = refl
  sums_same f same (e ∷ es) = λ i. same e i + sums_same f same es i

  mark_same : (m : ℕ) (e : PlainEvent) → of_mark m (new_event e) ≡ of_mark m e
  mark_same m (Commit id mark branch author committer encoding comment parents ops aliases) = refl
  mark_same m (Blob id mark bytes) = refl
  mark_same m (Tag id name target tagger comment mark) = refl
  mark_same m (Reset id branch target) = refl
  mark_same m (Pass id line) = refl

  few : (e : PlainEvent) → HasFewParents e → HasFewParents (new_event e)
  few (Commit id mark branch author committer encoding comment parents ops aliases) f = f
  few (Blob id mark bytes) f = f
  few (Tag id name target tagger comment mark) f = f
  few (Reset id branch target) f = f
  few (Pass id line) f = f

  lawful : (xs : List PlainEvent) (e : PlainEvent) → IsLawful e → OfOps (IsFine xs) (new_event e) → IsLawful (new_event e)
  lawful xs (Commit id mark branch author committer encoding comment parents ops aliases) l o = (l.0, l.1, l.2, l.3, l.4, all_imply (IsFine xs) IsLawfulOp (λ op h. h.0) (ops_left matched events parents ops) o, l.6)
  lawful xs (Blob id mark bytes) l o = l
  lawful xs (Tag id name target tagger comment mark) l o = l
  lawful xs (Reset id branch target) l o = l
  lawful xs (Pass id line) l o = l

  spelled : (xs : List PlainEvent) (e : PlainEvent) → IsFormedEvent e → OfOps (IsFine xs) (new_event e) → IsFormedEvent (new_event e)
  spelled xs (Commit id mark branch author committer encoding comment parents ops aliases) f o =
      (f.0, all_imply (IsFine xs) IsFormedOp (λ op h. h.1) (ops_left matched events parents ops) o, f.2)
  spelled xs (Blob id mark bytes) f o = f
  spelled xs (Tag id name target tagger comment mark) f o = f
  spelled xs (Reset id branch target) f o = f
  spelled xs (Pass id line) f o = f

  ready : (xs : List PlainEvent) (e : PlainEvent) → is_ready xs e ≡ true → OfOps (IsFine xs) (new_event e) → is_ready xs (new_event e) ≡ true
  ready xs (Commit id mark branch author committer encoding comment parents ops aliases) r o =
      let new = ops_left matched events parents ops in
      true_all (has_id xs) (map any.Commit parents ++ flat_map op_blobs new)
      (all_join (There xs) (map any.Commit parents) (flat_map op_blobs new)
      (all_front (There xs) (map any.Commit parents) (flat_map op_blobs ops) (all_true (has_id xs) (map any.Commit parents ++ flat_map op_blobs ops) r))
      (all_flat (IsFine xs) (There xs) op_blobs (λ op h. h.2) new o))
  ready xs (Blob id mark bytes) r o = r
  ready xs (Tag id name target tagger comment mark) r o = r
  ready xs (Reset id branch target) r o = r
  ready xs (Pass id line) r o = r

  -- ---- all events

  abbrev AreFine : List PlainEvent → List PlainEvent → Type 0
  AreFine xs es = AllAfter (λ ys e. OfOps (IsFine ys) (new_event e)) xs es

  all_lawful : (xs es : List PlainEvent) → AllByRecursion IsLawful es → AreFine xs es → AllByRecursion IsLawful (map new_event es)
  all_lawful xs [] l o = tt
  all_lawful xs (e ∷ es) l o = (lawful xs e l.0 o.0, all_lawful (xs ++ e ∷ []) es l.1 o.1)

  all_spelled : (xs es : List PlainEvent) → AllByRecursion IsFormedEvent es → AreFine xs es → AllByRecursion IsFormedEvent (map new_event es)
  all_spelled xs [] f o = tt
  all_spelled xs (e ∷ es) f o = (spelled xs e f.0 o.0, all_spelled (xs ++ e ∷ []) es f.1 o.1)

  all_few : (es : List PlainEvent) → AllByRecursion HasFewParents es → AllByRecursion HasFewParents (map new_event es)
  all_few [] f = tt
  all_few (e ∷ es) f = (few e f.0, all_few es f.1)

  in_order : (xs es : List PlainEvent) → AreInOrder xs es → AreFine xs es → AreInOrder (map new_event xs) (map new_event es)
  in_order xs [] s o = tt
  in_order xs (e ∷ es) s o = (
    true_all (has_id (map new_event xs)) (referents_of (new_event e))
        (all_imply (There xs) (There (map new_event xs)) (λ r h. ids_same xs r ∙ h) (referents_of (new_event e)) (all_true (has_id xs) (referents_of (new_event e)) (ready xs e s.0 o.0))),
    subst (λ (l : List PlainEvent). AreInOrder l (map new_event es)) (map-append new_event xs (e ∷ [])) (in_order (xs ++ e ∷ []) es s.1 o.1),
  )

  own_fine : (xs : List PlainEvent) (e : PlainEvent) → IsLawful e → IsFormedEvent e → is_ready xs e ≡ true → OfOps (IsFine xs) e
  own_fine xs (Commit id mark branch author committer encoding comment parents ops aliases) l f r =
      fine xs ops l.5 f.1 (ready_ops xs parents ops r)
  own_fine xs (Blob id mark bytes) l f r = tt
  own_fine xs (Tag id name target tagger comment mark) l f r = tt
  own_fine xs (Reset id branch target) l f r = tt
  own_fine xs (Pass id line) l f r = tt

  pub fine_carries : (xs : List PlainEvent) → Carries (IsFine xs)
  fine_carries xs = record {
    deleting = λ mode content p h. (tt, h.1.1, tt);
    copying = λ source target c q below short mode content h.
        moved mode content q (target ++ drop (length source) q) (moved_path source target q c.1.1 below short h.1.1) h;
    renaming = λ source target c q below short mode content h.
        moved mode content q (target ++ drop (length source) q) (moved_path source target q c.1.1 below short h.1.1) h;
  }
    where
      moved : (mode : Mode) (content : Content) (p q : Bytes) → IsPath q → IsFine xs (Modify mode content p) → IsFine xs (Modify mode content q)
      moved Gitlink (OfBlob b) p q k h = absurd h.0
      moved Plain (OfBlob b) p q k h = (h.0, (h.1.0, k), h.2)
      moved Executable (OfBlob b) p q k h = (h.0, (h.1.0, k), h.2)
      moved Link (OfBlob b) p q k h = (h.0, (h.1.0, k), h.2)
      moved Gitlink (Object digits) p q k h = (h.0, (h.1.0, k), h.2)
      moved Plain (Object digits) p q k h = (h.0, (h.1.0, k), h.2)
      moved Executable (Object digits) p q k h = (h.0, (h.1.0, k), h.2)
      moved Link (Object digits) p q k h = (h.0, (h.1.0, k), h.2)

  -- ---- the whole history

  module _ (h : IsSound events) where
    pub fitting : AllByRecursion (OfNodes (Fits (tree events))) events
    fitting = let parts = in_parts events h in nodes_of_events (Fits (tree events)) events (trees_fit events parts.once parts.in_order)

    given : (xs es : List PlainEvent) → AllByRecursion IsLawful es → AllByRecursion IsFormedEvent es → AreInOrder xs es →
        AllByRecursion (OfNodes (Fits (tree events))) es → AllAfter (IsGiven matched events (λ ys. IsFine ys) fine_carries fine_more) xs es
    given xs [] l f s k = tt
    given xs (e ∷ es) l f s k =
        (record { ready = s.0; ops = own_fine xs e l.0 f.0 s.0; fits = k.0 }, given (xs ++ e ∷ []) es l.1 f.1 s.1 k.1)

    all_fine : AreFine [] events
    all_fine =
        let parts = in_parts events h in
        ops_follow matched events (λ ys. IsFine ys) fine_carries fine_more (given [] events parts.lawful parts.spelled parts.in_order fitting)

    abbrev new : List PlainEvent
    new = replaced_events matched events

    once : AreOnce new
    once = record {
      ids = λ id. let same = sums_same (of_id id) (λ e. ap one_if (one_same e id)) events in let one = (in_parts events h).once.ids id in omega arith;
      marks = λ m. let same = sums_same (of_mark m) (mark_same m) events in let one = (in_parts events h).once.marks m in omega arith;
    }

    order : AreInOrder [] new
    order = in_order [] events (in_parts events h).in_order all_fine

    -- the trees without the matched paths
    abbrev tree_left : ℕ → Option Tree
    tree_left c = left_of_tree matched (tree events c)

    new_fits : (es : List PlainEvent) → AllByRecursion (λ e. has_id events (id_of e) ≡ true) es → AllByRecursion (OfNodes (Fits (tree events))) es → AllByRecursion (OfNodes (Fits tree_left)) (map new_event es)
    new_fits [] k f = tt
    new_fits (Commit id mark branch author committer encoding comment parents ops aliases ∷ es) k f = (
      (fits_left matched (tree events) (λ c. tree_is (past events) c) id parents ops (h.trees id k.0) f.0.0, tt),
      new_fits es k.1 f.1,
    )
    new_fits (Blob id mark bytes ∷ es) k f = (tt, new_fits es k.1 f.1)
    new_fits (Tag id name target tagger comment mark ∷ es) k f = (tt, new_fits es k.1 f.1)
    new_fits (Reset id branch target ∷ es) k f = (tt, new_fits es k.1 f.1)
    new_fits (Pass id line ∷ es) k f = (tt, new_fits es k.1 f.1)

    pub replaced_trees : (c : ℕ) → IsCommitOf events c → tree new c ≡ left_of_tree matched (tree events c)
    replaced_trees c there = trees_solve tree_left new order (events_of_nodes (Fits tree_left) new (new_fits events (own_here events) fitting)) c (ids_same events (any.Commit c) ∙ there)

    some_left : (o : Option Tree) → IsSome o → IsSome (left_of_tree matched o)
    some_left (Some t) s = refl
    some_left None s = absurd cc

    pub replaced_sound : IsSound new
    replaced_sound =
        let parts = in_parts events h in
        from_parts new (record {
          lawful = all_lawful [] events parts.lawful all_fine;
          spelled = all_spelled [] events parts.spelled all_fine;
          few = all_few events parts.few;
          once = once;
          in_order = order;
          trees = λ c there. let was = sym (ids_same events (any.Commit c)) ∙ there in subst IsSome (sym (replaced_trees c was)) (some_left (tree events c) (h.trees c was));
        })
