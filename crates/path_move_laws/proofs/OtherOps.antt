-- A history whose commits have other operations, of which each names nothing but what is earlier, and which fit some
-- trees: it is sound, and has these trees.
use Rattle.std.proofs.Common.{◌≡◌, ℕ, ◌+◌, true, cond, List, [], ◌∷◌, ◌++◌, length, map, refl, sym, ap, subst, ◌∙◌, arith, Option}
use Rattle.std.specs.Prelude.{◌||◌, flat_map, IsSome, option_to_list, ◌==◌}
use Rattle.std.specs.List.{AllByRecursion}
use Rattle.std.proofs.lemmas.List.{map-append}
use Rattle.plain_model.specs.declared.id.AnyId.{AnyId}
use Rattle.plain_model.specs.declared.id.AnyId.TheVariants as any
use Rattle.plain_model.specs.declared.operation.FileOp.{FileOp}
use Rattle.plain_model.specs.declared.event.PlainEvent.{PlainEvent}
use Rattle.plain_model.specs.declared.event.PlainEvent.TheVariants.{Blob, Commit, Tag, Reset, Pass}
use Rattle.plain_model.specs.Histories.{tree}
use Rattle.plain_model.specs.Lookups.{alias_count, id_of, op_blobs, referents_of, same_id}
use Rattle.plain_model.specs.Snapshots.{blob_bytes, map_tree, shown, shown_content}
use Rattle.plain_model.specs.Snapshots.ShownContent.{ShownBytes}
use Rattle.plain_model.specs.declared.operation.Content.{Content}
use Rattle.plain_model.specs.declared.operation.Content.TheVariants.{Blob as OfBlob, Object}
use Rattle.plain_model.specs.Soundness.{IsCommitOf, IsFormedEvent, IsFormedOp, IsSound, has_id}
use Rattle.plain_model.specs.Streams.{is_among, is_marked}
use Rattle.plain_model.specs.Trees.{Tree}
use Rattle.edit_laws.specs.Equations.{Fits}
use Rattle.edit_laws.specs.Parts.{AreInOrder, AreOnce, HasFewParents, IsLawful, IsLawfulOp, of_id, of_mark, one_if, tally}
use Rattle.edit_laws.specs.Settling.{is_ready}
use Rattle.history_laws.proofs.Ids.{has_id_append}
use Rattle.history_laws.proofs.Lists.{all_imply, all_join}
use Rattle.edit_laws.proofs.Lists.{OfNodes, all_flat, all_front, all_true, events_of_nodes, own_id, true_all}
use Rattle.edit_laws.proofs.Sound.{from_parts, in_parts}
use Rattle.edit_laws.proofs.Trees.{trees_solve}
use Rattle.edit_laws.proofs.Fine.{IsFine, There}
use Rattle.expunge_laws.proofs.Earlier.{AllAfter, OfOps}
use Rattle.path_move_laws.specs.Moves.{with_ops_for}

module _ (ops_for : List ℕ → List FileOp → List FileOp) where
  abbrev pub new_event : PlainEvent → PlainEvent
  new_event e = with_ops_for ops_for e

  -- ---- each event

  pub same_id_of : (e : PlainEvent) → id_of (new_event e) ≡ id_of e
  same_id_of (Commit id mark branch author committer encoding comment parents ops aliases) = refl
  same_id_of (Blob id mark bytes) = refl
  same_id_of (Tag id name target tagger comment mark) = refl
  same_id_of (Reset id branch target) = refl
  same_id_of (Pass id line) = refl

  one_same : (e : PlainEvent) (id : AnyId) → has_id (new_event e ∷ []) id ≡ has_id (e ∷ []) id
  one_same e id = own_id (new_event e) id ∙ ap (same_id id) (same_id_of e) ∙ sym (own_id e id)

  pub ids_same : (es : List PlainEvent) (id : AnyId) → has_id (map new_event es) id ≡ has_id es id
  ids_same [] id = refl
  ids_same (e ∷ es) id =
      has_id_append (new_event e ∷ []) (map new_event es) id
      ∙ (λ i. one_same e id i || ids_same es id i)
      ∙ sym (has_id_append (e ∷ []) es id)

  sums_same : (f : PlainEvent → ℕ) → ((e : PlainEvent) → f (new_event e) ≡ f e) → (es : List PlainEvent) → tally f (map new_event es) ≡ tally f es
  sums_same f same [] = refl
  sums_same f same (e ∷ es) = λ i. same e i + sums_same f same es i

  mark_same : (m : ℕ) (e : PlainEvent) → of_mark m (new_event e) ≡ of_mark m e
  mark_same m (Commit id mark branch author committer encoding comment parents ops aliases) = refl
  mark_same m (Blob id mark bytes) = refl
  mark_same m (Tag id name target tagger comment mark) = refl
  mark_same m (Reset id branch target) = refl
  mark_same m (Pass id line) = refl

  few : (e : PlainEvent) → HasFewParents e → HasFewParents (new_event e)
  few (Commit id mark branch author committer encoding comment parents ops aliases) f = f
  few (Blob id mark bytes) f = f
  few (Tag id name target tagger comment mark) f = f
  few (Reset id branch target) f = f
  few (Pass id line) f = f

  lawful : (xs : List PlainEvent) (e : PlainEvent) → IsLawful e → OfOps (IsFine xs) (new_event e) → IsLawful (new_event e)
  lawful xs (Commit id mark branch author committer encoding comment parents ops aliases) l o = (l.0, l.1, l.2, l.3, l.4, all_imply (IsFine xs) IsLawfulOp (λ op h. h.0) (ops_for parents ops) o, l.6)
  lawful xs (Blob id mark bytes) l o = l
  lawful xs (Tag id name target tagger comment mark) l o = l
  lawful xs (Reset id branch target) l o = l
  lawful xs (Pass id line) l o = l

  spelled : (xs : List PlainEvent) (e : PlainEvent) → IsFormedEvent e → OfOps (IsFine xs) (new_event e) → IsFormedEvent (new_event e)
  spelled xs (Commit id mark branch author committer encoding comment parents ops aliases) f o =
      (f.0, all_imply (IsFine xs) IsFormedOp (λ op h. h.1) (ops_for parents ops) o, f.2)
  spelled xs (Blob id mark bytes) f o = f
  spelled xs (Tag id name target tagger comment mark) f o = f
  spelled xs (Reset id branch target) f o = f
  spelled xs (Pass id line) f o = f

  ready : (xs : List PlainEvent) (e : PlainEvent) → is_ready xs e ≡ true → OfOps (IsFine xs) (new_event e) → is_ready xs (new_event e) ≡ true
  ready xs (Commit id mark branch author committer encoding comment parents ops aliases) r o =
      let new = ops_for parents ops in
      true_all (has_id xs) (map any.Commit parents ++ flat_map op_blobs new)
      (all_join (There xs) (map any.Commit parents) (flat_map op_blobs new)
      (all_front (There xs) (map any.Commit parents) (flat_map op_blobs ops) (all_true (has_id xs) (map any.Commit parents ++ flat_map op_blobs ops) r))
      (all_flat (IsFine xs) (There xs) op_blobs (λ op h. h.2) new o))
  ready xs (Blob id mark bytes) r o = r
  ready xs (Tag id name target tagger comment mark) r o = r
  ready xs (Reset id branch target) r o = r
  ready xs (Pass id line) r o = r

  -- ---- all events

  -- the new operations name nothing but what is earlier
  abbrev pub AreFine : List PlainEvent → List PlainEvent → Type 0
  AreFine xs es = AllAfter (λ ys e. OfOps (IsFine ys) (new_event e)) xs es

  all_lawful : (xs es : List PlainEvent) → AllByRecursion IsLawful es → AreFine xs es → AllByRecursion IsLawful (map new_event es)
  all_lawful xs [] l o = tt
  all_lawful xs (e ∷ es) l o = (lawful xs e l.0 o.0, all_lawful (xs ++ e ∷ []) es l.1 o.1)

  all_spelled : (xs es : List PlainEvent) → AllByRecursion IsFormedEvent es → AreFine xs es → AllByRecursion IsFormedEvent (map new_event es)
  all_spelled xs [] f o = tt
  all_spelled xs (e ∷ es) f o = (spelled xs e f.0 o.0, all_spelled (xs ++ e ∷ []) es f.1 o.1)

  pub all_few : (es : List PlainEvent) → AllByRecursion HasFewParents es → AllByRecursion HasFewParents (map new_event es)
  all_few [] f = tt
  all_few (e ∷ es) f = (few e f.0, all_few es f.1)

  in_order : (xs es : List PlainEvent) → AreInOrder xs es → AreFine xs es → AreInOrder (map new_event xs) (map new_event es)
  in_order xs [] s o = tt
  in_order xs (e ∷ es) s o = (
    true_all (has_id (map new_event xs)) (referents_of (new_event e))
        (all_imply (There xs) (There (map new_event xs)) (λ r h. ids_same xs r ∙ h) (referents_of (new_event e)) (all_true (has_id xs) (referents_of (new_event e)) (ready xs e s.0 o.0))),
    subst (λ (l : List PlainEvent). AreInOrder l (map new_event es)) (map-append new_event xs (e ∷ [])) (in_order (xs ++ e ∷ []) es s.1 o.1),
  )

  -- ---- what is counted and shown

  pub aliases_same : (es : List PlainEvent) → alias_count (map new_event es) ≡ alias_count es
  aliases_same [] = refl
  aliases_same (Commit id mark branch author committer encoding comment parents ops aliases ∷ es) =
      ap (λ n. length aliases + n) (aliases_same es)
  aliases_same (Blob id mark bytes ∷ es) = aliases_same es
  aliases_same (Tag id name target tagger comment mark ∷ es) = aliases_same es
  aliases_same (Reset id branch target ∷ es) = aliases_same es
  aliases_same (Pass id line ∷ es) = aliases_same es

  pub marks_same : (m : ℕ) (es : List PlainEvent) → is_marked (map new_event es) m ≡ is_marked es m
  marks_same m [] = refl
  marks_same m (Commit id mark branch author committer encoding comment parents ops aliases ∷ es) =
      ap (λ b. (mark == m) || (is_among aliases m || b)) (marks_same m es)
  marks_same m (Blob id mark bytes ∷ es) = ap (λ b. (mark == m) || b) (marks_same m es)
  marks_same m (Tag id name target tagger comment mark ∷ es) = ap (λ b. is_among (option_to_list mark) m || b) (marks_same m es)
  marks_same m (Reset id branch target ∷ es) = marks_same m es
  marks_same m (Pass id line ∷ es) = marks_same m es

  blobs_same : (es : List PlainEvent) (b : ℕ) → blob_bytes (map new_event es) b ≡ blob_bytes es b
  blobs_same [] b = refl
  blobs_same (Blob id mark bytes ∷ es) b = ap (cond (id == b) bytes) (blobs_same es b)
  blobs_same (Commit id mark branch author committer encoding comment parents ops aliases ∷ es) b = blobs_same es b
  blobs_same (Tag id name target tagger comment mark ∷ es) b = blobs_same es b
  blobs_same (Reset id branch target ∷ es) b = blobs_same es b
  blobs_same (Pass id line ∷ es) b = blobs_same es b

  content_same : (es : List PlainEvent) (content : Content) → shown_content (map new_event es) content ≡ shown_content es content
  content_same es (OfBlob b) = ap ShownBytes (blobs_same es b)
  content_same es (Object digits) = refl

  -- the same bytes are shown
  pub shown_same : (es : List PlainEvent) (t : Tree) → map_tree (shown (map new_event es)) t ≡ map_tree (shown es) t
  shown_same es [] = refl
  shown_same es (e ∷ t) = λ i. (e.0, record { mode = e.1.mode; content = content_same es e.1.content i }) ∷ shown_same es t i

  -- ---- the whole history

  module _ (events : List PlainEvent) (h : IsSound events) (fine : AreFine [] events) (new_tree : ℕ → Option Tree)
      (fits : AllByRecursion (OfNodes (Fits new_tree)) (map new_event events))
      (some : (c : ℕ) → IsCommitOf events c → IsSome (new_tree c)) where
    abbrev new : List PlainEvent
    new = map new_event events

    once : AreOnce new
    once = record {
      ids = λ id. let same = sums_same (of_id id) (λ e. ap one_if (one_same e id)) events in let one = (in_parts events h).once.ids id in omega arith;
      marks = λ m. let same = sums_same (of_mark m) (mark_same m) events in let one = (in_parts events h).once.marks m in omega arith;
    }

    order : AreInOrder [] new
    order = in_order [] events (in_parts events h).in_order fine

    pub other_trees : (c : ℕ) → IsCommitOf events c → tree new c ≡ new_tree c
    other_trees c there = trees_solve new_tree new order (events_of_nodes (Fits new_tree) new fits) c (ids_same events (any.Commit c) ∙ there)

    pub other_sound : IsSound new
    other_sound =
        let parts = in_parts events h in
        from_parts new (record {
          lawful = all_lawful [] events parts.lawful fine;
          spelled = all_spelled [] events parts.spelled fine;
          few = all_few events parts.few;
          once = once;
          in_order = order;
          trees = λ c there. let was = sym (ids_same events (any.Commit c)) ∙ there in subst IsSome (sym (other_trees c was)) (some c was);
        })
