-- The operations of a commit on other parents name blobs that are earlier.
use Rattle.edit_laws.specs.Puts.{puts_of}
use Rattle.std.proofs.Common.{◌≡◌, ℕ, true, false, List, [], ◌∷◌, ◌++◌, map, refl, sym, ap, subst, ◌∙◌, IsTrue, Option, Some, None}
use Rattle.std.specs.Prelude.{flat_map, unwrap_or, if◌then◌else◌}
use Rattle.std.specs.List.{AllByRecursion}
use Rattle.std.proofs.lemmas.List.Concat.{flat_map-append}
use Rattle.plain_model.specs.declared.id.AnyId.TheVariants as any
use Rattle.plain_model.specs.declared.operation.Content.{Content}
use Rattle.plain_model.specs.declared.operation.Content.TheVariants.{Blob as OfBlob, Object}
use Rattle.plain_model.specs.declared.operation.Entry.{Entry}
use Rattle.plain_model.specs.declared.operation.FileOp.{FileOp}
use Rattle.plain_model.specs.declared.operation.FileOp.TheVariants.{Modify, Delete, Copy, Rename, DeleteAll}
use Rattle.plain_model.specs.declared.operation.Mode.{Mode}
use Rattle.plain_model.specs.declared.event.PlainEvent.{PlainEvent}
use Rattle.plain_model.specs.declared.event.PlainEvent.TheVariants.{Blob, Commit, Tag, Reset, Pass}
use Rattle.plain_model.specs.Histories.{Node, nodes, past, tree}
use Rattle.plain_model.specs.Lookups.{op_blobs}
use Rattle.plain_model.specs.Paths.{Bytes}
use Rattle.plain_model.specs.Soundness.{IsSound, has_id}
use Rattle.plain_model.specs.Trees.{Tree}
use Rattle.history_laws.proofs.Commits.{nodes_append}
use Rattle.history_laws.proofs.Lists.{all_imply, all_join, all_reverse}
use Rattle.edit_laws.specs.Equations.{Fits}
use Rattle.edit_laws.specs.Parts.{AreInOrder}
use Rattle.edit_laws.specs.Settling.{is_ready}
use Rattle.edit_laws.proofs.Lists.{OfNodes, all_front, all_rear, all_true, events_of_nodes}
use Rattle.edit_laws.proofs.Shown.{IfTree, Puts, all_in}
use Rattle.edit_laws.proofs.Settles.{complete}
use Rattle.edit_laws.proofs.Sound.{in_parts}
use Rattle.edit_laws.proofs.Trees.{trees_fit, trees_solve}
use Rattle.commit_laws.proofs.Given.{IsHere}
use Rattle.edit_laws.proofs.Fine.{There, parted_blobs}
use Rattle.reparent_laws.specs.Reparent.{have_same_first, ops_onto}
use Rattle.reparent_laws.specs.WrittenOut.{begun_tree, written_out}

-- ---- a list in order

order_front : (earlier xs ys : List PlainEvent) → AreInOrder earlier (xs ++ ys) → AreInOrder earlier xs
order_front earlier [] ys s = tt
order_front earlier (x ∷ xs) ys s = (s.0, order_front (earlier ++ x ∷ []) xs ys s.1)

-- ---- blobs that are there

-- the blob of an entry is there, at whatever path
abbrev IsThereIn : List PlainEvent → Entry → Type 0
IsThereIn xs e = AllByRecursion (There xs) (op_blobs (Modify e.mode e.content []))

any_path : (xs : List PlainEvent) (mode : Mode) (content : Content) (p q : Bytes) → AllByRecursion (There xs) (op_blobs (Modify mode content p)) → AllByRecursion (There xs) (op_blobs (Modify mode content q))
any_path xs mode (OfBlob b) p q h = h
any_path xs mode (Object digits) p q h = tt

op_puts : (xs : List PlainEvent) (op : FileOp) → AllByRecursion (There xs) (op_blobs op) → Puts (IsThereIn xs) op
op_puts xs (Modify mode content path) h = any_path xs mode content path [] h
op_puts xs (Delete path) h = tt
op_puts xs (Copy source target) h = tt
op_puts xs (Rename source target) h = tt
op_puts xs DeleteAll h = tt

abbrev PutsThere : List PlainEvent → Node → Type 0
PutsThere xs n = AllByRecursion (Puts (IsThereIn xs)) n.ops

event_puts : (xs : List PlainEvent) (e : PlainEvent) → is_ready xs e ≡ true → OfNodes (PutsThere xs) e
event_puts xs (Commit id mark branch author committer encoding comment parents ops aliases) r =
    let refs = all_true (has_id xs) (map any.Commit parents ++ flat_map op_blobs ops) r in
    let blobs = parted_blobs xs ops (all_rear (There xs) (map any.Commit parents) (flat_map op_blobs ops) refs) in
    (all_imply (λ op. AllByRecursion (There xs) (op_blobs op)) (Puts (IsThereIn xs)) (op_puts xs) ops blobs, tt)
event_puts xs (Blob id mark bytes) r = tt
event_puts xs (Tag id name target tagger comment mark) r = tt
event_puts xs (Reset id branch target) r = tt
event_puts xs (Pass id line) r = tt

-- each blob of the tree of a commit is in a list in order
tree_there : (xs : List PlainEvent) → AreInOrder [] xs → (p : ℕ) → IfTree (IsThereIn xs) (tree xs p)
tree_there xs s p =
    all_in (IsThereIn xs) (past xs)
    (all_reverse (PutsThere xs) (nodes xs) (events_of_nodes (PutsThere xs) xs (all_imply (λ e. IsTrue (is_ready xs e)) (OfNodes (PutsThere xs)) (event_puts xs) xs (complete [] xs s))))
    p

puts_there : (xs : List PlainEvent) (t : Tree) → AllByRecursion (λ x. IsThereIn xs x.1) t → AllByRecursion (There xs) (flat_map op_blobs (puts_of t))
puts_there xs [] a = tt
puts_there xs (e ∷ t) a =
    all_join (There xs) (op_blobs (Modify e.1.mode e.1.content e.0)) (flat_map op_blobs (puts_of t)) (any_path xs e.1.mode e.1.content [] e.0 a.0) (puts_there xs t a.1)

module _ (events : List PlainEvent) (h : IsSound events) where
  -- ---- what they name

  module _ (xs : List PlainEvent) (e : PlainEvent) (es : List PlainEvent) (is : events ≡ xs ++ e ∷ es) where
    front_order : AreInOrder [] xs
    front_order = order_front [] xs (e ∷ es) (subst (AreInOrder []) is (in_parts events h).in_order)

    front_fits : AllByRecursion (Fits (tree events)) (nodes xs)
    front_fits =
        let parts = in_parts events h in
        all_front (Fits (tree events)) (nodes xs) (nodes (e ∷ es))
        (subst (AllByRecursion (Fits (tree events))) (ap nodes is ∙ nodes_append xs (e ∷ es)) (trees_fit events parts.once parts.in_order))

    front_tree : (p : ℕ) → IsHere xs p → tree xs p ≡ tree events p
    front_tree p here = trees_solve (tree events) xs front_order front_fits p here

    begun_blobs : (parents : List ℕ) → AllByRecursion (IsHere xs) parents → AllByRecursion (There xs) (flat_map op_blobs (puts_of (begun_tree events parents)))
    begun_blobs [] a = tt
    begun_blobs (p ∷ parents) a = go (tree events p) refl
      where
        go : (o : Option Tree) → tree events p ≡ o → AllByRecursion (There xs) (flat_map op_blobs (puts_of (unwrap_or o [])))
        go None k = tt
        go (Some t) k = puts_there xs t (subst (IfTree (IsThereIn xs)) (front_tree p a.0 ∙ k) (tree_there xs front_order p))

    -- blobs that are there before the commit
    pub onto_blobs : (new parents : List ℕ) (ops : List FileOp) → AllByRecursion (IsHere xs) parents → AllByRecursion (There xs) (flat_map op_blobs ops) →
        AllByRecursion (There xs) (flat_map op_blobs (ops_onto events new parents ops))
    onto_blobs new parents ops a b =
        elim (have_same_first parents new) as (λ x. AllByRecursion (There xs) (flat_map op_blobs (if x then ops else written_out events parents ops))) [
          | true ↦ b
          | false ↦
              let puts = puts_of (begun_tree events parents) in
              subst (AllByRecursion (There xs)) (sym (flat_map-append op_blobs puts ops))
              (all_join (There xs) (flat_map op_blobs puts) (flat_map op_blobs ops) (begun_blobs parents a) b)
        ]
