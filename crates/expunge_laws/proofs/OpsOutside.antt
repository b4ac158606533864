-- Where paths stand apart, what names a matched path goes, and all else stays.
use Rattle.std.proofs.Common.{◌≡◌, ◌∙◌, ℕ, Bool, true, false, cond, not, List, [], ◌∷◌, ◌++◌, map, filter, inl, inr, refl, sym, ap, subst, true≢false, Option, Some, None, Result, Ok, Err}
use Rattle.std.specs.Prelude.{◌&&◌, ◌==◌, bytes_eq, IsSome, unwrap_or}
use Rattle.std.specs.List.{AllByRecursion}
use Rattle.std.proofs.lemmas.Bool.{cases_Bool, or_cases, or_parts}
use Rattle.plain_model.specs.declared.operation.FileOp.{FileOp}
use Rattle.plain_model.specs.declared.operation.FileOp.TheVariants.{Modify, Delete, Copy, Rename, DeleteAll}
use Rattle.plain_model.specs.declared.event.PlainEvent.{PlainEvent}
use Rattle.plain_model.specs.declared.event.PlainEvent.TheVariants.{Blob, Commit, Tag, Reset, Pass}
use Rattle.plain_model.specs.Histories.{Node, Past, begun, folded, if_ok, nodes, past, tree, tree_in}
use Rattle.plain_model.specs.Lookups.{id_of}
use Rattle.plain_model.specs.Paths.{Bytes, do_conflict, is_at_or_below, is_below}
use Rattle.plain_model.specs.Soundness.{IsSound, has_id}
use Rattle.plain_model.specs.Trees.{Refusal, Tree, apply, apply_all, subtree, where_path, ◌>>=◌}
use Rattle.history_laws.proofs.Lists.{all_reverse}
use Rattle.std.proofs.lemmas.Slice.Eq.{bytes_eq-Decides}
use Rattle.edit_laws.specs.Equations.{Fits}
use Rattle.edit_laws.proofs.Lists.{OfNodes, nodes_of_events, own_here}
use Rattle.edit_laws.proofs.Trees.{tree_here, tree_other}
use Rattle.squash_laws.specs.Takings.{is_none}
use Rattle.expunge_laws.specs.Apart.{AllOps, IsApart, KeepsClear, event_without}
use Rattle.expunge_laws.specs.Expunged.{replaced_event, replaced_events}
use Rattle.expunge_laws.specs.Replaced.{deletes_of, replaced, replaced_all, restricted}
use Rattle.expunge_laws.specs.Untouched.{may_touch}
use Rattle.expunge_laws.proofs.Carried.{AllPut, Carries, IfTree, MayPut, folded_put}
use Rattle.expunge_laws.proofs.Changed.{fitting}

module _ (matched : Bytes → Bool) where
  -- the operations that name no matched path
  abbrev ops_outside : List FileOp → List FileOp
  ops_outside ops = filter (λ op. not (may_touch matched op)) ops

  -- ---- trees have nothing but what operations put

  carries : (p : Bytes) → Carries (KeepsClear matched p)
  carries p = record {
    deleting = λ mode content q h. tt;
    copying = λ source target c q below short mode content h. absurd c;
    renaming = λ source target c q below short mode content h. absurd c;
  }

  begun_clear : (p : Bytes) (tree_of : ℕ → Option Tree) → ((c : ℕ) → IfTree (KeepsClear matched p) (tree_of c)) → (ps : List ℕ) → IfTree (KeepsClear matched p) (begun tree_of ps)
  begun_clear p tree_of f [] = tt
  begun_clear p tree_of f (q ∷ ps) = f q

  tree_clear : (p : Bytes) (older : Past) → AllByRecursion (λ n. AllByRecursion (KeepsClear matched p) n.ops) older → (c : ℕ) → IfTree (KeepsClear matched p) (tree_in older c)
  tree_clear p [] a c = tt
  tree_clear p (n ∷ older) a c =
      elim (cases_Bool (n.id == c)) [
        | inl same ↦
            subst (IfTree (KeepsClear matched p)) (sym (tree_here n older c same))
            (folded_put (KeepsClear matched p) (carries p) n.ops (begun (tree_in older) n.parents) a.0 (begun_clear p (tree_in older) (λ d. tree_clear p older a.1 d) n.parents))
        | inr other ↦ subst (IfTree (KeepsClear matched p)) (sym (tree_other n older c other)) (tree_clear p older a.1 c)
      ]

  -- ---- one operation

  none_conflicts : (p : Bytes) (t : Tree) → AllPut (KeepsClear matched p) t → where_path (do_conflict p) (restricted matched t) ≡ []
  none_conflicts p [] a = refl
  none_conflicts p (e ∷ es) a = go (matched e.0) refl a.0 (none_conflicts p es a.1)
    where
      go : (b : Bool) → matched e.0 ≡ b → MayPut (KeepsClear matched p) e → where_path (do_conflict p) (restricted matched es) ≡ [] →
          where_path (do_conflict p) (cond (not b) (e ∷ restricted matched es) (restricted matched es)) ≡ []
      go true is h rest = rest
      go false is h rest = ap (λ b. cond b (e ∷ where_path (do_conflict p) (restricted matched es)) (where_path (do_conflict p) (restricted matched es))) (h is) ∙ rest

  -- what is at or below a matched path, and has none in its way, is matched
  all_matched : (p q : Bytes) → matched p ≡ true → (matched q ≡ false → do_conflict p q ≡ false) → is_at_or_below p q ≡ true → matched q ≡ true
  all_matched p q m h below = elim (cases_Bool (matched q)) [
    | inl it ↦ it
    | inr other ↦ elim (or_cases (bytes_eq p q) (is_below p q) below) [
      | inl same ↦ ap matched (sym ((bytes_eq-Decides p q).0 same)) ∙ m
      | inr is ↦ absurd (true≢false (sym is ∙ (or_parts (is_below p q) (is_below q p) (h other)).0))
    ]
  ]

  none_below : (p : Bytes) → matched p ≡ true → (t : Tree) → AllPut (KeepsClear matched p) t → restricted matched (subtree p t) ≡ []
  none_below p m [] a = refl
  none_below p m (e ∷ es) a = go (is_at_or_below p e.0) refl (none_below p m es a.1)
    where
      go : (b : Bool) → is_at_or_below p e.0 ≡ b → restricted matched (subtree p es) ≡ [] → restricted matched (cond b (e ∷ subtree p es) (subtree p es)) ≡ []
      go false is rest = rest
      go true is rest = ap (λ b. cond (not b) (e ∷ restricted matched (subtree p es)) (restricted matched (subtree p es))) (all_matched p e.0 m a.0 is) ∙ rest

  module _ (events : List PlainEvent) where
    -- a tree has nothing in the way of a path that no operation is in the way of
    abbrev IsClear : Tree → Type 0
    IsClear t = (p : Bytes) → AllOps (KeepsClear matched p) events → AllPut (KeepsClear matched p) t

    -- the operation keeps clear of such paths
    abbrev Clears : FileOp → Type 0
    Clears op = (p : Bytes) → AllOps (KeepsClear matched p) events → KeepsClear matched p op

    one : (op : FileOp) (old new : Tree) → IsApart matched events op → IsClear old → replaced matched op old new ≡ ops_outside (op ∷ [])
    one (Modify mode content p) old new s h = go (matched p) refl
      where
        go : (b : Bool) → matched p ≡ b → cond b (deletes_of (where_path (do_conflict p) (restricted matched old))) (Modify mode content p ∷ []) ≡ cond (not b) (Modify mode content p ∷ []) []
        go true is = ap deletes_of (none_conflicts p old (h p (s is)))
        go false is = refl
    one (Delete p) old new s h = go (matched p) refl
      where
        go : (b : Bool) → matched p ≡ b → cond (b && is_none (restricted matched (subtree p old))) [] (Delete p ∷ []) ≡ cond (not b) (Delete p ∷ []) []
        go true is = ap (λ (t : Tree). cond (is_none t) [] (Delete p ∷ [])) (none_below p is old (h p (s is)))
        go false is = refl
    one (Copy source target) old new s h = absurd s
    one (Rename source target) old new s h = absurd s
    one DeleteAll old new s h = refl

    -- ---- the operations of a commit

    next_clear : (op : FileOp) (old new : Tree) → apply op old ≡ Ok new → Clears op → IsClear old → IsClear new
    next_clear op old new is k h p free =
        subst (IfTree (KeepsClear matched p)) (ap (λ (r : Result Tree Refusal). if_ok (r >>= apply_all [])) is)
        (folded_put (KeepsClear matched p) (carries p) (op ∷ []) (Some old) (k p free, tt) (h p free))

    joined : (op : FileOp) (ops : List FileOp) → ops_outside (op ∷ []) ++ ops_outside ops ≡ ops_outside (op ∷ ops)
    joined op ops = elim (may_touch matched op) as (λ b. cond (not b) (op ∷ []) [] ++ ops_outside ops ≡ cond (not b) (op ∷ ops_outside ops) (ops_outside ops)) [ true ↦ refl | false ↦ refl ]

    all_ops : (ops : List FileOp) (old : Tree) → IsSome (folded ops (Some old)) → AllByRecursion (IsApart matched events) ops → AllByRecursion Clears ops → IsClear old → replaced_all matched ops old ≡ ops_outside ops
    all_ops [] old s a k h = refl
    all_ops (op ∷ ops) old s a k h = go (apply op old) refl s (λ new x y. all_ops ops new x a.1 k.1 y)
      where
        go : (r : Result Tree Refusal) → apply op old ≡ r → IsSome (if_ok (r >>= apply_all ops)) → ((new : Tree) → IsSome (folded ops (Some new)) → IsClear new → replaced_all matched ops new ≡ ops_outside ops)
            → elim r [ Ok new ↦ replaced matched op old new ++ replaced_all matched ops new | Err why ↦ [] ] ≡ ops_outside (op ∷ ops)
        go (Ok new) is s f = (λ i. one op old new a.0 h i ++ f new s (next_clear op old new is k.0 h) i) ∙ joined op ops
        go (Err why) is s f = absurd (true≢false (sym s))

    abbrev IfClear : Option Tree → Type 0
    IfClear o = (p : Bytes) → AllOps (KeepsClear matched p) events → IfTree (KeepsClear matched p) o

    -- those of a commit that has a tree
    from_begun : (ops : List FileOp) (o : Option Tree) → IsSome (folded ops o) → AllByRecursion (IsApart matched events) ops → AllByRecursion Clears ops → IfClear o → replaced_all matched ops (unwrap_or o []) ≡ ops_outside ops
    from_begun ops None s a k h = absurd (true≢false (sym s))
    from_begun ops (Some t) s a k h = all_ops ops t s a k h

    -- ---- the whole history

    trees_clear : (c : ℕ) → IfClear (tree events c)
    trees_clear c p free = tree_clear p (past events) (all_reverse (λ n. AllByRecursion (KeepsClear matched p) n.ops) (nodes events) free) c

    clearing_ops : (ops : List FileOp) → ((p : Bytes) → AllOps (KeepsClear matched p) events → AllByRecursion (KeepsClear matched p) ops) → AllByRecursion Clears ops
    clearing_ops [] f = tt
    clearing_ops (op ∷ ops) f = (λ p free. (f p free).0, clearing_ops ops (λ p free. (f p free).1))

    clearing : (ns : List Node) → ((p : Bytes) → AllOps (KeepsClear matched p) events → AllByRecursion (λ n. AllByRecursion (KeepsClear matched p) n.ops) ns) → AllByRecursion (λ n. AllByRecursion Clears n.ops) ns
    clearing [] f = tt
    clearing (n ∷ ns) f = (clearing_ops n.ops (λ p free. (f p free).0), clearing ns (λ p free. (f p free).1))

    module _ (h : IsSound events) where
      abbrev GoesIf : PlainEvent → Type 0
      GoesIf e = AllOps (IsApart matched events) (e ∷ []) → replaced_event matched events e ≡ event_without (may_touch matched) e

      each_goes : (es : List PlainEvent) → AllByRecursion (λ e. has_id events (id_of e) ≡ true) es → AllByRecursion (OfNodes (Fits (tree events))) es → AllByRecursion (OfNodes (λ n. AllByRecursion Clears n.ops)) es → AllByRecursion GoesIf es
      each_goes [] k f c = tt
      each_goes (Commit id mark branch author committer encoding comment parents ops aliases ∷ es) k f c = (
        λ a. ap (λ (l : List FileOp). Commit id mark branch author committer encoding comment parents l aliases)
            (from_begun ops (begun (tree events) parents) (subst IsSome f.0.0 (h.trees id k.0)) a.0 c.0.0 (λ p free. begun_clear p (tree events) (λ d. trees_clear d p free) parents)),
        each_goes es k.1 f.1 c.1,
      )
      each_goes (Blob id mark bytes ∷ es) k f c = (λ a. refl, each_goes es k.1 f.1 c.1)
      each_goes (Tag id name target tagger comment mark ∷ es) k f c = (λ a. refl, each_goes es k.1 f.1 c.1)
      each_goes (Reset id branch target ∷ es) k f c = (λ a. refl, each_goes es k.1 f.1 c.1)
      each_goes (Pass id line ∷ es) k f c = (λ a. refl, each_goes es k.1 f.1 c.1)

      pub all_go : AllByRecursion GoesIf events
      all_go =
          each_goes events (own_here events) (fitting matched events h)
          (nodes_of_events (λ n. AllByRecursion Clears n.ops) events (clearing (nodes events) (λ p free. free)))

      goes_all : (es : List PlainEvent) → AllByRecursion GoesIf es → AllByRecursion (OfNodes (λ n. AllByRecursion (IsApart matched events) n.ops)) es → map (replaced_event matched events) es ≡ map (event_without (may_touch matched)) es
      goes_all [] g a = refl
      goes_all (e ∷ es) g a = λ i. g.0 a.0 i ∷ goes_all es g.1 a.1 i

      pub all_outside : AllOps (IsApart matched events) events → replaced_events matched events ≡ map (event_without (may_touch matched)) events
      all_outside a = goes_all events all_go (nodes_of_events (λ n. AllByRecursion (IsApart matched events) n.ops) events a)
