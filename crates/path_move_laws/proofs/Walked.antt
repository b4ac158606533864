-- The trees of a history without a fault may all be mapped, and its mapped operations name nothing but what is earlier.
use Rattle.std.proofs.Common.{◌≡◌, ℕ, ◌+◌, Bool, true, false, cond, append-nil, append_assoc, not, List, [], ◌∷◌, ◌++◌, filter, length, map, refl, sym, ap, subst, ◌∙◌, inl, inr, eqb-true, true≢false, is_some, nat_lt, Option, Some, None, option_map, Result, Ok, Err}
use Rattle.std.specs.Prelude.{◌||◌, ◌&&◌, ◌==◌, flat_map, IsSome, unwrap_or}
use Rattle.std.specs.List.{AllByRecursion, list_all}
use Rattle.std.proofs.lemmas.Bool.{and_parts, cases_Bool, or_cases, or_parts}
use Rattle.plain_model.specs.declared.fault.Fault.{Fault}
use Rattle.plain_model.specs.declared.id.AnyId.TheVariants as any
use Rattle.plain_model.specs.declared.limit.TheConstants.{MAX_PATH_BYTES}
use Rattle.plain_model.specs.declared.operation.Mode.{Mode}
use Rattle.plain_model.specs.declared.operation.Mode.TheVariants.{Plain, Executable, Link, Gitlink}
use Rattle.plain_model.specs.declared.operation.Content.{Content}
use Rattle.plain_model.specs.declared.operation.Content.TheVariants.{Blob as OfBlob, Object}
use Rattle.plain_model.specs.declared.operation.FileOp.{FileOp}
use Rattle.plain_model.specs.declared.operation.FileOp.TheVariants.{Modify, Delete, Copy, Rename, DeleteAll}
use Rattle.plain_model.specs.declared.path.PathFault.{PathFault}
use Rattle.plain_model.specs.declared.event.PlainEvent.{PlainEvent}
use Rattle.plain_model.specs.declared.event.PlainEvent.TheVariants.{Blob, Commit, Tag, Reset, Pass}
use Rattle.plain_model.specs.Histories.{begun, folded, if_ok, tree}
use Rattle.plain_model.specs.Lookups.{id_of, op_blobs}
use Rattle.plain_model.specs.Paths.{Bytes, IsPath, path_fault}
use Rattle.plain_model.specs.Soundness.{IsCommitOf, IsFormedEvent, IsSound, has_id}
use Rattle.plain_model.specs.Trees.{Refusal, Tree, apply, apply_all, at, has, has_long_path, where_path, ◌>>=◌}
use Rattle.edit_laws.specs.Equations.{Fits}
use Rattle.edit_laws.specs.Parts.{AreInOrder, IsLawful}
use Rattle.edit_laws.specs.Settling.{is_ready}
use Rattle.history_laws.proofs.Ids.{has_id_append}
use Rattle.history_laws.proofs.Lists.{all_imply, all_join}
use Rattle.edit_laws.proofs.Lists.{OfNodes, all_filter, all_true, nodes_of_events, own_here}
use Rattle.edit_laws.proofs.Sound.{in_parts}
use Rattle.edit_laws.proofs.Trees.{trees_fit}
use Rattle.edit_laws.proofs.Fine.{IsFine, fine, ready_ops}
use Rattle.expunge_laws.specs.Replaced.{deletes_of, has_entry}
use Rattle.edit_laws.specs.Puts.{puts_of}
use Rattle.expunge_laws.proofs.Carried.{AllPut, IfTree, MayPut, all_deletes, all_put_all, all_puts, all_where, folded_put}
use Rattle.expunge_laws.proofs.Changed.{fine_carries, fine_more}
use Rattle.expunge_laws.proofs.Earlier.{AllAfter, OfOps}
use Rattle.expunge_laws.proofs.TreesLeft.{both_apply, begun_with}
use Rattle.path_move_laws.specs.Apart.{MayMove}
use Rattle.path_move_laws.specs.Difference.{difference}
use Rattle.path_move_laws.specs.Images.{image, with_images}
use Rattle.path_move_laws.specs.MovedOps.{first_fault, is_path, leads_to, mapped_op, moved_all, moved_op, names_paths}
use Rattle.path_move_laws.specs.Moves.{event_fault, first_of, moved_event, moved_events, moved_ops}
use Rattle.path_move_laws.proofs.Moving.{moved_steps, next_moves, no_fault, none_moves}
use Rattle.path_move_laws.proofs.OtherOps.{other_sound, other_trees}

-- a path by the test
path_if : (p : Bytes) → is_path p ≡ true → IsPath p
path_if p h = go (path_fault p) refl h
  where
    go : (o : Option PathFault) → path_fault p ≡ o → not (is_some o) ≡ true → IsPath p
    go None x y = x
    go (Some why) x y = absurd (true≢false (sym y))

-- an operation that puts something else where it is
elsewhere : (xs : List PlainEvent) (mode : Mode) (content : Content) (p q : Bytes) → IsPath q → IsFine xs (Modify mode content p) → IsFine xs (Modify mode content q)
elsewhere xs Gitlink (OfBlob b) p q k h = absurd h.0
elsewhere xs Plain (OfBlob b) p q k h = (h.0, (h.1.0, k), h.2)
elsewhere xs Executable (OfBlob b) p q k h = (h.0, (h.1.0, k), h.2)
elsewhere xs Link (OfBlob b) p q k h = (h.0, (h.1.0, k), h.2)
elsewhere xs Gitlink (Object digits) p q k h = (h.0, (h.1.0, k), h.2)
elsewhere xs Plain (Object digits) p q k h = (h.0, (h.1.0, k), h.2)
elsewhere xs Executable (Object digits) p q k h = (h.0, (h.1.0, k), h.2)
elsewhere xs Link (Object digits) p q k h = (h.0, (h.1.0, k), h.2)

-- the image of a path that isn't too long is a path
abbrev pub KeepsPaths : (Bytes → Bytes) → Type 0
KeepsPaths f = (p : Bytes) → IsPath p → nat_lt MAX_PATH_BYTES (length (f p)) ≡ false → IsPath (f p)

module _ (f : Bytes → Bytes) (keeps : KeepsPaths f) (events : List PlainEvent) where
  -- ---- one operation

  -- a tree that may be mapped, whose entries may be put after these events
  abbrev IsGood : List PlainEvent → Tree → Type 0
  IsGood xs t = AllPut (IsFine xs) t × MayMove f t

  short_images : (xs : List PlainEvent) (t : Tree) → AllPut (IsFine xs) t → has_long_path (with_images f t) ≡ false → AllPut (IsFine xs) (with_images f t)
  short_images xs [] a s = tt
  short_images xs (e ∷ es) a s =
      let parts = or_parts (nat_lt MAX_PATH_BYTES (length (f e.0))) (has_long_path (with_images f es)) s in
      (elsewhere xs e.1.mode e.1.content e.0 (f e.0) (keeps e.0 a.0.1.1 parts.0) a.0, short_images xs es a.1 parts.1)

  good_image : (xs : List PlainEvent) (t : Tree) → IsGood xs t → AllPut (IsFine xs) (image f t)
  good_image xs t g = all_put_all (IsFine xs) (with_images f t) [] (short_images xs t g.0 g.1.short) tt

  mapped_fine : (xs : List PlainEvent) (op : FileOp) → IsFine xs op → names_paths (mapped_op f op) ≡ true → IsFine xs (mapped_op f op)
  mapped_fine xs (Modify mode content path) h k = elsewhere xs mode content path (f path) (path_if (f path) k) h
  mapped_fine xs (Delete path) h k = (tt, path_if (f path) k, tt)
  mapped_fine xs (Copy source target) h k =
      let parts = and_parts (is_path (f source)) (is_path (f target)) k in
      (tt, (path_if (f source) parts.0, path_if (f target) parts.1), tt)
  mapped_fine xs (Rename source target) h k =
      let parts = and_parts (is_path (f source)) (is_path (f target)) k in
      (tt, (path_if (f source) parts.0, path_if (f target) parts.1), tt)
  mapped_fine xs DeleteAll h k = (tt, tt, tt)

  difference_fine : (xs : List PlainEvent) (old new : Tree) → AllPut (IsFine xs) old → AllPut (IsFine xs) new → AllByRecursion (IsFine xs) (difference old new)
  difference_fine xs old new a b =
      all_join (IsFine xs) (deletes_of (where_path (λ p. not (has new p)) old)) (puts_of (filter (λ e. not (has_entry (at old e.0) e.1)) new))
      (all_deletes (IsFine xs) (fine_carries (λ p. false) events xs) (where_path (λ p. not (has new p)) old) (all_where (IsFine xs) (λ p. not (has new p)) old a))
      (all_puts (IsFine xs) (fine_carries (λ p. false) events xs) (filter (λ e. not (has_entry (at old e.0) e.1)) new)
      (all_filter (MayPut (IsFine xs)) (λ e. not (has_entry (at old e.0) e.1)) new b))

  moved_fine : (xs : List PlainEvent) (op : FileOp) (old new : Tree) → IsFine xs op → IsGood xs old → IsGood xs new → AllByRecursion (IsFine xs) (moved_op f op old new)
  moved_fine xs op old new h g k =
      elim (cases_Bool (names_paths (mapped_op f op) && leads_to (mapped_op f op) (image f old) (image f new))) [
        | inl right ↦
            let parts = and_parts (names_paths (mapped_op f op)) (leads_to (mapped_op f op) (image f old) (image f new)) right in
            subst (λ b. AllByRecursion (IsFine xs) (cond b (mapped_op f op ∷ []) (difference (image f old) (image f new)))) (sym right)
            (mapped_fine xs op h parts.0, tt)
        | inr wrong ↦
            subst (λ b. AllByRecursion (IsFine xs) (cond b (mapped_op f op ∷ []) (difference (image f old) (image f new)))) (sym wrong)
            (difference_fine xs (image f old) (image f new) (good_image xs old g) (good_image xs new k))
      ]

  put_after : (xs : List PlainEvent) (op : FileOp) (old new : Tree) → IsFine xs op → AllPut (IsFine xs) old → apply op old ≡ Ok new → AllPut (IsFine xs) new
  put_after xs op old new h a is =
      subst (λ (r : Result Tree Refusal). IfTree (IsFine xs) (if_ok (r >>= apply_all []))) is
      (folded_put (IsFine xs) (fine_carries (λ p. false) events xs) (op ∷ []) (Some old) (h, tt) a)

  -- ---- the operations of a commit

  all_moved : (xs : List PlainEvent) (ops : List FileOp) (mark number : ℕ) (old new : Tree) → AllByRecursion (IsFine xs) ops → IsGood xs old → apply_all ops old ≡ Ok new → first_fault f mark number ops old ≡ None
      → IsGood xs new × AllByRecursion (IsFine xs) (moved_all f ops old)
  all_moved xs [] mark number old new h g is k =
      let same : old ≡ new = cc in (subst (λ (t : Tree). IsGood xs t) same g, tt)
  all_moved xs (op ∷ ops) mark number old new h g is k =
      let b = both_apply op ops old new is in
      let n = no_fault f op ops mark number old b.0 b.1 k in
      let mid : IsGood xs b.0 = (put_after xs op old b.0 h.0 g.0 b.1, next_moves f op mark number old b.0 g.1 b.1 n.0) in
      let rest = all_moved xs ops mark (number + 1) b.0 new h.1 mid b.2 n.1 in (
        rest.0,
        subst (λ (r : Result Tree Refusal). AllByRecursion (IsFine xs) (elim r [ Ok x ↦ moved_op f op old x ++ moved_all f ops x | Err why ↦ [] ])) (sym b.1)
            (all_join (IsFine xs) (moved_op f op old b.0) (moved_all f ops b.0) (moved_fine xs op old b.0 h.0 g mid) rest.1),
      )

  -- ---- commits one after another

  abbrev IfGood : List PlainEvent → Option Tree → Type 0
  IfGood xs None = Unit {0}
  IfGood xs (Some t) = IsGood xs t

  -- the trees of commits that are there
  abbrev HaveGood : List PlainEvent → Type 0
  HaveGood xs = (c : ℕ) → has_id xs (any.Commit c) ≡ true → IfGood xs (tree events c)

  more_good : (xs : List PlainEvent) (e : PlainEvent) (o : Option Tree) → IfGood xs o → IfGood (xs ++ e ∷ []) o
  more_good xs e None g = tt
  more_good xs e (Some t) g = (all_imply (MayPut (IsFine xs)) (MayPut (IsFine (xs ++ e ∷ []))) (λ x k. fine_more xs e (Modify x.1.mode x.1.content x.0) k) t g.0, g.1)

  more_have : (xs : List PlainEvent) (e : PlainEvent) → HaveGood xs → ((c : ℕ) → has_id (e ∷ []) (any.Commit c) ≡ true → IfGood xs (tree events c)) → HaveGood (xs ++ e ∷ [])
  more_have xs e have own c k =
      more_good xs e (tree events c) (elim (or_cases (has_id xs (any.Commit c)) (has_id (e ∷ []) (any.Commit c)) (sym (has_id_append xs (e ∷ []) (any.Commit c)) ∙ k)) [ inl was ↦ have c was | inr new ↦ own c new ])

  -- what a commit begins with
  first_good : (xs : List PlainEvent) (parents : List ℕ) (ops : List FileOp) → HaveGood xs → list_all (has_id xs) (map any.Commit parents ++ flat_map op_blobs ops) ≡ true → IfGood xs (begun (tree events) parents)
  first_good xs [] ops have k = (tt, none_moves f)
  first_good xs (p ∷ ps) ops have k = have p (all_true (has_id xs) (map any.Commit (p ∷ ps) ++ flat_map op_blobs ops) k).0

  -- what is given of an event after others
  record IsGiven (xs : List PlainEvent) (e : PlainEvent) : Type 0 where
    ready : is_ready xs e ≡ true
    ops : OfOps (IsFine xs) e
    fits : OfNodes (Fits (tree events)) e
    there : has_id events (id_of e) ≡ true
    calm : event_fault f events e ≡ None

  -- the image of the tree of a commit
  abbrev pub image_at : ℕ → Option Tree
  image_at c = option_map (image f) (tree events c)

  begun_image : (parents : List ℕ) → begun image_at parents ≡ option_map (image f) (begun (tree events) parents)
  begun_image [] = refl
  begun_image (p ∷ ps) = refl

  -- its operations name what is earlier, and make the image of its tree
  abbrev Does : List PlainEvent → PlainEvent → Type 0
  Does xs e = OfOps (IsFine xs) (moved_event f events e) × OfNodes (Fits image_at) (moved_event f events e)

  -- what comes of it: its tree, and its operations
  abbrev Comes : List PlainEvent → PlainEvent → Type 0
  Comes xs e = ((c : ℕ) → has_id (e ∷ []) (any.Commit c) ≡ true → IfGood xs (tree events c)) × Does xs e

  no_commit : (e : PlainEvent) (c : ℕ) → has_id (e ∷ []) (any.Commit c) ≡ false → (xs : List PlainEvent) → has_id (e ∷ []) (any.Commit c) ≡ true → IfGood xs (tree events c)
  no_commit e c n xs h = absurd (true≢false (sym h ∙ n))

  comes : IsSound events → (xs : List PlainEvent) (e : PlainEvent) → IsGiven xs e → HaveGood xs → Comes xs e
  comes h xs (Commit id mark branch author committer encoding comment parents ops aliases) g have =
      go (tree events id) refl (h.trees id g.there)
    where
      one : (b : Bool) → b || false ≡ true → b ≡ true
      one true k = refl
      one false k = absurd (true≢false (sym k))

      go : (o : Option Tree) → tree events id ≡ o → IsSome o → Comes xs (Commit id mark branch author committer encoding comment parents ops aliases)
      go None is k = absurd cc
      go (Some t) is k =
          let m = begun_with ops (begun (tree events) parents) t (sym g.fits.0 ∙ is) in
          let begins : IsGood xs m.0 = subst (IfGood xs) m.1 (first_good xs parents ops have g.ready) in
          let calm : first_fault f mark 1 ops m.0 ≡ None = subst (λ (o : Option Tree). first_fault f mark 1 ops (unwrap_or o []) ≡ None) m.1 g.calm in
          let done = all_moved xs ops mark 1 m.0 t g.ops begins m.2 calm in
          let steps = moved_steps f ops mark 1 m.0 t begins.1 m.2 calm in
          let fit : image_at id ≡ folded (moved_ops f events parents ops) (begun image_at parents) =
          ap (option_map (image f)) is
          ∙ sym (ap (folded (moved_ops f events parents ops)) (begun_image parents ∙ ap (option_map (image f)) m.1)
          ∙ ap (λ (o : Option Tree). if_ok (apply_all (moved_all f ops (unwrap_or o [])) (image f m.0))) m.1
          ∙ ap if_ok steps.1) in
          let fine_ops : AllByRecursion (IsFine xs) (moved_ops f events parents ops) =
          subst (λ (o : Option Tree). AllByRecursion (IsFine xs) (moved_all f ops (unwrap_or o []))) (sym m.1) done.1 in (
            λ c x. subst (λ d. IfGood xs (tree events d)) (eqb-true id c (one (id == c) x)) (subst (IfGood xs) (sym is) done.0),
            (fine_ops, (fit, tt)),
          )
  comes h xs (Blob id mark bytes) g have = (λ c x. no_commit (Blob id mark bytes) c refl xs x, (tt, tt))
  comes h xs (Tag id name target tagger comment mark) g have = (λ c x. no_commit (Tag id name target tagger comment mark) c refl xs x, (tt, tt))
  comes h xs (Reset id branch target) g have = (λ c x. no_commit (Reset id branch target) c refl xs x, (tt, tt))
  comes h xs (Pass id line) g have = (λ c x. no_commit (Pass id line) c refl xs x, (tt, tt))

  each_comes : IsSound events → (xs es : List PlainEvent) → AllAfter IsGiven xs es → HaveGood xs → AllAfter Does xs es × HaveGood (xs ++ es)
  each_comes h xs [] g have = (tt, subst (λ (l : List PlainEvent). HaveGood l) (sym (append-nil xs)) have)
  each_comes h xs (e ∷ es) g have =
      let one = comes h xs e g.0 have in
      let rest = each_comes h (xs ++ e ∷ []) es g.1 (more_have xs e have one.0) in
      ((one.1, rest.0), subst (λ (l : List PlainEvent). HaveGood l) (append_assoc xs (e ∷ []) es) rest.1)

  -- ---- the whole history

  own_fine : (xs : List PlainEvent) (e : PlainEvent) → IsLawful e → IsFormedEvent e → is_ready xs e ≡ true → OfOps (IsFine xs) e
  own_fine xs (Commit id mark branch author committer encoding comment parents ops aliases) l k r =
      fine xs ops l.5 k.1 (ready_ops xs parents ops r)
  own_fine xs (Blob id mark bytes) l k r = tt
  own_fine xs (Tag id name target tagger comment mark) l k r = tt
  own_fine xs (Reset id branch target) l k r = tt
  own_fine xs (Pass id line) l k r = tt

  given : (xs es : List PlainEvent) → AllByRecursion IsLawful es → AllByRecursion IsFormedEvent es → AreInOrder xs es →
      AllByRecursion (OfNodes (Fits (tree events))) es → AllByRecursion (λ e. has_id events (id_of e) ≡ true) es → first_of f events es ≡ None → AllAfter IsGiven xs es
  given xs [] l s o k t n = tt
  given xs (e ∷ es) l s o k t n =
      go (event_fault f events e) refl n (λ y. given (xs ++ e ∷ []) es l.1 s.1 o.1 k.1 t.1 y)
    where
      go : (x : Option Fault) → event_fault f events e ≡ x → ◌≡◌ {A = Option Fault} (elim x [ Some why ↦ Some why | None ↦ first_of f events es ]) None
          → (first_of f events es ≡ None → AllAfter IsGiven (xs ++ e ∷ []) es) → AllAfter IsGiven xs (e ∷ es)
      go (Some why) is y rest = absurd cc
      go None is y rest =
          (record { ready = o.0; ops = own_fine xs e l.0 s.0 o.0; fits = k.0; there = t.0; calm = is }, rest y)

  module _ (h : IsSound events) (calm : first_of f events events ≡ None) where
    fitting : AllByRecursion (OfNodes (Fits (tree events))) events
    fitting = let parts = in_parts events h in nodes_of_events (Fits (tree events)) events (trees_fit events parts.once parts.in_order)

    all_comes : AllAfter Does [] events × HaveGood events
    all_comes =
        let parts = in_parts events h in
        each_comes h [] events (given [] events parts.lawful parts.spelled parts.in_order fitting (own_here events) calm)
        (λ c x. absurd (true≢false (sym x)))

    names_earlier : (xs es : List PlainEvent) → AllAfter Does xs es → AllAfter (λ ys e. OfOps (IsFine ys) (moved_event f events e)) xs es
    names_earlier xs [] d = tt
    names_earlier xs (e ∷ es) d = (d.0.0, names_earlier (xs ++ e ∷ []) es d.1)

    fit_images : (xs es : List PlainEvent) → AllAfter Does xs es → AllByRecursion (OfNodes (Fits image_at)) (map (moved_event f events) es)
    fit_images xs [] d = tt
    fit_images xs (e ∷ es) d = (d.0.1, fit_images (xs ++ e ∷ []) es d.1)

    some_image : (o : Option Tree) → IsSome o → IsSome (option_map (image f) o)
    some_image (Some t) s = refl
    some_image None s = absurd cc

    -- each tree of the history may be mapped
    pub trees_move : (c : ℕ) → IsCommitOf events c → (t : Tree) → tree events c ≡ Some t → MayMove f t
    trees_move c there t is = (subst (IfGood events) is (all_comes.1 c there)).1

    pub moved_trees : (c : ℕ) → IsCommitOf events c → tree (moved_events f events) c ≡ option_map (image f) (tree events c)
    moved_trees =
        other_trees (moved_ops f events) events h (names_earlier [] events all_comes.0) image_at (fit_images [] events all_comes.0)
        (λ c there. some_image (tree events c) (h.trees c there))

    pub moved_sound : IsSound (moved_events f events)
    moved_sound =
        other_sound (moved_ops f events) events h (names_earlier [] events all_comes.0) image_at (fit_images [] events all_comes.0)
        (λ c there. some_image (tree events c) (h.trees c there))
