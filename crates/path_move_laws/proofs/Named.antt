-- Below a folder operations go by their names where no path gets too long.
use Rattle.std.proofs.Common.{◌≡◌, ℕ, ◌+◌, ◌≤◌, Bool, true, false, not, List, [], ◌∷◌, ◌++◌, length, map, max, refl, sym, ap, subst, ◌∙◌, inl, inr, arith, le_trans, is_some, nat_lt, eqb-true, true≢false, Option, Some, None, Result, Ok, Err}
use Rattle.std.specs.Prelude.{◌||◌, ◌==◌, flat_map, IsSome, unwrap_or}
use Rattle.std.specs.List.{AllByRecursion, list_all}
use Rattle.std.proofs.Math.Nat.{le-max_right}
use Rattle.std.proofs.lemmas.Bool.{and_from, or_cases}
use Rattle.std.proofs.lemmas.Bool.Decides.{nat_tests}
use Rattle.std.proofs.lemmas.List.{length-append}
use Rattle.plain_model.specs.declared.fault.Fault.{Fault}
use Rattle.plain_model.specs.declared.id.AnyId.TheVariants as any
use Rattle.plain_model.specs.declared.limit.TheConstants.{MAX_PATH_BYTES}
use Rattle.plain_model.specs.declared.operation.FileOp.{FileOp}
use Rattle.plain_model.specs.declared.operation.FileOp.TheVariants.{Modify, Delete, Copy, Rename, DeleteAll}
use Rattle.plain_model.specs.declared.path.PathFault.{PathFault}
use Rattle.plain_model.specs.declared.event.PlainEvent.{PlainEvent}
use Rattle.plain_model.specs.declared.event.PlainEvent.TheVariants.{Blob, Commit, Tag, Reset, Pass}
use Rattle.plain_model.specs.Histories.{begun, tree}
use Rattle.plain_model.specs.Lookups.{event_ops, id_of, op_blobs}
use Rattle.plain_model.specs.Paths.{Bytes, IsPath}
use Rattle.plain_model.specs.Soundness.{IsFormedEvent, IsFormedOp, IsSound, has_id}
use Rattle.plain_model.specs.Trees.{Refusal, Tree, apply, apply_all}
use Rattle.edit_laws.specs.Equations.{Fits}
use Rattle.edit_laws.specs.Parts.{AreInOrder}
use Rattle.edit_laws.specs.Settling.{is_ready}
use Rattle.edit_laws.proofs.Lists.{OfNodes, all_true, nodes_of_events, own_here}
use Rattle.edit_laws.proofs.Sound.{in_parts}
use Rattle.edit_laws.proofs.Trees.{trees_fit}
use Rattle.history_laws.proofs.Ids.{has_id_append}
use Rattle.expunge_laws.proofs.Earlier.{AllAfter}
use Rattle.expunge_laws.proofs.TreesLeft.{begun_with, both_apply}
use Rattle.path_move_laws.specs.Apart.{MayMove}
use Rattle.path_move_laws.specs.ByName.{GoesByName, IsNamed, named_event}
use Rattle.path_move_laws.specs.Lengths.{longest_after, longest_after_all, longest_in}
use Rattle.path_move_laws.specs.MovedOps.{first_fault, image_fault, is_path, mapped_op, moved_all, moved_op}
use Rattle.path_move_laws.specs.Moves.{event_fault, first_of, moved_event}
use Rattle.path_move_laws.specs.PathMaps.{image_of}
use Rattle.path_move_laws.specs.declared.path_map.PathMap.TheVariants.{Sub}
use Rattle.path_move_laws.proofs.ByName.{by_name}
use Rattle.path_move_laws.proofs.Lengths.{AreShort, more_after_all, more_in, short_after, source_short, target_short}
use Rattle.path_move_laws.proofs.MapLaws.{keeps_paths, sub_apart}
use Rattle.path_move_laws.proofs.Moving.{none_moves, still_few, still_tree}
use Rattle.path_move_laws.proofs.Quick.{all_short}

not_over : (k : ℕ) → k ≤ MAX_PATH_BYTES → nat_lt MAX_PATH_BYTES k ≡ false
not_over k h = grind (arith, nat_tests)

module _ (folder : Bytes) (is_folder : IsPath folder) where
  abbrev below : Bytes → Bytes
  below = image_of (Sub folder)

  -- the images of paths of so many bytes aren't too long
  abbrev Fit : ℕ → Type 0
  Fit n = length folder + 1 + n ≤ MAX_PATH_BYTES

  fewer_fit : (m n : ℕ) → m ≤ n → Fit n → Fit m
  fewer_fit m n less fit = omega (arith, less, fit)

  image_short : (n : ℕ) (p : Bytes) → Fit n → length p ≤ n → nat_lt MAX_PATH_BYTES (length (below p)) ≡ false
  image_short n p fit short =
      let long = length-append folder (47 ∷ p) in
      not_over (length (below p)) (omega (arith, long, fit, short))

  image_is_path : (n : ℕ) (p : Bytes) → IsPath p → Fit n → length p ≤ n → is_path (below p) ≡ true
  image_is_path n p form fit short = ap (λ (o : Option PathFault). not (is_some o)) (keeps_paths (Sub folder) is_folder p form (image_short n p fit short))

  -- ---- one operation

  named : (n : ℕ) (op : FileOp) → IsFormedOp op → Fit (longest_after n op) → IsNamed below op
  named n (Modify mode content path) form fit = image_is_path (max n (length path)) path form.1 fit (le-max_right n (length path))
  named n (Delete path) form fit = image_is_path (max n (length path)) path form fit (le-max_right n (length path))
  named n (Copy source target) form fit =
      and_from (is_path (below source)) (is_path (below target)) (image_is_path (longest_after n (Copy source target)) source form.0 fit (source_short n source target))
      (image_is_path (longest_after n (Copy source target)) target form.1 fit (target_short n source target))
  named n (Rename source target) form fit =
      and_from (is_path (below source)) (is_path (below target)) (image_is_path (longest_after n (Rename source target)) source form.0 fit (source_short n source target))
      (image_is_path (longest_after n (Rename source target)) target form.1 fit (target_short n source target))
  named n DeleteAll form fit = refl

  -- a tree that may be mapped, none of whose paths has more bytes
  abbrev IsGood : ℕ → Tree → Type 0
  IsGood n t = MayMove below t × AreShort n t

  good_after : (op : FileOp) (n : ℕ) (old new : Tree) → IsGood n old → apply op old ≡ Ok new → Fit (longest_after n op) → IsGood (longest_after n op) new
  good_after op n old new g h fit =
      let form = still_tree op old new g.0.form h in
      let short = short_after op n old new h g.1 in (
        record {
          form = form;
          few = still_few op old new g.0.few h;
          apart = sub_apart folder new form;
          short = all_short below new (λ p x. image_short (longest_after n op) p fit (short p x));
        },
        short,
      )

  -- ---- the operations of a commit

  record Goes (mark number n : ℕ) (ops : List FileOp) (old new : Tree) : Type 0 where
    good : IsGood (longest_after_all n ops) new
    calm : first_fault below mark number ops old ≡ None
    moved : moved_all below ops old ≡ map (mapped_op below) ops
    names : AllByRecursion (IsNamed below) ops

  goes : (ops : List FileOp) (mark number n : ℕ) (old new : Tree) → IsGood n old → AllByRecursion IsFormedOp ops → apply_all ops old ≡ Ok new → Fit (longest_after_all n ops) → Goes mark number n ops old new
  goes [] mark number n old new g form h fit =
      let is : old ≡ new = cc in record { good = subst (IsGood n) is g; calm = refl; moved = refl; names = tt }
  goes (op ∷ ops) mark number n old new g form h fit =
      let b = both_apply op ops old new h in
      let own = fewer_fit (longest_after n op) (longest_after_all (longest_after n op) ops) (more_after_all (longest_after n op) ops) fit in
      let mid = good_after op n old b.0 g b.1 own in
      let rest = goes ops mark (number + 1) (longest_after n op) b.0 new mid form.1 b.2 fit in
      let names = named n op form.0 own in
      let right = by_name folder old b.0 g.0 mid.0 op b.1 names in
      record {
        good = rest.good;
        calm =
            ap (λ (r : Result Tree Refusal). elim r [ Ok x ↦ elim (image_fault below mark number x) [ Some why ↦ Some why | None ↦ first_fault below mark (number + 1) ops x ] | Err why ↦ None ]) b.1
            ∙ ap (λ (o : Option Fault). elim o [ Some why ↦ Some why | None ↦ first_fault below mark (number + 1) ops b.0 ]) (right.calm mark number)
            ∙ rest.calm;
        moved =
            ap (λ (r : Result Tree Refusal). elim r [ Ok x ↦ moved_op below op old x ++ moved_all below ops x | Err why ↦ [] ]) b.1
            ∙ (λ i. right.only i ++ rest.moved i);
        names = (names, rest.names);
      }

  -- ---- events in turn

  module _ (events : List PlainEvent) where
    abbrev IfGood : ℕ → Option Tree → Type 0
    IfGood n None = Unit {0}
    IfGood n (Some t) = IsGood n t

    -- the trees of the commits that are there
    abbrev HaveGood : ℕ → List PlainEvent → Type 0
    HaveGood n xs = (c : ℕ) → has_id xs (any.Commit c) ≡ true → IfGood n (tree events c)

    more_good : (m n : ℕ) (o : Option Tree) → m ≤ n → IfGood m o → IfGood n o
    more_good m n None less g = tt
    more_good m n (Some t) less g = (g.0, λ p x. le_trans (g.1 p x) less)

    first_good : (n : ℕ) (xs : List PlainEvent) (parents : List ℕ) (ops : List FileOp) → HaveGood n xs → list_all (has_id xs) (map any.Commit parents ++ flat_map op_blobs ops) ≡ true → IfGood n (begun (tree events) parents)
    first_good n xs [] ops have k = (none_moves below, λ p x. absurd (true≢false (sym x)))
    first_good n xs (p ∷ ps) ops have k = have p (all_true (has_id xs) (map any.Commit (p ∷ ps) ++ flat_map op_blobs ops) k).0

    -- what is given of an event after others
    record IsGiven (xs : List PlainEvent) (e : PlainEvent) : Type 0 where
      ready : is_ready xs e ≡ true
      formed : IsFormedEvent e
      fits : OfNodes (Fits (tree events)) e
      there : has_id events (id_of e) ≡ true

    given : (xs es : List PlainEvent) → AllByRecursion IsFormedEvent es → AreInOrder xs es → AllByRecursion (OfNodes (Fits (tree events))) es → AllByRecursion (λ e. has_id events (id_of e) ≡ true) es → AllAfter IsGiven xs es
    given xs [] s o k t = tt
    given xs (e ∷ es) s o k t = (record { ready = o.0; formed = s.0; fits = k.0; there = t.0 }, given (xs ++ e ∷ []) es s.1 o.1 k.1 t.1)

    -- what comes of an event: the trees of commits up to it, no fault, and its operations by their names
    record Comes (n : ℕ) (xs : List PlainEvent) (e : PlainEvent) : Type 0 where
      good : HaveGood (longest_after_all n (event_ops e)) (xs ++ e ∷ [])
      calm : event_fault below events e ≡ None
      moved : moved_event below events e ≡ named_event below e
      names : AllByRecursion (IsNamed below) (event_ops e)

    still_good : (n : ℕ) (xs : List PlainEvent) (e : PlainEvent) → HaveGood n xs → ((c : ℕ) → has_id (e ∷ []) (any.Commit c) ≡ true → IfGood (longest_after_all n (event_ops e)) (tree events c))
        → HaveGood (longest_after_all n (event_ops e)) (xs ++ e ∷ [])
    still_good n xs e have own c k =
        elim (or_cases (has_id xs (any.Commit c)) (has_id (e ∷ []) (any.Commit c)) (sym (has_id_append xs (e ∷ []) (any.Commit c)) ∙ k)) [
          | inl was ↦ more_good n (longest_after_all n (event_ops e)) (tree events c) (more_after_all n (event_ops e)) (have c was)
          | inr new ↦ own c new
        ]

    comes : IsSound events → (n : ℕ) (xs : List PlainEvent) (e : PlainEvent) → IsGiven xs e → HaveGood n xs → Fit (longest_after_all n (event_ops e)) → Comes n xs e
    comes h n xs (Commit id mark branch author committer encoding comment parents ops aliases) g have fit =
        go (tree events id) refl (h.trees id g.there)
      where
        one : (b : Bool) → b || false ≡ true → b ≡ true
        one true k = refl
        one false k = absurd (true≢false (sym k))

        go : (o : Option Tree) → tree events id ≡ o → IsSome o → Comes n xs (Commit id mark branch author committer encoding comment parents ops aliases)
        go None is k = absurd cc
        go (Some t) is k =
            let m = begun_with ops (begun (tree events) parents) t (sym g.fits.0 ∙ is) in
            let begins : IsGood n m.0 = subst (IfGood n) m.1 (first_good n xs parents ops have g.ready) in
            let done = goes ops mark 1 n m.0 t begins g.formed.1 m.2 fit in
            record {
              good = still_good n xs (Commit id mark branch author committer encoding comment parents ops aliases) have (λ c x. subst (λ d. IfGood (longest_after_all n ops) (tree events d)) (eqb-true id c (one (id == c) x)) (subst (IfGood (longest_after_all n ops)) (sym is) done.good));
              calm = ap (λ (o : Option Tree). first_fault below mark 1 ops (unwrap_or o [])) m.1 ∙ done.calm;
              moved = ap (λ (l : List FileOp). Commit id mark branch author committer encoding comment parents l aliases) (ap (λ (o : Option Tree). moved_all below ops (unwrap_or o [])) m.1 ∙ done.moved);
              names = done.names;
            }
    comes h n xs (Blob id mark bytes) g have fit = record { good = still_good n xs (Blob id mark bytes) have (λ c x. absurd (true≢false (sym x))); calm = refl; moved = refl; names = tt }
    comes h n xs (Tag id name target tagger comment mark) g have fit = record { good = still_good n xs (Tag id name target tagger comment mark) have (λ c x. absurd (true≢false (sym x))); calm = refl; moved = refl; names = tt }
    comes h n xs (Reset id branch target) g have fit = record { good = still_good n xs (Reset id branch target) have (λ c x. absurd (true≢false (sym x))); calm = refl; moved = refl; names = tt }
    comes h n xs (Pass id line) g have fit = record { good = still_good n xs (Pass id line) have (λ c x. absurd (true≢false (sym x))); calm = refl; moved = refl; names = tt }

    record AllGo (es : List PlainEvent) : Type 0 where
      calm : first_of below events es ≡ None
      moved : map (moved_event below events) es ≡ map (named_event below) es
      names : AllByRecursion (λ e. AllByRecursion (IsNamed below) (event_ops e)) es

    all_go : IsSound events → (n : ℕ) (xs es : List PlainEvent) → AllAfter IsGiven xs es → HaveGood n xs → Fit (longest_in n es) → AllGo es
    all_go h n xs [] g have fit = record { calm = refl; moved = refl; names = tt }
    all_go h n xs (e ∷ es) g have fit =
        let most = longest_after_all n (event_ops e) in
        let one = comes h n xs e g.0 have (fewer_fit most (longest_in most es) (more_in most es) fit) in
        let rest = all_go h most (xs ++ e ∷ []) es g.1 one.good fit in
        record {
          calm = ap (λ (o : Option Fault). elim o [ Some why ↦ Some why | None ↦ first_of below events es ]) one.calm ∙ rest.calm;
          moved = λ i. one.moved i ∷ rest.moved i;
          names = (one.names, rest.names);
        }

    pub go_by_name : IsSound events → Fit (longest_in 0 events) → GoesByName below events
    go_by_name h fit =
        let parts = in_parts events h in
        let all = all_go h 0 [] events (given [] events parts.spelled parts.in_order (nodes_of_events (Fits (tree events)) events (trees_fit events parts.once parts.in_order)) (own_here events))
        (λ c x. absurd (true≢false (sym x))) fit in
        record { calm = all.calm; moved = all.moved; named = all.names }
