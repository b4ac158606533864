-- A part of a list that refers to nothing else is in order where the list is, and has its trees.
use Rattle.history_laws.proofs.Ids.{has_id_cons, same_id_true}
use Rattle.std.proofs.Common.{◌≡◌, ℕ, Bool, true, false, cond, List, [], ◌∷◌, ◌++◌, filter, refl, sym, ap, subst, ◌∙◌, inl, inr, arith, append-nil}
use Rattle.std.specs.Prelude.{◌||◌, ◌&&◌, IsSome}
use Rattle.std.specs.List.{AllByRecursion}
use Rattle.std.proofs.lemmas.Bool.{cases_Bool, or_cases, or_left, or_right}
use Rattle.plain_model.specs.declared.id.AnyId.{AnyId}
use Rattle.plain_model.specs.declared.id.AnyId.TheVariants as any
use Rattle.plain_model.specs.declared.event.PlainEvent.{PlainEvent}
use Rattle.plain_model.specs.Histories.{nodes, tree}
use Rattle.plain_model.specs.Lookups.{id_of, referents_of, same_id}
use Rattle.plain_model.specs.Soundness.{IsCommitOf, IsFormedEvent, IsSound, has_id}
use Rattle.history_laws.proofs.Lists.{all_join}
use Rattle.edit_laws.specs.Blobs.{HasBytesOf}
use Rattle.edit_laws.specs.Equations.{Fits}
use Rattle.edit_laws.specs.Parts.{AreComplete, AreInOrder, AreOnce, HasFewParents, IsLawful, of_id, of_mark}
use Rattle.edit_laws.specs.Settling.{is_ready}
use Rattle.edit_laws.proofs.Lists.{OfNodes, all_filter, all_true, events_of_nodes, nodes_of_events, tally_filter, true_all}
use Rattle.edit_laws.proofs.Shown.{shown_alike}
use Rattle.edit_laws.proofs.Sound.{from_parts}
use Rattle.edit_laws.proofs.Trees.{trees_solve}
use Rattle.divide_laws.specs.Remaining.{HasTreesOf}
use Rattle.edit_laws.proofs.Settles.{complete}

-- two facts of each
pub all_two : {X : Type 0} (P Q R : X → Type 0) → ((x : X) → P x → Q x → R x) → (xs : List X) → AllByRecursion P xs → AllByRecursion Q xs → AllByRecursion R xs
all_two P Q R f [] a b = tt
all_two P Q R f (x ∷ xs) a b = (f x a.0 b.0, all_two P Q R f xs a.1 b.1)

-- what a part has, the list has
pub part_among : (test : PlainEvent → Bool) (es : List PlainEvent) (id : AnyId) → has_id (filter test es) id ≡ true → has_id es id ≡ true
part_among test [] id h = h
part_among test (e ∷ es) id h = has_id_cons e es id ∙ go (test e) h (λ k. part_among test es id k)
  where
    go : (b : Bool) → has_id (cond b (e ∷ filter test es) (filter test es)) id ≡ true → (has_id (filter test es) id ≡ true → has_id es id ≡ true) →
        same_id id (id_of e) || has_id es id ≡ true
    go true k f = elim (or_cases (same_id id (id_of e)) (has_id (filter test es) id) (sym (has_id_cons e (filter test es) id) ∙ k)) [
      | inl own ↦ or_left (same_id id (id_of e)) (has_id es id) own
      | inr later ↦ or_right (same_id id (id_of e)) (has_id es id) (f later)
    ]
    go false k f = or_right (same_id id (id_of e)) (has_id es id) (f k)

-- whether a part has an id, where the test says the same of all events with it
pub part_has : (test : PlainEvent → Bool) (id : AnyId) (b : Bool) (es : List PlainEvent) → AllByRecursion (λ e. same_id id (id_of e) ≡ true → test e ≡ b) es →
    has_id (filter test es) id ≡ has_id es id && b
part_has test id b [] a = refl
part_has test id b (e ∷ es) a =
    let rest = part_has test id b es a.1 in
    elim (cases_Bool (same_id id (id_of e))) [
      | inl own ↦
          ap (λ x. has_id (cond x (e ∷ filter test es) (filter test es)) id) (a.0 own)
          ∙ here b rest own
          ∙ sym (ap (λ x. x && b) (has_id_cons e es id ∙ ap (λ x. x || has_id es id) own))
      | inr other ↦
          go (test e) rest other
          ∙ sym (ap (λ x. x && b) (has_id_cons e es id ∙ ap (λ x. x || has_id es id) other))
    ]
  where
    nothing : (x : Bool) → x && false ≡ false
    nothing true = refl
    nothing false = refl

    here : (b : Bool) → has_id (filter test es) id ≡ has_id es id && b → same_id id (id_of e) ≡ true → has_id (cond b (e ∷ filter test es) (filter test es)) id ≡ b
    here true rest own = has_id_cons e (filter test es) id ∙ ap (λ x. x || has_id (filter test es) id) own
    here false rest own = rest ∙ nothing (has_id es id)

    go : (x : Bool) → has_id (filter test es) id ≡ has_id es id && b → same_id id (id_of e) ≡ false → has_id (cond x (e ∷ filter test es) (filter test es)) id ≡ has_id es id && b
    go true rest other = has_id_cons e (filter test es) id ∙ ap (λ x. x || has_id (filter test es) id) other ∙ rest
    go false rest other = rest

-- ---- a part that is closed

-- The event is in the part where its id is among these, and if it is there, all that it refers to is among them.
pub record IsClosed (test : PlainEvent → Bool) (world : AnyId → Bool) (e : PlainEvent) : Type 0 where
  pub own : world (id_of e) ≡ true → test e ≡ true
  pub refers : test e ≡ true → AllByRecursion (λ r. world r ≡ true) (referents_of e)

module _ (test : PlainEvent → Bool) (world : AnyId → Bool) where
  still_there : (xs : List PlainEvent) → AllByRecursion (IsClosed test world) xs → (r : AnyId) → world r ≡ true → has_id xs r ≡ true → has_id (filter test xs) r ≡ true
  still_there [] a r w h = h
  still_there (e ∷ xs) a r w h = elim (or_cases (same_id r (id_of e)) (has_id xs r) (sym (has_id_cons e xs r) ∙ h)) [
    | inl own ↦
        let stays = a.0.own (ap world (sym (same_id_true r (id_of e) own)) ∙ w) in
        ap (λ b. has_id (cond b (e ∷ filter test xs) (filter test xs)) r) stays
        ∙ has_id_cons e (filter test xs) r ∙ or_left (same_id r (id_of e)) (has_id (filter test xs) r) own
    | inr later ↦ more (test e) (still_there xs a.1 r w later)
  ]
    where
      more : (b : Bool) → has_id (filter test xs) r ≡ true → has_id (cond b (e ∷ filter test xs) (filter test xs)) r ≡ true
      more true k = has_id_cons e (filter test xs) r ∙ or_right (same_id r (id_of e)) (has_id (filter test xs) r) k
      more false k = k

  one_more : (xs : List PlainEvent) (e : PlainEvent) → filter test (xs ++ e ∷ []) ≡ filter test xs ++ cond (test e) (e ∷ []) []
  one_more [] e = refl
  one_more (x ∷ xs) e = go (test x) (one_more xs e)
    where
      go : (b : Bool) → filter test (xs ++ e ∷ []) ≡ filter test xs ++ cond (test e) (e ∷ []) [] →
          cond b (x ∷ filter test (xs ++ e ∷ [])) (filter test (xs ++ e ∷ [])) ≡ cond b (x ∷ filter test xs) (filter test xs) ++ cond (test e) (e ∷ []) []
      go true k = ap (λ (l : List PlainEvent). x ∷ l) k
      go false k = k

  order_on : (xs es : List PlainEvent) → AllByRecursion (IsClosed test world) xs → AllByRecursion (IsClosed test world) es → AreInOrder xs es → AreInOrder (filter test xs) (filter test es)
  order_on xs [] a b s = tt
  order_on xs (e ∷ es) a b s = go (test e) refl (order_on (xs ++ e ∷ []) es (all_join (IsClosed test world) xs (e ∷ []) a (b.0, tt)) b.1 s.1)
    where
      ready : test e ≡ true → is_ready (filter test xs) e ≡ true
      ready t =
          true_all (has_id (filter test xs)) (referents_of e)
          (all_two (λ r. world r ≡ true) (λ r. has_id xs r ≡ true) (λ r. has_id (filter test xs) r ≡ true) (λ r w k. still_there xs a r w k) (referents_of e) (b.0.refers t) (all_true (has_id xs) (referents_of e) s.0))

      go : (x : Bool) → test e ≡ x → AreInOrder (filter test (xs ++ e ∷ [])) (filter test es) → AreInOrder (filter test xs) (cond (test e) (e ∷ filter test es) (filter test es))
      go true is rest =
          subst (λ x. AreInOrder (filter test xs) (cond x (e ∷ filter test es) (filter test es))) (sym is)
          (ready is, subst (λ (l : List PlainEvent). AreInOrder l (filter test es)) (one_more xs e ∙ ap (λ x. filter test xs ++ cond x (e ∷ []) []) is) rest)
      go false is rest =
          subst (λ x. AreInOrder (filter test xs) (cond x (e ∷ filter test es) (filter test es))) (sym is)
          (subst (λ (l : List PlainEvent). AreInOrder l (filter test es)) (one_more xs e ∙ ap (λ x. filter test xs ++ cond x (e ∷ []) []) is ∙ append-nil (filter test xs)) rest)

  -- ---- of a list in which each commit has the tree that it has in a sound history

  module _ (events new : List PlainEvent) (h : IsSound events) (closed : AllByRecursion (IsClosed test world) new) (ids : (id : AnyId) → has_id new id ≡ has_id events id)
      (lawful : AllByRecursion IsLawful new) (spelled : AllByRecursion IsFormedEvent new) (few : AllByRecursion HasFewParents new) (once : AreOnce new)
      (order : AreInOrder [] new) (fits : AllByRecursion (Fits (tree events)) (nodes new)) (bytes : AllByRecursion (HasBytesOf events) new)
    where
      part_order : AreInOrder [] (filter test new)
      part_order = order_on [] new tt closed order

      pub part_complete : AreComplete (filter test new)
      part_complete = complete [] (filter test new) part_order

      part_fits : AllByRecursion (Fits (tree events)) (nodes (filter test new))
      part_fits =
          events_of_nodes (Fits (tree events)) (filter test new)
          (all_filter (OfNodes (Fits (tree events))) test new (nodes_of_events (Fits (tree events)) new fits))

      part_trees : (c : ℕ) → IsCommitOf (filter test new) c → tree (filter test new) c ≡ tree events c
      part_trees c k = trees_solve (tree events) (filter test new) part_order part_fits c k

      pub part_sound : IsSound (filter test new)
      part_sound = from_parts (filter test new) (record {
        lawful = all_filter IsLawful test new lawful;
        spelled = all_filter IsFormedEvent test new spelled;
        few = all_filter HasFewParents test new few;
        once = record {
          ids = λ id. let one = once.ids id in let fewer = tally_filter (of_id id) test new in omega arith;
          marks = λ m. let one = once.marks m in let fewer = tally_filter (of_mark m) test new in omega arith;
        };
        in_order = part_order;
        trees = λ c k. subst IsSome (sym (part_trees c k)) (h.trees c (sym (ids (any.Commit c)) ∙ part_among test new (any.Commit c) k));
      })

      pub part_keeps : HasTreesOf events (filter test new)
      part_keeps = record {
        trees = part_trees;
        shown = λ c k. shown_alike events (filter test new) (all_filter (HasBytesOf events) test new bytes) part_complete c c (part_trees c k);
      }
