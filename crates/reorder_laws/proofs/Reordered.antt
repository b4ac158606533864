-- What a reorder leaves can be settled, has as few parents as before, and each commit has its operations.
use Rattle.std.proofs.Common.{◌≡◌, ℕ, ◌+◌, ◌≤◌, ◌<◌, true, false, cond, List, [], ◌∷◌, ◌++◌, length, map, refl, sym, ap, subst, ◌∙◌, inl, inr, arith, Option, Some, None, IsTrue}
use Rattle.std.specs.Prelude.{◌||◌, ◌==◌, flat_map}
use Rattle.std.specs.List.{AllByRecursion, list_any}
use Rattle.std.specs.Map.{lookup}
use Rattle.std.proofs.lemmas.Bool.{cases_Bool}
use Rattle.std.proofs.lemmas.List.{length-map}
use Rattle.plain_model.specs.declared.limit.TheConstants.{MAX_PARENTS}
use Rattle.plain_model.specs.declared.id.AnyId.{AnyId}
use Rattle.plain_model.specs.declared.id.AnyId.TheVariants as any
use Rattle.plain_model.specs.declared.event.PlainEvent.{PlainEvent}
use Rattle.plain_model.specs.declared.event.PlainEvent.TheVariants.{Blob, Commit, Tag, Reset, Pass}
use Rattle.plain_model.specs.Histories.{Node}
use Rattle.plain_model.specs.Lookups.{find_event, id_of, is_listed, op_blobs, referents_of, same_id}
use Rattle.plain_model.specs.Soundness.{IsFormedEvent, IsSound, are_distinct, has_id}
use Rattle.edit_laws.specs.Parts.{AreOnce, CanBeSettled, HasFewParents, IsAbove, IsLawful, of_id, of_mark, one_if, tally}
use Rattle.edit_laws.specs.Settling.{is_ready}
use Rattle.history_laws.proofs.Ids.{each_found, has_id_append}
use Rattle.history_laws.proofs.SoundOnce.{sound_once}
use Rattle.history_laws.proofs.Lists.{all_imply, all_join}
use Rattle.edit_laws.specs.Keeping.{HasOperationsOf}
use Rattle.edit_laws.proofs.Lists.{OfNodes, all_rear, all_true, events_of_nodes, none_passing, own_id, some_passing, true_all, nodes_of_events}
use Rattle.edit_laws.proofs.Sound.{in_parts}
use Rattle.commit_laws.specs.Selected.{chosen, listed, node_of}
use Rattle.edit_laws.specs.Selecting.{IsSelection}
use Rattle.edit_laws.proofs.Fine.{There}
use Rattle.edit_laws.proofs.Children.{IsChild, all_children}
use Rattle.commit_laws.proofs.Given.{IsGiven, IsHere, all_given, here_parents, parents_here, rank}
use Rattle.commit_laws.proofs.Selections.{chosen_here}
use Rattle.reorder_laws.specs.InOrder.{IsOneInOrder}
use Rattle.reorder_laws.specs.Reorder.{filled, instead, last_of, line_fault, lined_up, parents_after, relinked, relinked_all}
use Rattle.reorder_laws.proofs.InOrder.{IsAfter}
use Rattle.reorder_laws.proofs.Line.{IsApart, distinct_instead, each_in, given_is, in_ws, line_here, node_is, not_given, not_new, number, number_given, number_other, outside}
use Rattle.reorder_laws.proofs.Places.{filled_all, filled_same, filled_there}

pub all_both : {X : Type 0} (P Q : X → Type 0) (xs : List X) → AllByRecursion P xs → AllByRecursion Q xs → AllByRecursion (λ x. P x × Q x) xs
all_both P Q [] a b = tt
all_both P Q (x ∷ xs) a b = ((a.0, b.0), all_both P Q xs a.1 b.1)

-- an event with other parents is the same one
pub relinked_id : (given : List (ℕ × List ℕ)) (old new : ℕ) (e : PlainEvent) → id_of (relinked given old new e) ≡ id_of e
relinked_id given old new (Commit id mark branch author committer encoding comment parents ops aliases) = refl
relinked_id given old new (Blob id mark bytes) = refl
relinked_id given old new (Tag id name target tagger comment mark) = refl
relinked_id given old new (Reset id branch target) = refl
relinked_id given old new (Pass id line) = refl

module _ (set : List AnyId) (events : List PlainEvent) (h : IsSound events) (sel : IsSelection events set) (v : ℕ) (vs : List ℕ) (w : ℕ) (ws : List ℕ) (is_vs : listed set events ≡ v ∷ vs) (is_ws : chosen set ≡ w ∷ ws) (line : line_fault events v vs ≡ None) where
  abbrev old : ℕ
  old = last_of v vs

  abbrev new : ℕ
  new = last_of w ws

  abbrev first : List ℕ
  first = (node_of events v).parents

  abbrev given : List (ℕ × List ℕ)
  given = lined_up first (w ∷ ws)

  abbrev link : PlainEvent → PlainEvent
  link e = relinked given old new e

  abbrev whole : List PlainEvent
  whole = relinked_all events v vs w ws

  abbrev after : ℕ → List ℕ → List ℕ
  after id parents = parents_after given old new id parents

  abbrev num : ℕ → ℕ
  num x = number set events h sel v vs w ws is_vs is_ws line x

  -- ---- ids

  one_same : (e : PlainEvent) (id : AnyId) → has_id (link e ∷ []) id ≡ has_id (e ∷ []) id
  one_same e id = own_id (link e) id ∙ ap (same_id id) (relinked_id given old new e) ∙ sym (own_id e id)

  ids_same : (es : List PlainEvent) (id : AnyId) → has_id (map link es) id ≡ has_id es id
  ids_same [] id = refl
  ids_same (e ∷ es) id =
      has_id_append (link e ∷ []) (map link es) id
      ∙ (λ i. one_same e id i || ids_same es id i)
      ∙ sym (has_id_append (e ∷ []) es id)

  mark_same : (m : ℕ) (e : PlainEvent) → of_mark m (link e) ≡ of_mark m e
  mark_same m (Commit id mark branch author committer encoding comment parents ops aliases) = refl
  mark_same m (Blob id mark bytes) = refl
  mark_same m (Tag id name target tagger comment mark) = refl
  mark_same m (Reset id branch target) = refl
  mark_same m (Pass id line) = refl

  sums_same : (f : PlainEvent → ℕ) → ((e : PlainEvent) → f (link e) ≡ f e) → (es : List PlainEvent) → tally f (map link es) ≡ tally f es
  sums_same f same [] = refl
  sums_same f same (e ∷ es) = λ i. same e i + sums_same f same es i

  whole_ids : (id : AnyId) → tally (of_id id) whole ≤ 1
  whole_ids id = subst (λ n. n ≤ 1) (sym (sums_same (of_id id) (λ e. ap one_if (one_same e id)) events)) ((in_parts events h).once.ids id)

  whole_marks : (m : ℕ) → tally (of_mark m) whole ≤ 1
  whole_marks m = subst (λ n. n ≤ 1) (sym (sums_same (of_mark m) (mark_same m) events)) ((in_parts events h).once.marks m)

  all_linked : (P Q : PlainEvent → Type 0) → ((e : PlainEvent) → P e → Q (link e)) → (es : List PlainEvent) → AllByRecursion P es → AllByRecursion Q (map link es)
  all_linked P Q f [] a = tt
  all_linked P Q f (e ∷ es) a = (f e a.0, all_linked P Q f es a.1)

  -- ---- one commit

  ws_here : AllByRecursion (IsHere events) (w ∷ ws)
  ws_here = subst (AllByRecursion (IsHere events)) is_ws (chosen_here events set sel.there)

  -- the last of the new line is there
  new_here : IsHere events new
  new_here = go w ws ws_here
    where
      go : (u : ℕ) (us : List ℕ) → AllByRecursion (IsHere events) (u ∷ us) → IsHere events (last_of u us)
      go u [] a = a.0
      go u (x ∷ xs) a = go x xs a.1

  -- what is so of given parents, and of those that stay, is so of the new ones
  either_way : (Q : List ℕ → Type 0) (id : ℕ) (parents : List ℕ) → ((qs : List ℕ) → lookup (λ m. m == id) given ≡ Some qs → Q qs) → (is_listed (any.Commit id) set ≡ false → Q (map (instead old new) parents)) → Q (after id parents)
  either_way Q id parents f g = go (lookup (λ m. m == id) given) refl
    where
      go : (o : Option (List ℕ)) → lookup (λ m. m == id) given ≡ o → Q (elim o [ Some ps ↦ ps | None ↦ map (instead old new) parents ])
      go (Some qs) e = f qs e
      go None e = g (sym (in_ws set events h sel v vs w ws is_vs is_ws line id) ∙ not_given first (w ∷ ws) id e)

  all_single : (Q : List ℕ → Type 0) → ((u : ℕ) → Q (u ∷ [])) → (us : List ℕ) → AllByRecursion (λ u. Q (u ∷ [])) us
  all_single Q f [] = tt
  all_single Q f (u ∷ us) = (f u, all_single Q f us)

  here_single : (us : List ℕ) → AllByRecursion (IsHere events) us → AllByRecursion (λ u. AllByRecursion (IsHere events) (u ∷ [])) us
  here_single [] a = tt
  here_single (u ∷ us) a = ((a.0, tt), here_single us a.1)

  here_instead : (ps : List ℕ) → AllByRecursion (IsHere events) ps → AllByRecursion (IsHere events) (map (instead old new) ps)
  here_instead [] a = tt
  here_instead (p ∷ ps) a = (elim (p == old) as (λ b. IsHere events (cond b new p)) [ true ↦ new_here | false ↦ a.0 ], here_instead ps a.1)

  new_parents_here : (id : ℕ) (parents : List ℕ) → AllByRecursion (IsHere events) parents → AllByRecursion (IsHere events) (after id parents)
  new_parents_here id parents a =
      either_way (AllByRecursion (IsHere events)) id parents
      (λ qs e. given_is (AllByRecursion (IsHere events)) first (w ∷ ws) (node_is set events h sel v vs w ws is_vs is_ws line v (line_here set events h sel v vs w ws is_vs is_ws line).0).here (here_single (w ∷ ws) ws_here) id qs e)
      (λ out. here_instead parents a)

  -- what is given of each event
  abbrev Known : PlainEvent → Type 0
  Known e = IsGiven events (rank events h) e × OfNodes (IsChild events) e

  -- a parent of a commit outside is the last of the line, or outside
  outside_all : (n : Node) → IsChild events n → is_listed (any.Commit n.id) set ≡ false → (ps : List ℕ) → AllByRecursion (IsHere events) ps → AllByRecursion (λ p. list_any (λ q. q == p) n.parents ≡ true) ps → AllByRecursion (λ p. (p == old) ≡ false → is_listed (any.Commit p) set ≡ false) ps
  outside_all n child out [] a k = tt
  outside_all n child out (p ∷ ps) a k = ((λ o. outside set events h sel v vs w ws is_vs is_ws line n child out p a.0 k.0 o), outside_all n child out ps a.1 k.1)

  low_instead : (id : ℕ) → is_listed (any.Commit id) set ≡ false → (ps : List ℕ) → AllByRecursion (λ p. rank events h p < rank events h id) ps → AllByRecursion (λ p. (p == old) ≡ false → is_listed (any.Commit p) set ≡ false) ps → AllByRecursion (λ p. num p < num id) (map (instead old new) ps)
  low_instead id out [] a o = tt
  low_instead id out (p ∷ ps) a o = (number_other set events h sel v vs w ws is_vs is_ws line id out p a.0 o.0, low_instead id out ps a.1 o.1)

  -- ---- each event

  lawful : (e : PlainEvent) → Known e → IsLawful (link e)
  lawful (Commit id mark branch author committer encoding comment parents ops aliases) k =
      let g = k.0 in
      let l = g.lawful in
      let n : Node = record { id = id; parents = parents; ops = ops } in
      let here = parents_here events parents ops g.ready in (
        l.0,
        l.1,
        l.2,
        l.3,
        either_way (λ qs. are_distinct qs ≡ true) id parents
            (λ qs e. given_is (λ qs. are_distinct qs ≡ true) first (w ∷ ws) (node_is set events h sel v vs w ws is_vs is_ws line v (line_here set events h sel v vs w ws is_vs is_ws line).0).distinct (all_single (λ qs. are_distinct qs ≡ true) (λ u. refl) (w ∷ ws)) id qs e)
            (λ out.
            distinct_instead set events h sel v vs w ws is_vs is_ws line parents
            (all_imply (λ p. (p == old) ≡ false → is_listed (any.Commit p) set ≡ false) (IsApart set events h sel v vs w ws is_vs is_ws line) (λ p f o. not_new set events h sel v vs w ws is_vs is_ws line p (f o)) parents (outside_all n k.1.0 out parents here (each_in parents)))
            ∙ l.4),
        l.5,
        l.6,
      )
  lawful (Blob id mark bytes) k = k.0.lawful
  lawful (Tag id name target tagger comment mark) k = k.0.lawful
  lawful (Reset id branch target) k = k.0.lawful
  lawful (Pass id line) k = k.0.lawful

  few : (e : PlainEvent) → Known e → HasFewParents (link e)
  few (Commit id mark branch author committer encoding comment parents ops aliases) k =
      either_way (λ qs. length qs ≤ MAX_PARENTS) id parents
      (λ qs e. given_is (λ qs. length qs ≤ MAX_PARENTS) first (w ∷ ws) (node_is set events h sel v vs w ws is_vs is_ws line v (line_here set events h sel v vs w ws is_vs is_ws line).0).few (all_single (λ qs. length qs ≤ MAX_PARENTS) (λ u. one_few) (w ∷ ws)) id qs e)
      (λ out. subst (λ n. n ≤ MAX_PARENTS) (sym (length-map parents (instead old new))) k.0.few)
    where
      one_few : 1 ≤ MAX_PARENTS
      one_few = omega arith
  few (Blob id mark bytes) k = k.0.few
  few (Tag id name target tagger comment mark) k = k.0.few
  few (Reset id branch target) k = k.0.few
  few (Pass id line) k = k.0.few

  low : (e : PlainEvent) → Known e → OfNodes (IsAbove num) (link e)
  low (Commit id mark branch author committer encoding comment parents ops aliases) k =
      let g = k.0 in
      let n : Node = record { id = id; parents = parents; ops = ops } in
      let here = parents_here events parents ops g.ready in (
        either_way (AllByRecursion (λ p. num p < num id)) id parents
            (λ qs e. number_given set events h sel v vs w ws is_vs is_ws line id qs e)
            (λ out. low_instead id out parents g.low.0 (outside_all n k.1.0 out parents here (each_in parents))),
        tt,
      )
  low (Blob id mark bytes) k = tt
  low (Tag id name target tagger comment mark) k = tt
  low (Reset id branch target) k = tt
  low (Pass id line) k = tt

  refers : (e : PlainEvent) → Known e → AllByRecursion (There events) (referents_of (link e))
  refers (Commit id mark branch author committer encoding comment parents ops aliases) k =
      let refs = all_true (has_id events) (map any.Commit parents ++ flat_map op_blobs ops) k.0.ready in
      all_join (There events) (map any.Commit (after id parents)) (flat_map op_blobs ops)
      (here_parents events (after id parents) (new_parents_here id parents (parents_here events parents ops k.0.ready)))
      (all_rear (There events) (map any.Commit parents) (flat_map op_blobs ops) refs)
  refers (Blob id mark bytes) k = tt
  refers (Tag id name target tagger comment mark) k = all_true (has_id events) (any.Commit target ∷ []) k.0.ready
  refers (Reset id branch None) k = tt
  refers (Reset id branch (Some target)) k = all_true (has_id events) (any.Commit target ∷ []) k.0.ready
  refers (Pass id line) k = tt

  own_ops : (e : PlainEvent) → Known e → OfNodes (HasOperationsOf events) (link e)
  own_ops (Commit id mark branch author committer encoding comment parents ops aliases) k = let n : Node = record { id = id; parents = parents; ops = ops } in ((n, k.0.found.0, refl), tt)
  own_ops (Blob id mark bytes) k = tt
  own_ops (Tag id name target tagger comment mark) k = tt
  own_ops (Reset id branch target) k = tt
  own_ops (Pass id line) k = tt

  spelled : (e : PlainEvent) → Known e → IsFormedEvent (link e)
  spelled (Commit id mark branch author committer encoding comment parents ops aliases) k = k.0.spelled
  spelled (Blob id mark bytes) k = k.0.spelled
  spelled (Tag id name target tagger comment mark) k = k.0.spelled
  spelled (Reset id branch target) k = tt
  spelled (Pass id line) k = tt

  -- ---- the places

  known : AllByRecursion Known events
  known = all_both (IsGiven events (rank events h)) (OfNodes (IsChild events)) events (all_given events h) (nodes_of_events (IsChild events) events (all_children events))

  abbrev pub left : List PlainEvent
  left = filled set whole (w ∷ ws) whole

  as_chosen : left ≡ filled set whole (chosen set) whole
  as_chosen = ap (λ (l : List ℕ). filled set whole l whole) (sym is_ws)

  all_here : AllByRecursion (IsHere whole) (chosen set)
  all_here = all_imply (IsHere events) (IsHere whole) (λ c k. ids_same events (any.Commit c) ∙ k) (chosen set) (chosen_here events set sel.there)

  left_sum : (f : PlainEvent → ℕ) → tally f left ≡ tally f whole
  left_sum f = ap (tally f) as_chosen ∙ filled_same set sel.apart whole whole_ids all_here f

  -- what counts alike for an event with other parents counts as it did
  pub left_sums : (f : PlainEvent → ℕ) → ((e : PlainEvent) → f (link e) ≡ f e) → tally f left ≡ tally f events
  left_sums f same = left_sum f ∙ sums_same f same events

  pub left_there : (id : AnyId) → has_id events id ≡ true → has_id left id ≡ true
  left_there id k = ap (λ (l : List PlainEvent). has_id l id) as_chosen ∙ filled_there set sel.apart whole whole_ids all_here id (ids_same events id ∙ k)

  pub left_ids : (id : AnyId) → has_id left id ≡ has_id events id
  left_ids id = elim (cases_Bool (has_id events id)) [
    | inl k ↦ left_there id k ∙ sym k
    | inr absent ↦
        elim (cases_Bool (has_id left id)) [
          | inl there ↦
              let some = some_passing (λ l. has_id l id) (λ xs ys. has_id_append xs ys id) refl left there in
              let none = none_passing (λ l. has_id l id) (λ xs ys. has_id_append xs ys id) refl whole (ids_same events id ∙ absent) in
              let same = left_sum (of_id id) in
              absurd (omega arith)
          | inr gone ↦ gone ∙ sym absent
        ]
  ]

  left_all : (P Q : PlainEvent → Type 0) → ((e : PlainEvent) → P e → Q (link e)) → AllByRecursion P events → AllByRecursion Q left
  left_all P Q f a = let b = all_linked P Q f events a in filled_all set sel.apart whole whole_ids Q b (w ∷ ws) whole b

  pub left_once : AreOnce left
  left_once = record {
    ids = λ id. subst (λ n. n ≤ 1) (sym (left_sum (of_id id))) (whole_ids id);
    marks = λ m. subst (λ n. n ≤ 1) (sym (left_sum (of_mark m))) (whole_marks m);
  }

  pub left_settles : CanBeSettled left
  left_settles = record {
    lawful = left_all Known IsLawful lawful known;
    spelled = left_all Known IsFormedEvent spelled known;
    once = left_once;
    complete = left_all Known (λ e. IsTrue (is_ready left e)) (λ e k. true_all (has_id left) (referents_of (link e)) (all_imply (There events) (There left) (λ id x. left_there id x) (referents_of (link e)) (refers e k))) known;
    numbered = (num, events_of_nodes (IsAbove num) left (left_all Known (OfNodes (IsAbove num)) low known));
  }

  pub left_few : AllByRecursion HasFewParents left
  left_few = left_all Known HasFewParents few known

  pub left_ops : AllByRecursion (OfNodes (HasOperationsOf events)) left
  left_ops = left_all Known (OfNodes (HasOperationsOf events)) own_ops known

  own_after : (e : PlainEvent) → OfNodes (IsAfter given old new) (link e)
  own_after (Commit id mark branch author committer encoding comment parents ops aliases) = ((parents, refl), tt)
  own_after (Blob id mark bytes) = tt
  own_after (Tag id name target tagger comment mark) = tt
  own_after (Reset id branch target) = tt
  own_after (Pass id line) = tt

  pub left_after : AllByRecursion (OfNodes (IsAfter given old new)) left
  left_after = left_all Known (OfNodes (IsAfter given old new)) (λ e k. own_after e) known

  abbrev IsFound : PlainEvent → Type 0
  IsFound e = find_event (id_of e) events ≡ Some e

  -- each event is as it was, but for the parents of a commit
  pub left_in_order : AllByRecursion (IsOneInOrder v vs w ws events) left
  left_in_order =
      left_all IsFound (IsOneInOrder v vs w ws events) (λ e f. (e, ap (λ id. find_event id events) (relinked_id given old new e) ∙ f, refl))
      (each_found events (sound_once events h).ids)
