-- What an operation that is added, or operations that are removed, leave: where nothing is wrong with it, it is sound.
use Rattle.std.proofs.Common.{◌≡◌, ℕ, zero, suc, ◌-◌, ◌≤◌, Bool, true, false, cond, not, List, [], ◌∷◌, ◌++◌, drop, filter, length, map, remove, take, refl, sym, ap, subst, ◌∙◌, inl, inr, ◌⊎◌, arith, true≢false, is_ok, Option, Some, None, Result, Ok, Err}
use Rattle.std.specs.Prelude.{◌||◌, ◌==◌, IsFalse}
use Rattle.std.specs.List.{AllByRecursion}
use Rattle.std.specs.Map.{lookup}
use Rattle.std.proofs.lemmas.Bool.{or_left, or_right}
use Rattle.plain_model.specs.declared.fault.Fault.{Fault}
use Rattle.plain_model.specs.declared.id.AnyId.{AnyId}
use Rattle.plain_model.specs.declared.id.AnyId.TheVariants as any
use Rattle.plain_model.specs.declared.operation.Mode.{Mode}
use Rattle.plain_model.specs.declared.operation.Mode.TheVariants.{Plain, Executable, Link, Gitlink}
use Rattle.plain_model.specs.declared.operation.Content.{Content}
use Rattle.plain_model.specs.declared.operation.Content.TheVariants as content
use Rattle.plain_model.specs.declared.operation.FileOp.{FileOp}
use Rattle.plain_model.specs.declared.operation.FileOp.TheVariants.{Modify, Delete, Copy, Rename, DeleteAll}
use Rattle.plain_model.specs.declared.raw.RawContent.{RawContent}
use Rattle.plain_model.specs.declared.raw.RawContent.TheVariants.{Marked, Object, Inline}
use Rattle.plain_model.specs.declared.raw.RawOp.{RawOp}
use Rattle.plain_model.specs.declared.raw.RawOp.TheVariants as raw
use Rattle.plain_model.specs.declared.event.PlainEvent.{PlainEvent}
use Rattle.plain_model.specs.declared.event.PlainEvent.TheVariants.{Blob, Commit, Tag, Reset, Pass}
use Rattle.plain_model.specs.Fields.{ContentFits, HasItsContent, OpFits}
use Rattle.plain_model.specs.Histories.{Node, nodes, tree}
use Rattle.plain_model.specs.Lookups.{event_marks, find_mark, id_of, marks_of, op_blobs, same_id}
use Rattle.plain_model.specs.Paths.{Bytes, IsPath}
use Rattle.plain_model.specs.Soundness.{IsFormedEvent, IsSound, has_id}
use Rattle.history_laws.proofs.Ids.{has_id_append, has_id_cons}
use Rattle.history_laws.proofs.Lists.{all_join}
use Rattle.edit_laws.specs.Equations.{Fits}
use Rattle.edit_laws.specs.Keeping.{AddsNothing, HasOperationsOf, IsNoBlob}
use Rattle.edit_laws.specs.Parts.{AreInOrder, AreOnce, CanBeSettled, HasFewParents, IsLawful, of_id, of_mark, tally}
use Rattle.edit_laws.specs.Passing.{IsWithinLimits, limit_fault}
use Rattle.edit_laws.specs.Settling.{settle}
use Rattle.edit_laws.specs.Sweeping.{is_left_over}
use Rattle.edit_laws.proofs.Checked.{none_of_both}
use Rattle.edit_laws.proofs.Fine.{IsFine, There, joined_blobs, parted_blobs}
use Rattle.edit_laws.proofs.Limits.{limits_hold}
use Rattle.edit_laws.proofs.Lists.{OfNodes, all_filter, events_of_nodes, has_own_id, tally_filter}
use Rattle.edit_laws.proofs.Settled.{settled}
use Rattle.edit_laws.proofs.Settles.{any_event, settled_all, settled_ids, settled_in_order, settled_once, settled_sound, settled_sums, settling_ends}
use Rattle.edit_laws.proofs.Sound.{from_parts, in_parts}
use Rattle.edit_laws.proofs.Swept.{swept_in_order}
use Rattle.edit_laws.proofs.Trees.{trees_fit}
use Rattle.commit_laws.specs.Rewriting.{Rewrite, rewritten, rewritten_all}
use Rattle.commit_laws.specs.Selected.{node_of, the_commit}
use Rattle.commit_laws.proofs.Given.{IsGiven, all_drop, all_given, all_take, rank}
use Rattle.commit_laws.proofs.Rewritten.{all_new, can_settle, few_new, ids_same, in_order, lawful_all, once_same, spelled_all}
use Rattle.reparent_laws.specs.Faults.{any_fault, tree_fault, unless_fault}
use Rattle.reparent_laws.specs.Operations.{add_of, add_to, adds, as_blob, content_of, op_of, ops_without, removal_fault, remove_of, removed, removes}
use Rattle.reparent_laws.specs.Remaining.{IsRewritten}
use Rattle.reparent_laws.specs.declared.removal.Removal.{Removal}
use Rattle.reparent_laws.specs.declared.removal.Removal.TheVariants.{Index, At}
use Rattle.reparent_laws.proofs.Changed.{adds_nothing, one_of_all, still_within}
use Rattle.reparent_laws.proofs.Checked.{no_fault, trees_checked}

-- ---- add: the operation

-- what a mark names is there
among_own : (test : ℕ → Bool) (own id : AnyId) (marks : List ℕ) (others : List (ℕ × AnyId)) → lookup test (map (λ m. (m, own)) marks ++ others) ≡ Some id → (id ≡ own) ⊎ (lookup test others ≡ Some id)
among_own test own id [] others h = inr h
among_own test own id (m ∷ marks) others h = go (test m) h (among_own test own id marks others)
  where
    go : (b : Bool) → cond b (Some own) (lookup test (map (λ m. (m, own)) marks ++ others)) ≡ Some id
        → (lookup test (map (λ m. (m, own)) marks ++ others) ≡ Some id → (id ≡ own) ⊎ (lookup test others ≡ Some id)) → (id ≡ own) ⊎ (lookup test others ≡ Some id)
    go true h f = let is : own ≡ id = cc in inl (sym is)
    go false h f = f h

marked_there : (mark : ℕ) (id : AnyId) (es : List PlainEvent) → find_mark mark es ≡ Some id → has_id es id ≡ true
marked_there mark id [] h = absurd cc
marked_there mark id (e ∷ es) h = has_id_append (e ∷ []) es id ∙ elim (among_own (λ m. mark == m) (id_of e) id (event_marks e) (marks_of es) h) [
  | inl own ↦ or_left (has_id (e ∷ []) id) (has_id es id) (ap (has_id (e ∷ [])) own ∙ has_own_id e)
  | inr later ↦ or_right (has_id (e ∷ []) id) (has_id es id) (marked_there mark id es later)
]

-- the blob of a content is there, and an object is named by an object's id
record IsThere (events : List PlainEvent) (its : RawContent) (it : Content) : Type 0 where
  fine : (mode : Mode) (path : Bytes) → HasItsContent (raw.Modify mode its path) → ContentFits its → IsPath path → IsFine events (Modify mode it path)

content_there : (events : List PlainEvent) (its : RawContent) (it : Content) → content_of events its ≡ Ok it → IsThere events its it
content_there events (Marked mark) it h = go (find_mark mark events) refl h
  where
    marked : (b : ℕ) → has_id events (any.Blob b) ≡ true → (mode : Mode) (path : Bytes) → HasItsContent (raw.Modify mode (Marked mark) path) → ContentFits (Marked mark) → IsPath path → IsFine events (Modify mode (content.Blob b) path)
    marked b k Gitlink path its fits p = absurd its
    marked b k Plain path its fits p = (tt, (tt, p), (k, tt))
    marked b k Executable path its fits p = (tt, (tt, p), (k, tt))
    marked b k Link path its fits p = (tt, (tt, p), (k, tt))

    go : (o : Option AnyId) → find_mark mark events ≡ o → as_blob mark o ≡ Ok it → IsThere events (Marked mark) it
    go (Some (any.Blob b)) e h = let is : content.Blob b ≡ it = cc in subst (IsThere events (Marked mark)) is (record { fine = marked b (marked_there mark (any.Blob b) events e) })
    go (Some (any.Commit c)) e h = absurd cc
    go (Some (any.Tag t)) e h = absurd cc
    go (Some (any.Reset r)) e h = absurd cc
    go (Some (any.Pass p)) e h = absurd cc
    go None e h = absurd cc
content_there events (Object digits) it h = let is : content.Object digits ≡ it = cc in subst (IsThere events (Object digits)) is (record { fine = object })
  where
    object : (mode : Mode) (path : Bytes) → HasItsContent (raw.Modify mode (Object digits) path) → ContentFits (Object digits) → IsPath path → IsFine events (Modify mode (content.Object digits) path)
    object Gitlink path its fits p = (tt, (fits, p), tt)
    object Plain path its fits p = (tt, (fits, p), tt)
    object Executable path its fits p = (tt, (fits, p), tt)
    object Link path its fits p = (tt, (fits, p), tt)
content_there events Inline it h = absurd cc

fine_op : (events : List PlainEvent) (spelled : RawOp) (op : FileOp) → HasItsContent spelled → OpFits spelled → op_of events spelled ≡ Ok op → IsFine events op
fine_op events (raw.Modify mode its path) op has fits h = go (content_of events its) refl h
  where
    go : (r : Result Content Fault) → content_of events its ≡ r → ◌≡◌ {A = Result FileOp Fault} (elim r [ Ok it ↦ Ok (Modify mode it path) | Err why ↦ Err why ]) (Ok op) → IsFine events op
    go (Ok it) e h = let is : Modify mode it path ≡ op = cc in subst (IsFine events) is ((content_there events its it e).fine mode path has fits.0 fits.1)
    go (Err why) e h = absurd cc
fine_op events (raw.Delete path) op has fits h = let is : Delete path ≡ op = cc in subst (IsFine events) is (tt, fits, tt)
fine_op events (raw.Copy source target) op has fits h = let is : Copy source target ≡ op = cc in subst (IsFine events) is (tt, fits, tt)
fine_op events (raw.Rename source target) op has fits h = let is : Rename source target ≡ op = cc in subst (IsFine events) is (tt, fits, tt)
fine_op events raw.DeleteAll op has fits h = let is : DeleteAll ≡ op = cc in subst (IsFine events) is (tt, tt, tt)

-- ---- add: the list

module _ (events : List PlainEvent) (h : IsSound events) (c : ℕ) (op : FileOp) (fine : IsFine events op) where
  abbrev left : List PlainEvent
  left = rewritten_all c (adds op) events

  add_settles : CanBeSettled left
  add_settles =
      can_settle c (adds op) events h
      (λ parents ops m. record { distinct = m.distinct; here = m.here; fine = all_join (IsFine events) ops (op ∷ []) m.fine (fine, tt) })
      (rank events h) (λ id parents is a k. a) (λ n differs a k found. a)

  record IsAdded (new : List PlainEvent) : Type 0 where
    is : settle left ≡ Ok new
    limits : IsWithinLimits new
    found : tree_fault new ≡ None

  add_done : (new : List PlainEvent) → add_to events c op ≡ Ok new → IsAdded new
  add_done new d = go (settle left) refl d
    where
      go : (r : Result (List PlainEvent) (List PlainEvent)) → settle left ≡ r → ◌≡◌ {A = Result (List PlainEvent) Fault} (elim r [ Ok x ↦ unless_fault (any_fault x) x | Err never ↦ Ok events ]) (Ok new) → IsAdded new
      go (Ok x) e d =
          let parts = no_fault (any_fault x) x new d in
          let none = none_of_both (limit_fault x) (tree_fault x) parts.0 in
          record {
            is = e ∙ ap Ok parts.1;
            limits = subst IsWithinLimits parts.1 ((limits_hold x).0 none.0);
            found = subst (λ (l : List PlainEvent). tree_fault l ≡ None) parts.1 none.1;
          }
      go (Err never) e d =
          let ends = settling_ends left add_settles in
          let is : ◌≡◌ {A = Result (List PlainEvent) (List PlainEvent)} (Err never) (Ok ends.0) = sym e ∙ ends.1 in
          absurd cc

  added_sound : (new : List PlainEvent) → IsAdded new → IsSound new
  added_sound new a =
      let once = settled_once left new add_settles.once (settled (λ e. Unit {0}) left new (any_event left) a.is) in
      settled_sound left new add_settles a.is a.limits.few_parents (trees_checked new once (settled_in_order left new a.is) a.found)

module _ (spelled : RawOp) (set : List AnyId) (events new : List PlainEvent) (h : IsSound events) (its : HasItsContent spelled) (fits : OpFits spelled) (d : add_of spelled set events ≡ Ok new) where
  -- for whatever is true where an operation was added to a commit
  of_added : (P : Type 0) → ((c : ℕ) (op : FileOp) (fine : IsFine events op) → IsAdded events h c op fine new → P) → P
  of_added P f = first (the_commit events set) d
    where
      second : (c : ℕ) (r : Result FileOp Fault) → op_of events spelled ≡ r → ◌≡◌ {A = Result (List PlainEvent) Fault} (elim r [ Ok op ↦ add_to events c op | Err why ↦ Err why ]) (Ok new) → P
      second c (Ok op) e d = let fine = fine_op events spelled op its fits e in f c op fine (add_done events h c op fine new d)
      second c (Err why) e d = absurd cc

      first : (r : Result ℕ Fault)
          → ◌≡◌ {A = Result (List PlainEvent) Fault} (elim r [ Ok c ↦ elim (op_of events spelled) [ Ok op ↦ add_to events c op | Err why ↦ Err why ] | Err why ↦ Err why ]) (Ok new) → P
      first (Ok c) d = second c (op_of events spelled) refl d
      first (Err why) d = absurd cc

  pub add_sound : IsSound new
  add_sound = of_added (IsSound new) (λ c op fine a. added_sound events h c op fine new a)

  pub add_limits : IsWithinLimits new
  add_limits = of_added (IsWithinLimits new) (λ c op fine a. a.limits)

  pub add_ids : (id : AnyId) → has_id new id ≡ has_id events id
  add_ids = of_added ((id : AnyId) → has_id new id ≡ has_id events id) (λ c op fine a id. settled_ids (left events h c op fine) new a.is id ∙ ids_same c (adds op) events id)

  pub add_adds_nothing : AddsNothing events new
  add_adds_nothing = of_added (AddsNothing events new) (λ c op fine a. adds_nothing c (adds op) events new (λ f. let same = settled_sums (left events h c op fine) new a.is f in omega arith))

  pub add_fits : AllByRecursion (Fits (tree new)) (nodes new)
  add_fits = let parts = in_parts new add_sound in trees_fit new parts.once parts.in_order

pub add_changes_one : (spelled : RawOp) (op : FileOp) (c : ℕ) (events new : List PlainEvent) → IsSound events → HasItsContent spelled → OpFits spelled → op_of events spelled ≡ Ok op → add_of spelled (any.Commit c ∷ []) events ≡ Ok new →
    AllByRecursion (IsRewritten c (adds op) events) new
add_changes_one spelled op c events new h its fits is d =
    let fine = fine_op events spelled op its fits is in
    let a = add_done events h c op fine new (sym (ap (λ (r : Result FileOp Fault). elim r as (λ x. Result (List PlainEvent) Fault) [ Ok op ↦ add_to events c op | Err why ↦ Err why ]) is) ∙ d) in
    settled_all (IsRewritten c (adds op) events) (left events h c op fine) new (one_of_all c (adds op) events h) a.is

pub add_ends : (spelled : RawOp) (op : FileOp) (events : List PlainEvent) (c : ℕ) → IsSound events → HasItsContent spelled → OpFits spelled → op_of events spelled ≡ Ok op → is_ok (settle (rewritten_all c (adds op) events)) ≡ true
add_ends spelled op events c h its fits is =
    let fine = fine_op events spelled op its fits is in
    let ends = settling_ends (left events h c op fine) (add_settles events h c op fine) in
    ap is_ok ends.1

-- ---- operations that stay

-- each other commit has the operations that it had
others_stay : (c : ℕ) (how : Rewrite) (events : List PlainEvent) (number : ℕ → ℕ) (e : PlainEvent) → IsGiven events number e → OfNodes (λ n. IsFalse (n.id == c) → HasOperationsOf events n) (rewritten c how e)
others_stay c how events number (Commit id mark branch author committer encoding comment parents ops aliases) g = go (id == c) refl
  where
    n : Node
    n = record { id = id; parents = parents; ops = ops }

    go : (b : Bool) → (id == c) ≡ b →
        OfNodes (λ n. IsFalse (n.id == c) → HasOperationsOf events n) (cond b (Commit id mark branch author committer encoding comment (how.parents parents) (how.ops parents ops) aliases) (Commit id mark branch author committer encoding comment parents ops aliases))
    go true is = ((λ other. absurd (true≢false (sym is ∙ other))), tt)
    go false is = ((λ other. (n, g.found.0, refl)), tt)
others_stay c how events number (Blob id mark bytes) g = tt
others_stay c how events number (Tag id name target tagger comment mark) g = tt
others_stay c how events number (Reset id branch target) g = tt
others_stay c how events number (Pass id line) g = tt

all_others_stay : (c : ℕ) (how : Rewrite) (events : List PlainEvent) → IsSound events → AllByRecursion (OfNodes (λ n. IsFalse (n.id == c) → HasOperationsOf events n)) (rewritten_all c how events)
all_others_stay c how events h = all_new c how (IsGiven events (rank events h)) (OfNodes (λ n. IsFalse (n.id == c) → HasOperationsOf events n)) (others_stay c how events (rank events h)) events (all_given events h)

pub add_others : (spelled : RawOp) (c : ℕ) (events new : List PlainEvent) → IsSound events → HasItsContent spelled → OpFits spelled → add_of spelled (any.Commit c ∷ []) events ≡ Ok new →
    AllByRecursion (λ n. IsFalse (n.id == c) → HasOperationsOf events n) (nodes new)
add_others spelled c events new h its fits d = go (op_of events spelled) refl d
  where
    go : (r : Result FileOp Fault) → op_of events spelled ≡ r → ◌≡◌ {A = Result (List PlainEvent) Fault} (elim r [ Ok op ↦ add_to events c op | Err why ↦ Err why ]) (Ok new) → AllByRecursion (λ n. IsFalse (n.id == c) → HasOperationsOf events n) (nodes new)
    go (Ok op) e d =
        let fine = fine_op events spelled op its fits e in
        let a = add_done events h c op fine new d in
        events_of_nodes (λ n. IsFalse (n.id == c) → HasOperationsOf events n) new
        (settled_all (OfNodes (λ n. IsFalse (n.id == c) → HasOperationsOf events n)) (left events h c op fine) new (all_others_stay c (adds op) events h) a.is)
    go (Err why) e d = absurd cc

-- ---- remove

pub without_all : (P : FileOp → Type 0) (what : Removal) (ops : List FileOp) → AllByRecursion P ops → AllByRecursion P (ops_without what ops)
without_all P (Index number) ops a = all_join P (take (number - 1) ops) (drop (suc (number - 1)) ops) (all_take P (number - 1) ops a) (all_drop P (suc (number - 1)) ops a)
without_all P (At path) ops a = all_filter P _ ops a

filter_no_more : (test : FileOp → Bool) (ops : List FileOp) → length (filter test ops) ≤ length ops
filter_no_more test [] = omega arith
filter_no_more test (op ∷ ops) = let rest = filter_no_more test ops in elim (test op) as (λ b. length (cond b (op ∷ filter test ops) (filter test ops)) ≤ suc (length ops)) [ true ↦ omega arith | false ↦ omega arith ]

remove_no_more : (n : ℕ) (ops : List FileOp) → length (remove ops n) ≤ length ops
remove_no_more n ops = go n ops
  where
    go : (n : ℕ) (ops : List FileOp) → length (take n ops ++ drop (suc n) ops) ≤ length ops
    go zero [] = omega arith
    go (suc n) [] = omega arith
    go zero (op ∷ ops) = omega arith
    go (suc n) (op ∷ ops) = let rest = go n ops in omega arith

without_no_more : (what : Removal) (ops : List FileOp) → length (ops_without what ops) ≤ length ops
without_no_more (Index number) ops = remove_no_more (number - 1) ops
without_no_more (At path) ops = filter_no_more _ ops

module _ (events : List PlainEvent) (h : IsSound events) (c : ℕ) (what : Removal) where
  abbrev fewer : List PlainEvent
  fewer = rewritten_all c (removes what) events

  abbrev kept : PlainEvent → Bool
  kept e = not (is_left_over events fewer e)

  removed_once : AreOnce (removed events c what)
  removed_once =
      let o = once_same c (removes what) events (in_parts events h).once in
      record {
        ids = λ id. let one = o.ids id in let less = tally_filter (of_id id) kept fewer in omega arith;
        marks = λ m. let one = o.marks m in let less = tally_filter (of_mark m) kept fewer in omega arith;
      }

  removed_order : AreInOrder [] (removed events c what)
  removed_order =
      swept_in_order events fewer
      (in_order c (removes what) events
      (λ xs e es is its parents ops a b. (a, joined_blobs xs (ops_without what ops) (without_all (λ op. AllByRecursion (There xs) (op_blobs op)) what ops (parted_blobs xs ops b))))
      (in_parts events h).in_order)

  removed_sound : tree_fault (removed events c what) ≡ None → IsSound (removed events c what)
  removed_sound found = from_parts (removed events c what) (record {
    lawful = all_filter IsLawful kept fewer (lawful_all c (removes what) events h (λ parents ops m. record { distinct = m.distinct; here = m.here; fine = without_all (IsFine events) what ops m.fine }));
    spelled = all_filter IsFormedEvent kept fewer (spelled_all c (removes what) events h (λ parents ops m. record { distinct = m.distinct; here = m.here; fine = without_all (IsFine events) what ops m.fine }));
    few = all_filter HasFewParents kept fewer (few_new c (removes what) events (λ parents f. f) (in_parts events h).few);
    once = removed_once;
    in_order = removed_order;
    trees = trees_checked (removed events c what) removed_once removed_order found;
  })

module _ (what : Removal) (set : List AnyId) (events new : List PlainEvent) (h : IsSound events) (d : remove_of what set events ≡ Ok new) where
  -- for whatever is true of a commit without the operations
  pub of_removed : (P : List PlainEvent → Type 0) → ((c : ℕ) → tree_fault (removed events c what) ≡ None → P (removed events c what)) → P new
  of_removed P f = first (the_commit events set) d
    where
      second : (c : ℕ) (o : Option Fault) → ◌≡◌ {A = Result (List PlainEvent) Fault} (elim o [ Some why ↦ Err why | None ↦ unless_fault (tree_fault (removed events c what)) (removed events c what) ]) (Ok new) → P new
      second c None d = let parts = no_fault (tree_fault (removed events c what)) (removed events c what) new d in subst P parts.1 (f c parts.0)
      second c (Some why) d = absurd cc

      first : (r : Result ℕ Fault)
          → ◌≡◌ {A = Result (List PlainEvent) Fault} (elim r [ Ok c ↦ elim (removal_fault what (node_of events c).ops) [ Some why ↦ Err why | None ↦ unless_fault (tree_fault (removed events c what)) (removed events c what) ] | Err why ↦ Err why ]) (Ok new) → P new
      first (Ok c) d = second c (removal_fault what (node_of events c).ops) d
      first (Err why) d = absurd cc

  pub remove_sound : IsSound new
  remove_sound = of_removed IsSound (λ c found. removed_sound events h c what found)

  taken : (c : ℕ) (f : PlainEvent → ℕ) → tally f (removed events c what) ≤ tally f (rewritten_all c (removes what) events)
  taken c f = tally_filter f (kept events h c what) (fewer events h c what)

  pub remove_adds_nothing : AddsNothing events new
  remove_adds_nothing = of_removed (AddsNothing events) (λ c found. adds_nothing c (removes what) events (removed events c what) (taken c))

  pub remove_limits : IsWithinLimits events → IsWithinLimits new
  remove_limits within =
      of_removed IsWithinLimits (λ c found. still_within c (removes what) events (removed events c what) (taken c) (λ parents ops. without_no_more what ops) (in_parts (removed events c what) (removed_sound events h c what found)).few within)

  pub remove_fits : AllByRecursion (Fits (tree new)) (nodes new)
  remove_fits = let parts = in_parts new remove_sound in trees_fit new parts.once parts.in_order

-- ---- of one commit

module _ (what : Removal) (c : ℕ) (events new : List PlainEvent) (h : IsSound events) (d : remove_of what (any.Commit c ∷ []) events ≡ Ok new) where
  -- for whatever is true of the commit without the operations
  of_its : (P : List PlainEvent → Type 0) → P (removed events c what) → P new
  of_its P f = go (removal_fault what (node_of events c).ops) d
    where
      go : (o : Option Fault) → ◌≡◌ {A = Result (List PlainEvent) Fault} (elim o [ Some why ↦ Err why | None ↦ unless_fault (tree_fault (removed events c what)) (removed events c what) ]) (Ok new) → P new
      go None d = subst P (no_fault (tree_fault (removed events c what)) (removed events c what) new d).1 f
      go (Some why) d = absurd cc

  pub remove_changes_one : AllByRecursion (IsRewritten c (removes what) events) new
  remove_changes_one = of_its (AllByRecursion (IsRewritten c (removes what) events)) (all_filter (IsRewritten c (removes what) events) (kept events h c what) (fewer events h c what) (one_of_all c (removes what) events h))

  pub remove_others : AllByRecursion (λ n. IsFalse (n.id == c) → HasOperationsOf events n) (nodes new)
  remove_others =
      of_its (λ l. AllByRecursion (λ n. IsFalse (n.id == c) → HasOperationsOf events n) (nodes l))
      (events_of_nodes (λ n. IsFalse (n.id == c) → HasOperationsOf events n) (removed events c what)
      (all_filter (OfNodes (λ n. IsFalse (n.id == c) → HasOperationsOf events n)) (kept events h c what) (fewer events h c what) (all_others_stay c (removes what) events h)))

-- ---- what is there

not_a_blob : (id : AnyId) (b : ℕ) → IsNoBlob id → same_id id (any.Blob b) ≡ false
not_a_blob (any.Blob x) b n = absurd n
not_a_blob (any.Commit x) b n = refl
not_a_blob (any.Tag x) b n = refl
not_a_blob (any.Reset x) b n = refl
not_a_blob (any.Pass x) b n = refl

-- an event before lists that have the same ids
has_more : (e : PlainEvent) (xs ys : List PlainEvent) (id : AnyId) → has_id xs id ≡ has_id ys id → has_id (e ∷ xs) id ≡ has_id (e ∷ ys) id
has_more e xs ys id same = has_id_cons e xs id ∙ ap (λ x. same_id id (id_of e) || x) same ∙ sym (has_id_cons e ys id)

-- sweeping takes blobs alone
module _ (old new : List PlainEvent) (id : AnyId) (n : IsNoBlob id) where
  abbrev stay : List PlainEvent → List PlainEvent
  stay es = filter (λ e. not (is_left_over old new e)) es

  swept_others : (es : List PlainEvent) → has_id (stay es) id ≡ has_id es id
  swept_others [] = refl
  swept_others (Blob b mark bytes ∷ es) =
      elim (is_left_over old new (Blob b mark bytes)) as (λ x. has_id (cond (not x) (Blob b mark bytes ∷ stay es) (stay es)) id ≡ has_id es id) [
        | true ↦ swept_others es
        | false ↦ no_blob (stay es) ∙ swept_others es
      ]
      ∙ sym (no_blob es)
    where
      no_blob : (l : List PlainEvent) → has_id (Blob b mark bytes ∷ l) id ≡ has_id l id
      no_blob l = has_id_cons (Blob b mark bytes) l id ∙ ap (λ x. x || has_id l id) (not_a_blob id b n)
  swept_others (Commit i mark branch author committer encoding comment parents ops aliases ∷ es) = has_more (Commit i mark branch author committer encoding comment parents ops aliases) (stay es) es id (swept_others es)
  swept_others (Tag i name target tagger comment mark ∷ es) = has_more (Tag i name target tagger comment mark) (stay es) es id (swept_others es)
  swept_others (Reset i branch target ∷ es) = has_more (Reset i branch target) (stay es) es id (swept_others es)
  swept_others (Pass i line ∷ es) = has_more (Pass i line) (stay es) es id (swept_others es)

pub remove_ids : (what : Removal) (set : List AnyId) (events new : List PlainEvent) → IsSound events → remove_of what set events ≡ Ok new → (id : AnyId) → IsNoBlob id → has_id new id ≡ has_id events id
remove_ids what set events new h d id n =
    of_removed what set events new h d (λ l. has_id l id ≡ has_id events id)
    (λ c found. swept_others events (rewritten_all c (removes what) events) id n (rewritten_all c (removes what) events) ∙ ids_same c (removes what) events id)
