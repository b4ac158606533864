-- One parent more, or the first alone: the list stays in order, and each commit has the tree that it had.
use Rattle.std.proofs.Common.{◌≡◌, ℕ, ◌≤◌, Bool, true, false, cond, not, List, [], ◌∷◌, ◌++◌, length, take, refl, sym, ap, subst, ◌∙◌, arith, true≢false, ◌≢◌, eq-eqb, Option, Some, None, Result, Ok, Err}
use Rattle.std.specs.Prelude.{◌||◌, ◌&&◌, ◌==◌, IsSome, flat_map}
use Rattle.std.specs.List.{AllByRecursion, list_any}
use Rattle.std.proofs.lemmas.Bool.{and_parts, and_from, or_from, or_parts, not-true}
use Rattle.plain_model.specs.declared.limit.TheConstants.{MAX_PARENTS}
use Rattle.plain_model.specs.declared.fault.Fault.{Fault}
use Rattle.plain_model.specs.declared.fault.Fault.TheVariants as fault
use Rattle.plain_model.specs.declared.id.AnyId.{AnyId}
use Rattle.plain_model.specs.declared.id.AnyId.TheVariants as any
use Rattle.plain_model.specs.declared.operation.FileOp.{FileOp}
use Rattle.plain_model.specs.declared.operation.FileOp.TheVariants.{DeleteAll}
use Rattle.plain_model.specs.declared.event.PlainEvent.{PlainEvent}
use Rattle.plain_model.specs.Histories.{begun, folded, nodes, tree}
use Rattle.plain_model.specs.Lookups.{op_blobs}
use Rattle.plain_model.specs.Soundness.{IsCommitOf, IsSound, are_distinct, has_id}
use Rattle.plain_model.specs.Trees.{Tree}
use Rattle.plain_model.proofs.Numbers.{eqb_turned}
use Rattle.history_laws.proofs.Lists.{all_join}
use Rattle.edit_laws.specs.Equations.{Fits}
use Rattle.edit_laws.specs.Keeping.{AddsNothing, KeepsTrees}
use Rattle.edit_laws.specs.Parts.{AreInOrder, HasFewParents}
use Rattle.edit_laws.specs.Passing.{IsWithinLimits, limit_fault}
use Rattle.edit_laws.proofs.Fine.{IsFine, There}
use Rattle.edit_laws.proofs.Limits.{limits_hold}
use Rattle.edit_laws.proofs.Settles.{sound_settles}
use Rattle.edit_laws.proofs.Shown.{shown_alike}
use Rattle.edit_laws.proofs.Sound.{from_parts, in_parts}
use Rattle.edit_laws.proofs.Trees.{trees_solve}
use Rattle.commit_laws.specs.Rewriting.{Rewrite, rewritten_all}
use Rattle.commit_laws.specs.Selected.{kind_fault, listed, the_commit}
use Rattle.commit_laws.proofs.Given.{IsHere, all_take}
use Rattle.commit_laws.proofs.Rewritten.{MayHave, all_fit, bytes_new, few_new, ids_same, in_order, lawful_all, once_same, spelled_all}
use Rattle.commit_laws.proofs.Selections.{listed_distinct, listed_here, low_before}
use Rattle.reparent_laws.specs.Merge.{merge_of, merge_these, merges, ops_with_parent, unmerge_of, unmerges, with_parent}
use Rattle.reparent_laws.specs.Remaining.{IsRewritten}
use Rattle.reparent_laws.proofs.Changed.{adds_nothing, one_of_all, still_within}
use Rattle.reparent_laws.proofs.Checked.{no_fault}

-- ---- a commit changed where it stands

module _ (c : ℕ) (how : Rewrite) (events : List PlainEvent) (h : IsSound events)
    (may : (parents : List ℕ) (ops : List FileOp) → MayHave events parents ops → MayHave events (how.parents parents) (how.ops parents ops))
    (few : AllByRecursion HasFewParents (rewritten_all c how events))
    (order : AreInOrder [] (rewritten_all c how events))
    (fits : AllByRecursion (Fits (tree events)) (nodes (rewritten_all c how events)))
  where
    abbrev new : List PlainEvent
    new = rewritten_all c how events

    same_trees : (d : ℕ) → IsCommitOf new d → tree new d ≡ tree events d
    same_trees d k = trees_solve (tree events) new order fits d k

    stays_sound : IsSound new
    stays_sound = from_parts new (record {
      lawful = lawful_all c how events h may;
      spelled = spelled_all c how events h may;
      few = few;
      once = once_same c how events (in_parts events h).once;
      in_order = order;
      trees = λ d k. subst IsSome (sym (same_trees d k)) (h.trees d (sym (ids_same c how events (any.Commit d)) ∙ k));
    })

    stays_keep : KeepsTrees events new
    stays_keep = record {
      trees = λ d k. same_trees d (ids_same c how events (any.Commit d) ∙ k);
      shown = λ d k. shown_alike events new (bytes_new c how events h) (sound_settles new stays_sound).complete d d (same_trees d (ids_same c how events (any.Commit d) ∙ k));
    }

-- ---- merge: one parent more

any_more : (x p : ℕ) (ps : List ℕ) → list_any (λ m. m == x) (ps ++ p ∷ []) ≡ list_any (λ m. m == x) ps || (p == x)
any_more x p [] = one (p == x)
  where
    one : (b : Bool) → b || false ≡ b
    one true = refl
    one false = refl
any_more x p (q ∷ ps) = ap (λ b. (q == x) || b) (any_more x p ps) ∙ again (q == x) (list_any (λ m. m == x) ps) (p == x)
  where
    again : (a b c : Bool) → a || (b || c) ≡ (a || b) || c
    again true b c = refl
    again false b c = refl

distinct_more : (p : ℕ) (ps : List ℕ) → are_distinct ps ≡ true → list_any (λ m. m == p) ps ≡ false → are_distinct (ps ++ p ∷ []) ≡ true
distinct_more p [] d n = refl
distinct_more p (q ∷ ps) d n =
    let parts = and_parts (not (list_any (λ m. m == q) ps)) (are_distinct ps) d in
    let apart = or_parts (q == p) (list_any (λ m. m == p) ps) n in
    and_from (not (list_any (λ m. m == q) (ps ++ p ∷ []))) (are_distinct (ps ++ p ∷ []))
    (ap not (any_more q p ps ∙ or_from (list_any (λ m. m == q) ps) (p == q) (not-true (list_any (λ m. m == q) ps) parts.0) (eqb_turned p q ∙ apart.0)))
    (distinct_more p ps parts.1 apart.1)

with_distinct : (p : ℕ) (ps : List ℕ) → are_distinct ps ≡ true → are_distinct (with_parent p ps) ≡ true
with_distinct p ps d = go (list_any (λ q. q == p) ps) refl
  where
    go : (b : Bool) → list_any (λ q. q == p) ps ≡ b → are_distinct (cond b ps (ps ++ p ∷ [])) ≡ true
    go true e = d
    go false e = distinct_more p ps d e

with_all : (P : ℕ → Type 0) (p : ℕ) (ps : List ℕ) → P p → AllByRecursion P ps → AllByRecursion P (with_parent p ps)
with_all P p ps h a = elim (list_any (λ q. q == p) ps) as (λ b. AllByRecursion P (cond b ps (ps ++ p ∷ []))) [ true ↦ a | false ↦ all_join P ps (p ∷ []) a (h, tt) ]

ops_with_all : (P : FileOp → Type 0) (ps : List ℕ) (ops : List FileOp) → P DeleteAll → AllByRecursion P ops → AllByRecursion P (ops_with_parent ps ops)
ops_with_all P [] ops d a = (d, a)
ops_with_all P (p ∷ ps) ops d a = a

blobs_with : (xs : List PlainEvent) (ps : List ℕ) (ops : List FileOp) → AllByRecursion (There xs) (flat_map op_blobs ops) → AllByRecursion (There xs) (flat_map op_blobs (ops_with_parent ps ops))
blobs_with xs [] ops a = a
blobs_with xs (p ∷ ps) ops a = a

-- after `deleteall` it doesn't count where a commit began
pub anew : (ops : List FileOp) (o : Option Tree) → IsSome o → folded (DeleteAll ∷ ops) o ≡ folded ops (Some [])
anew ops (Some t) s = refl
anew ops None s = absurd (true≢false (sym s))

merged_tree : (tree_of : ℕ → Option Tree) (p : ℕ) (ps : List ℕ) (ops : List FileOp) → IsSome (tree_of p) → folded (ops_with_parent ps ops) (begun tree_of (with_parent p ps)) ≡ folded ops (begun tree_of ps)
merged_tree tree_of p [] ops s = anew ops (tree_of p) s
merged_tree tree_of p (q ∷ ps) ops s = ap (folded ops) (elim (list_any (λ m. m == p) (q ∷ ps)) as (λ b. begun tree_of (cond b (q ∷ ps) (q ∷ ps ++ p ∷ [])) ≡ tree_of q) [ true ↦ refl | false ↦ refl ])

module _ (set : List AnyId) (events : List PlainEvent) (h : IsSound events) (low high : ℕ) (two : listed set events ≡ low ∷ high ∷ []) where
  both_here : IsHere events low × IsHere events high
  both_here = let a = subst (AllByRecursion (IsHere events)) two (listed_here set events) in (a.0, a.1.0)

  low_apart : low ≢ high
  low_apart same = go (high == low) refl (subst (λ (l : List ℕ). are_distinct l ≡ true) two (listed_distinct set events h))
    where
      go : (b : Bool) → (high == low) ≡ b → not (b || false) && true ≡ true → ⊥
      go true e k = absurd (true≢false (sym k))
      go false e k = absurd (true≢false (sym (eq-eqb high low (sym same)) ∙ e))

  merged_may : (parents : List ℕ) (ops : List FileOp) → MayHave events parents ops → MayHave events (with_parent low parents) (ops_with_parent parents ops)
  merged_may parents ops m = record {
    distinct = with_distinct low parents m.distinct;
    here = with_all (IsHere events) low parents both_here.0 m.here;
    fine = ops_with_all (IsFine events) parents ops (tt, tt, tt) m.fine;
  }

  merged_order : AreInOrder [] (rewritten_all high (merges low) events)
  merged_order =
      in_order high (merges low) events
      (λ xs e es is its parents ops a b. (with_all (IsHere xs) low parents (low_before set low high low_apart xs e es its (ap (listed set) (sym is) ∙ two)) a, blobs_with xs parents ops b))
      (in_parts events h).in_order

  merged_fits : AllByRecursion (Fits (tree events)) (nodes (rewritten_all high (merges low) events))
  merged_fits = all_fit high (merges low) events h (λ id parents ops is a. merged_tree (tree events) low parents ops (h.trees low both_here.0))

  merged_sound : AllByRecursion HasFewParents (rewritten_all high (merges low) events) → IsSound (rewritten_all high (merges low) events)
  merged_sound few = stays_sound high (merges low) events h merged_may few merged_order merged_fits

  merged_keep : AllByRecursion HasFewParents (rewritten_all high (merges low) events) → KeepsTrees events (rewritten_all high (merges low) events)
  merged_keep few = stays_keep high (merges low) events h merged_may few merged_order merged_fits

-- ---- a merge that isn't refused

record IsMerge (set : List AnyId) (events new : List PlainEvent) : Type 0 where
  low : ℕ
  high : ℕ
  two : listed set events ≡ low ∷ high ∷ []
  limits : IsWithinLimits (rewritten_all high (merges low) events)
  is : rewritten_all high (merges low) events ≡ new

these_two : (set : List AnyId) (events new : List PlainEvent) (cs : List ℕ) → listed set events ≡ cs → merge_these events cs ≡ Ok new → IsMerge set events new
these_two set events new [] e d = absurd cc
these_two set events new (c ∷ []) e d = absurd cc
these_two set events new (low ∷ high ∷ []) e d =
    let after = rewritten_all high (merges low) events in
    let parts = no_fault (limit_fault after) after new d in
    record { low = low; high = high; two = e; limits = (limits_hold after).0 parts.0; is = parts.1 }
these_two set events new (a ∷ b ∷ c ∷ cs) e d = absurd cc

merge_done : (set : List AnyId) (events new : List PlainEvent) → merge_of set events ≡ Ok new → IsMerge set events new
merge_done set events new d = first (length set == 2) d
  where
    second : (o : Option Fault) → ◌≡◌ {A = Result (List PlainEvent) Fault} (elim o [ Some why ↦ Err why | None ↦ merge_these events (listed set events) ]) (Ok new) → IsMerge set events new
    second None d = these_two set events new (listed set events) refl d
    second (Some why) d = absurd cc

    first : (b : Bool) → ◌≡◌ {A = Result (List PlainEvent) Fault} (cond b (elim (kind_fault events set) [ Some why ↦ Err why | None ↦ merge_these events (listed set events) ]) (Err (fault.WrongCount (length set)))) (Ok new) → IsMerge set events new
    first true d = second (kind_fault events set) d
    first false d = absurd cc

module _ (set : List AnyId) (events new : List PlainEvent) where
  pub merge_sound : IsSound events → merge_of set events ≡ Ok new → IsSound new
  merge_sound h d = let m = merge_done set events new d in subst IsSound m.is (merged_sound set events h m.low m.high m.two m.limits.few_parents)

  pub merge_keeps : IsSound events → merge_of set events ≡ Ok new → KeepsTrees events new
  merge_keeps h d = let m = merge_done set events new d in subst (KeepsTrees events) m.is (merged_keep set events h m.low m.high m.two m.limits.few_parents)

  pub merge_limits : merge_of set events ≡ Ok new → IsWithinLimits new
  merge_limits d = let m = merge_done set events new d in subst IsWithinLimits m.is m.limits

  pub merge_ids : merge_of set events ≡ Ok new → (id : AnyId) → has_id new id ≡ has_id events id
  merge_ids d id = let m = merge_done set events new d in subst (λ (l : List PlainEvent). has_id l id ≡ has_id events id) m.is (ids_same m.high (merges m.low) events id)

  pub merge_adds_nothing : merge_of set events ≡ Ok new → AddsNothing events new
  merge_adds_nothing d =
      let m = merge_done set events new d in
      subst (AddsNothing events) m.is (adds_nothing m.high (merges m.low) events (rewritten_all m.high (merges m.low) events) (λ f. omega arith))

  -- the two are those of the list
  pub merge_is : (low high : ℕ) → listed set events ≡ low ∷ high ∷ [] → merge_of set events ≡ Ok new → rewritten_all high (merges low) events ≡ new
  merge_is low high two d =
      let m = merge_done set events new d in
      let same : ◌≡◌ {A = List ℕ} (low ∷ high ∷ []) (m.low ∷ m.high ∷ []) = sym two ∙ m.two in
      let lows : low ≡ m.low = cc in
      let highs : high ≡ m.high = cc in
      (λ i. rewritten_all (highs i) (merges (lows i)) events) ∙ m.is

  pub merge_changes_one : IsSound events → (low high : ℕ) → listed set events ≡ low ∷ high ∷ [] → merge_of set events ≡ Ok new → AllByRecursion (IsRewritten high (merges low) events) new
  merge_changes_one h low high two d = subst (AllByRecursion (IsRewritten high (merges low) events)) (merge_is low high two d) (one_of_all high (merges low) events h)

-- ---- unmerge: the first parent alone

alone_distinct : (ps : List ℕ) → are_distinct (take 1 ps) ≡ true
alone_distinct [] = refl
alone_distinct (p ∷ ps) = refl

alone_few : (ps : List ℕ) → length ps ≤ MAX_PARENTS → length (take 1 ps) ≤ MAX_PARENTS
alone_few [] f = f
alone_few (p ∷ ps) f = omega arith

alone_begun : (tree_of : ℕ → Option Tree) (ps : List ℕ) → begun tree_of (take 1 ps) ≡ begun tree_of ps
alone_begun tree_of [] = refl
alone_begun tree_of (p ∷ ps) = refl

module _ (c : ℕ) (events : List PlainEvent) (h : IsSound events) where
  alone_may : (parents : List ℕ) (ops : List FileOp) → MayHave events parents ops → MayHave events (take 1 parents) ops
  alone_may parents ops m = record { distinct = alone_distinct parents; here = all_take (IsHere events) 1 parents m.here; fine = m.fine }

  alone_order : AreInOrder [] (rewritten_all c unmerges events)
  alone_order = in_order c unmerges events (λ xs e es is its parents ops a b. (all_take (IsHere xs) 1 parents a, b)) (in_parts events h).in_order

  alone_fits : AllByRecursion (Fits (tree events)) (nodes (rewritten_all c unmerges events))
  alone_fits = all_fit c unmerges events h (λ id parents ops is a. ap (folded ops) (alone_begun (tree events) parents))

  alone_parents : AllByRecursion HasFewParents (rewritten_all c unmerges events)
  alone_parents = few_new c unmerges events alone_few (in_parts events h).few

  unmerged_sound : IsSound (rewritten_all c unmerges events)
  unmerged_sound = stays_sound c unmerges events h alone_may alone_parents alone_order alone_fits

  unmerged_keeps : KeepsTrees events (rewritten_all c unmerges events)
  unmerged_keeps = stays_keep c unmerges events h alone_may alone_parents alone_order alone_fits

unmerge_is : (set : List AnyId) (events new : List PlainEvent) → unmerge_of set events ≡ Ok new → (c : ℕ) × (rewritten_all c unmerges events ≡ new)
unmerge_is set events new d = go (the_commit events set) d
  where
    go : (r : Result ℕ Fault) → ◌≡◌ {A = Result (List PlainEvent) Fault} (elim r [ Ok c ↦ Ok (rewritten_all c unmerges events) | Err why ↦ Err why ]) (Ok new) → (c : ℕ) × (rewritten_all c unmerges events ≡ new)
    go (Ok c) d = let is : rewritten_all c unmerges events ≡ new = cc in (c, is)
    go (Err why) d = absurd cc

module _ (set : List AnyId) (events new : List PlainEvent) where
  pub unmerge_sound : IsSound events → unmerge_of set events ≡ Ok new → IsSound new
  unmerge_sound h d = let u = unmerge_is set events new d in subst IsSound u.1 (unmerged_sound u.0 events h)

  pub unmerge_keeps : IsSound events → unmerge_of set events ≡ Ok new → KeepsTrees events new
  unmerge_keeps h d = let u = unmerge_is set events new d in subst (KeepsTrees events) u.1 (unmerged_keeps u.0 events h)

  pub unmerge_ids : unmerge_of set events ≡ Ok new → (id : AnyId) → has_id new id ≡ has_id events id
  unmerge_ids d id = let u = unmerge_is set events new d in subst (λ (l : List PlainEvent). has_id l id ≡ has_id events id) u.1 (ids_same u.0 unmerges events id)

  pub unmerge_adds_nothing : unmerge_of set events ≡ Ok new → AddsNothing events new
  unmerge_adds_nothing d =
      let u = unmerge_is set events new d in
      subst (AddsNothing events) u.1 (adds_nothing u.0 unmerges events (rewritten_all u.0 unmerges events) (λ f. omega arith))

  pub unmerge_limits : IsSound events → IsWithinLimits events → unmerge_of set events ≡ Ok new → IsWithinLimits new
  unmerge_limits h within d =
      let u = unmerge_is set events new d in
      subst IsWithinLimits u.1
      (still_within u.0 unmerges events (rewritten_all u.0 unmerges events) (λ f. omega arith) (λ parents ops. omega arith) (alone_parents u.0 events h) within)

pub unmerge_changes_one : (c : ℕ) (events new : List PlainEvent) → IsSound events → unmerge_of (any.Commit c ∷ []) events ≡ Ok new → AllByRecursion (IsRewritten c unmerges events) new
unmerge_changes_one c events new h d = let is : rewritten_all c unmerges events ≡ new = cc in subst (AllByRecursion (IsRewritten c unmerges events)) is (one_of_all c unmerges events h)
