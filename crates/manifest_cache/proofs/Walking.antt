-- A walk back along first parents: what it folds, and how much of it.
use Rattle.std.proofs.Common.{◌≡◌, ℕ, ◌+◌, ◌-◌, ◌<◌, suc, true, false, inl, inr, List, [], ◌∷◌, ◌++◌, length, take, get_or, Option, Some, None, refl, sym, ap, subst, ◌∙◌, append_assoc, append-nil, length-append, arith, nat_eq, zero-add}
use Rattle.std.specs.Prelude.{◌||◌, IsSome, is_some, option_and_then}
use Rattle.std.specs.List.{list_any}
use Rattle.std.specs.Map.{lookup}
use Rattle.std.specs.Option.{option_map_or}
use Rattle.std.proofs.Math.Bool.{or-true}
use Rattle.std.proofs.lemmas.Bool.{cases_Bool, true≢false}
use Rattle.std.proofs.lemmas.List.{take_more}
use Rattle.plain_model.specs.declared.id.AnyId.TheVariants as any
use Rattle.plain_model.specs.declared.operation.FileOp.{FileOp}
use Rattle.plain_model.specs.declared.event.PlainEvent.{PlainEvent}
use Rattle.plain_model.specs.Histories.{folded, tree}
use Rattle.plain_model.specs.Lookups.{event_ops, event_parents, find_event}
use Rattle.plain_model.specs.Trees.{Tree}
use Rattle.history_laws.proofs.LineLaws.{folded_more}
use Rattle.history_laws.specs.Once.{AreDistinct}
use Rattle.manifest_cache.specs.Kept.{AgreesWith, Kept, after_kept, is_kept, ops_to_fold}
use Rattle.manifest_cache.specs.Lines.{Line, line, line_before, ops_of, size}
use Rattle.manifest_cache.specs.Walks.{Leads, first_parent, ops_at, ops_back, parent_at}
use Rattle.manifest_cache.proofs.KeptTrees.{kept_is}
use Rattle.manifest_cache.proofs.Lines.{before_there, line_of_tree, ops_more, size_more, tree_along, tree_line, tree_more, with_commit}
use Rattle.manifest_cache.proofs.Steps.{event_of, line_step, no_parents, parent_is}

-- ---- the commits after the last that is kept

-- after a commit that is kept there are none
after_own : (kept : Kept) (l : Line) (c : ℕ) (ops : List FileOp) → is_kept kept c ≡ true → after_kept kept (l ++ (c, ops) ∷ []) ≡ []
after_own kept [] c ops h = rw h refl
after_own kept (d ∷ l) c ops h = rw (some l, or-true (is_kept kept d.0)) (after_own kept l c ops h)
  where
    some : (l : Line) → list_any (λ (x : ℕ × List FileOp). is_kept kept x.0) (l ++ (c, ops) ∷ []) ≡ true
    some [] = ap (λ b. b || false) h
    some (x ∷ l) = ap (λ b. is_kept kept x.0 || b) (some l) ∙ or-true (is_kept kept x.0)

-- one that isn't kept is one more
after_more : (kept : Kept) (l : Line) (c : ℕ) (ops : List FileOp) → is_kept kept c ≡ false
    → after_kept kept (l ++ (c, ops) ∷ []) ≡ after_kept kept l ++ (c, ops) ∷ []
after_more kept [] c ops h = rw h refl
after_more kept (d ∷ l) c ops h =
    let later = after_more kept l c ops h in
    rw (same l) (elim (cases_Bool (is_kept kept d.0 || list_any (λ (x : ℕ × List FileOp). is_kept kept x.0) l)) [ inl it ↦ rw it later | inr no_it ↦ rw no_it refl ])
  where
    same : (l : Line) → list_any (λ (x : ℕ × List FileOp). is_kept kept x.0) (l ++ (c, ops) ∷ []) ≡ list_any (λ (x : ℕ × List FileOp). is_kept kept x.0) l
    same [] = ap (λ b. b || false) h
    same (x ∷ l) = ap (λ b. is_kept kept x.0 || b) (same l)

abbrev count : Kept → Option Line → ℕ
count kept o = option_map_or (λ l. length (ops_of (after_kept kept l))) o 0

count_own : (kept : Kept) (o : Option Line) (c : ℕ) (ops : List FileOp) → is_kept kept c ≡ true → count kept (with_commit c ops o) ≡ 0
count_own kept None c ops h = refl
count_own kept (Some l) c ops h = ap (λ (m : Line). length (ops_of m)) (after_own kept l c ops h)

count_more : (kept : Kept) (o : Option Line) (c : ℕ) (ops : List FileOp) → is_kept kept c ≡ false → IsSome (with_commit c ops o)
    → count kept (with_commit c ops o) ≡ count kept o + length ops
count_more kept None c ops h there = absurd (true≢false (sym there))
count_more kept (Some l) c ops h there =
    ap (λ (m : Line). length (ops_of m)) (after_more kept l c ops h)
    ∙ ap length (ops_more (after_kept kept l) c ops)
    ∙ length-append (ops_of (after_kept kept l)) ops

-- ---- operations of a walk

-- one commit more, further back
pub ops_back_more : (events : List PlainEvent) (walk : List ℕ) (c : ℕ) → ops_back events (walk ++ c ∷ []) ≡ ops_at events c ++ ops_back events walk
ops_back_more events [] c = sym (append-nil (ops_at events c))
ops_back_more events (d ∷ walk) c = ap (λ (os : List FileOp). os ++ ops_at events d) (ops_back_more events walk c) ∙ append_assoc (ops_at events c) (ops_back events walk) (ops_at events d)

-- what isn't found isn't kept
pub unkept : (kept : Kept) (n c : ℕ) → n ≡ c → None ≡ lookup (nat_eq n) kept → is_kept kept c ≡ false
unkept kept n c same none = ap (λ k. is_kept kept k) (sym same) ∙ sym (ap is_some none)

-- the walk has come from c to `at`
pub record HasCome (kept : Kept) (events : List PlainEvent) (c : ℕ) (walk : List ℕ) (at : ℕ) : Type 0 where
  pub there : IsSome (line events at)
  pub tree : tree events c ≡ folded (ops_back events walk) (tree events at)
  pub count : ops_to_fold kept events c ≡ length (ops_back events walk) + ops_to_fold kept events at

module _ (kept : Kept) (events : List PlainEvent) (once : AreDistinct events) where
  pub begins : (c : ℕ) → IsSome (tree events c) → HasCome kept events c [] c
  begins c has = record {
    there = line_of_tree (line events c) (ap is_some (sym (tree_line events c)) ∙ has);
    tree = sym (none (tree events c));
    count = sym (zero-add (ops_to_fold kept events c));
  }
    where
      none : (o : Option Tree) → folded [] o ≡ o
      none None = refl
      none (Some t) = refl

  module _ (c at : ℕ) (walk : List ℕ) (come : HasCome kept events c walk at) where
    abbrev event : PlainEvent
    event = (event_of events at come.there).0

    found : find_event (any.Commit at) events ≡ Some event
    found = (event_of events at come.there).1

    own_ops : ops_at events at ≡ event_ops event
    own_ops = ap (λ o. option_map_or event_ops o []) found

    own_line : line events at ≡ with_commit at (event_ops event) (line_before (line events) (event_parents event))
    own_line = line_step events once at event found come.there

    there : IsSome (with_commit at (event_ops event) (line_before (line events) (event_parents event)))
    there = ap is_some (sym own_line) ∙ come.there

    own_tree : tree events at ≡ folded (ops_at events at) (tree_along (line_before (line events) (event_parents event)))
    own_tree =
        tree_line events at ∙ ap tree_along own_line ∙ tree_more (line_before (line events) (event_parents event)) at (event_ops event)
        ∙ ap (λ (os : List FileOp). folded os (tree_along (line_before (line events) (event_parents event)))) (sym own_ops)

    own_count : is_kept kept at ≡ false → ops_to_fold kept events at ≡ count kept (line_before (line events) (event_parents event)) + length (ops_at events at)
    own_count h =
        ap (count kept) own_line ∙ count_more kept (line_before (line events) (event_parents event)) at (event_ops event) h there
        ∙ ap (λ (os : List FileOp). count kept (line_before (line events) (event_parents event)) + length os) (sym own_ops)

    -- one step further
    further : (longer : List ℕ) → longer ≡ walk ++ at ∷ [] → (o : Option Line) → line_before (line events) (event_parents event) ≡ o → is_kept kept at ≡ false
        → (tree events c ≡ folded (ops_back events longer) (tree_along o)) × (ops_to_fold kept events c ≡ length (ops_back events longer) + count kept o)
    further longer is o before h =
        let ops = ap (ops_back events) is ∙ ops_back_more events walk at in
        let size = ap length ops ∙ length-append (ops_at events at) (ops_back events walk) in
        let mine = own_count h ∙ ap (λ (p : Option Line). count kept p + length (ops_at events at)) before in
        let so_far = come.count in (
          come.tree ∙ ap (folded (ops_back events walk)) (own_tree ∙ ap (λ (p : Option Line). folded (ops_at events at) (tree_along p)) before)
              ∙ sym (folded_more (ops_at events at) (ops_back events walk) (tree_along o))
              ∙ ap (λ (os : List FileOp). folded os (tree_along o)) (sym ops),
          omega (arith, size, mine, so_far),
        )

    pub goes_on : (longer : List ℕ) (p : ℕ) → longer ≡ walk ++ at ∷ [] → is_kept kept at ≡ false → Some p ≡ parent_at events at → HasCome kept events c longer p
    goes_on longer p is h parent =
        let first = parent_is (event_parents event) p (sym (ap (λ o. option_and_then first_parent o) found) ∙ sym parent) in
        let both = further longer is (line events p) (ap (line_before (line events)) first) h in record {
          there = subst (λ (ps : List ℕ). IsSome (line_before (line events) ps)) first (before_there (line_before (line events) (event_parents event)) at (event_ops event) there);
          tree = both.0 ∙ ap (folded (ops_back events longer)) (sym (tree_line events p));
          count = both.1;
        }

    pub goes_down : (p : ℕ) → Some p ≡ parent_at events at → size (line events p) < size (line events at)
    goes_down p parent =
        let first = parent_is (event_parents event) p (sym (ap (λ o. option_and_then first_parent o) found) ∙ sym parent) in
        let more = ap size own_line ∙ size_more (line_before (line events) (event_parents event)) at (event_ops event) there
        ∙ ap (λ (ps : List ℕ). suc (size (line_before (line events) ps))) first in
        omega (arith, more)

    -- it ends at the root
    pub ends_at_root : IsSome (tree events c) → (longer : List ℕ) (t : Tree) → t ≡ [] → longer ≡ walk ++ at ∷ [] → is_kept kept at ≡ false
        → None ≡ parent_at events at → Leads kept events c longer t
    ends_at_root has longer t empty is h parent =
        let none = no_parents (event_parents event) (sym (ap (λ o. option_and_then first_parent o) found) ∙ sym parent) in
        let both = further longer is (Some []) (ap (line_before (line events)) none) h in record {
          there = has;
          tree = both.0 ∙ ap (λ (u : Tree). folded (ops_back events longer) (Some u)) (sym empty);
          count = let n = both.1 in omega (arith, n);
        }

    -- or at a commit that is kept
    pub ends_at_kept : IsSome (tree events c) → (t : Tree) → AgreesWith events kept → lookup (nat_eq at) kept ≡ Some t → Leads kept events c walk t
    ends_at_kept has t agrees is = record {
      there = has;
      tree = come.tree ∙ ap (folded (ops_back events walk)) (kept_is events kept at t agrees is);
      count =
          let none = ap (count kept) own_line ∙ count_own kept (line_before (line events) (event_parents event)) at (event_ops event) (ap is_some is) in
          let so_far = come.count in omega (arith, none, so_far);
    }

-- ---- a walk folded

-- of what is left of a walk the oldest commit comes first
pub part_left : (events : List PlainEvent) (walk : List ℕ) (k c : ℕ) → k < length walk → c ≡ get_or walk (length walk - 1 - k) c
    → ops_back events (take (length walk - k) walk) ≡ ops_at events c ++ ops_back events (take (length walk - (k + 1)) walk)
part_left events walk k c more is =
    let m : ℕ = length walk - (k + 1) in
    let one : length walk - k ≡ m + 1 = omega (arith, more) in
    let place : length walk - 1 - k ≡ m = omega (arith, more) in
    ap (λ n. ops_back events (take n walk)) one
    ∙ ap (ops_back events) (take_more walk m c (omega (arith, more)))
    ∙ ap (λ d. ops_back events (take m walk ++ d ∷ [])) (sym (is ∙ ap (λ n. get_or walk n c) place))
    ∙ ops_back_more events (take m walk) c

-- where all operations can be applied, the first ones can
pub front_applies : (a b : List FileOp) (o : Option Tree) → IsSome (folded (a ++ b) o) → IsSome (folded a o)
front_applies a b o h = go (folded a o) (ap is_some (sym (folded_more a b o)) ∙ h)
  where
    go : (p : Option Tree) → IsSome (folded b p) → IsSome p
    go None h = absurd (true≢false (sym h))
    go (Some t) h = refl
