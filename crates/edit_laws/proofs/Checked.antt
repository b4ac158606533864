-- The tree check answers Ok exactly where each commit has a tree.
use Rattle.std.proofs.Common.{◌≡◌, ℕ, ◌+◌, true, List, [], ◌∷◌, Option, Some, None, Result, Ok, Err, refl, sym, ap, subst, ◌∙◌, inl, inr, eqb-true, eq-eqb, true≢false}
use Rattle.std.specs.Prelude.{◌↔◌, ◌==◌, IsSome, is_some, option_and_then, option_map}
use Rattle.std.specs.List.{AllByRecursion}
use Rattle.std.specs.Option.{option_or}
use Rattle.std.proofs.lemmas.Bool.{cases_Bool, or_left}
use Rattle.std.proofs.lemmas.List.{reverse-reverse}
use Rattle.std.proofs.lemmas.Option.{none-some}
use Rattle.plain_model.specs.declared.fault.Fault.{Fault}
use Rattle.plain_model.specs.declared.operation.FileOp.{FileOp}
use Rattle.plain_model.specs.declared.event.PlainEvent.{PlainEvent}
use Rattle.plain_model.specs.declared.event.PlainEvent.TheVariants.{Blob, Commit, Tag, Reset, Pass}
use Rattle.plain_model.specs.Histories.{IsLinkedPast, Node, Past, begun, folded, knows, nodes, past, tree}
use Rattle.plain_model.specs.Soundness.{IsCommitOf}
use Rattle.plain_model.specs.Trees.{Refusal, Tree, apply}
use Rattle.history_laws.proofs.LineLaws.{FirstKnown, first_known, known_before}
use Rattle.history_laws.proofs.Lists.{all_imply, all_reverse}
use Rattle.ancestry_laws.proofs.Pasts.{known_past}
use Rattle.edit_laws.specs.Checking.{event_fault, fault_of, first_fault, first_refused, tree_check, unless, unless_refused}
use Rattle.edit_laws.specs.Equations.{Fits}
use Rattle.edit_laws.specs.Parts.{AreInOrder, AreOnce}
use Rattle.edit_laws.proofs.Trees.{fit, known_later, linked_in_order}

-- ---- operations

-- where all are applied, none is refused
pub none_refused : (n : ℕ) (ops : List FileOp) (t : Tree) → IsSome (folded ops (Some t)) → first_refused n ops t ≡ None
none_refused n [] t h = refl
none_refused n (op ∷ ops) t h = go (apply op t) refl (λ m u. none_refused m ops u)
  where
    go : (r : Result Tree Refusal) → apply op t ≡ r → ((m : ℕ) (u : Tree) → IsSome (folded ops (Some u)) → first_refused m ops u ≡ None)
        → unless_refused n (first_refused (n + 1) ops) (apply op t) ≡ None
    go (Ok u) is later = rw is (later (n + 1) u (rw is at h))
    go (Err why) is later = absurd (true≢false (sym (rw is at h)))

-- where none is refused, all are applied
pub all_applied : (n : ℕ) (ops : List FileOp) (t : Tree) → first_refused n ops t ≡ None → IsSome (folded ops (Some t))
all_applied n [] t h = refl
all_applied n (op ∷ ops) t h = go (apply op t) refl (λ m u. all_applied m ops u)
  where
    go : (r : Result Tree Refusal) → apply op t ≡ r → ((m : ℕ) (u : Tree) → first_refused m ops u ≡ None → IsSome (folded ops (Some u)))
        → IsSome (folded (op ∷ ops) (Some t))
    go (Ok u) is later = rw is (later (n + 1) u (rw is at h))
    go (Err why) is later = absurd (none-some (n, why) (sym (rw is at h)))

-- ---- faults

-- where neither of two has a fault
pub none_of_both : (a b : Option Fault) → option_or a b ≡ None → (a ≡ None) × (b ≡ None)
none_of_both None b h = (refl, h)
none_of_both (Some x) b h = absurd cc

module _ (events : List PlainEvent) where
  -- where the commit begins with a tree, none of its operations is refused
  abbrev IsUnrefused : Node → Type 0
  IsUnrefused n = (t : Tree) → begun (tree events) n.parents ≡ Some t → first_refused 1 n.ops t ≡ None

  -- where events have no fault, no operation of their commits is refused
  unrefused : (some : List PlainEvent) → first_fault events some ≡ None → AllByRecursion IsUnrefused (nodes some)
  unrefused [] h = tt
  unrefused (Commit id mark branch author committer encoding comment parents ops aliases ∷ some) h =
      let e = Commit id mark branch author committer encoding comment parents ops aliases in
      let parts = none_of_both (event_fault events e) (first_fault events some) h in (
        λ t begins. none (first_refused 1 ops t) (sym (ap (option_and_then (λ u. option_map (fault_of mark) (first_refused 1 ops u))) begins) ∙ parts.0),
        unrefused some parts.1,
      )
    where
      none : (o : Option (ℕ × Refusal)) → option_map (fault_of mark) o ≡ None → o ≡ None
      none None h = refl
      none (Some r) h = absurd (none-some (fault_of mark r) (sym h))
  unrefused (Blob id mark bytes ∷ some) h = unrefused some h
  unrefused (Tag id name target tagger comment mark ∷ some) h = unrefused some h
  unrefused (Reset id branch target ∷ some) h = unrefused some h
  unrefused (Pass id line ∷ some) h = unrefused some h

  -- where the commits of events have trees, the events have no fault
  no_faults : (some : List PlainEvent) → AllByRecursion (Fits (tree events)) (nodes some) →
      AllByRecursion (λ (n : Node). IsSome (tree events n.id)) (nodes some) → first_fault events some ≡ None
  no_faults [] fits have = refl
  no_faults (Commit id mark branch author committer encoding comment parents ops aliases ∷ some) fits have =
      ap (λ (o : Option Fault). option_or o (first_fault events some)) (none (begun (tree events) parents) (sym (ap is_some fits.0) ∙ have.0))
      ∙ no_faults some fits.1 have.1
    where
      none : (o : Option Tree) → IsSome (folded ops o) → option_and_then (λ t. option_map (fault_of mark) (first_refused 1 ops t)) o ≡ None
      none None h = refl
      none (Some t) h = ap (option_map (fault_of mark)) (none_refused 1 ops t h)
  no_faults (Blob id mark bytes ∷ some) fits have = no_faults some fits have
  no_faults (Tag id name target tagger comment mark ∷ some) fits have = no_faults some fits have
  no_faults (Reset id branch target ∷ some) fits have = no_faults some fits have
  no_faults (Pass id line ∷ some) fits have = no_faults some fits have

  -- a commit that begins with a tree and has no operation refused has a tree
  has_tree : (n : Node) → Fits (tree events) n → IsUnrefused n → IsSome (begun (tree events) n.parents) → IsSome (tree events n.id)
  has_tree n fits none begins = ap is_some fits ∙ go (begun (tree events) n.parents) refl begins
    where
      go : (o : Option Tree) → begun (tree events) n.parents ≡ o → IsSome o → IsSome (folded n.ops o)
      go None is h = absurd (true≢false (sym h))
      go (Some t) is h = all_applied 1 n.ops t (none t is)

  -- so each commit has one, since its parents are earlier
  have_trees : (older : Past) → IsLinkedPast older → AllByRecursion (Fits (tree events)) older → AllByRecursion IsUnrefused older →
      (c : ℕ) → knows older c ≡ true → IsSome (tree events c)
  have_trees [] linked fits none c h = absurd (true≢false (sym h))
  have_trees (n ∷ older) linked fits none c h =
      let earlier = have_trees older linked.2 fits.1 none.1 in
      elim (cases_Bool (n.id == c)) [
        | inl same ↦ subst (λ d. IsSome (tree events d)) (eqb-true n.id c same) (has_tree n fits.0 none.0 (begins earlier n.parents (first_known older n.parents linked.1)))
        | inr other ↦ earlier c (known_before n older c other h)
      ]
    where
      begins : ((p : ℕ) → knows older p ≡ true → IsSome (tree events p)) → (ps : List ℕ) → FirstKnown older ps → IsSome (begun (tree events) ps)
      begins earlier [] k = refl
      begins earlier (p ∷ ps) k = earlier p k

-- ---- the check

-- a past knows its own commits
own_known : (ns : Past) → AllByRecursion (λ (n : Node). knows ns n.id ≡ true) ns
own_known [] = tt
own_known (n ∷ ns) = (
  or_left (n.id == n.id) (knows ns n.id) (eq-eqb n.id n.id refl),
  all_imply (λ (m : Node). knows ns m.id ≡ true) (λ (m : Node). knows (n ∷ ns) m.id ≡ true) (λ m k. known_later n ns m.id k) ns (own_known ns),
)

-- what holds of a past holds of the list
of_nodes : (P : Node → Type 0) (events : List PlainEvent) → AllByRecursion P (past events) → AllByRecursion P (nodes events)
of_nodes P events all = subst (AllByRecursion P) (reverse-reverse (nodes events)) (all_reverse P (past events) all)

pub check_finds : (events : List PlainEvent) → IsLinkedPast (past events) →
    (((c : ℕ) → IsCommitOf events c → IsSome (tree events c)) ↔ (tree_check events ≡ Ok tt))
check_finds events linked = (
  λ have. ap unless (no_faults events events (of_nodes (Fits (tree events)) events fits) (
      of_nodes (λ (n : Node). IsSome (tree events n.id)) events (
      all_imply (λ (n : Node). knows (past events) n.id ≡ true) (λ (n : Node). IsSome (tree events n.id))
      (λ n known. have n.id (sym (known_past events n.id) ∙ known)) (past events) (own_known (past events))
      )
      )),
  λ ok c there.
      have_trees events (past events) linked fits (all_reverse (IsUnrefused events) (nodes events) (unrefused events events (none (first_fault events events) ok))) c
      (known_past events c ∙ there),
)
  where
    fits : AllByRecursion (Fits (tree events)) (past events)
    fits = fit (past events) linked

    none : (o : Option Fault) → unless o ≡ Ok tt → o ≡ None
    none None h = refl
    none (Some f) h = cc

-- where ids occur once and each event is after what it refers to
pub checked : (new : List PlainEvent) → AreOnce new → AreInOrder [] new →
    (((c : ℕ) → IsCommitOf new c → IsSome (tree new c)) ↔ (tree_check new ≡ Ok tt))
checked new once order = check_finds new (linked_in_order new once order)
