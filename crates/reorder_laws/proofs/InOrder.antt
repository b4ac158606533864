-- The commits of the order have the parents that it gives them.
use Rattle.std.proofs.Common.{◌≡◌, ℕ, Bool, true, false, cond, not, List, [], ◌∷◌, refl, sym, ap, ◌∙◌, eq-eqb, eqb-true, true≢false, Option, Some, None}
use Rattle.std.specs.Prelude.{◌||◌, ◌==◌, map}
use Rattle.std.specs.List.{AllByRecursion, list_any}
use Rattle.std.specs.Map.{lookup}
use Rattle.std.proofs.lemmas.Bool.{and_parts, not-true, or_parts}
use Rattle.plain_model.specs.declared.event.PlainEvent.{PlainEvent}
use Rattle.plain_model.specs.declared.event.PlainEvent.TheVariants.{Blob, Commit, Tag, Reset, Pass}
use Rattle.plain_model.specs.declared.id.AnyId.TheVariants as any
use Rattle.plain_model.specs.Histories.{Node, node_at, nodes, past}
use Rattle.plain_model.specs.Soundness.{are_distinct, has_id}
use Rattle.plain_model.proofs.Numbers.{eqb_turned}
use Rattle.commit_laws.proofs.Given.{IsHere}
use Rattle.reorder_laws.specs.InOrder.{HasParents}
use Rattle.reorder_laws.specs.Reorder.{instead, lined_up, parents_after}

-- ---- what the order gives

-- what is so of each commit of an order and of whatever parents is so of what the order gives
all_given : (Q : ℕ → List ℕ → Type 0) (us : List ℕ) → AllByRecursion (λ u. (qs : List ℕ) → Q u qs) us → (ps : List ℕ) → AllByRecursion (λ g. Q g.0 g.1) (lined_up ps us)
all_given Q [] a ps = tt
all_given Q (u ∷ us) a ps = (a.0 ps, all_given Q us a.1 (u ∷ []))

-- each commit of an order is given its parents, where none stands twice
abbrev IsGivenBy : List (ℕ × List ℕ) → ℕ × List ℕ → Type 0
IsGivenBy given g = lookup (λ w. w == g.0) given ≡ Some g.1

others_than : (u : ℕ) (us : List ℕ) → list_any (λ m. m == u) us ≡ false → AllByRecursion (λ w. (u == w) ≡ false) us
others_than u [] h = tt
others_than u (w ∷ us) h =
    let parts = or_parts (w == u) (list_any (λ m. m == u) us) h in
    (eqb_turned u w ∙ parts.0, others_than u us parts.1)

passed : (u : ℕ) (ps : List ℕ) (given gs : List (ℕ × List ℕ)) → AllByRecursion (λ g. (u == g.0) ≡ false) gs → AllByRecursion (IsGivenBy given) gs → AllByRecursion (IsGivenBy ((u, ps) ∷ given)) gs
passed u ps given [] a b = tt
passed u ps given (g ∷ gs) a b = (ap (λ t. cond t (Some ps) (lookup (λ w. w == g.0) given)) a.0 ∙ b.0, passed u ps given gs a.1 b.1)

pub each_given : (ps us : List ℕ) → are_distinct us ≡ true → AllByRecursion (IsGivenBy (lined_up ps us)) (lined_up ps us)
each_given ps [] d = tt
each_given ps (u ∷ us) d =
    let parts = and_parts (not (list_any (λ m. m == u) us)) (are_distinct us) d in
    let others = others_than u us (not-true (list_any (λ m. m == u) us) parts.0) in (
      ap (λ t. cond t (Some ps) (lookup (λ w. w == u) (lined_up (u ∷ []) us))) (eq-eqb u u refl),
      passed u ps (lined_up (u ∷ []) us) (lined_up (u ∷ []) us)
          (all_given (λ w qs. (u == w) ≡ false) us (each (λ w. (u == w) ≡ false) us others) (u ∷ []))
          (each_given (u ∷ []) us parts.1),
    )
  where
    each : (P : ℕ → Type 0) (xs : List ℕ) → AllByRecursion P xs → AllByRecursion (λ x. (qs : List ℕ) → P x) xs
    each P [] a = tt
    each P (x ∷ xs) a = (λ qs. a.0, each P xs a.1)

-- ---- a commit that is there

found_in : (P : Node → Type 0) (es : List PlainEvent) (c : ℕ) → AllByRecursion P (nodes es) → IsHere es c → (n : Node) × (n.id ≡ c) × P n
found_in P [] c all k = absurd (true≢false (sym k))
found_in P (Commit id mark branch author committer encoding comment parents ops aliases ∷ es) c all k = go (id == c) refl k (found_in P es c all.1)
  where
    go : (b : Bool) → (id == c) ≡ b → b || has_id es (any.Commit c) ≡ true → (IsHere es c → (n : Node) × (n.id ≡ c) × P n) → (n : Node) × (n.id ≡ c) × P n
    go true is k rec = (record { id = id; parents = parents; ops = ops }, eqb-true id c is, all.0)
    go false is k rec = rec k
found_in P (Blob id mark bytes ∷ es) c all k = found_in P es c all k
found_in P (Tag id name target tagger comment mark ∷ es) c all k = found_in P es c all k
found_in P (Reset id branch target ∷ es) c all k = found_in P es c all k
found_in P (Pass id line ∷ es) c all k = found_in P es c all k

-- the parents of a commit are those that it gets, by those that it had
abbrev pub IsAfter : List (ℕ × List ℕ) → ℕ → ℕ → Node → Type 0
IsAfter given old new n = (parents : List ℕ) × (parents_after given old new n.id parents ≡ n.parents)

-- it is found by its id besides
abbrev pub IsFoundAfter : List PlainEvent → List (ℕ × List ℕ) → ℕ → ℕ → Node → Type 0
IsFoundAfter events given old new n = IsAfter given old new n × (node_at (past events) n.id ≡ Some n)

pub parents_given : (events : List PlainEvent) (given : List (ℕ × List ℕ)) (old new : ℕ) → AllByRecursion (IsFoundAfter events given old new) (nodes events)
    → (gs : List (ℕ × List ℕ)) → AllByRecursion (λ g. IsHere events g.0) gs → AllByRecursion (IsGivenBy given) gs → AllByRecursion (λ g. HasParents events g.0 g.1) gs
parents_given events given old new after [] here is = tt
parents_given events given old new after (g ∷ gs) here is =
    let n = found_in (IsFoundAfter events given old new) events g.0 after here.0 in
    let its = n.2.0 in
    let same : parents_after given old new n.0.id its.0 ≡ g.1 =
    ap (λ c. parents_after given old new c its.0) n.1 ∙ ap (λ (o : Option (List ℕ)). elim o [ Some ps ↦ ps | None ↦ map (instead old new) its.0 ]) is.0 in (
      (n.0, ap (node_at (past events)) (sym n.1) ∙ n.2.1, sym its.1 ∙ same),
      parents_given events given old new after gs here.1 is.1,
    )

-- the commits of an order, where they are there
pub order_here : (events : List PlainEvent) (us : List ℕ) → AllByRecursion (IsHere events) us → (ps : List ℕ) → AllByRecursion (λ g. IsHere events g.0) (lined_up ps us)
order_here events us a ps = all_given (λ u qs. IsHere events u) us (each us a) ps
  where
    each : (xs : List ℕ) → AllByRecursion (IsHere events) xs → AllByRecursion (λ x. (qs : List ℕ) → IsHere events x) xs
    each [] a = tt
    each (x ∷ xs) a = (λ qs. a.0, each xs a.1)
