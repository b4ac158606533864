-- What a removed commit stands for: what it expands to stays and isn't above it, and the chain below a commit, applied to
-- the tree of the commit below it, gives the tree with which that commit began.
use Rattle.std.proofs.Common.{◌≡◌, ℕ, ◌≤◌, ◌<◌, Bool, true, false, cond, not, List, [], ◌∷◌, ◌++◌, filter, refl, sym, ap, subst, ◌∙◌, inl, inr, arith, eqb-true, eq-eqb, true≢false, Option, Some, None, IsTrue}
use Rattle.std.specs.Prelude.{◌||◌, ◌==◌, flat_map}
use Rattle.std.specs.List.{AllByRecursion, list_any}
use Rattle.std.proofs.lemmas.Bool.{cases_Bool, or_from, or_left, or_parts, or_right, and_from, and_parts, cond-true, cond-false}
use Rattle.plain_model.specs.Histories.{Node, Past, folded, begun, tree_in, knows, IsLinkedPast}
use Rattle.plain_model.specs.Trees.{Tree}
use Rattle.plain_model.specs.Soundness.{are_distinct}
use Rattle.history_laws.proofs.LineLaws.{FirstKnown, along_more, first_known, folded_more, known_before}
use Rattle.history_laws.specs.FirstParents.{ops_along}
use Rattle.edit_laws.specs.Parts.{IsAbove}
use Rattle.edit_laws.specs.Removal.{back, chain, expand, expand_all, forward, once_each}
use Rattle.edit_laws.proofs.Lists.{all_filter}
use Rattle.history_laws.proofs.Lists.{all_imply, all_join}
use Rattle.edit_laws.proofs.Trees.{begun_alike, known_later, not_fresh, tree_here, tree_other}

-- ---- repeats dropped

pub all_once_each : (P : ℕ → Type 0) (xs : List ℕ) → AllByRecursion P xs → AllByRecursion P (once_each xs)
all_once_each P [] a = tt
all_once_each P (x ∷ xs) a = (a.0, all_filter P (λ y. not (y == x)) (once_each xs) (all_once_each P xs a.1))

none_filtered : (x : ℕ) (xs : List ℕ) → list_any (λ y. y == x) (filter (λ y. not (y == x)) xs) ≡ false
none_filtered x [] = refl
none_filtered x (y ∷ ys) =
    elim (cases_Bool (y == x)) [
      | inl it ↦ ap (λ b. list_any (λ z. z == x) (cond (not b) (y ∷ filter (λ z. not (z == x)) ys) (filter (λ z. not (z == x)) ys))) it ∙ none_filtered x ys
      | inr other ↦
          ap (λ b. list_any (λ z. z == x) (cond (not b) (y ∷ filter (λ z. not (z == x)) ys) (filter (λ z. not (z == x)) ys))) other
          ∙ ap (λ b. b || list_any (λ z. z == x) (filter (λ z. not (z == x)) ys)) other
          ∙ none_filtered x ys
    ]

absent_filtered : (test : ℕ → Bool) (x : ℕ) (xs : List ℕ) → list_any (λ y. y == x) xs ≡ false →
    list_any (λ y. y == x) (filter test xs) ≡ false
absent_filtered test x [] h = refl
absent_filtered test x (y ∷ ys) h =
    let rest = absent_filtered test x ys (or_parts (y == x) (list_any (λ z. z == x) ys) h).1 in
    elim (test y) as (λ b. list_any (λ z. z == x) (cond b (y ∷ filter test ys) (filter test ys)) ≡ false) [
      | true ↦ or_from (y == x) (list_any (λ z. z == x) (filter test ys)) (or_parts (y == x) (list_any (λ z. z == x) ys) h).0 rest
      | false ↦ rest
    ]

distinct_filtered : (test : ℕ → Bool) (xs : List ℕ) → are_distinct xs ≡ true → are_distinct (filter test xs) ≡ true
distinct_filtered test [] h = refl
distinct_filtered test (x ∷ xs) h =
    let parts = and_parts (not (list_any (λ m. m == x) xs)) (are_distinct xs) h in
    let rest = distinct_filtered test xs parts.1 in
    elim (test x) as (λ b. are_distinct (cond b (x ∷ filter test xs) (filter test xs)) ≡ true) [
      | true ↦ and_from (not (list_any (λ m. m == x) (filter test xs))) (are_distinct (filter test xs)) (ap not (absent_filtered test x xs (denied (list_any (λ m. m == x) xs) parts.0))) rest
      | false ↦ rest
    ]
  where
    denied : (b : Bool) → not b ≡ true → b ≡ false
    denied false h = refl
    denied true h = absurd (true≢false (sym h))

-- none is left twice
pub once_each_distinct : (xs : List ℕ) → are_distinct (once_each xs) ≡ true
once_each_distinct [] = refl
once_each_distinct (x ∷ xs) =
    let others = filter (λ y. not (y == x)) (once_each xs) in
    and_from (not (list_any (λ m. m == x) others)) (are_distinct others) (ap not (none_filtered x (once_each xs))) (distinct_filtered (λ y. not (y == x)) (once_each xs) (once_each_distinct xs))

-- what is first on the left is first on the right
abbrev pub Leads : List ℕ → List ℕ → Type 0
Leads [] ys = Unit {0}
Leads (x ∷ xs) [] = ⊥
Leads (x ∷ xs) (y ∷ ys) = x ≡ y

leads_more : (xs ys more : List ℕ) → Leads xs ys → Leads xs (once_each (ys ++ more))
leads_more [] ys more h = tt
leads_more (x ∷ xs) [] more h = absurd h
leads_more (x ∷ xs) (y ∷ ys) more h = h

-- the parents of the oldest commit of a chain, or those of the commit above it
abbrev pub foot : List Node → List ℕ → List ℕ
foot [] ps = ps
foot (n ∷ ns) ps = n.parents

foot_more : (links : List Node) (n : Node) (ps : List ℕ) → foot (links ++ n ∷ []) ps ≡ foot links n.parents
foot_more [] n ps = refl
foot_more (x ∷ links) n ps = refl

module _ (removed : ℕ → Bool) where
  pub expand_gone : (n : Node) (older : Past) (p : ℕ) → (n.id == p) ≡ true → removed p ≡ true →
      expand removed (n ∷ older) p ≡ expand_all removed older n.parents
  expand_gone n older p same gone = cond-true (n.id == p) _ _ same ∙ cond-true (removed p) _ _ gone

  pub expand_stays : (n : Node) (older : Past) (p : ℕ) → (n.id == p) ≡ true → removed p ≡ false →
      expand removed (n ∷ older) p ≡ p ∷ []
  expand_stays n older p same stays = cond-true (n.id == p) _ _ same ∙ cond-false (removed p) _ _ stays

  pub expand_other : (n : Node) (older : Past) (p : ℕ) → (n.id == p) ≡ false →
      expand removed (n ∷ older) p ≡ expand removed older p
  expand_other n older p other = cond-false (n.id == p) _ _ other

  -- ---- what a commit expands to

  -- it is there, it stays, and it has no greater number
  abbrev pub StandsFor : (ℕ → ℕ) → Past → ℕ → ℕ → Type 0
  StandsFor number older p q = (removed q ≡ false) × (knows older q ≡ true) × (number q ≤ number p)

  later : (number : ℕ → ℕ) (n : Node) (older : Past) (p : ℕ) (qs : List ℕ) →
      AllByRecursion (StandsFor number older p) qs → AllByRecursion (StandsFor number (n ∷ older) p) qs
  later number n older p qs a =
      all_imply (StandsFor number older p) (StandsFor number (n ∷ older) p) (λ q s. (s.0, known_later n older q s.1, s.2)) qs a

  -- the same for several parents of one commit
  all_stand : (number : ℕ → ℕ) (older : Past) (above : ℕ) →
      ((p : ℕ) → knows older p ≡ true → AllByRecursion (StandsFor number older p) (expand removed older p)) →
      (ps : List ℕ) → AllByRecursion (λ p. IsTrue (knows older p)) ps → AllByRecursion (λ p. number p ≤ above) ps
      → AllByRecursion (λ q. (removed q ≡ false) × (knows older q ≡ true) × (number q ≤ above)) (flat_map (expand removed older) ps)
  all_stand number older above f [] k a = tt
  all_stand number older above f (p ∷ ps) k a =
      let Q = λ (q : ℕ). (removed q ≡ false) × (knows older q ≡ true) × (number q ≤ above) in
      let low = a.0 in
      all_join Q (expand removed older p) (flat_map (expand removed older) ps)
      (all_imply (StandsFor number older p) Q (λ q s. let one = s.2 in (s.0, s.1, omega arith)) (expand removed older p) (f p k.0))
      (all_stand number older above f ps k.1 a.1)

  stands_for : (number : ℕ → ℕ) (older : Past) → IsLinkedPast older → AllByRecursion (IsAbove number) older → (p : ℕ) →
      knows older p ≡ true → AllByRecursion (StandsFor number older p) (expand removed older p)
  stands_for number [] s a p k = absurd (true≢false (sym k))
  stands_for number (n ∷ older) s a p k =
      elim (cases_Bool (n.id == p)) [
        | inl same ↦ elim (cases_Bool (removed p)) [
          | inl gone ↦
              let is : number n.id ≡ number p = ap number (eqb-true n.id p same) in
              subst (AllByRecursion (StandsFor number (n ∷ older) p)) (sym (expand_gone n older p same gone))
              (all_once_each (StandsFor number (n ∷ older) p) (flat_map (expand removed older) n.parents)
              (later number n older p (flat_map (expand removed older) n.parents)
              (all_stand number older (number p) (λ q x. stands_for number older s.2 a.1 q x) n.parents s.1
              (all_imply (λ q. number q < number n.id) (λ q. number q ≤ number p) (λ q l. omega arith) n.parents a.0))))
          | inr stays ↦ subst (AllByRecursion (StandsFor number (n ∷ older) p)) (sym (expand_stays n older p same stays)) ((stays, k, omega arith), tt)
        ]
        | inr other ↦
            subst (AllByRecursion (StandsFor number (n ∷ older) p)) (sym (expand_other n older p other))
            (later number n older p (expand removed older p) (stands_for number older s.2 a.1 p (known_before n older p other k)))
      ]

  -- what stands for the parents of a commit: commits that stay, below it
  pub parents_stand : (number : ℕ → ℕ) (past : Past) → IsLinkedPast past → AllByRecursion (IsAbove number) past →
      (above : ℕ) (ps : List ℕ) → AllByRecursion (λ p. IsTrue (knows past p)) ps →
      AllByRecursion (λ p. number p < above) ps
      → AllByRecursion (λ q. (removed q ≡ false) × (knows past q ≡ true) × (number q < above)) (expand_all removed past ps)
  parents_stand number past s a above ps k low =
      all_once_each (λ q. (removed q ≡ false) × (knows past q ≡ true) × (number q < above)) (flat_map (expand removed past) ps) (each ps k low)
    where
      each : (ps : List ℕ) → AllByRecursion (λ p. IsTrue (knows past p)) ps →
          AllByRecursion (λ p. number p < above) ps →
          AllByRecursion (λ q. (removed q ≡ false) × (knows past q ≡ true) × (number q < above)) (flat_map (expand removed past) ps)
      each [] k low = tt
      each (p ∷ ps) k low =
          let one = low.0 in
          all_join (λ q. (removed q ≡ false) × (knows past q ≡ true) × (number q < above)) (expand removed past p) (flat_map (expand removed past) ps)
          (all_imply (StandsFor number past p) (λ q. (removed q ≡ false) × (knows past q ≡ true) × (number q < above)) (λ q x. let two = x.2 in (x.0, x.1, omega arith)) (expand removed past p) (stands_for number past s a p k.0))
          (each ps k.1 low.1)

  -- ---- chains

  pub chain_gone : (n : Node) (older : Past) (p : ℕ) (ps : List ℕ) → (n.id == p) ≡ true → removed p ≡ true →
      chain removed (n ∷ older) (p ∷ ps) ≡ chain removed older n.parents ++ n ∷ []
  chain_gone n older p ps same gone = cond-true (n.id == p) _ _ same ∙ cond-true (removed p) _ _ gone

  pub chain_stays : (n : Node) (older : Past) (p : ℕ) (ps : List ℕ) → (n.id == p) ≡ true → removed p ≡ false →
      chain removed (n ∷ older) (p ∷ ps) ≡ []
  chain_stays n older p ps same stays = cond-true (n.id == p) _ _ same ∙ cond-false (removed p) _ _ stays

  pub chain_other : (n : Node) (older : Past) (p : ℕ) (ps : List ℕ) → (n.id == p) ≡ false →
      chain removed (n ∷ older) (p ∷ ps) ≡ chain removed older (p ∷ ps)
  chain_other n older p ps other = cond-false (n.id == p) _ _ other

  -- a fact of all commits is one of those along a chain
  pub chain_all : (P : Node → Type 0) (older : Past) → AllByRecursion P older → (ps : List ℕ) →
      AllByRecursion P (chain removed older ps)
  chain_all P [] a ps = tt
  chain_all P (n ∷ older) a [] = tt
  chain_all P (n ∷ older) a (p ∷ ps) =
      elim (cases_Bool (n.id == p)) [
        | inl same ↦ elim (cases_Bool (removed p)) [
          | inl gone ↦ subst (AllByRecursion P) (sym (chain_gone n older p ps same gone)) (all_join P (chain removed older n.parents) (n ∷ []) (chain_all P older a.1 n.parents) (a.0, tt))
          | inr stays ↦ subst (AllByRecursion P) (sym (chain_stays n older p ps same stays)) tt
        ]
        | inr other ↦ subst (AllByRecursion P) (sym (chain_other n older p ps other)) (chain_all P older a.1 (p ∷ ps))
      ]

  -- what the first parent expands to
  abbrev pub first_expanded : Past → List ℕ → List ℕ
  first_expanded older [] = []
  first_expanded older (p ∷ ps) = expand removed older p

  record Hangs (older : Past) (ps : List ℕ) : Type 0 where
    replays : folded (ops_along (chain removed older ps)) (begun (tree_in older) (foot (chain removed older ps) ps)) ≡ begun (tree_in older) ps
    leads : Leads (foot (chain removed older ps) ps) (first_expanded older ps)
    known : FirstKnown older (foot (chain removed older ps) ps)

  nothing_hangs : (older : Past) → chain removed older [] ≡ [] → Hangs older []
  nothing_hangs older e = record {
    replays = ap (λ (l : List Node). folded (ops_along l) (begun (tree_in older) (foot l []))) e;
    leads = subst (λ (l : List Node). Leads (foot l []) []) (sym e) tt;
    known = subst (λ (l : List Node). FirstKnown older (foot l [])) (sym e) tt;
  }

  known_first : (n : Node) (older : Past) (fs : List ℕ) → FirstKnown older fs → FirstKnown (n ∷ older) fs
  known_first n older [] k = tt
  known_first n older (f ∷ fs) k = known_later n older f k

  pub leads_all : (older : Past) (xs ps : List ℕ) → Leads xs (first_expanded older ps) →
      Leads xs (expand_all removed older ps)
  leads_all older [] ps h = tt
  leads_all older (x ∷ xs) [] h = absurd h
  leads_all older (x ∷ xs) (p ∷ ps) h =
      leads_more (x ∷ xs) (expand removed older p) (flat_map (expand removed older) ps) h

  hangs : (older : Past) → IsLinkedPast older → (ps : List ℕ) → FirstKnown older ps → Hangs older ps
  hangs [] s [] k = nothing_hangs [] refl
  hangs [] s (p ∷ ps) k = absurd (true≢false (sym k))
  hangs (n ∷ older) s [] k = nothing_hangs (n ∷ older) refl
  hangs (n ∷ older) s (p ∷ ps) k =
      let further : (q : ℕ) → knows older q ≡ true → tree_in (n ∷ older) q ≡ tree_in older q = λ q x. tree_other n older q (not_fresh n older q s.0 x) in
      elim (cases_Bool (n.id == p)) [
        | inl same ↦ elim (cases_Bool (removed p)) [
          | inl gone ↦
              let links = chain removed older n.parents in
              let h = hangs older s.2 n.parents (first_known older n.parents s.1) in
              let was = chain_gone n older p ps same gone in
              let its_foot : foot (chain removed (n ∷ older) (p ∷ ps)) (p ∷ ps) ≡ foot links n.parents = ap (λ (l : List Node). foot l (p ∷ ps)) was ∙ foot_more links n (p ∷ ps) in
              record {
                replays =
                    (λ i. folded ((ap (λ (l : List Node). ops_along l) was ∙ along_more links n) i) (begun (tree_in (n ∷ older)) (its_foot i)))
                    ∙ ap (folded (ops_along links ++ n.ops)) (begun_alike (tree_in (n ∷ older)) (tree_in older) (foot links n.parents) older h.known further)
                    ∙ folded_more (ops_along links) n.ops (begun (tree_in older) (foot links n.parents))
                    ∙ ap (folded n.ops) h.replays
                    ∙ sym (tree_here n older p same);
                leads = subst (λ (fs : List ℕ). Leads fs (expand removed (n ∷ older) p)) (sym its_foot)
                    (subst (Leads (foot links n.parents)) (sym (expand_gone n older p same gone)) (leads_all older (foot links n.parents) n.parents h.leads));
                known = subst (FirstKnown (n ∷ older)) (sym its_foot) (known_first n older (foot links n.parents) h.known);
              }
          | inr stays ↦
              let was = chain_stays n older p ps same stays in
              record {
                replays = ap (λ (l : List Node). folded (ops_along l) (begun (tree_in (n ∷ older)) (foot l (p ∷ ps)))) was ∙ nothing_more (tree_in (n ∷ older) p);
                leads = subst (λ (l : List Node). Leads (foot l (p ∷ ps)) (expand removed (n ∷ older) p)) (sym was) (subst (Leads (p ∷ ps)) (sym (expand_stays n older p same stays)) refl);
                known = subst (λ (l : List Node). FirstKnown (n ∷ older) (foot l (p ∷ ps))) (sym was) k;
              }
        ]
        | inr other ↦
            let links = chain removed older (p ∷ ps) in
            let h = hangs older s.2 (p ∷ ps) (known_before n older p other k) in
            let was = chain_other n older p ps other in
            record {
              replays =
                  ap (λ (l : List Node). folded (ops_along l) (begun (tree_in (n ∷ older)) (foot l (p ∷ ps)))) was
                  ∙ ap (folded (ops_along links)) (begun_alike (tree_in (n ∷ older)) (tree_in older) (foot links (p ∷ ps)) older h.known further)
                  ∙ h.replays
                  ∙ sym (tree_other n older p other);
              leads = subst (λ (l : List Node). Leads (foot l (p ∷ ps)) (expand removed (n ∷ older) p)) (sym was) (subst (Leads (foot links (p ∷ ps))) (sym (expand_other n older p other)) h.leads);
              known = subst (λ (l : List Node). FirstKnown (n ∷ older) (foot l (p ∷ ps))) (sym was) (known_first n older (foot links (p ∷ ps)) h.known);
            }
      ]
    where
      nothing_more : (o : Option Tree) → folded [] o ≡ o
      nothing_more None = refl
      nothing_more (Some t) = refl

  -- the tree with which a commit begins, along the chain below it
  pub chain_replays : (past : Past) → IsLinkedPast past → (ps : List ℕ) → FirstKnown past ps →
      folded (ops_along (chain removed past ps)) (begun (tree_in past) (foot (chain removed past ps) ps)) ≡ begun (tree_in past) ps
  chain_replays past s ps k = (hangs past s ps k).replays

  -- below the chain is the first of its new parents
  pub chain_leads : (past : Past) → IsLinkedPast past → (ps : List ℕ) → FirstKnown past ps →
      Leads (foot (chain removed past ps) ps) (expand_all removed past ps)
  chain_leads past s ps k = leads_all past (foot (chain removed past ps) ps) ps (hangs past s ps k).leads

  -- ---- where tags and resets go

  pub forward_stays : (ns : List Node) (c t : ℕ) → forward removed ns c ≡ Some t →
      (removed t ≡ false) × (list_any (λ (n : Node). n.id == t) ns ≡ true)
  forward_stays [] c t h = absurd cc
  forward_stays (n ∷ later) c t h = go (list_any (λ p. p == c) n.parents) (removed n.id) refl h (λ d x. forward_stays later d t x)
    where
      after : (removed t ≡ false) × (list_any (λ (m : Node). m.id == t) later ≡ true) →
          (removed t ≡ false) × (list_any (λ (m : Node). m.id == t) (n ∷ later) ≡ true)
      after x = (x.0, or_right (n.id == t) (list_any (λ (m : Node). m.id == t) later) x.1)

      go : (child gone : Bool) → removed n.id ≡ gone →
          cond child (cond gone (forward removed later n.id) (Some n.id)) (forward removed later c) ≡ Some t
          → ((d : ℕ) → forward removed later d ≡ Some t → (removed t ≡ false) × (list_any (λ (m : Node). m.id == t) later ≡ true)) → (removed t ≡ false) × (list_any (λ (m : Node). m.id == t) (n ∷ later) ≡ true)
      go true true r x f = after (f n.id x)
      go true false r x f =
          let is : n.id ≡ t = cc in
          (subst (λ k. removed k ≡ false) is r, or_left (n.id == t) (list_any (λ (m : Node). m.id == t) later) (eq-eqb n.id t is))
      go false gone r x f = after (f c x)

  pub back_stays : (older : Past) (ps : List ℕ) (t : ℕ) → back removed older ps ≡ Some t →
      (removed t ≡ false) × (knows older t ≡ true)
  back_stays [] ps t h = absurd cc
  back_stays (n ∷ older) [] t h = absurd cc
  back_stays (n ∷ older) (p ∷ ps) t h = go (n.id == p) (removed p) refl refl h (λ qs x. back_stays older qs t x)
    where
      after : (removed t ≡ false) × (knows older t ≡ true) → (removed t ≡ false) × (knows (n ∷ older) t ≡ true)
      after x = (x.0, known_later n older t x.1)

      go : (it gone : Bool) → (n.id == p) ≡ it → removed p ≡ gone →
          cond it (cond gone (back removed older n.parents) (Some p)) (back removed older (p ∷ ps)) ≡ Some t
          → ((qs : List ℕ) → back removed older qs ≡ Some t → (removed t ≡ false) × (knows older t ≡ true)) →
          (removed t ≡ false) × (knows (n ∷ older) t ≡ true)
      go true true e r x f = after (f n.parents x)
      go true false e r x f =
          let is : p ≡ t = cc in
          (subst (λ k. removed k ≡ false) is r, or_left (n.id == t) (knows older t) (subst (λ k. (n.id == k) ≡ true) is e))
      go false gone e r x f = after (f (p ∷ ps) x)
