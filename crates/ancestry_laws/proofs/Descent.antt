-- Who descends from whom in a past.
use Rattle.std.proofs.Common.{◌≡◌, ◌∙◌, ℕ, Bool, true, ◌&&◌, inl, inr, List, [], ◌∷◌, refl, sym, ap, subst, eqb, eq-eqb}
use Rattle.std.proofs.Math.Bool.{or-false, or-true}
use Rattle.std.proofs.lemmas.Bool.{and_parts, cases_Bool, eqb-true, or_cases, true≢false}
use Rattle.std.specs.List.{AllByRecursion, list_any}
use Rattle.plain_model.specs.Histories.{IsLinkedPast, Past, knows}
use Rattle.ancestry_laws.specs.Ancestry.{descends_in, is_one_of, is_parent_in}

-- ---- some item, and each

-- some item passes the test
pub any_some : (f : ℕ → Bool) (xs : List ℕ) → list_any f xs ≡ true → (x : ℕ) × (f x ≡ true) × (is_one_of xs x ≡ true)
any_some f [] h = absurd (true≢false (sym h))
any_some f (x ∷ xs) h = elim (or_cases (f x) (list_any f xs) h) [
  | inl own ↦ (x, own, rw (eq-eqb x x refl) refl)
  | inr later ↦ let more = any_some f xs later in (more.0, more.1, rw more.2 (or-true (eqb x more.0)))
]

pub any_here : (f : ℕ → Bool) (xs : List ℕ) (x : ℕ) → is_one_of xs x ≡ true → f x ≡ true → list_any f xs ≡ true
any_here f [] x h own = absurd (true≢false (sym h))
any_here f (y ∷ xs) x h own = elim (or_cases (eqb y x) (is_one_of xs x) h) [
  | inl it ↦ rw (ap f (eqb-true y x it) ∙ own) refl
  | inr later ↦ rw (any_here f xs x later own) (or-true (f y))
]

pub all_here : (P : ℕ → Type 0) (xs : List ℕ) (x : ℕ) → AllByRecursion P xs → is_one_of xs x ≡ true → P x
all_here P [] x all h = absurd (true≢false (sym h))
all_here P (y ∷ xs) x all h = elim (or_cases (eqb y x) (is_one_of xs x) h) [
  | inl it ↦ subst P (eqb-true y x it) all.0
  | inr later ↦ all_here P xs x all.1 later
]

pub single : (s c : ℕ) → is_one_of (s ∷ []) c ≡ eqb s c
single s c = or-false (eqb s c)

-- ---- who is known

-- from whom one descends is known
low_known : (older : Past) (low high : ℕ) → descends_in (low ∷ []) older high ≡ true → knows older low ≡ true
low_known [] low high h = absurd (true≢false (sym h))
low_known (n ∷ older) low high h = elim (cases_Bool (eqb n.id high)) [
  | inl it ↦ elim (or_cases (is_one_of (low ∷ []) n.id) (list_any (descends_in (low ∷ []) older) n.parents) (rw it at h)) [
    | inl own ↦ let is : low ≡ n.id = eqb-true low n.id (sym (single low n.id) ∙ own) in rw (eq-eqb n.id low (sym is)) refl
    | inr later ↦ let p = any_some (descends_in (low ∷ []) older) n.parents later in rw (low_known older low p.0 p.1) (or-true (eqb n.id low))
  ]
  | inr no_it ↦ rw (low_known older low high (rw no_it at h)) (or-true (eqb n.id low))
]

-- and so is the one who descends
pub high_known : (older : Past) (set : List ℕ) (high : ℕ) → descends_in set older high ≡ true → knows older high ≡ true
high_known [] set high h = absurd (true≢false (sym h))
high_known (n ∷ older) set high h = elim (cases_Bool (eqb n.id high)) [
  | inl it ↦ rw it refl
  | inr no_it ↦ rw (high_known older set high (rw no_it at h)) (or-true (eqb n.id high))
]

-- the child of a parent is known
pub child_known : (older : Past) (parent child : ℕ) → is_parent_in older parent child ≡ true → knows older child ≡ true
child_known [] parent child h = absurd (true≢false (sym h))
child_known (n ∷ older) parent child h = elim (or_cases (eqb n.id child && list_any (λ p. eqb p parent) n.parents) (is_parent_in older parent child) h) [
  | inl own ↦ rw (and_parts (eqb n.id child) (list_any (λ p. eqb p parent) n.parents) own).0 refl
  | inr later ↦ rw (child_known older parent child later) (or-true (eqb n.id child))
]

-- ---- from one commit

-- a known commit descends from itself
pub from_itself : (older : Past) (c : ℕ) → knows older c ≡ true → descends_in (c ∷ []) older c ≡ true
from_itself [] c h = absurd (true≢false (sym h))
from_itself (n ∷ older) c h = elim (cases_Bool (eqb n.id c)) [
  | inl it ↦
      let is : n.id ≡ c = eqb-true n.id c it in
      let own : is_one_of (c ∷ []) n.id ≡ true = single c n.id ∙ eq-eqb c n.id (sym is) in
      rw (it, own) refl
  | inr no_it ↦ rw no_it (from_itself older c (rw no_it at h))
]

-- who descends from a commit descends from its parents
pub parent_reaches : (older : Past) → IsLinkedPast older → (parent c high : ℕ) → is_parent_in older parent c ≡ true →
    descends_in (c ∷ []) older high ≡ true → descends_in (parent ∷ []) older high ≡ true
parent_reaches [] linked parent c high link h = absurd (true≢false (sym h))
parent_reaches (n ∷ older) linked parent c high link h = elim (cases_Bool (eqb n.id high)) [
  | inl it ↦ elim (or_cases (is_one_of (c ∷ []) n.id) (list_any (descends_in (c ∷ []) older) n.parents) (rw it at h)) [
    | inl own ↦
        let is : c ≡ n.id = eqb-true c n.id (sym (single c n.id) ∙ own) in
        let among : is_one_of n.parents parent ≡ true = at_own is in
        rw (it, any_here (descends_in (parent ∷ []) older) n.parents parent among (from_itself older parent (all_here (λ p. knows older p ≡ true) n.parents parent linked.1 among))) (or-true (is_one_of (parent ∷ []) n.id))
    | inr later ↦
        let p = any_some (descends_in (c ∷ []) older) n.parents later in
        let more = parent_reaches older linked.2 parent c p.0 (at_older (low_known older c p.0 p.1)) p.1 in
        rw (it, any_here (descends_in (parent ∷ []) older) n.parents p.0 p.2 more) (or-true (is_one_of (parent ∷ []) n.id))
  ]
  | inr no_it ↦
      let below = rw no_it at h in
      rw no_it (parent_reaches older linked.2 parent c high (at_older (low_known older c high below)) below)
]
  where
    -- a commit that is known from before isn't the newest one
    at_older : knows older c ≡ true → is_parent_in older parent c ≡ true
    at_older known = elim (or_cases (eqb n.id c && list_any (λ p. eqb p parent) n.parents) (is_parent_in older parent c) link) [
      | inl own ↦ absurd (true≢false (sym known ∙ ap (knows older) (sym (eqb-true n.id c (and_parts (eqb n.id c) (list_any (λ p. eqb p parent) n.parents) own).0)) ∙ linked.0))
      | inr later ↦ later
    ]

    at_own : c ≡ n.id → is_one_of n.parents parent ≡ true
    at_own is = elim (or_cases (eqb n.id c && list_any (λ p. eqb p parent) n.parents) (is_parent_in older parent c) link) [
      | inl own ↦ (and_parts (eqb n.id c) (list_any (λ p. eqb p parent) n.parents) own).1
      | inr later ↦ absurd (true≢false (sym (child_known older parent c later) ∙ ap (knows older) is ∙ linked.0))
    ]

-- what is closed under parents holds of all from whom one descends
pub closed_reaches : (m : ℕ → Bool) (older : Past) →
    AllByRecursion (λ n. m n.id ≡ true → AllByRecursion (λ p. m p ≡ true) n.parents) older → (low high : ℕ) →
    m high ≡ true → descends_in (low ∷ []) older high ≡ true → m low ≡ true
closed_reaches m [] closed low high top h = absurd (true≢false (sym h))
closed_reaches m (n ∷ older) closed low high top h = elim (cases_Bool (eqb n.id high)) [
  | inl it ↦ elim (or_cases (is_one_of (low ∷ []) n.id) (list_any (descends_in (low ∷ []) older) n.parents) (rw it at h)) [
    | inl own ↦ ap m (eqb-true low n.id (sym (single low n.id) ∙ own) ∙ eqb-true n.id high it) ∙ top
    | inr later ↦
        let p = any_some (descends_in (low ∷ []) older) n.parents later in
        let own : m n.id ≡ true = ap m (eqb-true n.id high it) ∙ top in
        closed_reaches m older closed.1 low p.0 (all_here (λ q. m q ≡ true) n.parents p.0 (closed.0 own) p.2) p.1
  ]
  | inr no_it ↦ closed_reaches m older closed.1 low high top (rw no_it at h)
]
