-- The order of parts, and the latest commit before a second, in their own words.
use Rattle.std.proofs.Common.{◌≡◌, ℕ, suc, ◌≤◌, ◌<◌, Bool, true, false, cond, List, [], ◌∷◌, refl, sym, ap, subst, ◌∙◌, inl, inr, ◌⊎◌, arith, Option, Some, None, nat_lt, true≢false}
use Rattle.std.specs.Prelude.{◌==◌, IfSome, filter, flat_map, slice_get, if◌then◌else◌}
use Rattle.std.specs.List.{AllByRecursion, fold}
use Rattle.std.proofs.lemmas.Bool.{cases_Bool}
use Rattle.std.proofs.lemmas.Bool.Decides.{nat_tests}
use Rattle.plain_model.specs.declared.event.PlainEvent.{PlainEvent}
use Rattle.graft_laws.specs.Order.{IsByAge, IsLastOfSecond, IsLatest, IsNoLater, of_age}
use Rattle.graft_laws.specs.Unite.{age, by_age, dated, is_before, is_same_age, later_of, latest_before, oldest_place, put_by_age}

-- ---- by age

-- what is before isn't behind
not_both : (a b : Option ℕ) → is_before a b ≡ true → is_before b a ≡ false
not_both (Some a) (Some b) h = go a b h
  where
    go : (a b : ℕ) → nat_lt a b ≡ true → nat_lt b a ≡ false
    go a b h = grind (arith, nat_tests)
not_both (Some a) None h = refl
not_both None b h = absurd (true≢false (sym h))

module _ {X : Type 0} (history : X → List PlainEvent) where
  abbrev comes_before : X → X → Bool
  comes_before x y = is_before (age (history x)) (age (history y))

  put_sorted : (x : X) (ys : List X) → IsByAge history ys → IsByAge history (put_by_age history x ys)
  put_sorted x [] h = tt
  put_sorted x (y ∷ []) h =
      elim (cases_Bool (comes_before y x)) [
        | inl first ↦ rw first (not_both (age (history y)) (age (history x)) first, tt)
        | inr other ↦ rw other (other, tt)
      ]
  put_sorted x (y ∷ z ∷ ys) h =
      elim (cases_Bool (comes_before y x)) [
        | inl first ↦ rw first (behind (comes_before z x) refl (put_sorted x (z ∷ ys) h.1) (not_both (age (history y)) (age (history x)) first))
        | inr other ↦ rw other (other, (h.0, h.1))
      ]
    where
      behind : (b : Bool) → comes_before z x ≡ b → IsByAge history (cond b (z ∷ put_by_age history x ys) (x ∷ z ∷ ys)) → comes_before x y ≡ false
          → IsByAge history (y ∷ cond b (z ∷ put_by_age history x ys) (x ∷ z ∷ ys))
      behind true is rest later = (h.0, rest)
      behind false is rest later = (later, rest)

  pub sorted_by_age : (xs : List X) → IsByAge history (by_age history xs)
  sorted_by_age [] = tt
  sorted_by_age (x ∷ xs) = put_sorted x (by_age history xs) (sorted_by_age xs)

  -- the oldest one is first
  pub oldest_first : (xs : List X) → slice_get xs (oldest_place history xs) ≡ slice_get (by_age history xs) 0
  oldest_first [] = refl
  oldest_first (x ∷ xs) = go (by_age history xs) (oldest_first xs)
    where
      go : (sorted : List X) → slice_get xs (oldest_place history xs) ≡ slice_get sorted 0 → slice_get (x ∷ xs) (elim sorted [ [] ↦ 0 | y ∷ ys ↦ if comes_before y x then suc (oldest_place history xs) else 0 ]) ≡ slice_get (put_by_age history x sorted) 0
      go [] h = refl
      go (y ∷ ys) h = elim (comes_before y x) as (λ b. slice_get (x ∷ xs) (cond b (suc (oldest_place history xs)) 0) ≡ slice_get (cond b (y ∷ put_by_age history x ys) (x ∷ y ∷ ys)) 0) [ true ↦ h | false ↦ refl ]

-- ---- those of an age stay in their order

-- one of them isn't before another
same_apart : (a b c : Option ℕ) → is_same_age b a ≡ true → is_before b c ≡ true → is_same_age c a ≡ false
same_apart (Some a) (Some b) (Some c) same before = go a b c same before
  where
    go : (a b c : ℕ) → (b == a) ≡ true → nat_lt b c ≡ true → (c == a) ≡ false
    go a b c same before = grind (arith, nat_tests)
same_apart None (Some b) c same before = absurd (true≢false (sym same))
same_apart (Some a) (Some b) None same before = refl
same_apart a None c same before = absurd (true≢false (sym before))

module _ {X : Type 0} (history : X → List PlainEvent) (a : Option ℕ) where
  abbrev is_of : X → Bool
  is_of x = is_same_age (age (history x)) a

  put_stays : (x : X) (ys : List X) → of_age history a (put_by_age history x ys) ≡ of_age history a (x ∷ ys)
  put_stays x [] = refl
  put_stays x (y ∷ ys) = go (is_before (age (history y)) (age (history x))) refl (put_stays x ys)
    where
      -- with the one in front of both
      passed : (p q : Bool) → (p ≡ true → q ≡ false) → cond p (y ∷ cond q (x ∷ of_age history a ys) (of_age history a ys)) (cond q (x ∷ of_age history a ys) (of_age history a ys))
          ≡ cond q (x ∷ cond p (y ∷ of_age history a ys) (of_age history a ys)) (cond p (y ∷ of_age history a ys) (of_age history a ys))
      passed true true apart = absurd (true≢false (apart refl))
      passed true false apart = refl
      passed false q apart = refl

      go : (b : Bool) → is_before (age (history y)) (age (history x)) ≡ b → of_age history a (put_by_age history x ys) ≡ of_age history a (x ∷ ys)
          → of_age history a (cond b (y ∷ put_by_age history x ys) (x ∷ y ∷ ys)) ≡ of_age history a (x ∷ y ∷ ys)
      go false is rest = refl
      go true is rest =
          ap (λ (l : List X). cond (is_of y) (y ∷ l) l) rest
          ∙ passed (is_of y) (is_of x) (λ same. same_apart a (age (history y)) (age (history x)) same is)

  pub stable_by_age : (xs : List X) → of_age history a (by_age history xs) ≡ of_age history a xs
  stable_by_age [] = refl
  stable_by_age (x ∷ xs) = put_stays x (by_age history xs) ∙ ap (λ (l : List X). cond (is_of x) (x ∷ l) l) (stable_by_age xs)

-- ---- the latest

best_still : (best : Option (ℕ × ℕ)) (c d : ℕ × ℕ) → IsNoLater best d → IsNoLater (later_of best c) d
best_still None c d h = absurd h
best_still (Some best) c d h =
    elim (cases_Bool (nat_lt c.1 best.1)) [
      | inl under ↦ rw under h
      | inr other ↦ rw other (go c.1 best.1 d.1 other h)
    ]
  where
    go : (k m n : ℕ) → nat_lt k m ≡ false → n ≤ m → n ≤ k
    go k m n h l = grind (arith, nat_tests)

best_own : (best : Option (ℕ × ℕ)) (c : ℕ × ℕ) → IsNoLater (later_of best c) c
best_own None c = omega arith
best_own (Some best) c =
    elim (cases_Bool (nat_lt c.1 best.1)) [
      | inl under ↦ rw under (go c.1 best.1 under)
      | inr other ↦ rw other (same c.1)
    ]
  where
    go : (k m : ℕ) → nat_lt k m ≡ true → k ≤ m
    go k m h = grind (arith, nat_tests)

    same : (k : ℕ) → k ≤ k
    same k = omega arith

best_on : (best : Option (ℕ × ℕ)) (cs : List (ℕ × ℕ)) (d : ℕ × ℕ) → IsNoLater best d → IsNoLater (fold later_of best cs) d
best_on best [] d h = h
best_on best (c ∷ cs) d h = best_on (later_of best c) cs d (best_still best c d h)

best_all : (best : Option (ℕ × ℕ)) (cs : List (ℕ × ℕ)) → AllByRecursion (IsNoLater (fold later_of best cs)) cs
best_all best [] = tt
best_all best (c ∷ cs) = (best_on (later_of best c) cs c (best_own best c), best_all (later_of best c) cs)

-- ---- the last of its second

-- of commits behind one that was found: it stands, and all are earlier, or one of them is the last of its second
abbrev StandsOr : ℕ × ℕ → List (ℕ × ℕ) → ℕ × ℕ → Type 0
StandsOr best cs found = ((found ≡ best) × AllByRecursion (λ (c : ℕ × ℕ). c.1 < found.1) cs) ⊎ IsLastOfSecond cs found

stands_or : (best : ℕ × ℕ) (cs : List (ℕ × ℕ)) → IfSome (fold later_of (Some best) cs) (StandsOr best cs)
stands_or best [] = inl (refl, tt)
stands_or best (c ∷ cs) = go (nat_lt c.1 best.1) refl (stands_or best cs) (stands_or c cs)
  where
    lower : (k m : ℕ) → nat_lt k m ≡ true → k < m
    lower k m h = grind (arith, nat_tests)

    behind_it : (found : ℕ × ℕ) → StandsOr c cs found → StandsOr best (c ∷ cs) found
    behind_it found (inl own) = inr ([], cs, ap (λ (x : ℕ × ℕ). x ∷ cs) (sym own.0), own.1)
    behind_it found (inr later) = inr (c ∷ later.0, later.1, ap (λ (l : List (ℕ × ℕ)). c ∷ l) later.2, later.3)

    still : nat_lt c.1 best.1 ≡ true → (found : ℕ × ℕ) → StandsOr best cs found → StandsOr best (c ∷ cs) found
    still is found (inl own) = inl (own.0, (subst (λ (x : ℕ × ℕ). c.1 < x.1) (sym own.0) (lower c.1 best.1 is), own.1))
    still is found (inr later) = inr (c ∷ later.0, later.1, ap (λ (l : List (ℕ × ℕ)). c ∷ l) later.2, later.3)

    each : (P Q : ℕ × ℕ → Type 0) → ((x : ℕ × ℕ) → P x → Q x) → (o : Option (ℕ × ℕ)) → IfSome o P → IfSome o Q
    each P Q f None h = tt
    each P Q f (Some x) h = f x h

    go : (b : Bool) → nat_lt c.1 best.1 ≡ b → IfSome (fold later_of (Some best) cs) (StandsOr best cs) → IfSome (fold later_of (Some c) cs) (StandsOr c cs)
        → IfSome (fold later_of (cond b (Some best) (Some c)) cs) (StandsOr best (c ∷ cs))
    go true is kept new = each (StandsOr best cs) (StandsOr best (c ∷ cs)) (still is) (fold later_of (Some best) cs) kept
    go false is kept new = each (StandsOr c cs) (StandsOr best (c ∷ cs)) behind_it (fold later_of (Some c) cs) new

last_of : (cs : List (ℕ × ℕ)) → IfSome (fold later_of None cs) (IsLastOfSecond cs)
last_of [] = tt
last_of (c ∷ cs) = each (fold later_of (Some c) cs) (stands_or c cs)
  where
    one : (found : ℕ × ℕ) → StandsOr c cs found → IsLastOfSecond (c ∷ cs) found
    one found (inl own) = ([], cs, ap (λ (x : ℕ × ℕ). x ∷ cs) (sym own.0), own.1)
    one found (inr later) = (c ∷ later.0, later.1, ap (λ (l : List (ℕ × ℕ)). c ∷ l) later.2, later.3)

    each : (o : Option (ℕ × ℕ)) → IfSome o (StandsOr c cs) → IfSome o (IsLastOfSecond (c ∷ cs))
    each None h = tt
    each (Some x) h = one x h

pub latest_is : (events : List PlainEvent) (seconds : ℕ) → IsLatest events seconds (latest_before events seconds)
latest_is events seconds = record {
  none_later = each (flat_map dated events) (best_all None (filter (λ c. nat_lt c.1 seconds) (flat_map dated events)));
  last = last_of (filter (λ c. nat_lt c.1 seconds) (flat_map dated events));
}
  where
    each : (cs : List (ℕ × ℕ)) → AllByRecursion (IsNoLater (latest_before events seconds)) (filter (λ c. nat_lt c.1 seconds) cs) → AllByRecursion (λ c. nat_lt c.1 seconds ≡ true → IsNoLater (latest_before events seconds) c) cs
    each [] h = tt
    each (c ∷ cs) h = go (nat_lt c.1 seconds) refl h (each cs)
      where
        go : (b : Bool) → nat_lt c.1 seconds ≡ b → AllByRecursion (IsNoLater (latest_before events seconds)) (cond b (c ∷ filter (λ c. nat_lt c.1 seconds) cs) (filter (λ c. nat_lt c.1 seconds) cs))
            → (AllByRecursion (IsNoLater (latest_before events seconds)) (filter (λ c. nat_lt c.1 seconds) cs) → AllByRecursion (λ c. nat_lt c.1 seconds ≡ true → IsNoLater (latest_before events seconds) c) cs)
            → (nat_lt c.1 seconds ≡ true → IsNoLater (latest_before events seconds) c) × AllByRecursion (λ c. nat_lt c.1 seconds ≡ true → IsNoLater (latest_before events seconds) c) cs
        go true is k f = (λ _. k.0, f k.1)
        go false is k f = (λ other. absurd (true≢false (sym other ∙ is)), f k)
