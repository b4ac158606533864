-- The numbers of events by their places.
use Rattle.std.proofs.Common.{◌≡◌, ℕ, zero, suc, ◌+◌, ◌<◌, ◌≤◌, Bool, true, false, cond, not, List, [], ◌∷◌, ◌++◌, length, take, refl, ap, ◌∙◌, sym, arith, Option, Some, None, option_map}
use Rattle.std.specs.Prelude.{slice_index_or, unwrap_or, if◌then◌else◌}
use Rattle.std.proofs.lemmas.Bool.{cond-false, cond-true, true≢false}
use Rattle.plain_model.specs.declared.id.AnyId.{AnyId}
use Rattle.plain_model.specs.declared.id.AnyId.TheVariants as any
use Rattle.plain_model.specs.declared.event.PlainEvent.{PlainEvent}
use Rattle.plain_model.specs.declared.event.PlainEvent.TheVariants.{Blob, Commit, Tag, Reset, Pass}
use Rattle.plain_model.specs.Lookups.{id_of, place_of, same_id}
use Rattle.graft_laws.specs.Joining.{is_pass, new_number, without_passes}
use Rattle.graft_unite.specs.Numbering.{IsNoPass, numbers_from}

-- the next number
abbrev pub next_number : ℕ → List PlainEvent → ℕ
next_number n events = n + length (without_passes events)

step : (n : ℕ) (e : PlainEvent) (events : List PlainEvent) → next_number (if is_pass e then n else n + 1) events ≡ next_number n (e ∷ events)
step n e events = go (is_pass e)
  where
    go : (b : Bool) → (if b then n else n + 1) + length (without_passes events) ≡ n + length (cond (not b) (e ∷ without_passes events) (without_passes events))
    go true = refl
    go false = let is : n + 1 + length (without_passes events) ≡ n + suc (length (without_passes events)) = omega arith in is

-- one event more
pub numbers_push : (n : ℕ) (xs : List PlainEvent) (e : PlainEvent) → numbers_from n (xs ++ e ∷ []) ≡ numbers_from n xs ++ next_number n xs ∷ []
numbers_push n [] e = ap (λ k. k ∷ []) (let is : n ≡ n + 0 = omega arith in is)
numbers_push n (x ∷ xs) e =
    let m : ℕ = if is_pass x then n else n + 1 in
    ap (λ (l : List ℕ). n ∷ l) (numbers_push m xs e ∙ ap (λ k. numbers_from m xs ++ k ∷ []) (step n x xs))

pub next_push : (n : ℕ) (xs : List PlainEvent) (e : PlainEvent) → next_number n (xs ++ e ∷ []) ≡ (if is_pass e then next_number n xs else next_number n xs + 1)
next_push n [] e = go (is_pass e)
  where
    go : (b : Bool) → n + length (cond (not b) (e ∷ []) []) ≡ (if b then n + 0 else n + 0 + 1)
    go true = refl
    go false = let is : n + 1 ≡ n + 0 + 1 = omega arith in is
next_push n (x ∷ xs) e =
    let m : ℕ = if is_pass x then n else n + 1 in
    sym (step n x (xs ++ e ∷ [])) ∙ next_push m xs e ∙ ap (λ k. if is_pass e then k else k + 1) (step n x xs)

pub length_numbers : (n : ℕ) (events : List PlainEvent) → length (numbers_from n events) ≡ length events
length_numbers n [] = refl
length_numbers n (e ∷ events) = ap suc (length_numbers (if is_pass e then n else n + 1) events)

-- the number at a place
pub number_at : (n : ℕ) (events : List PlainEvent) (k : ℕ) → k < length events → slice_index_or (numbers_from n events) k 0 ≡ next_number n (take k events)
number_at n [] k h = absurd (omega arith)
number_at n (e ∷ events) zero h = let is : n ≡ n + 0 = omega arith in is
number_at n (e ∷ events) (suc k) h = number_at (if is_pass e then n else n + 1) events k (omega arith) ∙ step n e (take k events)

-- the place of an id among the events that have a number
place_kept : (events : List PlainEvent) (id : AnyId) (k : ℕ) → IsNoPass id → place_of id events ≡ Some k → place_of id (without_passes events) ≡ Some (length (without_passes (take k events)))
place_kept [] id k kind h = absurd cc
place_kept (e ∷ events) id zero kind h = here (same_id id (id_of e)) refl h
  where
    later : (o : Option ℕ) → option_map suc o ≡ Some 0 → ⊥
    later None x = absurd cc
    later (Some n) x = let is : suc n ≡ 0 = cc in absurd (omega arith)

    no_pass : (e : PlainEvent) → IsNoPass id → same_id id (id_of e) ≡ true → is_pass e ≡ false
    no_pass (Blob i mark bytes) kind x = refl
    no_pass (Commit i mark branch author committer encoding comment parents ops aliases) kind x = refl
    no_pass (Tag i name target tagger comment mark) kind x = refl
    no_pass (Reset i branch target) kind x = refl
    no_pass (Pass i line) kind x = pass id kind x
      where
        pass : (id : AnyId) → IsNoPass id → same_id id (any.Pass i) ≡ true → is_pass (Pass i line) ≡ false
        pass (any.Blob n) kind x = absurd (true≢false (sym x))
        pass (any.Commit n) kind x = absurd (true≢false (sym x))
        pass (any.Tag n) kind x = absurd (true≢false (sym x))
        pass (any.Reset n) kind x = absurd (true≢false (sym x))
        pass (any.Pass n) kind x = absurd kind

    here : (b : Bool) → same_id id (id_of e) ≡ b → (if b then Some 0 else option_map suc (place_of id events)) ≡ Some 0 → place_of id (without_passes (e ∷ events)) ≡ Some 0
    here true is x =
        ap (λ b. place_of id (cond (not b) (e ∷ without_passes events) (without_passes events))) (no_pass e kind is)
        ∙ cond-true (same_id id (id_of e)) (Some 0) (option_map suc (place_of id (without_passes events))) is
    here false is x = absurd (later (place_of id events) x)
place_kept (e ∷ events) id (suc k) kind h = there (same_id id (id_of e)) refl h (place_kept events id k kind)
  where
    less : (o : Option ℕ) → option_map suc o ≡ Some (suc k) → o ≡ Some k
    less None x = absurd cc
    less (Some n) x = let is : suc n ≡ suc k = cc in ap Some (let same : n ≡ k = omega arith in same)

    kept : (b : Bool) → is_pass e ≡ b → same_id id (id_of e) ≡ false → place_of id (without_passes events) ≡ Some (length (without_passes (take k events)))
        → place_of id (cond (not b) (e ∷ without_passes events) (without_passes events)) ≡ Some (length (cond (not b) (e ∷ without_passes (take k events)) (without_passes (take k events))))
    kept true own is x = x
    kept false own is x = cond-false (same_id id (id_of e)) (Some 0) (option_map suc (place_of id (without_passes events))) is ∙ ap (option_map suc) x

    there : (b : Bool) → same_id id (id_of e) ≡ b → (if b then Some 0 else option_map suc (place_of id events)) ≡ Some (suc k) → (place_of id events ≡ Some k → place_of id (without_passes events) ≡ Some (length (without_passes (take k events))))
        → place_of id (without_passes (e ∷ events)) ≡ Some (length (without_passes (take (suc k) (e ∷ events))))
    there true is x f = let none : 0 ≡ suc k = cc in absurd (omega arith)
    there false is x f = kept (is_pass e) refl is (f (less (place_of id events) x))

-- so is its new number
pub number_of : (n : ℕ) (events : List PlainEvent) (id : AnyId) (k : ℕ) → IsNoPass id → place_of id events ≡ Some k → next_number n (take k events) ≡ new_number n (without_passes events) id
number_of n events id k kind h = ap (λ (o : Option ℕ). n + unwrap_or o 0) (sym (place_kept events id k kind h))

-- numbers of a first part
pub few_kept : (events : List PlainEvent) (k : ℕ) → length (without_passes (take k events)) ≤ k
few_kept [] zero = omega arith
few_kept [] (suc k) = omega arith
few_kept (e ∷ events) zero = omega arith
few_kept (e ∷ events) (suc k) =
    let rest = few_kept events k in
    elim (is_pass e) as (λ b. length (cond (not b) (e ∷ without_passes (take k events)) (without_passes (take k events))) ≤ suc k) [ true ↦ omega arith | false ↦ omega arith ]

pub few_taken : (n : ℕ) (events : List PlainEvent) (k : ℕ) → k < length events → next_number n (take k events) + 1 ≤ n + length events
few_taken n events k h = let few = few_kept events k in omega arith
