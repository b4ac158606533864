-- Expansions of commits, one after another.
use Rattle.std.proofs.Common.{◌≡◌, ◌∙◌, ℕ, zero, suc, ◌<◌, ◌≤◌, Bool, true, false, cond, not, ◌&&◌, ◌||◌, inl, inr, List, [], ◌∷◌, ◌++◌, Option, Some, None, refl, sym, ap, subst, length, get_or, take, drop, eqb, eq-eqb, arith, append_assoc, append-nil, filter}
use Rattle.plain_model.proofs.Numbers.{eqb_turned}
use Rattle.std.proofs.lemmas.Bool.{cases_Bool, eqb-true, true≢false}
use Rattle.std.specs.List.{AllByRecursion}
use Rattle.std.specs.Prelude.{slice_get}
use Rattle.plain_model.specs.declared.event.PlainEvent.{PlainEvent}
use Rattle.plain_model.specs.Lookups.{event_parents, place_of}
use Rattle.plain_model.specs.Soundness.{IsCommitOf, IsSound}
use Rattle.history_laws.specs.Once.{AreDistinct}
use Rattle.history_laws.proofs.SoundOnce.{sound_once}
use Rattle.ancestry_laws.specs.Ancestry.{is_one_of}
use Rattle.graph_walk.specs.Joined.{AddsEntry, IsBeforePlace, fits, joined_from, with_all, with_one}
use Rattle.edit_laws.specs.Removal.{once_each}
use Rattle.graph_walk.proofs.EarlierLemmas.{parents_before, is_earlier}
use Rattle.graph_walk.proofs.EntryLemmas.{length_more}
use Rattle.graph_walk.proofs.PlaceLemmas.{place_found}

-- ---- places of parents

placed_all : (events : List PlainEvent) (k : ℕ) → AreDistinct events → (ps : List ℕ) →
    AllByRecursion (IsCommitOf (take k events)) ps → AllByRecursion (IsBeforePlace events k) ps
placed_all events k once [] h = tt
placed_all events k once (p ∷ ps) h =
    let b = is_earlier events k p h.0 in
    ((b.place, b.low, ap (λ id. place_of id events) b.own ∙ (place_found events b.place b.event b.at once).0), placed_all events k once ps h.1)

pub parents_placed : (events : List PlainEvent) (k : ℕ) (e : PlainEvent) → IsSound events →
    slice_get events k ≡ Some e → AllByRecursion (IsBeforePlace events k) (event_parents e)
parents_placed events k e sound at =
    placed_all events k (sound_once events sound).ids (event_parents e) (parents_before [] events k e sound.formed at)

-- ---- parts that are joined

pub joined_step : (bounded : Bool) (list new : List ℕ) (part : Option (List ℕ)) (parts : List (Option (List ℕ))) (added : Bool) →
    AddsEntry part list new added → added ≡ true → fits bounded (length new) ≡ true →
    joined_from bounded list (part ∷ parts) ≡ joined_from bounded new parts
joined_step bounded list new None parts added h is fit = absurd (true≢false (sym is ∙ h))
joined_step bounded list new (Some xs) parts added h is fit =
    let same : with_all list xs ≡ new = sym h.1 in
    subst (λ l. (cond (fits bounded (length l)) (joined_from bounded l parts) None) ≡ joined_from bounded new parts) (sym same) (rw fit refl)

pub drop_read : (xs : List ℕ) (k x : ℕ) → k < length xs → x ≡ get_or xs k x → drop k xs ≡ x ∷ drop (suc k) xs
drop_read [] k x low h = absurd (omega arith)
drop_read (y ∷ xs) zero x low h = ap (λ z. z ∷ xs) (sym h)
drop_read (y ∷ xs) (suc k) x low h = drop_read xs k x (omega arith) h

-- ---- lists without repeats

abbrev IsOnce : List ℕ → Type 0
IsOnce [] = Unit {0}
IsOnce (x ∷ xs) = (is_one_of xs x ≡ false) × IsOnce xs

others : ℕ → List ℕ → List ℕ
others x xs = filter (λ y. not (eqb y x)) xs

-- the others without one
one_of_others : (x y : ℕ) (xs : List ℕ) → is_one_of (others x xs) y ≡ is_one_of xs y && not (eqb y x)
unfolding others
one_of_others x y [] = refl
one_of_others x y (z ∷ xs) = elim (cases_Bool (eqb z x)) [
  | inl it ↦
      let z_is : z ≡ x = eqb-true z x it in
      let gone : eqb z y ≡ eqb y x = ap (λ n. eqb n y) z_is ∙ eqb_turned x y in
      rw (it, one_of_others x y xs, gone) (absorbed (eqb y x) (is_one_of xs y))
  | inr no_it ↦ rw (no_it, one_of_others x y xs) (kept_apart (eqb z y) (is_one_of xs y) (eqb y x) (apart z y x no_it))
]
  where
    absorbed : (a b : Bool) → b && not a ≡ (a || b) && not a
    absorbed true true = refl
    absorbed true false = refl
    absorbed false true = refl
    absorbed false false = refl

    apart : (z y x : ℕ) → eqb z x ≡ false → eqb z y ≡ true → eqb y x ≡ false
    apart z y x h e = subst (λ n. eqb n x ≡ false) (eqb-true z y e) h

    kept_apart : (a b c : Bool) → (a ≡ true → c ≡ false) → a || (b && not c) ≡ (a || b) && not c
    kept_apart true b true h = absurd (true≢false (h refl))
    kept_apart true b false h = refl
    kept_apart false b c h = refl

others_once : (x : ℕ) (xs : List ℕ) → IsOnce xs → IsOnce (others x xs)
unfolding others
others_once x [] h = tt
others_once x (y ∷ xs) h = elim (cases_Bool (eqb y x)) [
  | inl it ↦ rw it (others_once x xs h.1)
  | inr no_it ↦ rw no_it (one_of_others x y xs ∙ rw h.0 refl, others_once x xs h.1)
]

others_absent : (x : ℕ) (xs : List ℕ) → is_one_of xs x ≡ false → others x xs ≡ xs
unfolding others
others_absent x [] h = refl
others_absent x (y ∷ xs) h = elim (cases_Bool (eqb y x)) [
  | inl it ↦ absurd (true≢false (rw it at h))
  | inr no_it ↦ rw no_it (ap (λ ys. y ∷ ys) (others_absent x xs (rw no_it at h)))
]

pub is_once : (xs : List ℕ) → IsOnce (once_each xs)
unfolding others
is_once [] = tt
is_once (x ∷ xs) =
    (one_of_others x x (once_each xs) ∙ gone (is_one_of (once_each xs) x), others_once x (once_each xs) (is_once xs))
  where
    gone : (b : Bool) → b && not (eqb x x) ≡ false
    gone true = rw (eq-eqb x x refl) refl
    gone false = refl

-- a list without repeats is its own
once_same : (xs : List ℕ) → IsOnce xs → once_each xs ≡ xs
unfolding others
once_same [] h = refl
once_same (x ∷ xs) h = ap (λ ys. x ∷ ys) (ap (others x) (once_same xs h.1) ∙ others_absent x xs h.0)

pub once_once : (xs : List ℕ) → once_each (once_each xs) ≡ once_each xs
once_once xs = once_same (once_each xs) (is_once xs)

-- one more
once_push : (xs : List ℕ) (y : ℕ) → with_one (once_each xs) y ≡ once_each (xs ++ y ∷ [])
unfolding others
once_push [] y = refl
once_push (x ∷ xs) y = by (once_each xs) (once_push xs y)
  where
    push : (zs : List ℕ) → others x (zs ++ y ∷ []) ≡ others x zs ++ (cond (eqb y x) [] (y ∷ []))
    push [] = one (eqb y x)
      where
        one : (b : Bool) → cond (not b) (y ∷ []) [] ≡ cond b [] (y ∷ [])
        one true = refl
        one false = refl
    push (z ∷ zs) = elim (cases_Bool (eqb z x)) [
      | inl it ↦ rw it (push zs)
      | inr no_it ↦ rw no_it (ap (λ ys. z ∷ ys) (push zs))
    ]

    by : (os : List ℕ) → with_one os y ≡ once_each (xs ++ y ∷ []) →
        with_one (x ∷ others x os) y ≡ x ∷ others x (once_each (xs ++ y ∷ []))
    by os h = subst (λ ys. with_one (x ∷ others x os) y ≡ x ∷ others x ys) h (elim (cases_Bool (is_one_of os y)) [
      | inl it ↦ rw it (elim (cases_Bool (eqb y x)) [
        | inl same ↦ rw (eqb_turned x y, same) refl
        | inr other ↦ rw (eqb_turned x y, other, one_of_others x y os, it, other) refl
      ])
      | inr no_it ↦ rw (no_it, push os) (elim (cases_Bool (eqb y x)) [
        | inl same ↦ rw (eqb_turned x y, same) (ap (λ ys. x ∷ ys) (sym (append-nil (others x os))))
        | inr other ↦ rw (eqb_turned x y, other, one_of_others x y os, no_it) refl
      ])
    ])

pub with_all_once : (xs ys : List ℕ) → with_all (once_each xs) ys ≡ once_each (xs ++ ys)
with_all_once xs [] = ap once_each (sym (append-nil xs))
with_all_once xs (y ∷ ys) =
    ap (λ zs. with_all zs ys) (once_push xs y) ∙ with_all_once (xs ++ y ∷ []) ys
    ∙ ap once_each (append_assoc xs (y ∷ []) ys)

-- ---- lengths

one_longer : (xs : List ℕ) (x : ℕ) → length xs ≤ length (with_one xs x)
one_longer xs x = elim (cases_Bool (is_one_of xs x)) [
  | inl it ↦ rw it (omega arith)
  | inr no_it ↦ rw no_it (let more = length_more xs x in omega arith)
]

all_longer : (xs ys : List ℕ) → length xs ≤ length (with_all xs ys)
all_longer xs [] = omega arith
all_longer xs (y ∷ ys) = let one = one_longer xs y in let more = all_longer (with_one xs y) ys in omega arith

pub longer_front : (xs ys : List ℕ) → length (once_each xs) ≤ length (once_each (xs ++ ys))
longer_front xs ys =
    subst (λ zs. length (once_each xs) ≤ length zs) (with_all_once xs ys) (all_longer (once_each xs) ys)

without_one : (x : ℕ) (xs : List ℕ) → IsOnce xs → length xs ≤ suc (length (others x xs))
unfolding others
without_one x [] h = omega arith
without_one x (y ∷ xs) h = elim (cases_Bool (eqb y x)) [
  | inl it ↦ rw it (let same : others x xs ≡ xs = others_absent x xs (ap (is_one_of xs) (sym (eqb-true y x it)) ∙ h.0) in let n = ap length same in omega arith)
  | inr no_it ↦ rw no_it (let more = without_one x xs h.1 in omega arith)
]

pub longer_back : (xs ys : List ℕ) → length (once_each ys) ≤ length (once_each (xs ++ ys))
unfolding others
longer_back [] ys = omega arith
longer_back (x ∷ xs) ys = let more = longer_back xs ys in let one = without_one x (once_each (xs ++ ys)) (is_once (xs ++ ys)) in omega arith
