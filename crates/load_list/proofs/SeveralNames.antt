-- Names of repositories that are looked for, taken out and put last.
use Rattle.std.proofs.Common.{Vec, ◌≡◌, ◌≢◌, ℕ, ◌+◌, ◌≤◌, ◌<◌, Bool, true, false, inl, inr, List, [], ◌∷◌, ◌++◌, length, Option, Some, None, refl, sym, ap, subst, ◌∙◌, nat_eq, arith, true≢false}
use Rattle.std.specs.Prelude.{IsSome, bytes_eq, flat_map, if◌then◌else◌}
use Rattle.std.specs.Cmp.Lexicographic.{pointwise}
use Rattle.std.specs.Map.{keys_of}
use Rattle.std.specs.List.{AllByRecursion, IsDistinct}
use Rattle.std.proofs.lemmas.Bool.{cases_Bool, false_from_ne_true}
use Rattle.std.proofs.lemmas.List.{length-append}
use Rattle.std.proofs.lemmas.Slice.Eq.{bytes_eq-Decides}
use Rattle.plain_model.specs.Paths.{Bytes}
use Rattle.history_machine.specs.Sessions.{Repo, find_repo, without_repo}
use Rattle.history_machine.specs.Several.{joined_name, without_repos}
use Rattle.load_list.specs.Entries.{Loaded, repos_of}
use Rattle.load_list.specs.Lists.{IsLongerThanEach}

same_bytes : (a : Bytes) → bytes_eq a a ≡ true
same_bytes a = (bytes_eq-Decides a a).1 refl

turned : (a b : Bytes) → bytes_eq a b ≡ false → bytes_eq b a ≡ false
turned a b differ = false_from_ne_true (bytes_eq b a) (λ same. true≢false (sym ((bytes_eq-Decides a b).1 (sym ((bytes_eq-Decides b a).0 same))) ∙ differ))

-- names of different lengths differ
pub differ_by_length : (a b : Bytes) → length b < length a → bytes_eq a b ≡ false
differ_by_length a b longer = false_from_ne_true (bytes_eq a b) (λ same.
    let lengths : length a ≡ length b = ap length ((bytes_eq-Decides a b).0 same) in
    absurd (omega arith))

pub with_ending_differs : (name ending : Bytes) → 1 ≤ length ending → bytes_eq (name ++ ending) name ≡ false
with_ending_differs name ending some = let longer = length-append name ending in differ_by_length (name ++ ending) name (omega arith)

-- ---- one is taken out

-- what is found under another name stays
pub other_found : (wanted name : Bytes) (repos : List Repo) → bytes_eq wanted name ≡ false → find_repo wanted (without_repo name repos) ≡ find_repo wanted repos
other_found wanted name [] differ = refl
other_found wanted name (r ∷ repos) differ = elim (cases_Bool (bytes_eq name r.name)) [
  | inl its ↦
      rw its
      (let mine : bytes_eq wanted r.name ≡ false = ap (bytes_eq wanted) (sym ((bytes_eq-Decides name r.name).0 its)) ∙ differ in
      rw mine refl)
  | inr not_its ↦ rw not_its (ap (λ (o : Option Repo). if bytes_eq wanted r.name then Some r else o) (other_found wanted name repos differ))
]

-- one that was just put last
pub last_out : (repos : List Repo) (new : Repo) → find_repo new.name repos ≡ None → without_repo new.name (repos ++ new ∷ []) ≡ repos
last_out [] new none = rw (same_bytes new.name) refl
last_out (r ∷ repos) new none = elim (cases_Bool (bytes_eq new.name r.name)) [
  | inl its ↦ absurd (let k = rw its at none in cc)
  | inr not_its ↦ rw not_its (ap (λ (rs : List Repo). r ∷ rs) (last_out repos new (rw not_its at none)))
]

-- one that was there before others were put last
pub front_out : (name : Bytes) (repos : List Repo) (new : Repo) → IsSome (find_repo name repos) → without_repo name (repos ++ new ∷ []) ≡ without_repo name repos ++ new ∷ []
front_out name [] new some = absurd cc
front_out name (r ∷ repos) new some = elim (cases_Bool (bytes_eq name r.name)) [
  | inl its ↦ rw its refl
  | inr not_its ↦ rw not_its (ap (λ (rs : List Repo). r ∷ rs) (front_out name repos new (rw not_its at some)))
]

pub still_some : (name : Bytes) (repos : List Repo) (new : Repo) → IsSome (find_repo name repos) → IsSome (find_repo name (repos ++ new ∷ []))
still_some name [] new some = absurd cc
still_some name (r ∷ repos) new some = elim (cases_Bool (bytes_eq name r.name)) [
  | inl its ↦ rw its refl
  | inr not_its ↦ rw not_its (still_some name repos new (rw not_its at some))
]

-- one that wasn't there before another was put last
pub still_none : (name : Bytes) (repos : List Repo) (new : Repo) → find_repo name repos ≡ None → bytes_eq name new.name ≡ false → find_repo name (repos ++ new ∷ []) ≡ None
still_none name [] new none other = rw other refl
still_none name (r ∷ repos) new none other = elim (cases_Bool (bytes_eq name r.name)) [
  | inl its ↦ absurd (let k = rw its at none in cc)
  | inr not_its ↦ rw not_its (still_none name repos new (rw not_its at none) other)
]

-- one that isn't the last
pub not_last_out : (name : Bytes) (repos : List Repo) (new : Repo) → bytes_eq name new.name ≡ false → without_repo name (repos ++ new ∷ []) ≡ without_repo name repos ++ new ∷ []
not_last_out name [] new other = rw other refl
not_last_out name (r ∷ repos) new other = elim (cases_Bool (bytes_eq name r.name)) [
  | inl its ↦ rw its refl
  | inr not_its ↦ rw not_its (ap (λ (rs : List Repo). r ∷ rs) (not_last_out name repos new other))
]

-- ---- several are taken out

-- all of them together are longer than each
pub whole_is_longer : (names : List Bytes) → 2 ≤ length names → IsLongerThanEach names (joined_name names)
whole_is_longer [] many = absurd (omega arith)
whole_is_longer (name ∷ []) many = absurd (omega arith)
whole_is_longer (name ∷ other ∷ names) many =
    let whole = length-append name (behind (other ∷ names)) in (
      omega (arith, whole),
      each (other ∷ names) (length (joined_name (name ∷ other ∷ names))) (omega (arith, whole)),
    )
  where
    behind : List Bytes → Bytes
    behind names = flat_map (λ other. 43 ∷ other) names

    each : (names : List Bytes) (n : ℕ) → length (flat_map (λ (other : Bytes). 43 ∷ other) names) ≤ n → AllByRecursion (λ name. length name < n) names
    each [] n low = tt
    each (name ∷ names) n low =
        let parts = length-append (43 ∷ name) (flat_map (λ (other : Bytes). 43 ∷ other) names) in
        (omega (arith, parts), each names n (omega (arith, parts)))

pub found_without : (whole : Bytes) (names : List Bytes) (repos : List Repo) → IsLongerThanEach names whole → find_repo whole (without_repos names repos) ≡ find_repo whole repos
found_without whole [] repos other = refl
found_without whole (name ∷ names) repos other =
    found_without whole names (without_repo name repos) other.1 ∙ other_found whole name repos (differ_by_length whole name other.0)

pub several_out : (names : List Bytes) (repos : List Repo) (new : Repo) → IsLongerThanEach names new.name → without_repos names (repos ++ new ∷ []) ≡ without_repos names repos ++ new ∷ []
several_out [] repos new other = refl
several_out (name ∷ names) repos new other =
    ap (without_repos names) (not_last_out name repos new (turned new.name name (differ_by_length new.name name other.0)))
    ∙ several_out names (without_repo name repos) new other.1

-- ---- one name alone

module _ {A : Type 0} where
  -- it is there once
  pub none_left : (name : Bytes) (es : List (Vec ℕ A × Loaded)) → IsDistinct (λ (a b : Vec ℕ A). pointwise nat_eq a.items b.items) (keys_of es)
      → find_repo name (without_repo name (repos_of es)) ≡ None
  unfolding IsDistinct
  none_left name [] once = refl
  none_left name (e ∷ es) once = elim (cases_Bool (bytes_eq name e.0.items)) [
    | inl its ↦ rw its (absent es (subst (λ (n : Bytes). AllByRecursion (λ (k : Vec ℕ A). bytes_eq n k.items ≡ false) (keys_of es)) (sym ((bytes_eq-Decides name e.0.items).0 its)) once.0))
    | inr not_its ↦ rw not_its (rw not_its (none_left name es once.1))
  ]
    where
      absent : (es : List (Vec ℕ A × Loaded)) → AllByRecursion (λ (k : Vec ℕ A). bytes_eq name k.items ≡ false) (keys_of es) → find_repo name (repos_of es) ≡ None
      absent [] a = refl
      absent (e ∷ es) a = rw a.0 (absent es a.1)
