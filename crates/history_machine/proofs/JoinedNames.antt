-- The names of repositories that are joined: the one that is taken in isn't the chosen one, and the one that is made of several is new.
use Rattle.std.proofs.Common.{◌≡◌, ◌∙◌, ℕ, suc, ◌≤◌, ◌<◌, Bool, true, false, List, [], ◌∷◌, ◌++◌, length, Some, None, Result, Ok, Err, refl, sym, ap, arith, map, inl, inr}
use Rattle.std.specs.Prelude.{bytes_eq, flat_map, if◌then◌else◌}
use Rattle.std.specs.List.{AllByRecursion}
use Rattle.std.proofs.lemmas.Bool.{cases_Bool, false_from_ne_true}
use Rattle.std.proofs.lemmas.List.{length-append}
use Rattle.std.proofs.lemmas.Slice.Eq.{bytes_eq-Decides}
use Rattle.plain_model.specs.Paths.{Bytes}
use Rattle.plain_model.specs.declared.event.PlainEvent.{PlainEvent}
use Rattle.plain_model.specs.declared.fault.Fault.{Fault}
use Rattle.edit_laws.specs.Editing.{Remade}
use Rattle.history_laws.proofs.Lists.{all_imply}
use Rattle.script_lines.specs.Answering.{◌>>=◌}
use Rattle.history_machine.specs.Sessions.{Repo, Session, chosen, edited, find_repo, there, with_repo, without_repo}
use Rattle.history_machine.specs.Several.{after_joining, all_there, as_part, joined_name, other_than, without_repos}
use Rattle.history_machine.proofs.Several.{is_other}

-- what is bound is there
bound : {A B : Type 0} (r : Result A Fault) (f : A → Result B Fault) (y : B) → (r >>= f) ≡ Ok y → (x : A) × (r ≡ Ok x) × (f x ≡ Ok y)
bound (Ok x) f y h = (x, refl, h)
bound (Err why) f y h = absurd cc

-- ---- another is taken in

pub other_chosen : (s : Session) (name : Bytes) (edit : Repo → ℕ → List PlainEvent → Result Remade Fault) (repo : Repo) (after : Session) → chosen s ≡ Ok repo → after_joining s name edit ≡ Ok after
    → bytes_eq name repo.name ≡ false
unfolding after_joining
other_chosen s name edit repo after is h =
    let one = bound (chosen s) (λ old. other_than old name s.repos >>= λ part. edited (edit part) old >>= λ new. Ok (taken new)) after h in
    let same : one.0 ≡ repo = ok_same one.0 repo (sym one.1 ∙ is) in
    let other = bound (other_than one.0 name s.repos) (λ part. edited (edit part) one.0 >>= λ new. Ok (taken new)) after one.2 in
    ap (λ (old : Repo). bytes_eq name old.name) (sym same) ∙ (is_other one.0 other.0 name s.repos other.1).0
  where
    taken : Repo → Session
    taken new = record s { repos = without_repo name (with_repo new s.repos) }

    ok_same : (x y : Repo) → ◌≡◌ {A = Result Repo Fault} (Ok x) (Ok y) → x ≡ y
    ok_same x y e = cc

-- ---- several become one

-- the names are as many as the repositories
as_many : (names : List Bytes) (repos parts : List Repo) → all_there names repos ≡ Ok parts → length parts ≡ length names
as_many [] repos parts h = let is : [] ≡ parts = cc in sym (ap (λ (l : List Repo). length l) is)
as_many (name ∷ names) repos parts h =
    let one = bound (there name (find_repo name repos)) (λ part. all_there names repos >>= λ parts. Ok (part ∷ parts)) parts h in
    let rest = bound (all_there names repos) (λ parts. Ok (one.0 ∷ parts)) parts one.2 in
    let is : one.0 ∷ rest.0 ≡ parts = cc in
    sym (ap (λ (l : List Repo). length l) is) ∙ ap suc (as_many names repos rest.0 rest.1)

mapped : (parts : List Repo) → length (map as_part parts) ≡ length parts
mapped [] = refl
mapped (part ∷ parts) = ap suc (mapped parts)

-- each name is shorter than all of them with `+` before each
shorter : (names : List Bytes) → AllByRecursion (λ (name : Bytes). length name < length (flat_map (λ (other : Bytes). 43 ∷ other) names)) names
shorter [] = tt
shorter (name ∷ names) =
    let rest = flat_map (λ (other : Bytes). 43 ∷ other) names in
    let many = length-append (43 ∷ name) rest in (
      omega arith,
      all_imply (λ (other : Bytes). length other < length rest) (λ (other : Bytes). length other < length ((43 ∷ name) ++ rest)) (λ other h. omega arith) names (shorter names),
    )

differ : (a b : Bytes) → length b < length a → bytes_eq a b ≡ false
differ a b less = false_from_ne_true (bytes_eq a b) (λ same. let long = ap (λ (l : Bytes). length l) ((bytes_eq-Decides a b).0 same) in absurd (omega arith))

-- the joined name is none of them
none_of_them : (names : List Bytes) → 2 ≤ length names → AllByRecursion (λ name. bytes_eq (joined_name names) name ≡ false) names
none_of_them [] several = tt
none_of_them (name ∷ []) several = absurd (omega arith)
none_of_them (name ∷ next ∷ names) several =
    let rest = flat_map (λ (other : Bytes). 43 ∷ other) (next ∷ names) in
    let many = length-append name rest in
    let more = length-append (43 ∷ next) (flat_map (λ (other : Bytes). 43 ∷ other) names) in (
      differ (name ++ rest) name (omega arith),
      all_imply (λ (other : Bytes). length other < length rest) (λ other. bytes_eq (name ++ rest) other ≡ false) (λ other h. differ (name ++ rest) other (omega arith)) (next ∷ names) (shorter (next ∷ names)),
    )

-- a name that isn't there without a repository of another name isn't there with it
not_there : (name other : Bytes) (repos : List Repo) → bytes_eq name other ≡ false → find_repo name (without_repo other repos) ≡ None → find_repo name repos ≡ None
not_there name other [] differs h = h
not_there name other (r ∷ repos) differs h = elim (cases_Bool (bytes_eq other r.name)) [
  | inl it ↦
      let no_it : bytes_eq name r.name ≡ false = ap (bytes_eq name) (sym ((bytes_eq-Decides other r.name).0 it)) ∙ differs in
      rw no_it (rw it at h)
  | inr no_it ↦
      let left : (if bytes_eq name r.name then Some r else find_repo name (without_repo other repos)) ≡ None = rw no_it at h in
      go (bytes_eq name r.name) left (λ rest. not_there name other repos differs rest)
]
  where
    go : (b : Bool) → (if b then Some r else find_repo name (without_repo other repos)) ≡ None → (find_repo name (without_repo other repos) ≡ None → find_repo name repos ≡ None)
        → (if b then Some r else find_repo name repos) ≡ None
    go true h rest = absurd cc
    go false h rest = rest h

none_there : (name : Bytes) (names : List Bytes) (repos : List Repo) → AllByRecursion (λ other. bytes_eq name other ≡ false) names → find_repo name (without_repos names repos) ≡ None
    → find_repo name repos ≡ None
none_there name [] repos differs h = h
none_there name (other ∷ names) repos differs h = not_there name other repos differs.0 (none_there name names (without_repo other repos) differs.1 h)

pub is_new_name : (names : List Bytes) (repos parts : List Repo) → all_there names repos ≡ Ok parts → 2 ≤ length (map as_part parts) → find_repo (joined_name names) (without_repos names repos) ≡ None
    → find_repo (joined_name names) repos ≡ None
is_new_name names repos parts are several h =
    let many = as_many names repos parts are in
    let same = mapped parts in
    none_there (joined_name names) names repos (none_of_them names (omega arith)) h
