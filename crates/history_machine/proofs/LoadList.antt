-- The names of the repositories of a load list, as the list changes.
use Rattle.std.proofs.Common.{◌≡◌, ◌∙◌, suc, ◌≤◌, ◌<◌, Bool, true, false, inl, inr, List, [], ◌∷◌, ◌++◌, length, Option, Some, None, refl, sym, ap, subst, arith}
use Rattle.std.specs.Prelude.{◌||◌, not, if◌then◌else◌, bytes_eq, is_some}
use Rattle.std.specs.List.{AllByRecursion}
use Rattle.std.proofs.lemmas.Bool.{and_from, and_parts, cases_Bool, false_from_ne_true, not_from_false, or_from, or_parts, true≢false, not-true}
use Rattle.std.proofs.lemmas.List.{length-append, length-map, map-append}
use Rattle.std.proofs.lemmas.List.Folds.{list_any-append}
use Rattle.std.proofs.lemmas.Slice.Eq.{bytes_eq-Decides}
use Rattle.plain_model.specs.declared.limit.TheConstants.{MAX_REPOSITORIES}
use Rattle.plain_model.specs.Paths.{Bytes}
use Rattle.plain_model.proofs.Words.{bytes_eq_same}
use Rattle.history_machine.specs.Lawful.{AreLawfulNames, IsChoiceOf, IsLawful, IsLawfulRepo, are_names_apart, is_named, repo_names}
use Rattle.history_machine.specs.Sessions.{Repo, Session, find_repo, unless, with_repo, without_repo}

-- ---- names

line_end : (a b : Bytes) → bytes_eq a b ≡ false → bytes_eq b a ≡ false
line_end a b no_it =
    false_from_ne_true (bytes_eq b a) (λ it. true≢false (sym ((bytes_eq-Decides a b).1 (sym ((bytes_eq-Decides b a).0 it))) ∙ no_it))

-- without the first name that is this one
abbrev without_name : Bytes → List Bytes → List Bytes
without_name name [] = []
without_name name (n ∷ names) = if bytes_eq name n then names else n ∷ without_name name names

fewer_names : (name : Bytes) (names : List Bytes) → length (without_name name names) ≤ length names
fewer_names name [] = omega arith
fewer_names name (n ∷ names) = go (bytes_eq name n) (fewer_names name names)
  where
    go : (b : Bool) → length (without_name name names) ≤ length names → length (if b then names else n ∷ without_name name names) ≤ suc (length names)
    go true rest = omega arith
    go false rest = omega arith

-- what is no longer there wasn't needed to be there
still_named : (name other : Bytes) (names : List Bytes) → is_named (without_name name names) other ≡ true → is_named names other ≡ true
still_named name other [] h = absurd cc
still_named name other (n ∷ names) h = go (bytes_eq name n) (still_named name other names) h
  where
    later : (b : Bool) → (is_named (without_name name names) other ≡ true → is_named names other ≡ true) → (b || is_named (without_name name names) other) ≡ true → (b || is_named names other) ≡ true
    later true rec h = refl
    later false rec h = rec h

    behind : (b : Bool) → is_named names other ≡ true → (b || is_named names other) ≡ true
    behind true h = refl
    behind false h = h

    go : (b : Bool) → (is_named (without_name name names) other ≡ true → is_named names other ≡ true) → is_named (if b then names else n ∷ without_name name names) other ≡ true
        → (bytes_eq other n || is_named names other) ≡ true
    go true rec h = behind (bytes_eq other n) h
    go false rec h = later (bytes_eq other n) rec h

not_named : (name other : Bytes) (names : List Bytes) → is_named names other ≡ false → is_named (without_name name names) other ≡ false
not_named name other names none =
    false_from_ne_true (is_named (without_name name names) other) (λ there. true≢false (sym (still_named name other names there) ∙ none))

fewer_apart : (name : Bytes) (names : List Bytes) → are_names_apart names ≡ true → are_names_apart (without_name name names) ≡ true
fewer_apart name [] h = refl
fewer_apart name (n ∷ names) h =
    let parts = and_parts (not (is_named names n)) (are_names_apart names) h in
    go (bytes_eq name n) parts.1 (not_named name n names (not-true (is_named names n) parts.0)) (fewer_apart name names parts.1)
  where
    go : (b : Bool) → are_names_apart names ≡ true → is_named (without_name name names) n ≡ false → are_names_apart (without_name name names) ≡ true
        → are_names_apart (if b then names else n ∷ without_name name names) ≡ true
    go true all none rest = all
    go false all none rest = and_from (not (is_named (without_name name names) n)) (are_names_apart (without_name name names)) (not_from_false (is_named (without_name name names) n) none) rest

-- another name stays
others_named : (name other : Bytes) (names : List Bytes) → bytes_eq name other ≡ false → is_named names other ≡ true → is_named (without_name name names) other ≡ true
others_named name other [] no_it h = absurd cc
others_named name other (n ∷ names) no_it h = elim (cases_Bool (bytes_eq name n)) [
  | inl it ↦
      (let differs : bytes_eq other n ≡ false = false_from_ne_true (bytes_eq other n) (λ same. true≢false (sym ((bytes_eq-Decides name other).1 ((bytes_eq-Decides name n).0 it ∙ sym ((bytes_eq-Decides other n).0 same))) ∙ no_it)) in
      rw it (rw differs at h))
  | inr no_n ↦ rw no_n (later (bytes_eq other n) (others_named name other names no_it) h)
]
  where
    later : (b : Bool) → (is_named names other ≡ true → is_named (without_name name names) other ≡ true) → (b || is_named names other) ≡ true → (b || is_named (without_name name names) other) ≡ true
    later true rec h = refl
    later false rec h = rec h

more_apart : (new : Bytes) (names : List Bytes) → are_names_apart names ≡ true → is_named names new ≡ false → are_names_apart (names ++ new ∷ []) ≡ true
more_apart new [] h none = refl
more_apart new (n ∷ names) h none =
    let parts = and_parts (not (is_named names n)) (are_names_apart names) h in
    let nones = or_parts (bytes_eq new n) (is_named names new) none in
    let apart : is_named (names ++ new ∷ []) n ≡ false =
    list_any-append (bytes_eq n) names (new ∷ [])
    ∙ or_from (is_named names n) (is_named (new ∷ []) n) (not-true (is_named names n) parts.0) (or_from (bytes_eq n new) false (line_end new n nones.0) refl) in
    and_from (not (is_named (names ++ new ∷ []) n)) (are_names_apart (names ++ new ∷ [])) (not_from_false (is_named (names ++ new ∷ []) n) apart) (more_apart new names parts.1 nones.1)

last_named : (new : Bytes) (names : List Bytes) → is_named (names ++ new ∷ []) new ≡ true
last_named new [] = ap (λ b. b || false) (bytes_eq_same new)
last_named new (n ∷ names) = go (bytes_eq new n) (last_named new names)
  where
    go : (b : Bool) → is_named (names ++ new ∷ []) new ≡ true → (b || is_named (names ++ new ∷ []) new) ≡ true
    go true h = refl
    go false h = h

-- ---- lists of names that are lawful

pub more_names : (new : Bytes) (names : List Bytes) (choice : Option Bytes) → length names < MAX_REPOSITORIES → is_named names new ≡ false → AreLawfulNames names choice
    → AreLawfulNames (names ++ new ∷ []) (Some new)
more_names new names choice room none h =
    let long = length-append names (new ∷ []) in
    record { few = omega arith; apart = more_apart new names h.apart none; choice = last_named new names }

unless_lawful : (name : Bytes) (names : List Bytes) (choice : Option Bytes) → IsChoiceOf names choice → IsChoiceOf (without_name name names) (unless name choice)
unless_lawful name names None h = tt
unless_lawful name names (Some other) h = elim (cases_Bool (bytes_eq name other)) [
  | inl it ↦ rw it tt
  | inr no_it ↦ rw no_it (others_named name other names no_it h)
]

pub names_left : (name : Bytes) (names : List Bytes) (choice : Option Bytes) → AreLawfulNames names choice → AreLawfulNames (without_name name names) (unless name choice)
names_left name names choice h =
    let fewer = fewer_names name names in
    let few = h.few in
    record { few = omega arith; apart = fewer_apart name names h.apart; choice = unless_lawful name names choice h.choice }

-- ---- the load list

-- what is found is named
pub found_named : (name : Bytes) (repos : List Repo) → is_some (find_repo name repos) ≡ is_named (repo_names repos) name
found_named name [] = refl
found_named name (r ∷ repos) = go (bytes_eq name r.name) (found_named name repos)
  where
    go : (b : Bool) → is_some (find_repo name repos) ≡ is_named (repo_names repos) name → is_some (if b then Some r else find_repo name repos) ≡ (b || is_named (repo_names repos) name)
    go true h = refl
    go false h = h

pub same_names : (new : Repo) (repos : List Repo) → repo_names (with_repo new repos) ≡ repo_names repos
same_names new [] = refl
same_names new (r ∷ repos) = elim (cases_Bool (bytes_eq new.name r.name)) [
  | inl it ↦ rw it (ap (λ (n : Bytes). n ∷ repo_names repos) ((bytes_eq-Decides new.name r.name).0 it))
  | inr no_it ↦ rw no_it (ap (λ (ns : List Bytes). r.name ∷ ns) (same_names new repos))
]

left_names : (name : Bytes) (repos : List Repo) → repo_names (without_repo name repos) ≡ without_name name (repo_names repos)
left_names name [] = refl
left_names name (r ∷ repos) = go (bytes_eq name r.name) (left_names name repos)
  where
    go : (b : Bool) → repo_names (without_repo name repos) ≡ without_name name (repo_names repos)
        → repo_names (if b then repos else r ∷ without_repo name repos) ≡ (if b then repo_names repos else r.name ∷ without_name name (repo_names repos))
    go true h = refl
    go false h = ap (λ (ns : List Bytes). r.name ∷ ns) h

more : (repos : List Repo) (r : Repo) → AllByRecursion IsLawfulRepo repos → IsLawfulRepo r → AllByRecursion IsLawfulRepo (repos ++ r ∷ [])
more [] r h k = (k, tt)
more (q ∷ repos) r h k = (h.0, more repos r h.1 k)

fewer : (name : Bytes) (repos : List Repo) → AllByRecursion IsLawfulRepo repos → AllByRecursion IsLawfulRepo (without_repo name repos)
fewer name [] h = tt
fewer name (r ∷ repos) h = go (bytes_eq name r.name) (fewer name repos h.1)
  where
    go : (b : Bool) → AllByRecursion IsLawfulRepo (without_repo name repos) → AllByRecursion IsLawfulRepo (if b then repos else r ∷ without_repo name repos)
    go true rec = h.1
    go false rec = (h.0, rec)

with_new : (new : Repo) (repos : List Repo) → AllByRecursion IsLawfulRepo repos → IsLawfulRepo new → AllByRecursion IsLawfulRepo (with_repo new repos)
with_new new [] h k = tt
with_new new (r ∷ repos) h k = go (bytes_eq new.name r.name) (with_new new repos h.1 k)
  where
    go : (b : Bool) → AllByRecursion IsLawfulRepo (with_repo new repos) → AllByRecursion IsLawfulRepo (if b then new ∷ repos else r ∷ with_repo new repos)
    go true rec = (k, h.1)
    go false rec = (h.0, rec)

-- ---- sessions

-- a repository is loaded last under a name that none has, and chosen
pub loaded_well : (s : Session) (new : Repo) → IsLawful s → length s.repos < MAX_REPOSITORIES → find_repo new.name s.repos ≡ None → IsLawfulRepo new
    → IsLawful (record s { repos = s.repos ++ new ∷ []; choice = Some new.name })
loaded_well s new h room none k = record {
  repos = more s.repos new h.repos k;
  names = subst (λ (ns : List Bytes). AreLawfulNames ns (Some new.name)) (sym (map-append (λ (r : Repo). r.name) s.repos (new ∷ [])))
      (more_names new.name (repo_names s.repos) s.choice (subst (λ n. n < MAX_REPOSITORIES) (sym (length-map s.repos (λ (r : Repo). r.name))) room)
      (sym (found_named new.name s.repos) ∙ ap is_some none) h.names);
}

-- one is forgotten
pub forgotten_well : (s : Session) (name : Bytes) → IsLawful s → IsLawful (record s { repos = without_repo name s.repos; choice = unless name s.choice })
forgotten_well s name h = record {
  repos = fewer name s.repos h.repos;
  names = subst (λ (ns : List Bytes). AreLawfulNames ns (unless name s.choice)) (sym (left_names name s.repos)) (names_left name (repo_names s.repos) s.choice h.names);
}

-- one is chosen
pub chosen_well : (s : Session) (name : Bytes) (repo : Repo) → IsLawful s → find_repo name s.repos ≡ Some repo → IsLawful (record s { choice = Some name })
chosen_well s name repo h there = record {
  repos = h.repos;
  names = record { few = h.names.few; apart = h.names.apart; choice = sym (found_named name s.repos) ∙ ap is_some there };
}

-- one is changed
pub changed_well : (s : Session) (new : Repo) → IsLawful s → IsLawfulRepo new → IsLawful (record s { repos = with_repo new s.repos })
changed_well s new h k = record {
  repos = with_new new s.repos h.repos k;
  names = subst (λ (ns : List Bytes). AreLawfulNames ns s.choice) (sym (same_names new s.repos)) h.names;
}
