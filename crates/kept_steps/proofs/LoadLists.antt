-- Load lists as they change: what is found under a name, and which come.
use Rattle.std.proofs.Common.{◌≡◌, Bool, true, false, cond, List, [], ◌∷◌, ◌++◌, Option, Some, None, Result, Ok, Err, refl, sym, ap, subst, ◌∙◌, ◌⊎◌, inl, inr}
use Rattle.std.proofs.lemmas.Bool.{and_parts, cases_Bool, false_from_ne_true, not-true, true≢false}
use Rattle.std.proofs.lemmas.Option.{none-some, same_Some}
use Rattle.std.proofs.lemmas.Slice.Eq.{bytes_eq-Decides}
use Rattle.std.specs.Prelude.{bytes_eq, filter, if◌then◌else◌, is_some, not}
use Rattle.std.specs.List.{AllByRecursion}
use Rattle.plain_model.specs.declared.fault.Fault.{Fault}
use Rattle.plain_model.specs.Paths.{Bytes}
use Rattle.history_laws.proofs.Lists.{all_imply}
use Rattle.script_lines.specs.Answering.{◌>>=◌}
use Rattle.history_machine.specs.Kept.{Each}
use Rattle.history_machine.specs.Lawful.{IsLawful, are_names_apart, is_named, repo_names}
use Rattle.history_machine.specs.Sessions.{Repo, Session, find_repo, there, unless, with_repo, without_repo}
use Rattle.history_machine.specs.Several.{all_there, without_repos}
use Rattle.history_machine.proofs.LoadList.{forgotten_well, found_named, same_names}

-- no name stands twice
abbrev pub IsApart : List Repo → Type 0
IsApart repos = are_names_apart (repo_names repos) ≡ true

-- a repository is found under a name
abbrev pub IsFound : List Repo → Bytes → Repo → Type 0
IsFound repos name repo = find_repo name repos ≡ Some repo

-- ---- names

pub same_name : (a b : Bytes) → bytes_eq a b ≡ true → a ≡ b
same_name a b = (bytes_eq-Decides a b).0

pub own_bytes : (a b : Bytes) → a ≡ b → bytes_eq a b ≡ true
own_bytes a b = (bytes_eq-Decides a b).1

pub other_way : (a b : Bytes) → bytes_eq a b ≡ false → bytes_eq b a ≡ false
other_way a b other = false_from_ne_true (bytes_eq b a) (λ is. true≢false (sym (own_bytes a b (sym (same_name b a is))) ∙ other))

-- one of the same name as another differs from what that one differs from
differs_too : (n a b : Bytes) → a ≡ b → bytes_eq n a ≡ false → bytes_eq n b ≡ false
differs_too n a b is h = ap (bytes_eq n) (sym is) ∙ h

-- ---- one is found

pub one_at : (repos : List Repo) (name : Bytes) (a b : Repo) → IsFound repos name a → IsFound repos name b → a ≡ b
one_at repos name a b h k = same_Some a b (sym h ∙ k)

pub not_both : (repos : List Repo) (name : Bytes) (a : Repo) → IsFound repos name a → find_repo name repos ≡ None → ⊥
not_both repos name a h k = none-some a (sym k ∙ h)

unfound : (found : Option Repo) → is_some found ≡ false → found ≡ None
unfound None h = refl
unfound (Some other) h = absurd cc

-- the first one's name is none of the others'
first_free : (q : Repo) (repos : List Repo) → IsApart (q ∷ repos) → find_repo q.name repos ≡ None
first_free q repos apart =
    let parts = and_parts (not (is_named (repo_names repos) q.name)) (are_names_apart (repo_names repos)) apart in
    unfound (find_repo q.name repos) (found_named q.name repos ∙ not-true (is_named (repo_names repos) q.name) parts.0)

rest_apart : (q : Repo) (repos : List Repo) → IsApart (q ∷ repos) → IsApart repos
rest_apart q repos apart = (and_parts (not (is_named (repo_names repos) q.name)) (are_names_apart (repo_names repos)) apart).1

-- what is found behind it is found with it
not_first : (n : Bytes) (q r : Repo) (repos : List Repo) → find_repo q.name repos ≡ None → IsFound repos n r → IsFound (q ∷ repos) n r
not_first n q r repos free h = elim (cases_Bool (bytes_eq n q.name)) [
  | inl it ↦ absurd (not_both repos q.name r (ap (λ m. find_repo m repos) (sym (same_name n q.name it)) ∙ h) free)
  | inr other ↦ rw other h
]

own_found : (repo : Repo) (repos : List Repo) → IsFound (repo ∷ repos) repo.name repo
own_found repo repos = ap (λ b. if b then Some repo else find_repo repo.name repos) (own_bytes repo.name repo.name refl)

pub each_found : (repos : List Repo) → IsApart repos → AllByRecursion (λ r. IsFound repos r.name r) repos
each_found [] apart = tt
each_found (q ∷ repos) apart = (
  own_found q repos,
  all_imply (λ r. IsFound repos r.name r) (λ r. IsFound (q ∷ repos) r.name r) (λ r. not_first r.name q r repos (first_free q repos apart)) repos (each_found repos (rest_apart q repos apart)),
)

-- what holds of all holds of what is found
pub found_holds : (Holds : Repo → Type 0) (n : Bytes) (r : Repo) (repos : List Repo) → AllByRecursion Holds repos → IsFound repos n r → Holds r
found_holds Holds n r [] h found = absurd (none-some r found)
found_holds Holds n r (q ∷ repos) h found = go (bytes_eq n q.name) found (found_holds Holds n r repos h.1)
  where
    go : (b : Bool) → (if b then Some q else find_repo n repos) ≡ Some r → (IsFound repos n r → Holds r) → Holds r
    go true found rest = subst Holds (same_Some q r found) h.0
    go false found rest = rest found

-- and the other way
pub for_all : (Holds : Repo → Type 0) (repos : List Repo) → IsApart repos → ((n : Bytes) (r : Repo) → IsFound repos n r → Holds r) → AllByRecursion Holds repos
for_all Holds repos apart h = all_imply (λ r. IsFound repos r.name r) Holds (λ r. h r.name r) repos (each_found repos apart)

-- ---- one goes

-- what is found without one was found with it
pub found_before : (n m : Bytes) (r : Repo) (repos : List Repo) → IsApart repos → IsFound (without_repo m repos) n r → IsFound repos n r
found_before n m r [] apart h = h
found_before n m r (q ∷ repos) apart h =
    elim (cases_Bool (bytes_eq m q.name)) [
      | inl gone ↦ not_first n q r repos (first_free q repos apart) (rw gone at h)
      | inr stays ↦ go (bytes_eq n q.name) (rw stays at h) (found_before n m r repos (rest_apart q repos apart))
    ]
  where
    go : (b : Bool) → (if b then Some q else find_repo n (without_repo m repos)) ≡ Some r → (IsFound (without_repo m repos) n r → IsFound repos n r)
        → (if b then Some q else find_repo n repos) ≡ Some r
    go true h rest = h
    go false h rest = rest h

-- and the other way, where it has another name
pub found_still : (n m : Bytes) (r : Repo) (repos : List Repo) → bytes_eq n m ≡ false → IsFound repos n r → IsFound (without_repo m repos) n r
found_still n m r [] other h = h
found_still n m r (q ∷ repos) other h =
    elim (cases_Bool (bytes_eq m q.name)) [
      | inl gone ↦
          let no_first : bytes_eq n q.name ≡ false = differs_too n m q.name (same_name m q.name gone) other in
          rw gone (rw no_first at h)
      | inr stays ↦ rw stays (go (bytes_eq n q.name) h (found_still n m r repos other))
    ]
  where
    go : (b : Bool) → (if b then Some q else find_repo n repos) ≡ Some r → (IsFound repos n r → IsFound (without_repo m repos) n r)
        → (if b then Some q else find_repo n (without_repo m repos)) ≡ Some r
    go true h rest = h
    go false h rest = rest h

-- several go

left_apart : (s : Session) (name : Bytes) → IsLawful s → IsLawful (record s { repos = without_repo name s.repos; choice = unless name s.choice })
left_apart s name lawful = forgotten_well s name lawful

pub found_before_all : (n : Bytes) (r : Repo) (names : List Bytes) (s : Session) → IsLawful s → IsFound (without_repos names s.repos) n r → IsFound s.repos n r
found_before_all n r [] s lawful h = h
found_before_all n r (name ∷ names) s lawful h =
    found_before n name r s.repos lawful.names.apart
    (found_before_all n r names (record s { repos = without_repo name s.repos; choice = unless name s.choice }) (left_apart s name lawful) h)

-- what is bound is there
bound : {A B : Type 0} (r : Result A Fault) (f : A → Result B Fault) (y : B) → (r >>= f) ≡ Ok y → (x : A) × (r ≡ Ok x) × (f x ≡ Ok y)
bound (Ok x) f y h = (x, refl, h)
bound (Err why) f y h = absurd cc

is_there : (name : Bytes) (part : Repo) (found : Option Repo) → there name found ≡ Ok part → found ≡ Some part
is_there name part None h = absurd cc
is_there name part (Some r) h = cc

-- each of the repositories of some names is found under one
pub parts_found : (names : List Bytes) (repos parts : List Repo) → all_there names repos ≡ Ok parts → AllByRecursion (λ part. (name : Bytes) × IsFound repos name part) parts
parts_found [] repos parts h = let is : [] ≡ parts = cc in subst (AllByRecursion (λ (part : Repo). (name : Bytes) × IsFound repos name part)) is tt
parts_found (name ∷ names) repos parts h =
    let one = bound (there name (find_repo name repos)) (λ part. all_there names repos >>= λ others. Ok (part ∷ others)) parts h in
    let rest = bound (all_there names repos) (λ others. Ok (one.0 ∷ others)) parts one.2 in
    let is : one.0 ∷ rest.0 ≡ parts = cc in
    subst (AllByRecursion (λ (part : Repo). (name : Bytes) × IsFound repos name part)) is
    ((name, is_there name one.0 (find_repo name repos) one.1), parts_found names repos rest.0 rest.1)

-- what holds of all of them holds of one that is there, and isn't without them
pub is_part : (Holds : Repo → Type 0) (n : Bytes) (r : Repo) (repos : List Repo) → IsFound repos n r → (names : List Bytes) (parts left : List Repo) → all_there names repos ≡ Ok parts → AllByRecursion Holds parts
    → IsFound left n r → find_repo n (without_repos names left) ≡ None → Holds r
is_part Holds n r repos found [] parts left are all here gone = absurd (not_both left n r here gone)
is_part Holds n r repos found (name ∷ names) parts left are all here gone =
    let one = bound (there name (find_repo name repos)) (λ part. all_there names repos >>= λ others. Ok (part ∷ others)) parts are in
    let rest = bound (all_there names repos) (λ others. Ok (one.0 ∷ others)) parts one.2 in
    let is : one.0 ∷ rest.0 ≡ parts = cc in
    let holds : AllByRecursion Holds (one.0 ∷ rest.0) = subst (AllByRecursion Holds) (sym is) all in
    elim (cases_Bool (bytes_eq n name)) [
      | inl it ↦
          let there_too : IsFound repos n one.0 = ap (λ m. find_repo m repos) (same_name n name it) ∙ is_there name one.0 (find_repo name repos) one.1 in
          subst Holds (one_at repos n one.0 r there_too found) holds.0
      | inr other ↦ is_part Holds n r repos found names rest.0 (without_repo name left) rest.1 holds.1 (found_still n name r left other here) gone
    ]

-- ---- one is loaded last

-- what is found with one more
abbrev IsOldOrNew : List Repo → Repo → Bytes → Repo → Type 0
IsOldOrNew repos new n r = IsFound repos n r ⊎ ((find_repo n repos ≡ None) × (n ≡ new.name) × (r ≡ new))

pub found_last : (n : Bytes) (new r : Repo) (repos : List Repo) → IsFound (repos ++ new ∷ []) n r → IsOldOrNew repos new n r
found_last n new r [] h = elim (cases_Bool (bytes_eq n new.name)) [
  | inl it ↦ inr (refl, same_name n new.name it, sym (same_Some new r (rw it at h)))
  | inr other ↦ absurd (none-some r (rw other at h))
]
found_last n new r (q ∷ repos) h = go (bytes_eq n q.name) h (found_last n new r repos)
  where
    go : (b : Bool) → (if b then Some q else find_repo n (repos ++ new ∷ [])) ≡ Some r → (IsFound (repos ++ new ∷ []) n r → IsOldOrNew repos new n r)
        → ((if b then Some q else find_repo n repos) ≡ Some r) ⊎ (((if b then Some q else find_repo n repos) ≡ None) × (n ≡ new.name) × (r ≡ new))
    go true h rest = inl h
    go false h rest = rest h

pub found_first : (n : Bytes) (new r : Repo) (repos : List Repo) → IsFound repos n r → IsFound (repos ++ new ∷ []) n r
found_first n new r [] h = absurd (none-some r h)
found_first n new r (q ∷ repos) h = go (bytes_eq n q.name) h (found_first n new r repos)
  where
    go : (b : Bool) → (if b then Some q else find_repo n repos) ≡ Some r → (IsFound repos n r → IsFound (repos ++ new ∷ []) n r) → (if b then Some q else find_repo n (repos ++ new ∷ [])) ≡ Some r
    go true h rest = h
    go false h rest = rest h

pub last_found : (new : Repo) (repos : List Repo) → find_repo new.name repos ≡ None → IsFound (repos ++ new ∷ []) new.name new
last_found new [] free = own_found new []
last_found new (q ∷ repos) free = go (bytes_eq new.name q.name) free (last_found new repos)
  where
    go : (b : Bool) → (if b then Some q else find_repo new.name repos) ≡ None → (find_repo new.name repos ≡ None → IsFound (repos ++ new ∷ []) new.name new)
        → (if b then Some q else find_repo new.name (repos ++ new ∷ [])) ≡ Some new
    go true free rest = absurd cc
    go false free rest = rest free

-- what isn't found with it isn't found without it
pub none_first : (n : Bytes) (new : Repo) (repos : List Repo) → find_repo n (repos ++ new ∷ []) ≡ None → find_repo n repos ≡ None
none_first n new repos h = go (find_repo n repos) refl
  where
    go : (o : Option Repo) → find_repo n repos ≡ o → o ≡ None
    go None is = refl
    go (Some r) is = absurd (not_both (repos ++ new ∷ []) n r (found_first n new r repos is) h)

-- ---- one is changed

pub with_apart : (new : Repo) (repos : List Repo) → IsApart repos → IsApart (with_repo new repos)
with_apart new repos apart = ap are_names_apart (same_names new repos) ∙ apart

pub found_new : (new old : Repo) (repos : List Repo) → IsFound repos new.name old → IsFound (with_repo new repos) new.name new
found_new new old [] h = absurd (none-some old h)
found_new new old (q ∷ repos) h = elim (cases_Bool (bytes_eq new.name q.name)) [
  | inl it ↦ rw it (own_found new repos)
  | inr other ↦ let later : IsFound repos new.name old = rw other at h in rw other (rw other (found_new new old repos later))
]

pub found_other : (n : Bytes) (new : Repo) (repos : List Repo) → bytes_eq n new.name ≡ false → find_repo n (with_repo new repos) ≡ find_repo n repos
found_other n new [] differs = refl
found_other n new (q ∷ repos) differs = elim (cases_Bool (bytes_eq new.name q.name)) [
  | inl it ↦
      let no_first : bytes_eq n q.name ≡ false = differs_too n new.name q.name (same_name new.name q.name it) differs in
      rw it (rw differs (rw no_first refl))
  | inr other ↦ rw other (ap (λ found. if bytes_eq n q.name then Some q else found) (found_other n new repos differs))
]

-- ---- each is changed

-- what is found is left of what was found under the name
abbrev IsLeftOf : (Repo → Repo → Type 0) → List Repo → Bytes → Repo → Type 0
IsLeftOf Left old n new = (r : Repo) × IsFound old n r × Left r new

module _ (Left : Repo → Repo → Type 0) (named : (old new : Repo) → Left old new → new.name ≡ old.name) where
  pub found_each : (n : Bytes) (new : Repo) (before after : List Repo) → Each Left before after → IsFound after n new → IsLeftOf Left before n new
  found_each n new [] [] h found = absurd (none-some new found)
  found_each n new [] (s ∷ ss) h found = absurd h
  found_each n new (r ∷ rs) [] h found = absurd h
  found_each n new (r ∷ rs) (s ∷ ss) h found = elim (cases_Bool (bytes_eq n s.name)) [
    | inl it ↦
        let first : bytes_eq n r.name ≡ true = ap (bytes_eq n) (sym (named r s h.0)) ∙ it in
        (r, rw first refl, subst (Left r) (same_Some s new (rw it at found)) h.0)
    | inr other ↦
        let no_first : bytes_eq n r.name ≡ false = ap (bytes_eq n) (sym (named r s h.0)) ∙ other in
        let rest = found_each n new rs ss h.1 (rw other at found) in
        (rest.0, rw no_first rest.1, rest.2)
  ]

-- ---- which come

-- the repository has a name that was there
abbrev WasNamed : List Repo → Repo → Type 0
WasNamed before repo = is_some (find_repo repo.name before) ≡ true

-- those under whose names none was there before
abbrev pub new_named : List Repo → List Repo → List Repo
new_named before after = filter (λ repo. not (is_some (find_repo repo.name before))) after

still_named : (other : Repo) (before : List Repo) (repo : Repo) → WasNamed before repo → WasNamed (other ∷ before) repo
still_named other before repo h = go (bytes_eq repo.name other.name) h
  where
    go : (b : Bool) → WasNamed before repo → is_some (if b then Some other else find_repo repo.name before) ≡ true
    go true h = refl
    go false h = h

all_named : (repos : List Repo) → AllByRecursion (WasNamed repos) repos
all_named [] = tt
all_named (repo ∷ repos) = (ap is_some (own_found repo repos), all_imply (WasNamed repos) (WasNamed (repo ∷ repos)) (still_named repo repos) repos (all_named repos))

none_come : (before after : List Repo) → AllByRecursion (WasNamed before) after → new_named before after ≡ []
none_come before [] h = refl
none_come before (repo ∷ after) h = ap (λ b. cond (not b) (repo ∷ new_named before after) (new_named before after)) h.0 ∙ none_come before after h.1

one_comes : (before front : List Repo) (new : Repo) → AllByRecursion (WasNamed before) front → find_repo new.name before ≡ None → new_named before (front ++ new ∷ []) ≡ new ∷ []
one_comes before [] new h free = ap (λ found. cond (not (is_some found)) (new ∷ []) []) free
one_comes before (repo ∷ front) new h free =
    ap (λ b. cond (not b) (repo ∷ new_named before (front ++ new ∷ [])) (new_named before (front ++ new ∷ []))) h.0 ∙ one_comes before front new h.1 free

-- one comes whose name is free
pub comes_alone : (repos : List Repo) (new : Repo) → find_repo new.name repos ≡ None → new_named repos (repos ++ new ∷ []) ≡ new ∷ []
comes_alone repos new free = one_comes repos repos new (all_named repos) free

fewer : (Holds : Repo → Type 0) (name : Bytes) (repos : List Repo) → AllByRecursion Holds repos → AllByRecursion Holds (without_repo name repos)
fewer Holds name [] h = tt
fewer Holds name (repo ∷ repos) h = go (bytes_eq name repo.name) (fewer Holds name repos h.1)
  where
    go : (b : Bool) → AllByRecursion Holds (without_repo name repos) → AllByRecursion Holds (if b then repos else repo ∷ without_repo name repos)
    go true others = h.1
    go false others = (h.0, others)

-- none comes where one goes
pub none_comes_for : (name : Bytes) (repos : List Repo) → new_named repos (without_repo name repos) ≡ []
none_comes_for name repos = none_come repos (without_repo name repos) (fewer (WasNamed repos) name repos (all_named repos))

pub none_comes_by : (repos : List Repo) → new_named repos repos ≡ []
none_comes_by repos = none_come repos repos (all_named repos)

-- none comes where each has the name of an old one
module _ (Left : Repo → Repo → Type 0) (named : (old new : Repo) → Left old new → new.name ≡ old.name) where
  each_named : (whole old new : List Repo) → Each Left old new → AllByRecursion (WasNamed whole) old → AllByRecursion (WasNamed whole) new
  each_named whole [] [] h were = tt
  each_named whole [] (s ∷ ss) h were = absurd h
  each_named whole (r ∷ rs) [] h were = absurd h
  each_named whole (r ∷ rs) (s ∷ ss) h were = (ap (λ (name : Bytes). is_some (find_repo name whole)) (named r s h.0) ∙ were.0, each_named whole rs ss h.1 were.1)

  pub none_comes_of : (old new : List Repo) → Each Left old new → new_named old new ≡ []
  none_comes_of old new h = none_come old new (each_named old old new h (all_named old))

-- none comes by a command that joins
pub none_kept : (repos : List Repo) → filter (λ (repo : Repo). false) repos ≡ []
none_kept [] = refl
none_kept (repo ∷ repos) = none_kept repos
