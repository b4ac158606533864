-- Several repositories become one, from their names to what the list is then.
use Rattle.std.proofs.Common.{Vec, Bor, ◌≡◌, ◌∙◌, ℕ, zero, suc, ◌<◌, ◌≤◌, Bool, true, false, List, [], ◌∷◌, ◌++◌, length, get_or, map, Option, Some, None, Result, Ok, Err, refl, sym, ap, subst, nat_eq, append-nil, arith}
use Rattle.std.specs.Prelude.{IsSome, is_some, if◌then◌else◌, not, slice_get, option_map}
use Rattle.std.specs.Cmp.Lexicographic.{pointwise}
use Rattle.std.specs.List.{AllByRecursion, IsDistinct}
use Rattle.std.specs.Map.{keys_of, lookup}
use Rattle.std.proofs.lemmas.Bool.Decides.{nat_tests}
use Rattle.std.specs.Option.{option_copied}
use Rattle.std.specs.Result.{IsErrAnd}
use Rattle.std.proofs.lemmas.Result.{err_from_is_err_and}
use Rattle.std.proofs.lemmas.Option.{get_or_from_slice_get, slice_get_within}
use Rattle.plain_model.specs.Faults.{Returns}
use Rattle.plain_model.specs.Lookups.{next_number}
use Rattle.plain_model.specs.Paths.{Bytes}
use Rattle.plain_model.specs.declared.event.PlainEvent.{PlainEvent}
use Rattle.plain_model.specs.declared.fault.Fault.{Fault}
use Rattle.plain_model.specs.declared.fault.Fault.TheVariants as fault
use Rattle.plain_model.specs.declared.fault.Halt.{Halt}
use Rattle.plain_model.specs.declared.fault.Halt.TheVariants as halt
use Rattle.graft_laws.specs.Joined.{AreNameBytes}
use Rattle.graft_laws.specs.Unite.{Part, age, by_age, is_before, oldest_place, put_by_age, unite_by_age, unite_of}
use Rattle.graft_laws.proofs.Order.{oldest_first}
use Rattle.selection_eval.specs.Names.{live_names}
use Rattle.script_lines.specs.Answering.{◌>>=◌}
use Rattle.macro_lines.specs.Macros.{Macro}
use Rattle.history_machine.specs.Sessions.{Repo, Session, find_repo, there, unused, without_repo}
use Rattle.history_machine.specs.Several.{after_uniting, all_there, as_part, joined_name, united_of, united_repo, without_repos}
use Rattle.history_machine.proofs.Steps.{own_name}
use Rattle.load_list.specs.Entries.{Loaded, repo_under, repos_of}
use Rattle.load_list.specs.Lists.{IsLongerThanEach, LoadList, free_name, part_there, parts_there, session_of, united_as, united_in}
use Rattle.load_list.proofs.Entries.{found_under}
use Rattle.load_list.proofs.NamedEntries.{joined_bytes}
use Rattle.load_list.proofs.SeveralNames.{found_without, none_left, whole_is_longer}

-- what a step gives that isn't refused
came : {A B : Type 0} (r : Result A Fault) (f : A → Result B Fault) (y : B) → (r >>= f) ≡ Ok y → (x : A) × (r ≡ Ok x) × (f x ≡ Ok y)
came (Ok x) f y h = (x, refl, h)
came (Err why) f y h = absurd cc

was_there : (name : Bytes) (o : Option Repo) (repo : Repo) → there name o ≡ Ok repo → o ≡ Some repo
was_there name None repo h = absurd cc
was_there name (Some r) repo h = let is : r ≡ repo = cc in ap some is
  where
    some : Repo → Option Repo
    some r = Some r

-- what refuses a step refuses all
pub refused_by : {A B X Y : Type 0} (seen : A → B) (shown : X → Y) (halt : Halt) (asked : Result B Fault) (r : Result X Halt) (specified : Result Y Fault) → Returns seen (Err halt) asked
    → IsErrAnd r (λ e. e ≡ halt) → ((why : Fault) → asked ≡ Err why → specified ≡ Err why) → Returns shown r specified
refused_by seen shown (halt.Refused why) asked r specified h is all = let p = err_from_is_err_and r is in rw (p.1, p.2) (all why h)
refused_by seen shown halt.Memory asked r specified h is all = let p = err_from_is_err_and r is in rw (p.1, p.2) tt

-- ---- one part

-- the repository of a name is there
pub part_is : (name : Bytes) (repos : List Repo) (old : Loaded) (part : Part) → Some (repo_under name old) ≡ find_repo name repos → part.name ≡ name → part.events ≡ old.history
    → part_there name repos ≡ Ok part
part_is name repos old part found its_name its_events =
    ap (λ (o : Option Repo). there name o >>= λ repo. ok (as_part repo)) (sym found) ∙ (λ i. ok (record { name = sym its_name i; events = sym its_events i }))
  where
    ok : Part → Result Part Fault
    ok x = Ok x

pub part_missing : (name : Bytes) (repos : List Repo) (why : Fault) → None ≡ find_repo name repos → why ≡ fault.NoSuchRepo name → part_there name repos ≡ Err why
part_missing name repos why none is = ap (λ (o : Option Repo). there name o >>= λ repo. ok (as_part repo)) (sym none) ∙ ap err (sym is)
  where
    ok : Part → Result Part Fault
    ok x = Ok x

    err : Fault → Result Part Fault
    err f = Err f

-- ---- parts, one after another

-- parts, and behind them those of these names
abbrev pub parts_after : List Part → List Bytes → List Repo → Result (List Part) Fault
parts_after parts names repos = parts_there names repos >>= λ more. Ok (parts ++ more)

pub none_there : (parts : List Part) (name : Bytes) (names : List Bytes) (repos : List Repo) (why : Fault) → part_there name repos ≡ Err why → parts_after parts (name ∷ names) repos ≡ Err why
none_there parts name names repos why h = go (there name (find_repo name repos)) h
  where
    err : Fault → Result (List Part) Fault
    err f = Err f

    go : (o : Result Repo Fault) → (o >>= λ repo. Ok (as_part repo)) ≡ Err why
        → (((o >>= λ repo. all_there names repos >>= λ found. Ok (repo ∷ found)) >>= λ found. Ok (map as_part found)) >>= λ more. Ok (parts ++ more)) ≡ Err why
    go (Ok repo) h = absurd cc
    go (Err fault) h = let is : fault ≡ why = cc in ap err is

-- ---- the names

-- those that are there have such bytes
pub whole_bytes : (names : List Bytes) (repos : List Repo) (parts : List Part) → parts_there names repos ≡ Ok parts → AllByRecursion (λ (part : Part). AreNameBytes part.name) parts
    → AreNameBytes (joined_name names)
whole_bytes names repos parts are named =
    let found = came (all_there names repos) (λ found. Ok (map as_part found)) parts are in
    let same : map as_part found.0 ≡ parts = (let last = found.2 in cc) in
    joined_bytes names (each names found.0 found.1 (subst (AllByRecursion (λ (part : Part). AreNameBytes part.name)) (sym same) named))
  where
    each : (names : List Bytes) (found : List Repo) → all_there names repos ≡ Ok found → AllByRecursion (λ (part : Part). AreNameBytes part.name) (map as_part found) → AllByRecursion AreNameBytes names
    each [] found are named = tt
    each (name ∷ names) found are named =
        let one = came (there name (find_repo name repos)) (λ repo. all_there names repos >>= λ others. Ok (repo ∷ others)) found are in
        let others = came (all_there names repos) (λ others. Ok (one.0 ∷ others)) found one.2 in
        let is : one.0 ∷ others.0 ≡ found = (let last = others.2 in cc) in
        let all = subst (λ (l : List Repo). AllByRecursion (λ (part : Part). AreNameBytes part.name) (map as_part l)) (sym is) named in
        let own = own_name name repos one.0 (was_there name (find_repo name repos) one.0 one.1) in
        (subst AreNameBytes (sym own) all.0, each names others.0 others.1 all.1)

as_many : (names : List Bytes) (repos found : List Repo) → all_there names repos ≡ Ok found → length found ≡ length names
as_many [] repos found are = let is : [] ≡ found = cc in ap length (sym is)
as_many (name ∷ names) repos found are =
    let one = came (there name (find_repo name repos)) (λ repo. all_there names repos >>= λ others. Ok (repo ∷ others)) found are in
    let others = came (all_there names repos) (λ others. Ok (one.0 ∷ others)) found one.2 in
    let is : one.0 ∷ others.0 ≡ found = (let last = others.2 in cc) in
    ap length (sym is) ∙ ap suc (as_many names repos others.0 others.1)

length-parts : (repos : List Repo) → length (map as_part repos) ≡ length repos
length-parts [] = refl
length-parts (r ∷ repos) = ap suc (length-parts repos)

pub as_many_parts : (names : List Bytes) (repos : List Repo) (parts : List Part) → parts_there names repos ≡ Ok parts → length parts ≡ length names
as_many_parts names repos parts are =
    let found = came (all_there names repos) (λ found. Ok (map as_part found)) parts are in
    let same : map as_part found.0 ≡ parts = (let last = found.2 in cc) in
    ap length (sym same) ∙ length-parts found.0 ∙ as_many names repos found.0 found.1

-- ---- the new name

several_names : (n : ℕ) → 2 ≤ n → not (nat_eq n 1) ≡ true
several_names n many = grind (arith, nat_tests)

module _ {A : Type 0} (es : List (Vec ℕ A × Loaded)) (once : IsDistinct (λ (a b : Vec ℕ A). pointwise nat_eq a.items b.items) (keys_of es)) where
  abbrev held : Bytes → Bool
  held name = is_some (lookup (λ (k : Vec ℕ A). pointwise nat_eq name k.items) es)

  held_is : (name : Bytes) → held name ≡ is_some (find_repo name (repos_of es))
  held_is name = go (lookup (λ (k : Vec ℕ A). pointwise nat_eq name k.items) es) ∙ ap is_some (found_under name es)
    where
      go : (o : Option Loaded) → is_some o ≡ is_some (option_map (repo_under name) o)
      go None = refl
      go (Some old) = refl

  -- some other repository has it
  taken_is : (names : List Bytes) → (if held (joined_name names) then not (nat_eq (length names) 1) else false) ≡ is_some (find_repo (joined_name names) (without_repos names (repos_of es)))
  taken_is [] = go (held []) ∙ held_is []
    where
      go : (b : Bool) → (if b then true else false) ≡ b
      go true = refl
      go false = refl
  taken_is (name ∷ []) = go (held (name ++ [])) ∙ ap is_some (sym (ap (λ (n : Bytes). find_repo n (without_repo name (repos_of es))) (append-nil name) ∙ none_left name es once))
    where
      go : (b : Bool) → (if b then false else false) ≡ false
      go true = refl
      go false = refl
  taken_is (name ∷ other ∷ names) =
      let all : List Bytes = name ∷ other ∷ names in
      let many : 2 ≤ length all = omega arith in
      ap (λ b. if held (joined_name all) then b else false) (several_names (length all) many)
      ∙ go (held (joined_name all))
      ∙ held_is (joined_name all)
      ∙ ap is_some (sym (found_without (joined_name all) all (repos_of es) (whole_is_longer all many)))
    where
      go : (b : Bool) → (if b then true else false) ≡ b
      go true = refl
      go false = refl

  pub taken_there : (names : List Bytes) (whole : Bytes) (b : Bool) → whole ≡ joined_name names → b ≡ held whole → b ≡ true
      → not (nat_eq (length names) 1) ≡ is_some (find_repo whole (without_repos names (repos_of es)))
  taken_there names whole b is found found_it =
      ap (λ t. if t then not (nat_eq (length names) 1) else false) (sym found_it ∙ found ∙ ap held is) ∙ taken_is names ∙ ap (λ (n : Bytes). is_some (find_repo n (without_repos names (repos_of es)))) (sym is)

  pub taken_nowhere : (names : List Bytes) (whole : Bytes) (b : Bool) → whole ≡ joined_name names → b ≡ held whole → b ≡ false
      → b ≡ is_some (find_repo whole (without_repos names (repos_of es)))
  taken_nowhere names whole b is found none_it =
      none_it ∙ ap (λ t. if t then not (nat_eq (length names) 1) else false) (sym none_it ∙ found ∙ ap held is) ∙ taken_is names ∙ ap (λ (n : Bytes). is_some (find_repo n (without_repos names (repos_of es)))) (sym is)

-- ---- an entry

abbrev pub repos_in : LoadList → List Repo
repos_in list = list.repos

pub is_some_copied : (o : Option (Bor Loaded)) → IsSome (option_copied o) → IsSome o
is_some_copied None h = h
is_some_copied (Some x) h = refl

module _ {A : Type 0} (name : Bytes) (es : List (Vec ℕ A × Loaded)) (repo : Repo) (there : find_repo name (repos_of es) ≡ Some repo) where
  pub held_there : (o : Option Loaded) → o ≡ lookup (λ (k : Vec ℕ A). pointwise nat_eq name k.items) es → IsSome o
  held_there None is = absurd (let none = ap (option_map (repo_under name)) is ∙ found_under name es ∙ there in cc)
  held_there (Some old) is = refl

  pub held_as : (old : Loaded) → Some old ≡ lookup (λ (k : Vec ℕ A). pointwise nat_eq name k.items) es → repo_under name old ≡ repo
  held_as old is = let some = ap (option_map (repo_under name)) is ∙ found_under name es ∙ there in cc

-- ---- the oldest part

abbrev events_of : Part → List PlainEvent
events_of part = part.events

abbrev history_of : Repo → List PlainEvent
history_of repo = repo.history

put_part : (r : Repo) (repos : List Repo) → put_by_age events_of (as_part r) (map as_part repos) ≡ map as_part (put_by_age history_of r repos)
put_part r [] = refl
put_part r (x ∷ repos) = go (is_before (age x.history) (age r.history)) (put_part r repos)
  where
    go : (b : Bool) → put_by_age events_of (as_part r) (map as_part repos) ≡ map as_part (put_by_age history_of r repos)
        → (if b then as_part x ∷ put_by_age events_of (as_part r) (map as_part repos) else as_part r ∷ as_part x ∷ map as_part repos) ≡ map as_part (if b then x ∷ put_by_age history_of r repos else r ∷ x ∷ repos)
    go true rest = ap (λ (l : List Part). as_part x ∷ l) rest
    go false rest = refl

parts_by_age : (repos : List Repo) → by_age events_of (map as_part repos) ≡ map as_part (by_age history_of repos)
parts_by_age [] = refl
parts_by_age (r ∷ repos) = ap (put_by_age events_of (as_part r)) (parts_by_age repos) ∙ put_part r (by_age history_of repos)

same_oldest : (repos : List Repo) → oldest_place events_of (map as_part repos) ≡ oldest_place history_of repos
same_oldest [] = refl
same_oldest (r ∷ repos) = ap among (parts_by_age repos) ∙ go (by_age history_of repos) (same_oldest repos)
  where
    among : List Part → ℕ
    among sorted = elim sorted [ [] ↦ 0 | y ∷ ys ↦ if is_before (age y.events) (age r.history) then suc (oldest_place events_of (map as_part repos)) else 0 ]

    go : (sorted : List Repo) → oldest_place events_of (map as_part repos) ≡ oldest_place history_of repos
        → among (map as_part sorted) ≡ elim sorted [ [] ↦ 0 | y ∷ ys ↦ if is_before (age y.history) (age r.history) then suc (oldest_place history_of repos) else 0 ]
    go [] same = refl
    go (y ∷ ys) same = ap (λ n. if is_before (age y.history) (age r.history) then suc n else 0) same

-- the repository at a place has the name at that place
named_at : (names : List Bytes) (repos found : List Repo) (place : ℕ) (repo : Repo) → all_there names repos ≡ Ok found → slice_get found place ≡ Some repo
    → (name : Bytes) × (slice_get names place ≡ Some name) × (find_repo name repos ≡ Some repo)
named_at [] repos found place repo are at =
    let is : [] ≡ found = cc in
    let none = subst (λ (l : List Repo). slice_get l place ≡ Some repo) (sym is) at in
    absurd cc
named_at (name ∷ names) repos found place repo are at =
    let one = came (there name (find_repo name repos)) (λ repo. all_there names repos >>= λ others. Ok (repo ∷ others)) found are in
    let others = came (all_there names repos) (λ others. Ok (one.0 ∷ others)) found one.2 in
    let is : one.0 ∷ others.0 ≡ found = (let last = others.2 in cc) in
    go one.0 others.0 place (was_there name (find_repo name repos) one.0 one.1)
    (λ place at. named_at names repos others.0 place repo others.1 at) (subst (λ (l : List Repo). slice_get l place ≡ Some repo) (sym is) at)
  where
    go : (r : Repo) (found : List Repo) (place : ℕ) → find_repo name repos ≡ Some r
        → ((place : ℕ) → slice_get found place ≡ Some repo → (wanted : Bytes) × (slice_get names place ≡ Some wanted) × (find_repo wanted repos ≡ Some repo))
        → slice_get (r ∷ found) place ≡ Some repo
        → (wanted : Bytes) × (slice_get (name ∷ names) place ≡ Some wanted) × (find_repo wanted repos ≡ Some repo)
    go r found zero there later at = let is : Some r ≡ Some repo = at in (name, refl, there ∙ is)
    go r found (suc place) there later at = later place at

module _ (prune : Bool) (names : List Bytes) (repos : List Repo) (parts : List Part) (history : List PlainEvent) (place : ℕ) (are : parts_there names repos ≡ Ok parts)
    (made : unite_of prune parts ≡ Ok history) (at : place ≡ oldest_place events_of parts) where
  pub found : (found : List Repo) × (all_there names repos ≡ Ok found) × (map as_part found ≡ parts)
  found =
      let one = came (all_there names repos) (λ found. Ok (map as_part found)) parts are in
      let same : map as_part one.0 ≡ parts = (let last = one.2 in cc) in
      (one.0, one.1, same)

  sorted_parts : by_age events_of parts ≡ map as_part (by_age history_of found.0)
  sorted_parts = ap (by_age events_of) (sym found.2) ∙ parts_by_age found.0

  pub base : (base : Repo) × (others : List Repo) × (by_age history_of found.0 ≡ base ∷ others)
  base = go (by_age history_of found.0) refl
    where
      go : (sorted : List Repo) → by_age history_of found.0 ≡ sorted → (base : Repo) × (others : List Repo) × (by_age history_of found.0 ≡ base ∷ others)
      go [] is =
          let none : by_age events_of parts ≡ [] = sorted_parts ∙ ap (map as_part) is in
          let refused : unite_by_age prune [] ≡ Ok history = ap (unite_by_age prune) (sym none) ∙ made in
          absurd cc
      go (base ∷ others) is = (base, others, is)

  oldest : (name : Bytes) × (slice_get names place ≡ Some name) × (find_repo name repos ≡ Some base.0)
  oldest =
      let here : place ≡ oldest_place history_of found.0 = at ∙ ap (oldest_place events_of) (sym found.2) ∙ same_oldest found.0 in
      named_at names repos found.0 place base.0 found.1 (ap (slice_get found.0) here ∙ oldest_first history_of found.0 ∙ ap (λ (l : List Repo). slice_get l 0) base.2)

  pub oldest_within : place < length names
  oldest_within = slice_get_within names place oldest.0 oldest.1

  pub oldest_there : (name : Bytes) → name ≡ get_or names place name → find_repo name repos ≡ Some base.0
  oldest_there name is =
      let same : name ≡ oldest.0 = is ∙ get_or_from_slice_get names place oldest.0 name oldest.1 in
      subst (λ (n : Bytes). find_repo n repos ≡ Some base.0) (sym same) oldest.2

  -- one of them all, with the lists of the oldest
  pub united_is : (name key : Bytes) (old new : Loaded) → repo_under key old ≡ base.0 → new ≡ record { history = history; next = next_number history; names = live_names old.history old.names }
      → united_as prune name names repos ≡ Ok (repo_under name new)
  united_is name key old new is_base is_new =
      ap (λ (r : Result (List Repo) Fault). r >>= λ parts. united_of prune parts >>= λ new. ok (record new { name = name })) found.1
      ∙ ap (λ (r : Result (List PlainEvent) Fault). (r >>= λ h. ok (united_repo (by_age history_of found.0) h)) >>= λ new. ok (record new { name = name })) (ap (unite_of prune) found.2 ∙ made)
      ∙ ap (λ (l : List Repo). ok (record (united_repo l history) { name = name })) base.2
      ∙ ap (λ (b : Repo). ok (record { name = name; history = history; next = next_number history; names = live_names b.history b.names })) (sym is_base)
      ∙ ap (λ (l : Loaded). ok (repo_under name l)) (sym is_new)
    where
      ok : Repo → Result Repo Fault
      ok x = Ok x

-- ---- under a free name

module _ (prune : Bool) (names : List Bytes) (repos : List Repo) where
  pub united_under : (name : Bytes) → free_name names repos ≡ Ok name → united_in prune names repos ≡ united_as prune name names repos
  united_under name free = go (all_there names repos)
    where
      go : (r : Result (List Repo) Fault) → (r >>= λ parts. free_name names repos >>= λ free. united_of prune parts >>= λ new. Ok (record new { name = free })) ≡ (r >>= λ parts. united_of prune parts >>= λ new. Ok (record new { name = name }))
      go (Ok parts) = ap (λ (r : Result Bytes Fault). r >>= λ free. united_of prune parts >>= λ new. ok (record new { name = free })) free
        where
          ok : Repo → Result Repo Fault
          ok x = Ok x
      go (Err why) = refl

-- what is free is their names joined, which none has
free_is : (names : List Bytes) (repos : List Repo) (name : Bytes) → free_name names repos ≡ Ok name → (name ≡ joined_name names) × (find_repo (joined_name names) (without_repos names repos) ≡ None)
free_is names repos name h = go (find_repo (joined_name names) (without_repos names repos)) h
  where
    go : (o : Option Repo) → unused (joined_name names) o ≡ Ok name → (name ≡ joined_name names) × (o ≡ None)
    go None h = let is : joined_name names ≡ name = cc in (sym is, refl)
    go (Some repo) h = absurd cc

pub free_longer : (names : List Bytes) (repos : List Repo) (name : Bytes) → 2 ≤ length names → free_name names repos ≡ Ok name → IsLongerThanEach names name
free_longer names repos name many h = subst (IsLongerThanEach names) (sym (free_is names repos name h).0) (whole_is_longer names many)

pub free_none : (names : List Bytes) (repos : List Repo) (name : Bytes) → 2 ≤ length names → free_name names repos ≡ Ok name → find_repo name repos ≡ None
free_none names repos name many h =
    let free = free_is names repos name h in
    ap (λ (n : Bytes). find_repo n repos) free.0 ∙ sym (found_without (joined_name names) names repos (whole_is_longer names many)) ∙ free.1

pub free_bytes : (names : List Bytes) (repos : List Repo) (parts : List Part) (name : Bytes) → parts_there names repos ≡ Ok parts → AllByRecursion (λ (part : Part). AreNameBytes part.name) parts
    → free_name names repos ≡ Ok name → AreNameBytes name
free_bytes names repos parts name are named h = subst AreNameBytes (sym (free_is names repos name h).0) (whole_bytes names repos parts are named)

-- ---- the list then

module _ (prune : Bool) (names : List Bytes) (list : LoadList) (macros : List Macro) where
  abbrev s : Session
  s = session_of list macros

  abbrev put : Repo → Result Session Fault
  put new = Ok (record s { repos = without_repos names list.repos ++ new ∷ []; choice = Some new.name })

  opened : after_uniting s names (united_of prune) ≡ (united_in prune names list.repos >>= put)
  unfolding after_uniting
  opened = in_turn (all_there names list.repos) (free_name names list.repos) (united_of prune)
    where
      in_turn : (a : Result (List Repo) Fault) (b : Result Bytes Fault) (u : List Repo → Result Repo Fault)
          → (a >>= λ parts. b >>= λ free. u parts >>= λ new. Ok (record s { repos = without_repos names list.repos ++ record new { name = free } ∷ []; choice = Some free }))
          ≡ ((a >>= λ parts. b >>= λ free. u parts >>= λ new. Ok (record new { name = free })) >>= put)
      in_turn (Err why) b u = refl
      in_turn (Ok parts) (Err why) u = refl
      in_turn (Ok parts) (Ok free) u = last (u parts)
        where
          last : (r : Result Repo Fault) → (r >>= λ new. Ok (record s { repos = without_repos names list.repos ++ record new { name = free } ∷ []; choice = Some free })) ≡ ((r >>= λ new. Ok (record new { name = free })) >>= put)
          last (Ok new) = refl
          last (Err why) = refl

  pub unite_done : (name : Bytes) (made : Loaded) (new : LoadList) → united_in prune names list.repos ≡ Ok (repo_under name made)
      → new ≡ record { repos = without_repos names list.repos ++ repo_under name made ∷ []; choice = Some name } → after_uniting s names (united_of prune) ≡ Ok (session_of new macros)
  unite_done name made new is becomes =
      opened ∙ ap (λ (r : Result Repo Fault). r >>= put) is ∙ ap (λ (l : LoadList). ok (session_of l macros)) (sym becomes)
    where
      ok : Session → Result Session Fault
      ok x = Ok x

  pub unite_refused : (why : Fault) → united_in prune names list.repos ≡ Err why → after_uniting s names (united_of prune) ≡ Err why
  unite_refused why is = opened ∙ ap (λ (r : Result Repo Fault). r >>= put) is
