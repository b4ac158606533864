-- Commands on several repositories leave lawful sessions, where what they make of the histories is lawful.
use Rattle.std.proofs.Common.{map, ◌≡◌, ◌∙◌, ℕ, suc, ◌+◌, ◌≤◌, ◌<◌, Bool, true, false, List, [], ◌∷◌, ◌++◌, length, Option, Some, None, Result, Ok, Err, refl, sym, ap, subst, arith}
use Rattle.std.specs.Prelude.{◌&&◌, codes, if◌then◌else◌, bytes_eq}
use Rattle.std.specs.List.{AllByRecursion, list_all}
use Rattle.std.proofs.lemmas.Bool.{and_parts, false_from_ne_true}
use Rattle.std.proofs.lemmas.List.{length-append}
use Rattle.std.proofs.lemmas.Slice.Eq.{bytes_eq-Decides}
use Rattle.plain_model.specs.declared.event.PlainEvent.{PlainEvent}
use Rattle.plain_model.specs.declared.fault.Fault.{Fault}
use Rattle.plain_model.specs.declared.limit.TheConstants.{MAX_REPOSITORIES}
use Rattle.plain_model.specs.Lookups.{AreIdsBelow, next_number}
use Rattle.plain_model.specs.Names.{is_name_byte}
use Rattle.plain_model.specs.Paths.{Bytes}
use Rattle.history_laws.proofs.Ids.{below_next}
use Rattle.edit_laws.specs.Editing.{IsLawfulHistory, Remade}
use Rattle.divide_laws.specs.Divide.{divide_of}
use Rattle.divide_laws.specs.declared.halves.Halves.{Halves}
use Rattle.graft_laws.specs.Joined.{IsLawfulPart}
use Rattle.graft_laws.specs.Unite.{Part, age, by_age, is_before, put_by_age, unite_of}
use Rattle.event_sets.specs.Once.{IsOnce}
use Rattle.event_sets.specs.Sets.{Ids}
use Rattle.script_lines.specs.Answering.{◌>>=◌}
use Rattle.history_machine.specs.Lawful.{AreNameBytes, IsLawful, IsLawfulRepo, repo_names}
use Rattle.history_machine.specs.Several.{IsDivision, IsJoining, IsUniting, after_dividing, after_joining, after_uniting, all_there, as_part, early_name, halves_of, joined_name, late_name, other_than, united_of, united_repo, without_repos}
use Rattle.history_machine.specs.Sessions.{Repo, Session, chosen, chosen_by, edited, find_repo, or_no_repo, read_repo, room, there, unless, unused, with_repo, without_repo}
use Rattle.history_machine.proofs.Lawful.{ChangesWell, edit_leaves, has_room, is_there, is_unused, well_after}
use Rattle.history_machine.proofs.LoadList.{changed_well, chosen_well, forgotten_well, loaded_well}
use Rattle.history_machine.proofs.Ready.{LiveIn, chosen_lawful, one_found}
use Rattle.history_machine.proofs.Selections.{live_once, selection_of}
use Rattle.history_machine.proofs.Steps.{found, own_name}

-- ---- names

-- the name of the chosen repository is the choice
choice_by : (repos : List Repo) (choice : Option Bytes) (repo : Repo) → chosen_by repos choice ≡ Ok repo → choice ≡ Some repo.name
choice_by repos None repo h = absurd cc
choice_by repos (Some name) repo h = go (find_repo name repos) refl h
  where
    go : (o : Option Repo) → find_repo name repos ≡ o → or_no_repo o ≡ Ok repo → Some name ≡ Some repo.name
    go None e h = absurd cc
    go (Some r) e h =
        let is : r ≡ repo = cc in
        ap some (own_name name repos repo (e ∙ ap Some is))
      where
        some : Bytes → Option Bytes
        some n = Some n

choice_is : (s : Session) (repo : Repo) → chosen s ≡ Ok repo → s.choice ≡ Some repo.name
unfolding chosen
choice_is s repo h = choice_by s.repos s.choice repo h

-- another one
pub is_other : (repo part : Repo) (name : Bytes) (repos : List Repo) → other_than repo name repos ≡ Ok part → (bytes_eq name repo.name ≡ false) × (find_repo name repos ≡ Some part)
is_other repo part name repos h = go (bytes_eq name repo.name) h
  where
    go : (b : Bool) → there name (if b then None else find_repo name repos) ≡ Ok part → (b ≡ false) × (find_repo name repos ≡ Some part)
    go true h = absurd cc
    go false h = (refl, is_there name part (find_repo name repos) h)

pub append_bytes : (a b : Bytes) → AreNameBytes a → AreNameBytes b → AreNameBytes (a ++ b)
append_bytes [] b h k = k
append_bytes (x ∷ a) b h k =
    let parts = and_parts (is_name_byte x) (list_all is_name_byte a) h in
    ap (λ t. t && list_all is_name_byte (a ++ b)) parts.0 ∙ append_bytes a b parts.1 k

-- names of different ends differ in length
pub ends_differ : (name : Bytes) → bytes_eq (late_name name) (early_name name) ≡ false
ends_differ name = false_from_ne_true (bytes_eq (late_name name) (early_name name)) (λ same.
    let is : late_name name ≡ early_name name = (bytes_eq-Decides (late_name name) (early_name name)).0 same in
    let lengths : length (late_name name) ≡ length (early_name name) = ap length is in
    let late = length-append name (codes "-late") in
    let early = length-append name (codes "-early") in
    absurd (omega arith))

-- ---- the load list

one_fewer : (name : Bytes) (repos : List Repo) (repo : Repo) → find_repo name repos ≡ Some repo → length (without_repo name repos) < length repos
one_fewer name [] repo h = absurd cc
one_fewer name (r ∷ repos) repo h = go (bytes_eq name r.name) h (one_fewer name repos repo)
  where
    go : (b : Bool) → (if b then Some r else find_repo name repos) ≡ Some repo → (find_repo name repos ≡ Some repo → length (without_repo name repos) < length repos)
        → length (if b then repos else r ∷ without_repo name repos) < suc (length repos)
    go true h rec = omega arith
    go false h rec = let rest = rec h in omega arith

no_more : (name : Bytes) (repos : List Repo) → length (without_repo name repos) ≤ length repos
no_more name [] = omega arith
no_more name (r ∷ repos) = go (bytes_eq name r.name) (no_more name repos)
  where
    go : (b : Bool) → length (without_repo name repos) ≤ length repos → length (if b then repos else r ∷ without_repo name repos) ≤ suc (length repos)
    go true rest = omega arith
    go false rest = omega arith

none_more : (names : List Bytes) (repos : List Repo) → length (without_repos names repos) ≤ length repos
none_more [] repos = omega arith
none_more (name ∷ names) repos =
    let one = no_more name repos in
    let rest = none_more names (without_repo name repos) in
    omega arith

pub not_last : (name : Bytes) (repos : List Repo) (new : Repo) → find_repo name repos ≡ None → bytes_eq name new.name ≡ false → find_repo name (repos ++ new ∷ []) ≡ None
not_last name [] new none other = ap (λ b. if b then Some new else None) other
not_last name (r ∷ repos) new none other = go (bytes_eq name r.name) none (not_last name repos new)
  where
    go : (b : Bool) → (if b then Some r else find_repo name repos) ≡ None → (find_repo name repos ≡ None → bytes_eq name new.name ≡ false → find_repo name (repos ++ new ∷ []) ≡ None)
        → (if b then Some r else find_repo name (repos ++ new ∷ [])) ≡ None
    go true none rec = absurd cc
    go false none rec = rec none other

is_first : (repos : List Repo) (new : Repo) → find_repo new.name repos ≡ None → find_repo new.name (repos ++ new ∷ []) ≡ Some new
is_first [] new none = ap (λ b. if b then Some new else None) ((bytes_eq-Decides new.name new.name).1 refl)
is_first (r ∷ repos) new none = go (bytes_eq new.name r.name) none (is_first repos new)
  where
    go : (b : Bool) → (if b then Some r else find_repo new.name repos) ≡ None → (find_repo new.name repos ≡ None → find_repo new.name (repos ++ new ∷ []) ≡ Some new)
        → (if b then Some r else find_repo new.name (repos ++ new ∷ [])) ≡ Some new
    go true none rec = absurd cc
    go false none rec = rec none

still_found : (name : Bytes) (repos : List Repo) (new other : Repo) → find_repo name repos ≡ Some other → find_repo name (repos ++ new ∷ []) ≡ Some other
still_found name [] new other h = absurd cc
still_found name (r ∷ repos) new other h = go (bytes_eq name r.name) h (still_found name repos new other)
  where
    go : (b : Bool) → (if b then Some r else find_repo name repos) ≡ Some other → (find_repo name repos ≡ Some other → find_repo name (repos ++ new ∷ []) ≡ Some other)
        → (if b then Some r else find_repo name (repos ++ new ∷ [])) ≡ Some other
    go true h rec = h
    go false h rec = rec h

-- ---- another repository is taken in

pub joined_well : (s : Session) (name : Bytes) (edit : Repo → Ids → ℕ → List PlainEvent → Result Remade Fault) (ids : Ids) → IsJoining edit → IsLawful s → IsOnce ids → LiveIn s ids
    → ChangesWell (after_joining s name (λ part. edit part ids))
unfolding after_joining
joined_well s name edit ids is_joining h once lives =
    well_after (chosen s) (λ repo. other_than repo name s.repos >>= λ part. edited (edit part ids) repo >>= λ new. Ok (taken new)) (λ repo is.
    well_after (other_than repo name s.repos) (λ part. edited (edit part ids) repo >>= λ new. Ok (taken new)) (λ part is_part.
    well_after (edited (edit part ids) repo) (λ new. Ok (taken new)) (λ new made.
    let other = is_other repo part name s.repos is_part in
    let lawful_part = one_found name part s.repos h.repos other.1 in
    let left = edit_leaves (edit part) ids repo new (is_joining part lawful_part) (chosen_lawful s repo is h) (selection_of repo.history ids once (lives repo is)) made in
    let stays : unless name s.choice ≡ s.choice = ap (unless name) (choice_is s repo is) ∙ kept repo other.0 ∙ sym (choice_is s repo is) in
    subst (λ (choice : Option Bytes). IsLawful (record s { repos = without_repo name (with_repo new s.repos); choice = choice })) stays
    (forgotten_well (record s { repos = with_repo new s.repos }) name (changed_well s new h left.0)))))
  where
    taken : Repo → Session
    taken new = record s { repos = without_repo name (with_repo new s.repos) }

    kept : (repo : Repo) → bytes_eq name repo.name ≡ false → unless name (Some repo.name) ≡ Some repo.name
    kept repo no_it = ap (λ b. if b then None else Some repo.name) no_it

-- ---- several become one

module _ (s : Session) where
  all_forgotten : (names : List Bytes) (t : Session) → IsLawful t → IsLawful (record t { repos = without_repos names t.repos; choice = None })
  all_forgotten [] t h = record { repos = h.repos; names = record { few = h.names.few; apart = h.names.apart; choice = tt } }
  all_forgotten (name ∷ names) t h = all_forgotten names (record t { repos = without_repo name t.repos; choice = unless name t.choice }) (forgotten_well t name h)

  pub parts_lawful : (names : List Bytes) (parts : List Repo) → IsLawful s → all_there names s.repos ≡ Ok parts → AllByRecursion IsLawfulRepo parts × AreNameBytes (joined_name names)
      × (1 ≤ length parts → length (without_repos names s.repos) < length s.repos)
  parts_lawful [] parts h e = let is : [] ≡ parts = cc in subst (λ (ps : List Repo). AllByRecursion IsLawfulRepo ps × AreNameBytes [] × (1 ≤ length ps → length s.repos < length s.repos)) is (tt, refl, λ some. absurd (omega arith))
  parts_lawful (name ∷ names) parts h e = go (find_repo name s.repos) refl e (parts_lawful names)
    where
      behind : (names : List Bytes) → AreNameBytes name → AreNameBytes (joined_name names) → AreNameBytes (joined_name (name ∷ names))
      behind [] one rest = append_bytes name [] one refl
      behind (other ∷ others) one rest = append_bytes name (43 ∷ joined_name (other ∷ others)) one rest

      later : (part : Repo) → find_repo name s.repos ≡ Some part → (r : Result (List Repo) Fault) → all_there names s.repos ≡ r → (r >>= λ others. Ok (part ∷ others)) ≡ Ok parts
          → ((parts : List Repo) → IsLawful s → all_there names s.repos ≡ Ok parts → AllByRecursion IsLawfulRepo parts × AreNameBytes (joined_name names)
          × (1 ≤ length parts → length (without_repos names s.repos) < length s.repos))
          → AllByRecursion IsLawfulRepo parts × AreNameBytes (joined_name (name ∷ names)) × (1 ≤ length parts → length (without_repos names (without_repo name s.repos)) < length s.repos)
      later part is (Err why) f e rec = absurd cc
      later part is (Ok others) f e rec =
          let lawful = one_found name part s.repos h.repos is in
          let rest = rec others h f in
          let same : part ∷ others ≡ parts = cc in
          let own = own_name name s.repos part is in (
            subst (AllByRecursion IsLawfulRepo) same (lawful, rest.0),
            behind names (subst AreNameBytes (sym own) lawful.name) rest.1,
            λ some. (let one = one_fewer name s.repos part is in let more = none_more names (without_repo name s.repos) in omega arith),
          )

      go : (o : Option Repo) → find_repo name s.repos ≡ o → (there name o >>= λ part. all_there names s.repos >>= λ others. Ok (part ∷ others)) ≡ Ok parts
          → ((parts : List Repo) → IsLawful s → all_there names s.repos ≡ Ok parts → AllByRecursion IsLawfulRepo parts × AreNameBytes (joined_name names)
          × (1 ≤ length parts → length (without_repos names s.repos) < length s.repos))
          → AllByRecursion IsLawfulRepo parts × AreNameBytes (joined_name (name ∷ names)) × (1 ≤ length parts → length (without_repos names (without_repo name s.repos)) < length s.repos)
      go None is e rec = absurd cc
      go (Some part) is e rec = later part is (all_there names s.repos) refl e rec

  few_repos : IsLawful s → length s.repos ≤ MAX_REPOSITORIES
  few_repos h = subst (λ n. n ≤ MAX_REPOSITORIES) (length_names s.repos) h.names.few
    where
      length_names : (repos : List Repo) → length (repo_names repos) ≡ length repos
      length_names [] = refl
      length_names (r ∷ repos) = ap suc (length_names repos)

  pub united_well : (names : List Bytes) (united : List Repo → Result Repo Fault) → IsUniting united → IsLawful s → ChangesWell (after_uniting s names united)
  unfolding after_uniting
  united_well names united is_uniting h =
      well_after (all_there names s.repos) (λ parts. unused whole (find_repo whole rest) >>= λ free. united parts >>= λ new. Ok (one free new)) (λ parts are.
      well_after (unused whole (find_repo whole rest)) (λ free. united parts >>= λ new. Ok (one free new)) (λ free is_free.
      well_after (united parts) (λ new. Ok (one free new)) (λ new made.
      let facts = parts_lawful names parts h are in
      let left = is_uniting parts new facts.0 made in
      let unnamed = is_unused whole free (find_repo whole rest) is_free in
      let fewer = facts.2 left.1 in
      let few = few_repos h in
      subst (λ (n : Bytes). IsLawful (one n new)) unnamed.0
      (loaded_well (record s { repos = rest; choice = None }) (record new { name = whole }) (all_forgotten names s h) (omega arith) unnamed.1
      (record { name = facts.1; history = left.0.history; names = left.0.names; spent = left.0.spent })))))
    where
      whole : Bytes
      whole = joined_name names

      rest : List Repo
      rest = without_repos names s.repos

      one : Bytes → Repo → Session
      one free new = record s { repos = rest ++ record new { name = free } ∷ []; choice = Some free }

  -- ---- one becomes two

  pub divided_well : (halves_of : List PlainEvent → Result (List PlainEvent × List PlainEvent) Fault) → IsDivision halves_of → IsLawful s → ChangesWell (after_dividing s halves_of)
  unfolding after_dividing
  divided_well halves_of is_division h =
      well_after (chosen s) (λ repo. room s.repos >>= λ repos. first repo repos) (λ repo is.
      well_after (room s.repos) (λ repos. first repo repos) (λ repos roomy.
      let has = has_room s.repos repos roomy in
      subst (λ (given : List Repo). ChangesWell (first repo given)) has.0
      (well_after (unused (early_name repo.name) (find_repo (early_name repo.name) (rest repo s.repos))) (λ early. second repo s.repos early) (λ early is_early.
      well_after (unused (late_name repo.name) (find_repo (late_name repo.name) (rest repo s.repos))) (λ late. third repo s.repos early late) (λ late is_late.
      well_after (halves_of repo.history) (λ halves. Ok (two repo s.repos early late halves)) (λ halves made.
      let lawful = chosen_lawful s repo is h in
      let both = is_division repo.history halves lawful.history made in
      let one = is_unused (early_name repo.name) early (find_repo (early_name repo.name) (rest repo s.repos)) is_early in
      let other = is_unused (late_name repo.name) late (find_repo (late_name repo.name) (rest repo s.repos)) is_late in
      subst (λ (n : Bytes). IsLawful (two repo s.repos n late halves)) one.0
      (subst (λ (n : Bytes). IsLawful (two repo s.repos (early_name repo.name) n halves)) other.0
      (both_loaded repo halves is has.1 lawful.name one.1 other.1 both.0 both.1))))))))
    where
      rest : Repo → List Repo → List Repo
      rest repo repos = without_repo repo.name repos

      two : Repo → List Repo → Bytes → Bytes → List PlainEvent × List PlainEvent → Session
      two repo repos early late halves = record s { repos = (rest repo repos ++ read_repo early halves.0 ∷ []) ++ read_repo late halves.1 ∷ []; choice = Some early }

      third : Repo → List Repo → Bytes → Bytes → Result Session Fault
      third repo repos early late = halves_of repo.history >>= λ halves. Ok (two repo repos early late halves)

      second : Repo → List Repo → Bytes → Result Session Fault
      second repo repos early = unused (late_name repo.name) (find_repo (late_name repo.name) (rest repo repos)) >>= λ late. third repo repos early late

      first : Repo → List Repo → Result Session Fault
      first repo repos = unused (early_name repo.name) (find_repo (early_name repo.name) (rest repo repos)) >>= λ early. second repo repos early

      both_loaded : (repo : Repo) (halves : List PlainEvent × List PlainEvent) → chosen s ≡ Ok repo → length s.repos < MAX_REPOSITORIES → AreNameBytes repo.name
          → find_repo (early_name repo.name) (rest repo s.repos) ≡ None → find_repo (late_name repo.name) (rest repo s.repos) ≡ None
          → IsLawfulHistory halves.0 → IsLawfulHistory halves.1 → IsLawful (two repo s.repos (early_name repo.name) (late_name repo.name) halves)
      both_loaded repo halves is few bytes no_early no_late lawful_early lawful_late =
          let before : Session = record s { repos = rest repo s.repos; choice = unless repo.name s.choice } in
          let early : Repo = read_repo (early_name repo.name) halves.0 in
          let late : Repo = read_repo (late_name repo.name) halves.1 in
          let left = forgotten_well s repo.name h in
          let fewer = one_fewer repo.name s.repos repo (found s repo is) in
          let longer = length-append (rest repo s.repos) (early ∷ []) in
          let one = loaded_well before early left (omega arith) no_early (record { name = append_bytes repo.name (codes "-early") bytes refl; history = lawful_early; names = tt; spent = below_next halves.0 }) in
          let none = not_last (late_name repo.name) (rest repo s.repos) early no_late (ends_differ repo.name) in
          let both = loaded_well (record s { repos = rest repo s.repos ++ early ∷ []; choice = Some (early_name repo.name) }) late one (omega arith) none
          (record { name = append_bytes repo.name (codes "-late") bytes refl; history = lawful_late; names = tt; spent = below_next halves.1 }) in
          chosen_well (record s { repos = (rest repo s.repos ++ early ∷ []) ++ late ∷ []; choice = Some (late_name repo.name) }) (early_name repo.name) early both
          (still_found (early_name repo.name) (rest repo s.repos ++ early ∷ []) late early (is_first (rest repo s.repos) early no_early))

-- ---- what they make of the histories

abbrev history_of : Repo → List PlainEvent
history_of repo = repo.history

-- the order by age has what was there
all_put : (P : Repo → Type 0) (r : Repo) (repos : List Repo) → P r → AllByRecursion P repos → AllByRecursion P (put_by_age history_of r repos)
all_put P r [] h a = (h, tt)
all_put P r (x ∷ repos) h a = go (is_before (age x.history) (age r.history)) (all_put P r repos h a.1)
  where
    go : (b : Bool) → AllByRecursion P (put_by_age history_of r repos) → AllByRecursion P (if b then x ∷ put_by_age history_of r repos else r ∷ x ∷ repos)
    go true rest = (a.0, rest)
    go false rest = (h, a)

all_by_age : (P : Repo → Type 0) (repos : List Repo) → AllByRecursion P repos → AllByRecursion P (by_age history_of repos)
all_by_age P [] a = tt
all_by_age P (r ∷ repos) a = all_put P r (by_age history_of repos) a.0 (all_by_age P repos a.1)

united_lawful : (by_age : List Repo) (history : List PlainEvent) → AllByRecursion IsLawfulRepo by_age → IsLawfulHistory history → IsLawfulRepo (united_repo by_age history)
united_lawful [] history a lawful = record { name = refl; history = lawful; names = tt; spent = below_next history }
united_lawful (base ∷ others) history a lawful = record { name = a.0.name; history = lawful; names = live_once base.history base.names a.0.names; spent = below_next history }

as_parts : (repos : List Repo) → AllByRecursion IsLawfulRepo repos → AllByRecursion IsLawfulPart (map as_part repos)
as_parts [] a = tt
as_parts (r ∷ repos) a = (record { history = a.0.history; name = a.0.name }, as_parts repos a.1)

some_parts : (repos : List Repo) → 2 ≤ length (map as_part repos) → 1 ≤ length repos
some_parts [] h = absurd (omega arith)
some_parts (r ∷ repos) h = omega arith

pub unites : (prune : Bool) → ((parts : List Part) (new : List PlainEvent) → AllByRecursion IsLawfulPart parts → unite_of prune parts ≡ Ok new → IsLawfulHistory new × AreIdsBelow (next_number new) new)
    → ((parts : List Part) (new : List PlainEvent) → unite_of prune parts ≡ Ok new → 2 ≤ length parts) → IsUniting (united_of prune)
unites prune lawful several repos new a made = go (unite_of prune (map as_part repos)) refl made
  where
    go : (r : Result (List PlainEvent) Fault) → unite_of prune (map as_part repos) ≡ r → (r >>= λ history. Ok (united_repo (by_age history_of repos) history)) ≡ Ok new
        → IsLawfulRepo new × (1 ≤ length repos)
    go (Err why) is made = absurd cc
    go (Ok history) is made =
        let same : united_repo (by_age history_of repos) history ≡ new = cc in (
          subst IsLawfulRepo same (united_lawful (by_age history_of repos) history (all_by_age IsLawfulRepo repos a) (lawful (map as_part repos) history (as_parts repos a) is).0),
          some_parts repos (several (map as_part repos) history is),
        )

pub divides : (ids : Ids) → ((events : List PlainEvent) (halves : Halves) → IsLawfulHistory events → divide_of ids events ≡ Ok halves → IsLawfulHistory halves.early × IsLawfulHistory halves.late)
    → IsDivision (halves_of ids)
divides ids lawful events halves h made = go (divide_of ids events) refl made
  where
    go : (r : Result Halves Fault) → divide_of ids events ≡ r → (r >>= λ halves. Ok (halves.early, halves.late)) ≡ Ok halves → IsLawfulHistory halves.0 × IsLawfulHistory halves.1
    go (Err why) is made = absurd cc
    go (Ok both) is made =
        let same : (both.early, both.late) ≡ halves = cc in
        subst (λ (two : List PlainEvent × List PlainEvent). IsLawfulHistory two.0 × IsLawfulHistory two.1) same (lawful events both h is)
