-- The chosen repository becomes two, from what is asked in turn to what the list is then.
use Rattle.std.proofs.Common.{◌≡◌, ◌∙◌, ◌<◌, ℕ, Bool, true, false, List, [], ◌∷◌, ◌++◌, length, Option, Some, None, Result, Ok, Err, refl, sym, ap, subst, nat_lt, arith}
use Rattle.std.specs.Prelude.{IsSome, codes, if◌then◌else◌}
use Rattle.plain_model.specs.Paths.{Bytes}
use Rattle.plain_model.specs.declared.event.PlainEvent.{PlainEvent}
use Rattle.plain_model.specs.declared.fault.Fault.{Fault}
use Rattle.plain_model.specs.declared.fault.Fault.TheVariants as fault
use Rattle.plain_model.specs.declared.fault.Halt.{Halt}
use Rattle.plain_model.specs.declared.fault.Halt.TheVariants as halt
use Rattle.plain_model.specs.declared.limit.TheConstants.{MAX_REPOSITORIES}
use Rattle.plain_model.specs.Faults.{Returns}
use Rattle.history_machine.proofs.Steps.{found}
use Rattle.plain_model.specs.Lookups.{AreIdsBelow}
use Rattle.edit_laws.specs.Keeping.{AddsNothing}
use Rattle.edit_laws.proofs.Edits.{fewer_below}
use Rattle.event_sets.specs.Sets.{Ids}
use Rattle.script_lines.specs.Answering.{◌>>=◌}
use Rattle.macro_lines.specs.Macros.{Macro}
use Rattle.history_machine.specs.Sessions.{Repo, Session, chosen, find_repo, read_repo, room, unused, without_repo}
use Rattle.history_machine.specs.Several.{after_dividing, early_name, halves_of, late_name}
use Rattle.load_list.specs.Lists.{IfChosen, IfFound, IsChosenAt, LoadList, divided_under, session_of, with_halves}
use Rattle.load_list.proofs.SeveralNames.{other_found, with_ending_differs}

module _ (ids : Ids) (list : LoadList) (place : ℕ) (at : IsChosenAt list place) (macros : List Macro) where
  abbrev s : Session
  s = session_of list macros

  abbrev name : Bytes
  name = at.0.name

  abbrev after : Result Session Fault
  after = after_dividing s (halves_of ids)

  put : List Repo → Bytes → Bytes → List PlainEvent × List PlainEvent → Result Session Fault
  put repos early late halves = Ok (record s { repos = (without_repo name repos ++ read_repo early halves.0 ∷ []) ++ read_repo late halves.1 ∷ []; choice = Some early })

  first : List Repo → Result Session Fault
  first repos =
      unused (early_name name) (find_repo (early_name name) (without_repo name repos)) >>= λ early.
      unused (late_name name) (find_repo (late_name name) (without_repo name repos)) >>= λ late. halves_of ids at.0.history >>= put repos early late

  opened : after ≡ (room list.repos >>= first)
  unfolding after_dividing chosen first put
  opened =
      ap (λ (one : Result Repo Fault). one >>= λ repo. room s.repos >>= λ repos.
      unused (early_name repo.name) (find_repo (early_name repo.name) (without_repo repo.name repos)) >>= λ early.
      unused (late_name repo.name) (find_repo (late_name repo.name) (without_repo repo.name repos)) >>= λ late.
      halves_of ids repo.history >>= λ halves.
      ok (record s { repos = (without_repo repo.name repos ++ read_repo early halves.0 ∷ []) ++ read_repo late halves.1 ∷ []; choice = Some early })) at.1
    where
      ok : Session → Result Session Fault
      ok x = Ok x

  pub no_room : nat_lt (length list.repos) MAX_REPOSITORIES ≡ false → after ≡ Err (fault.TooManyRepos MAX_REPOSITORIES)
  no_room full = opened ∙ ap (λ (b : Bool). (if b then Ok list.repos else Err (fault.TooManyRepos MAX_REPOSITORIES)) >>= first) full

  -- the names are looked for among the others
  early_found : find_repo (early_name name) (without_repo name list.repos) ≡ find_repo (early_name name) list.repos
  early_found = other_found (early_name name) name list.repos (with_ending_differs name (codes "-early") (omega arith))

  late_found : find_repo (late_name name) (without_repo name list.repos) ≡ find_repo (late_name name) list.repos
  late_found = other_found (late_name name) name list.repos (with_ending_differs name (codes "-late") (omega arith))

  free_names : (o : Option Repo) (p : Option Repo) (halves : Result (List PlainEvent × List PlainEvent) Fault)
      → (unused (early_name name) o >>= λ early. unused (late_name name) p >>= λ late. halves >>= put list.repos early late)
      ≡ ((unused (early_name name) o >>= λ early. unused (late_name name) p >>= λ late. halves >>= λ two. Ok (with_halves list name two)) >>= λ new. Ok (session_of new macros))
  unfolding put
  free_names (Some r) p halves = refl
  free_names None (Some r) halves = refl
  free_names None None (Ok two) = refl
  free_names None None (Err why) = refl

  -- where there is room, it is what is made of the list
  pub with_room : nat_lt (length list.repos) MAX_REPOSITORIES ≡ true → after ≡ (divided_under name list (halves_of ids at.0.history) >>= λ new. Ok (session_of new macros))
  unfolding first
  with_room roomy =
      opened
      ∙ ap (λ (b : Bool). (if b then Ok list.repos else Err (fault.TooManyRepos MAX_REPOSITORIES)) >>= first) roomy
      ∙ (λ i. unused (early_name name) (early_found i) >>= λ early. unused (late_name name) (late_found i) >>= λ late. halves_of ids at.0.history >>= put list.repos early late)
      ∙ free_names (find_repo (early_name name) list.repos) (find_repo (late_name name) list.repos) (halves_of ids at.0.history)

  -- so the session is then what the command makes of it
  pub divided : nat_lt (length list.repos) MAX_REPOSITORIES ≡ true → (new : LoadList) (its : Bytes) → IfChosen (λ repo. repo.name ≡ its) list → (r : Result (Unit {0}) Halt)
      → IfChosen (λ repo. Returns (λ _. new) r (divided_under its list (halves_of ids repo.history))) list → Returns (λ _. session_of new macros) r after
  divided roomy new its named r done = subst (Returns (λ (_ : Unit {0}). session_of new macros) r) (sym (with_room roomy)) (go r (divided_under name list (halves_of ids at.0.history)) here)
    where
      same : name ≡ its
      same = subst (IfFound (λ (repo : Repo). repo.name ≡ its)) at.1 named

      here : Returns (λ (_ : Unit {0}). new) r (divided_under name list (halves_of ids at.0.history))
      here =
          subst (λ (n : Bytes). Returns (λ (_ : Unit {0}). new) r (divided_under n list (halves_of ids at.0.history))) (sym same)
          (subst (IfFound (λ (repo : Repo). Returns (λ (_ : Unit {0}). new) r (divided_under its list (halves_of ids repo.history)))) at.1 done)

      go : (r : Result (Unit {0}) Halt) (made : Result LoadList Fault) → Returns (λ _. new) r made → Returns (λ _. session_of new macros) r (made >>= λ new. Ok (session_of new macros))
      go (Ok x) made is = rw is refl
      go (Err (halt.Refused why)) made is = rw is refl
      go (Err halt.Memory) made is = tt

-- a repository has the name of the chosen one
pub chosen_some : (list : LoadList) (place : ℕ) (name : Bytes) → IsChosenAt list place → IfChosen (λ repo. repo.name ≡ name) list → IsSome (find_repo name list.repos)
unfolding chosen
chosen_some list place name at its =
    let own : find_repo at.0.name list.repos ≡ Some at.0 = found (session_of list []) at.0 at.1 in
    let same : at.0.name ≡ name = subst (IfFound (λ (repo : Repo). repo.name ≡ name)) at.1 its in
    subst (λ (n : Bytes). IsSome (find_repo n list.repos)) same (subst IsSome (sym own) refl)

-- ---- ids

-- the ids of a half are as low as those of the history
pub low_half : (events half : List PlainEvent) (next bound : ℕ) → AddsNothing events half → AreIdsBelow next events → next < bound → AreIdsBelow bound half
low_half events half next bound nothing below few id there = let low = fewer_below events half next nothing.ids below id there in omega (arith, few)
