-- The place of the chosen repository: from the entries of the load list to what is found there, and what a change of it makes of all.
use Rattle.std.proofs.Common.{Vec, ◌≡◌, ℕ, zero, suc, ◌+◌, Bool, true, false, cond, inl, inr, List, [], ◌∷◌, ◌++◌, length, Option, Some, None, Result, Ok, Err, refl, sym, ap, subst, ◌∙◌, nat_eq, arith}
use Rattle.std.specs.Prelude.{bytes_eq, if◌then◌else◌, is_some, map, nat_lt, option_map, slice_get, IfOk, OnErr, OnOk}
use Rattle.std.specs.Cmp.Lexicographic.{pointwise}
use Rattle.std.specs.List.{position, position_or_len}
use Rattle.std.specs.Map.{keys_of, lookup}
use Rattle.std.specs.Result.{IsErrAnd}
use Rattle.std.proofs.lemmas.Bool.{cases_Bool}
use Rattle.indexmap.specs.IndexMap.{set_value_at}
use Rattle.plain_model.specs.Faults.{Returns}
use Rattle.plain_model.specs.Paths.{Bytes}
use Rattle.plain_model.specs.declared.fault.Fault.{Fault}
use Rattle.plain_model.specs.declared.fault.Fault.TheVariants as fault
use Rattle.plain_model.specs.declared.fault.Halt.{Halt}
use Rattle.plain_model.specs.declared.list.NoMemory.{NoMemory}
use Rattle.plain_model.specs.declared.fault.Halt.TheVariants as halt
use Rattle.byte_patterns.specs.Judging.{Judges, ◌>>>◌, plainly}
use Rattle.event_sets.specs.Once.{AreLive}
use Rattle.event_sets.specs.Sets.{Ids}
use Rattle.selection_eval.specs.Names.{assigned}
use Rattle.selection_parser.specs.Reading.{selection_at}
use Rattle.script_lines.specs.Answering.{◌>>=◌}
use Rattle.macro_lines.specs.Macros.{Macro}
use Rattle.history_machine.specs.Sessions.{Repo, Session, after_assign, chosen, chosen_by, find_repo, or_no_repo, stands_for, unassigned, with_repo}
use Rattle.history_machine.proofs.Steps.{found}
use Rattle.load_list.specs.Entries.{AreLiveIn, Loaded, repo_of, repo_under, repos_of, with_given}
use Rattle.load_list.specs.Lists.{FindsChosen, IfChosen, IfFound, IsChosenAt, LoadList, chosen_in, selected_in, session_of, text_in}
use Rattle.load_list.proofs.Entries.{found_under, same_repos, set_repos}
use Rattle.byte_patterns.proofs.Judged.{passed_on}

-- ---- the first of a name

abbrev is_named : Bytes → Repo → Bool
is_named name repo = bytes_eq name repo.name

module _ {A : Type 0} (name : List ℕ) where
  same_first : (es : List (Vec ℕ A × Loaded)) → position_or_len (λ (k : Vec ℕ A). pointwise nat_eq name k.items) (keys_of es) ≡ position_or_len (is_named name) (repos_of es)
  same_first [] = refl
  same_first (e ∷ es) = elim (cases_Bool (pointwise nat_eq name e.0.items)) [
    | inl yes_it ↦ rw yes_it refl
    | inr no_it ↦ rw no_it (ap (λ n. 1 + n) (same_first es))
  ]

  same_length : (es : List (Vec ℕ A × Loaded)) → length (keys_of es) ≡ length (repos_of es)
  same_length [] = refl
  same_length (e ∷ es) = ap suc (same_length es)

  -- among the keys it has the place that it has among the repositories
  same_place : (es : List (Vec ℕ A × Loaded)) → position (λ (k : Vec ℕ A). pointwise nat_eq name k.items) (keys_of es) ≡ position (is_named name) (repos_of es)
  same_place es = λ i. cond (nat_lt (same_first es i) (same_length es i)) (Some (same_first es i)) None

found_first : (name : Bytes) (repos : List Repo) → find_repo name repos ≡ slice_get repos (position_or_len (is_named name) repos)
found_first name [] = refl
found_first name (r ∷ repos) = elim (cases_Bool (bytes_eq name r.name)) [
  | inl yes_it ↦ rw yes_it refl
  | inr no_it ↦ rw no_it (found_first name repos ∙ (let next : suc (position_or_len (is_named name) repos) ≡ 1 + position_or_len (is_named name) repos = omega arith in ap (slice_get (r ∷ repos)) next))
]

first_place : (name : Bytes) (repos : List Repo) (place : ℕ) → position (is_named name) repos ≡ Some place → place ≡ position_or_len (is_named name) repos
first_place name repos place h = go (nat_lt (position_or_len (is_named name) repos) (length repos)) h
  where
    go : (b : Bool) → (if b then Some (position_or_len (is_named name) repos) else None) ≡ Some place → place ≡ position_or_len (is_named name) repos
    go true h = cc
    go false h = absurd cc

-- at its place is what is found under the name
first_is : (name : Bytes) (repos : List Repo) (place : ℕ) (repo : Repo) → position (is_named name) repos ≡ Some place → find_repo name repos ≡ Some repo → slice_get repos place ≡ Some repo
first_is name repos place repo at there = ap (slice_get repos) (first_place name repos place at) ∙ sym (found_first name repos) ∙ there

-- ---- it is looked for

none_is : {X : Type 0} (o : Option X) → false ≡ is_some o → o ≡ None
none_is None h = refl
none_is (Some x) h = absurd cc

some_is : {X : Type 0} (o : Option X) → true ≡ is_some o → (x : X) × (o ≡ Some x)
some_is None h = absurd cc
some_is (Some x) h = (x, refl)

module _ {A : Type 0} (name : Bytes) (es : List (Vec ℕ A × Loaded)) (choice : Option Bytes) (is : choice ≡ Some name) where
  -- by the name that is chosen
  by_name : chosen_by (repos_of es) choice ≡ or_no_repo (option_map (repo_under name) (lookup (λ (k : Vec ℕ A). pointwise nat_eq name k.items) es))
  by_name = ap (chosen_by (repos_of es)) is ∙ ap or_no_repo (sym (found_under name es))

  pub not_there : false ≡ is_some (lookup (λ (k : Vec ℕ A). pointwise nat_eq name k.items) es) → chosen_by (repos_of es) choice ≡ Err fault.NoRepo
  not_there none = by_name ∙ ap (λ (o : Option Loaded). or_no_repo (option_map (repo_under name) o)) (none_is _ none)

  pub there : (place : ℕ) → true ≡ is_some (lookup (λ (k : Vec ℕ A). pointwise nat_eq name k.items) es)
      → Some place ≡ position (λ (k : Vec ℕ A). pointwise nat_eq name k.items) (keys_of es) → IsChosenAt (record { repos = repos_of es; choice = choice }) place
  there place some at =
      let one = some_is _ some in (
        repo_under name one.0,
        by_name ∙ ap (λ (o : Option Loaded). or_no_repo (option_map (repo_under name) o)) one.1,
        sym (same_place name es) ∙ sym at,
      )

-- no selection stands for anything where none is chosen
pub none_denoted : (list : LoadList) (text : Bytes) (before now : ℕ) (why : Halt) (r : Result Ids Halt) → IsErrAnd r (λ e. e ≡ why) → FindsChosen list (Err why)
    → Judges {X = Ids} (λ ids. ids) before now r (selected_in text list)
none_denoted list text before now (halt.Refused why) r is none =
    passed_on (λ ids. ids) before now (halt.Refused why) r (selected_in text list) is (None, λ sized. absurd cc, rw none refl)
none_denoted list text before now halt.Memory r is none = absurd none

-- ---- what is there

value_at : {A : Type 0} (es : List (Vec ℕ A × Loaded)) (place : ℕ) (old : Loaded) (repo : Repo) → slice_get (map (λ (e : Vec ℕ A × Loaded). e.1) es) place ≡ Some old
    → slice_get (repos_of es) place ≡ Some repo → repo_under repo.name old ≡ repo
value_at [] place old repo h k = absurd cc
value_at (e ∷ es) zero old repo h k =
    let same : e.1 ≡ old = cc in
    let is : repo_of e ≡ repo = cc in
    ap (repo_under repo.name) (sym same) ∙ ap (λ (r : Repo). repo_under r.name e.1) (sym is) ∙ is
value_at (e ∷ es) (suc place) old repo h k = value_at es place old repo h k

entry_is : {A : Type 0} (es : List (Vec ℕ A × Loaded)) (place : ℕ) (entry : Vec ℕ A × Loaded) (repo : Repo) → slice_get es place ≡ Some entry → slice_get (repos_of es) place ≡ Some repo
    → repo_of entry ≡ repo
entry_is [] place entry repo h k = absurd cc
entry_is (e ∷ es) zero entry repo h k =
    let same : e ≡ entry = cc in
    let is : repo_of e ≡ repo = cc in
    ap repo_of (sym same) ∙ is
entry_is (e ∷ es) (suc place) entry repo h k = entry_is es place entry repo h k

-- The chosen repository is at this place.
module _ {A : Type 0} (es : List (Vec ℕ A × Loaded)) (choice : Option Bytes) (place : ℕ) (at : IsChosenAt (record { repos = repos_of es; choice = choice }) place) where
  abbrev list : LoadList
  list = record { repos = repos_of es; choice = choice }

  abbrev changed : Loaded → LoadList
  changed new = record { repos = repos_of (set_value_at es place new); choice = choice }

  own : find_repo at.0.name (repos_of es) ≡ Some at.0
  unfolding chosen
  own = found (session_of list []) at.0 at.1

  here : slice_get (repos_of es) place ≡ Some at.0
  here = first_is at.0.name (repos_of es) place at.0 at.2 own

  all_after : (new : Loaded) → repos_of (set_value_at es place new) ≡ with_repo (repo_under at.0.name new) (repos_of es)
  all_after new = set_repos at.0.name new es place (sym (same_place at.0.name es ∙ at.2))

  -- the entry that is there is it
  pub chosen_entry : (entry : Vec ℕ A × Loaded) → slice_get es place ≡ Some entry → chosen_in list ≡ Ok (repo_of entry)
  chosen_entry entry is = at.1 ∙ ap ok (sym (entry_is es place entry at.0 is here))
    where
      ok : Repo → Result Repo Fault
      ok repo = Ok repo

  -- What is there, and what is made of it.
  module _ (old : Loaded) (is : slice_get (map (λ (e : Vec ℕ A × Loaded). e.1) es) place ≡ Some old) where
    its : repo_under at.0.name old ≡ at.0
    its = value_at es place old at.0 is here

    -- a change of it, as a change of the list
    pub changed_at : {X : Type 0} (macros : List Macro) (r : Result X Halt) (change : Repo → Result Repo Fault) (new : Loaded)
        → ((name : Bytes) → Returns (λ _. repo_under name new) r (change (repo_under name old)))
        → Returns (λ _. session_of (changed new) macros) r (chosen (session_of list macros) >>= λ repo. change repo >>= λ x. Ok (record (session_of list macros) { repos = with_repo x (repos_of es) }))
    unfolding chosen
    changed_at {X} macros r change new h =
        subst (λ (one : Result Repo Fault). Returns (λ _. session_of (changed new) macros) r (one >>= λ repo. change repo >>= λ x. Ok (with_all x))) (sym at.1)
        (go r (change at.0) (subst (λ (q : Repo). Returns (λ _. repo_under at.0.name new) r (change q)) its (h at.0.name)))
      where
        with_all : Repo → Session
        with_all x = record (session_of list macros) { repos = with_repo x (repos_of es) }

        go : (r : Result X Halt) (made : Result Repo Fault) → Returns (λ _. repo_under at.0.name new) r made → Returns (λ _. session_of (changed new) macros) r (made >>= λ x. Ok (with_all x))
        go (Ok x) made made_is = rw (made_is, all_after new) refl
        go (Err (halt.Refused why)) made made_is = rw made_is refl
        go (Err halt.Memory) made made_is = tt

    -- one that stays leaves the list as it was
    pub kept_at : (new : Loaded) → new ≡ old → changed new ≡ list
    kept_at new stays =
        ap listed (all_after new ∙ ap (λ (l : Loaded). with_repo (repo_under at.0.name l) (repos_of es)) stays ∙ ap (λ (q : Repo). with_repo q (repos_of es)) its ∙ same_repos at.0 (repos_of es) own)
      where
        listed : List Repo → LoadList
        listed repos = record { repos = repos; choice = choice }

    -- a list of its events under a name
    pub assigned_at : {X : Type 0} (macros : List Macro) (r : Result X Halt) (given : Bytes) (ids : Ids) (new : Loaded)
        → ((name : Bytes) → Returns (λ _. repo_under name new) r (with_given given ids (repo_under name old)))
        → Returns (λ _. session_of (changed new) macros) r (after_assign (session_of list macros) ids given)
    unfolding after_assign
    assigned_at {X} macros r given ids new h =
        subst (Returns (λ _. session_of (changed new) macros) r) (one_step (chosen (session_of list macros))) (changed_at macros r (with_given given ids) new h)
      where
        given_to : Repo → Bytes → Repo
        given_to repo free = record repo { names = repo.names ++ (free, ids) ∷ [] }

        with_all : Repo → Session
        with_all x = record (session_of list macros) { repos = with_repo x (repos_of es) }

        one_step : (one : Result Repo Fault) → (one >>= λ repo. with_given given ids repo >>= λ x. Ok (with_all x))
            ≡ (one >>= λ repo. unassigned given (assigned given repo.names) >>= λ free. Ok (with_all (given_to repo free)))
        one_step (Err why) = refl
        one_step (Ok repo) = go (unassigned given (assigned given repo.names))
          where
            go : (r : Result Bytes Fault) → ((r >>= λ free. Ok (given_to repo free)) >>= λ x. Ok (with_all x)) ≡ (r >>= λ free. Ok (with_all (given_to repo free)))
            go (Ok free) = refl
            go (Err why) = refl

    -- a text of it
    pub text_at : (text_of : Repo → Bytes) (text : Bytes) → text ≡ text_of (repo_under at.0.name old) → text_in text_of list ≡ Ok text
    text_at text_of text text_is =
        ap (λ (one : Result Repo Fault). one >>= λ repo. ok (text_of repo)) at.1 ∙ ap (λ (q : Repo). ok (text_of q)) (sym its) ∙ ap ok (sym text_is)
      where
        ok : Bytes → Result Bytes Fault
        ok bytes = Ok bytes

    -- the events in it for which a selection stands
    pub denoted_at : (text : Bytes) (before now : ℕ) (r : Result Ids Halt) → ((name : Bytes) → Judges {X = Ids} (λ ids. ids) before now r (stands_for (repo_under name old) (selection_at text)))
        → Judges {X = Ids} (λ ids. ids) before now r (selected_in text list)
    denoted_at text before now r h =
        subst (λ (one : Result Repo Fault). Judges {X = Ids} (λ ids. ids) before now r (plainly one >>> λ repo. stands_for repo (selection_at text))) (sym at.1)
        (subst (λ (q : Repo). Judges {X = Ids} (λ ids. ids) before now r (stands_for q (selection_at text))) its (h at.0.name))

    -- its events, as those of the chosen repository
    pub live_at : (ids : Ids) → AreLiveIn (chosen_in list) ids → AreLive old.history ids
    live_at ids live = subst (λ (q : Repo). AreLive q.history ids) (sym its) (subst (λ (one : Result Repo Fault). AreLiveIn one ids) at.1 live)

    pub all_live_at : (r : Result Ids Halt) → IfOk r (AreLive old.history) → IfOk r (AreLiveIn (chosen_in list))
    all_live_at (Ok ids) live = subst (λ (one : Result Repo Fault). AreLiveIn one ids) (sym at.1) (subst (λ (q : Repo). AreLive q.history ids) its live)
    all_live_at (Err why) live = tt

    -- what is said of it, whatever its name
    pub said_at : (P : Repo → Type 0) → ((name : Bytes) → P (repo_under name old)) → IfChosen P list
    said_at P h = subst (IfFound P) (sym at.1) (subst P its (h at.0.name))

    -- what is said of the chosen one
    pub of_chosen : (P : Repo → Type 0) → IfChosen P list → P (repo_under at.0.name old)
    of_chosen P h = subst P (sym its) (subst (IfFound P) at.1 h)

    -- a change of it that is done, as a change of the list
    pub done_at : (r : Result (Unit {0}) NoMemory) (new : Loaded) (change : Repo → Repo) → ((name : Bytes) → OnOk r (repo_under name new ≡ change (repo_under name old)))
        → OnOk r (IfChosen (λ repo. changed new ≡ record list { repos = with_repo (change repo) (repos_of es) }) list)
    done_at (Err why) new change h = tt
    done_at (Ok done) new change h =
        subst (IfFound (λ repo. changed new ≡ record list { repos = with_repo (change repo) (repos_of es) })) (sym at.1)
        (ap listed (all_after new ∙ ap (λ (q : Repo). with_repo q (repos_of es)) (h at.0.name ∙ ap change its)))
      where
        listed : List Repo → LoadList
        listed repos = record { repos = repos; choice = choice }

    -- a change that is refused or out of memory
    pub refused_at : (r : Result (Unit {0}) NoMemory) (new : Loaded) → OnErr r (new ≡ old) → OnErr r (changed new ≡ list)
    refused_at (Ok done) new h = tt
    refused_at (Err why) new h = kept_at new h
