-- Another repository is taken into the chosen one: how it is looked up, and what is answered where it is not taken in.
use Rattle.std.proofs.Common.{Vec, ◌≡◌, ◌∙◌, ℕ, Bool, true, false, List, Option, Some, None, Result, Ok, Err, refl, sym, ap, subst}
use Rattle.std.specs.Prelude.{bytes_eq, if◌then◌else◌, slice_get, IfOk}
use Rattle.std.specs.Result.{IsErrAnd}
use Rattle.std.proofs.lemmas.Result.{err_from_is_err_and}
use Rattle.plain_model.specs.Faults.{Returns}
use Rattle.plain_model.specs.Paths.{Bytes}
use Rattle.plain_model.specs.declared.fault.Fault.{Fault}
use Rattle.plain_model.specs.declared.fault.Fault.TheVariants as fault
use Rattle.plain_model.specs.declared.fault.Halt.{Halt}
use Rattle.plain_model.specs.declared.fault.Halt.TheVariants as halt
use Rattle.plain_model.specs.Soundness.{IsSound}
use Rattle.edit_laws.specs.Editing.{Remade}
use Rattle.event_arena.specs.Graphs.{Change}
use Rattle.event_sets.specs.Once.{AreLive}
use Rattle.event_sets.specs.Sets.{Ids}
use Rattle.script_lines.specs.Answering.{◌>>=◌}
use Rattle.macro_lines.specs.Macros.{Macro}
use Rattle.history_machine.specs.Sessions.{Repo, Session, chosen, edited, find_repo, there, with_remade, with_repo, without_repo}
use Rattle.history_machine.specs.Several.{after_joining, grafted_with, other_than}
use Rattle.load_list.specs.Entries.{AreLiveIn, Loaded, made_by, repo_of, repo_under, repos_of}
use Rattle.plain_model.specs.declared.event.PlainEvent.{PlainEvent}
use Rattle.load_list.specs.Lists.{IfChosen, IfFound, IsChosenAt, IsPlanFor, Joins, LoadList, PlansGraft, chosen_in, joined_in, session_of}
use Rattle.load_list.proofs.Places.{chosen_entry}

-- ---- the other one is looked up

-- The entry of the chosen repository is at this place.
module _ {A : Type 0} (es : List (Vec ℕ A × Loaded)) (choice : Option Bytes) (place : ℕ) (at : IsChosenAt (record { repos = repos_of es; choice = choice }) place)
    (entry : Vec ℕ A × Loaded) (is : slice_get es place ≡ Some entry) where
  abbrev entered : LoadList
  entered = record { repos = repos_of es; choice = choice }

  it : chosen_in entered ≡ Ok (repo_of entry)
  it = chosen_entry es choice place at entry is

  -- what is said of it
  pub said_there : (P : Repo → Type 0) → P (repo_of entry) → IfChosen P entered
  said_there P h = subst (IfFound P) (sym it) h

  pub of_there : (P : Repo → Type 0) → IfChosen P entered → P (repo_of entry)
  of_there P h = subst (IfFound P) it h

  pub live_there : (ids : Ids) → AreLiveIn (chosen_in entered) ids → AreLive entry.1.history ids
  live_there ids live = subst (λ (one : Result Repo Fault). AreLiveIn one ids) it live

  module _ (prune : Bool) (name : Bytes) (ids : Ids) where
    with_other : Result Repo Fault → Result Remade Fault
    with_other other = other >>= λ part. grafted_with prune part ids entry.1.next entry.1.history

    err : Fault → Result Remade Fault
    err why = Err why

    found_other : Bool → Option Repo → Result Repo Fault
    found_other same found = there name (if same then None else found)

    -- it has the name itself
    pub own_name : (why : Fault) → true ≡ bytes_eq name entry.0.items → why ≡ fault.NoSuchRepo name
        → IfChosen (PlansGraft prune name ids (repos_of es) (Err (halt.Refused why))) entered
    unfolding with_other found_other err
    own_name why same is_why =
        said_there (PlansGraft prune name ids (repos_of es) (Err (halt.Refused why)))
        (ap (λ (b : Bool). with_other (found_other b (find_repo name (repos_of es)))) (sym same) ∙ ap err (sym is_why))

    -- none has it
    pub no_other : (why : Fault) → false ≡ bytes_eq name entry.0.items → None ≡ find_repo name (repos_of es) → why ≡ fault.NoSuchRepo name
        → IfChosen (PlansGraft prune name ids (repos_of es) (Err (halt.Refused why))) entered
    unfolding with_other found_other err
    no_other why other none is_why =
        said_there (PlansGraft prune name ids (repos_of es) (Err (halt.Refused why)))
        (ap (λ (b : Bool). with_other (found_other b (find_repo name (repos_of es)))) (sym other) ∙ ap (λ (o : Option Repo). with_other (found_other false o)) (sym none) ∙ ap err (sym is_why))

    -- another one has it
    pub other_found : (old : Loaded) (plan : Result Change Halt) → false ≡ bytes_eq name entry.0.items → Some (repo_under name old) ≡ find_repo name (repos_of es)
        → Returns made_by plan (grafted_with prune (repo_under name old) ids entry.1.next entry.1.history) → IfChosen (PlansGraft prune name ids (repos_of es) plan) entered
    unfolding with_other found_other
    other_found old plan other some planned =
        said_there (PlansGraft prune name ids (repos_of es) plan)
        (subst (Returns made_by plan)
        (ap (λ (o : Option Repo). with_other (found_other false o)) some ∙ ap (λ (b : Bool). with_other (found_other b (find_repo name (repos_of es)))) other) planned)

  -- a plan for it
  pub fits_there : (plan : Result Change Halt) → IfOk plan (λ plan. plan.before ≡ entry.1.history) → IfOk plan (λ plan. plan.made_at ≡ entry.1.next)
      → IfOk plan (λ plan. IsSound plan.after) → IfOk plan (λ plan. IfChosen (λ repo. IsPlanFor repo plan) entered)
  fits_there (Ok plan) before made_at sound = said_there (λ repo. IsPlanFor repo plan) (record { before = before; made_at = made_at; sound = sound })
  fits_there (Err why) before made_at sound = tt

-- ---- the other one is taken out

module _ (edit : Repo → ℕ → List PlainEvent → Result Remade Fault) (name : Bytes) (list : LoadList) (place : ℕ) (at : IsChosenAt list place) (macros : List Macro) where
  abbrev s : Session
  s = session_of list macros

  abbrev without : LoadList → Session
  without new = session_of (record new { repos = without_repo name new.repos }) macros

  parted : (o : Result Repo Fault) → (o >>= λ part. edited (edit part) at.0 >>= λ new. Ok (record s { repos = without_repo name (with_repo new s.repos) }))
      ≡ ((o >>= λ part. edited (edit part) at.0 >>= λ new. Ok (record list { repos = with_repo new list.repos })) >>= λ new. Ok (without new))
  parted (Err why) = refl
  parted (Ok part) = go (edit part at.0.next at.0.history)
    where
      go : (r : Result Remade Fault) → ((r >>= λ made. Ok (with_remade at.0 made)) >>= λ new. Ok (record s { repos = without_repo name (with_repo new s.repos) }))
          ≡ (((r >>= λ made. Ok (with_remade at.0 made)) >>= λ new. Ok (record list { repos = with_repo new list.repos })) >>= λ new. Ok (without new))
      go (Ok made) = refl
      go (Err why) = refl

  opened : after_joining s name edit ≡ (joined_in edit name list at.0 >>= λ new. Ok (without new))
  unfolding after_joining chosen
  opened = ap (λ (one : Result Repo Fault). one >>= λ repo. other_than repo name s.repos >>= λ part. edited (edit part) repo >>= λ new. ok (record s { repos = without_repo name (with_repo new s.repos) })) at.1
      ∙ parted (other_than at.0 name list.repos)
    where
      ok : Session → Result Session Fault
      ok x = Ok x

  pub join_refused : {X : Type 0} (why : Halt) (r : Result X Halt) (new : LoadList) (shown : X → Session) → IsErrAnd r (λ e. e ≡ why) → IfChosen (Joins edit name (Err why) list new) list → Returns shown r (after_joining s name edit)
  join_refused (halt.Refused fault) r new shown is joins =
      let p = err_from_is_err_and r is in
      rw (p.1, p.2) (opened ∙ ap (λ (r : Result LoadList Fault). r >>= λ new. Ok (without new)) (subst (IfFound (Joins edit name (Err (halt.Refused fault)) list new)) at.1 joins))
  join_refused halt.Memory r new shown is joins = let p = err_from_is_err_and r is in rw (p.1, p.2) tt
