-- What becomes of the load list by the commands that change it alone.
use Rattle.std.proofs.Common.{◌≡◌, List, [], ◌∷◌, ◌++◌, Option, Some, None, Result, Ok, Err, refl, sym, ap, subst, ◌∙◌, ℕ}
use Rattle.plain_model.specs.declared.event.PlainEvent.{PlainEvent}
use Rattle.plain_model.specs.declared.fault.Fault.{Fault}
use Rattle.plain_model.specs.Files.{Files}
use Rattle.plain_model.specs.Paths.{Bytes}
use Rattle.byte_patterns.specs.Judging.{Denial}
use Rattle.sample_history.specs.Sample.{sample}
use Rattle.script_lines.specs.Answering.{◌>>=◌}
use Rattle.script_reader.specs.declared.command.Command.{Command}
use Rattle.history_machine.specs.Loading.{loaded}
use Rattle.history_machine.specs.Machine.{Effect}
use Rattle.history_machine.specs.Sessions.{Repo, Session, Subject, after_choose, after_drop, after_drop_chosen, after_read, after_sample, chosen, find_repo, read_repo, room, sample_name, there, unless, unused, without_repo}
use Rattle.history_machine.specs.Steps.{carried, changes, reports, step}
use Rattle.history_machine.proofs.Lawful.{has_room, is_unused, with_read}
use Rattle.history_machine.proofs.Steps.{with_its_subject}

-- ---- what the definitions of commands give

-- what holds of the session after a command, if it is done
abbrev Given : (Session → Type 0) → Result Session Fault → Type 0
Given Holds (Ok after) = Holds after
Given Holds (Err why) = Unit {0}

abbrev pub GivenStep : (Session → Type 0) → Result (Effect Session) Fault → Type 0
GivenStep Holds (Ok t) = Holds t.session
GivenStep Holds (Err why) = Unit {0}

pub of_changes : (Holds : Session → Type 0) (r : Result Session Fault) → Given Holds r → GivenStep Holds (changes r)
of_changes Holds (Ok after) h = h
of_changes Holds (Err why) h = tt

pub of_reports : (s : Session) (to : Option Bytes) (r : Result Bytes Fault) → GivenStep (λ after. after.repos ≡ s.repos) (reports s to r)
of_reports s to (Ok bytes) = refl
of_reports s to (Err why) = tt

-- what is done after a step that may be refused
then_given : {A : Type 0} (Holds : Session → Type 0) (r : Result A Fault) (f : A → Result Session Fault) → ((x : A) → r ≡ Ok x → Given Holds (f x)) → Given Holds (r >>= f)
then_given Holds (Ok x) f h = h x refl
then_given Holds (Err why) f h = tt

-- a command, whatever it speaks of
pub of_subject : (Holds : Session → Type 0) (denial : Option Denial) (s : Session) (files : Files) (what : Command) (t : Effect Session)
    → ((subject : Subject) → GivenStep Holds (carried s files subject what)) → step denial s files what ≡ Ok t → Holds t.session
of_subject Holds denial s files what t given h =
    let c = with_its_subject denial s files what t h in
    subst (GivenStep Holds) c.1 (given c.0)

-- one more, under a name that was free
new_is : (s : Session) (repos : List Repo) (name free : Bytes) (history : List PlainEvent) → room s.repos ≡ Ok repos → unused name (find_repo name repos) ≡ Ok free
    → (find_repo name s.repos ≡ None) × ((with_read s repos free history).repos ≡ s.repos ++ read_repo name history ∷ [])
new_is s repos name free history roomy is_free =
    let has = has_room s.repos repos roomy in
    let new = is_unused name free (find_repo name repos) is_free in (
      ap (find_repo name) has.0 ∙ new.1,
      ap (λ (given : List Repo). given ++ read_repo free history ∷ []) (sym has.0) ∙ ap (λ (n : Bytes). s.repos ++ read_repo n history ∷ []) (sym new.0),
    )

-- a history of a file is loaded last
abbrev pub HasRead : Session → Files → Bytes → Bytes → Session → Type 0
HasRead s files file name after =
    (history : List PlainEvent) × (loaded files file ≡ Ok history) × (find_repo name s.repos ≡ None) × (after.repos ≡ s.repos ++ read_repo name history ∷ [])

pub read_does : (s : Session) (files : Files) (file name : Bytes) → Given (HasRead s files file name) (after_read s files file name)
unfolding after_read
read_does s files file name =
    let Holds : Session → Type 0 = HasRead s files file name in
    then_given Holds (room s.repos) (λ repos. unused name (find_repo name repos) >>= λ free. loaded files file >>= λ history. Ok (with_read s repos free history)) (λ repos roomy.
    then_given Holds (unused name (find_repo name repos)) (λ free. loaded files file >>= λ history. Ok (with_read s repos free history)) (λ free is_free.
    then_given Holds (loaded files file) (λ history. Ok (with_read s repos free history)) (λ history is_read.
    let made = new_is s repos name free history roomy is_free in
    (history, is_read, made.0, made.1))))

-- a sample is
abbrev pub HasMade : Session → ℕ → ℕ → Session → Type 0
HasMade s count start after = (find_repo sample_name s.repos ≡ None) × (after.repos ≡ s.repos ++ read_repo sample_name (sample count start) ∷ [])

pub sample_does : (s : Session) (count start : ℕ) → Given (HasMade s count start) (after_sample s count start)
unfolding after_sample
sample_does s count start =
    let Holds : Session → Type 0 = HasMade s count start in
    then_given Holds (room s.repos) (λ repos. unused sample_name (find_repo sample_name repos) >>= λ free. Ok (with_read s repos free (sample count start))) (λ repos roomy.
    then_given Holds (unused sample_name (find_repo sample_name repos)) (λ free. Ok (with_read s repos free (sample count start))) (λ free is_free.
    new_is s repos sample_name free (sample count start) roomy is_free))

pub choose_does : (s : Session) (name : Bytes) → Given (λ after. after.repos ≡ s.repos) (after_choose s name)
unfolding after_choose
choose_does s name = then_given (λ after. after.repos ≡ s.repos) (there name (find_repo name s.repos)) (λ repo. Ok (record s { choice = Some name })) (λ repo is. refl)

pub drop_does : (s : Session) (name : Bytes) → Given (λ after. after.repos ≡ without_repo name s.repos) (after_drop s name)
unfolding after_drop
drop_does s name =
    then_given (λ after. after.repos ≡ without_repo name s.repos) (there name (find_repo name s.repos))
    (λ repo. Ok (record s { repos = without_repo name s.repos; choice = unless name s.choice })) (λ repo is. refl)

pub drop_chosen_does : (s : Session) → Given (λ after. (name : Bytes) × (after.repos ≡ without_repo name s.repos)) (after_drop_chosen s)
unfolding after_drop_chosen
drop_chosen_does s =
    then_given (λ after. (name : Bytes) × (after.repos ≡ without_repo name s.repos)) (chosen s) (λ repo. after_drop s repo.name)
    (λ repo is. go repo.name (after_drop s repo.name) (drop_does s repo.name))
  where
    go : (name : Bytes) (r : Result Session Fault) → Given (λ after. after.repos ≡ without_repo name s.repos) r
        → Given (λ after. (name : Bytes) × (after.repos ≡ without_repo name s.repos)) r
    go name (Ok after) h = (name, h)
    go name (Err why) h = tt
