-- Each command leaves a lawful session.
use Rattle.std.proofs.Common.{◌≡◌, ◌∙◌, ℕ, ◌+◌, ◌<◌, Bool, true, false, List, [], ◌∷◌, ◌++◌, length, Option, Some, None, Result, Ok, Err, refl, ap, subst, nat_lt, arith}
use Rattle.std.specs.Prelude.{IsTrue, if◌then◌else◌}
use Rattle.std.specs.List.{list_all}
use Rattle.std.proofs.lemmas.Bool.{and_parts}
use Rattle.std.proofs.lemmas.Bool.Decides.{nat_tests}
use Rattle.plain_model.specs.declared.event.PlainEvent.{PlainEvent}
use Rattle.plain_model.specs.declared.fault.Fault.{Fault}
use Rattle.plain_model.specs.declared.fault.Fault.TheVariants as fault
use Rattle.plain_model.specs.declared.limit.TheConstants.{MAX_REPOSITORIES}
use Rattle.plain_model.specs.Names.{is_name_byte}
use Rattle.plain_model.specs.Paths.{Bytes}
use Rattle.history_laws.proofs.Ids.{below_next}
use Rattle.edit_laws.specs.Editing.{IsEdit, IsLawfulHistory, LeavesLawful, Remade}
use Rattle.edit_laws.specs.Selecting.{IsSelection}
use Rattle.byte_patterns.specs.Judging.{under}
use Rattle.event_sets.specs.Once.{IsOnce}
use Rattle.event_sets.specs.Sets.{Ids}
use Rattle.selection_eval.specs.Names.{Names}
use Rattle.script_lines.specs.Answering.{◌>>=◌}
use Rattle.script_lines.specs.Names.{is_repo_name}
use Rattle.script_reader.specs.declared.command.Command.{Command}
use Rattle.script_reader.specs.declared.command.Command.TheVariants as command
use Rattle.script_reader.specs.declared.command.Order.{Order}
use Rattle.script_lines.specs.declared.script.ScriptLine.{ScriptLine}
use Rattle.script_lines.specs.declared.script.ScriptLine.TheVariants.{Plain}
use Rattle.history_machine.specs.Lawful.{AreNameBytes, IsLawful, IsLawfulRepo}
use Rattle.history_machine.specs.Machine.{Effect}
use Rattle.history_machine.specs.Sessions.{Repo, Session, after_edit, chosen, edited, find_repo, read_repo, room, there, unused, with_remade, with_repo}
use Rattle.history_machine.specs.Steps.{changes, reports, step}
use Rattle.history_machine.proofs.LoadList.{changed_well, loaded_well}
use Rattle.history_machine.proofs.Ready.{LiveIn, chosen_lawful}
use Rattle.history_machine.proofs.Selections.{live_once, selection_of}

-- a command that is done leaves such a session
abbrev pub GoesWell : Result (Effect Session) Fault → Type 0
GoesWell (Ok t) = IsLawful t.session
GoesWell (Err why) = Unit {0}

-- a change that is specified does so
abbrev pub ChangesWell : Result Session Fault → Type 0
ChangesWell (Ok s) = IsLawful s
ChangesWell (Err why) = Unit {0}

pub changes_well : (specified : Result Session Fault) → ChangesWell specified → GoesWell (changes specified)
changes_well (Ok s) h = h
changes_well (Err why) h = tt

-- a text that is sent leaves the session as it was
pub reports_well : (s : Session) (to : Option Bytes) (specified : Result Bytes Fault) → IsLawful s → GoesWell (reports s to specified)
reports_well s to (Ok bytes) h = h
reports_well s to (Err why) h = tt

-- what is done after a step that may be refused
pub well_after : {A : Type 0} (r : Result A Fault) (f : A → Result Session Fault) → ((x : A) → r ≡ Ok x → ChangesWell (f x)) → ChangesWell (r >>= f)
well_after (Ok x) f h = h x refl
well_after (Err why) f h = tt

-- ---- edits

-- of nothing that is selected
pub no_selection : (events : List PlainEvent) → IsSelection events []
no_selection events = record { there = tt; apart = refl }

-- an edit that is done leaves a lawful repository under the same name
pub edit_leaves : (edit : Ids → ℕ → List PlainEvent → Result Remade Fault) (ids : Ids) (repo new : Repo) → IsEdit edit → IsLawfulRepo repo → IsSelection repo.history ids
    → edited (edit ids) repo ≡ Ok new → IsLawfulRepo new × (new.name ≡ repo.name)
edit_leaves edit ids repo new is_edit h selection e = go (edit ids repo.next repo.history) (is_edit ids repo.next repo.history h.history h.spent selection) e
  where
    go : (r : Result Remade Fault) → LeavesLawful repo.next r → (r >>= λ made. Ok (with_remade repo made)) ≡ Ok new → IsLawfulRepo new × (new.name ≡ repo.name)
    go (Err why) left e = absurd cc
    go (Ok made) left e =
        let is : with_remade repo made ≡ new = cc in
        subst (λ (q : Repo). IsLawfulRepo q × (q.name ≡ repo.name)) is
        (record { name = h.name; history = left.0; names = live_once made.history repo.names h.names; spent = left.1 }, refl)

-- an edit of the chosen repository
pub edit_well : (s : Session) (edit : Ids → ℕ → List PlainEvent → Result Remade Fault) (ids : Ids) → IsEdit edit → IsLawful s → IsOnce ids → LiveIn s ids
    → ChangesWell (after_edit s (edit ids))
unfolding after_edit
edit_well s edit ids is_edit h once lives =
    well_after (chosen s) (λ repo. edited (edit ids) repo >>= λ new. Ok (record s { repos = with_repo new s.repos })) (λ repo is.
    well_after (edited (edit ids) repo) (λ new. Ok (record s { repos = with_repo new s.repos })) (λ new made.
    changed_well s new h (edit_leaves edit ids repo new is_edit (chosen_lawful s repo is h) (selection_of repo.history ids once (lives repo is)) made).0))

-- ---- the load list

pub has_room : (repos given : List Repo) → room repos ≡ Ok given → (repos ≡ given) × (length repos < MAX_REPOSITORIES)
has_room repos given h = go (nat_lt (length repos) MAX_REPOSITORIES) refl h
  where
    go : (b : Bool) → nat_lt (length repos) MAX_REPOSITORIES ≡ b → (if b then Ok repos else Err (fault.TooManyRepos MAX_REPOSITORIES)) ≡ Ok given
        → (repos ≡ given) × (length repos < MAX_REPOSITORIES)
    go true few h = (cc, grind (arith, nat_tests))
    go false few h = absurd cc

pub is_unused : (name free : Bytes) (found : Option Repo) → unused name found ≡ Ok free → (name ≡ free) × (found ≡ None)
is_unused name free None h = (cc, refl)
is_unused name free (Some repo) h = absurd cc

pub is_there : (name : Bytes) (repo : Repo) (found : Option Repo) → there name found ≡ Ok repo → found ≡ Some repo
is_there name repo None h = absurd cc
is_there name repo (Some r) h = cc

-- with one more, which is chosen
abbrev pub with_read : Session → List Repo → Bytes → List PlainEvent → Session
with_read s repos name history = record s { repos = repos ++ read_repo name history ∷ []; choice = Some name }

pub new_well : (s : Session) (repos : List Repo) (name free : Bytes) (history : List PlainEvent) → room s.repos ≡ Ok repos → unused name (find_repo name repos) ≡ Ok free
    → IsLawful s → AreNameBytes name → IsLawfulHistory history → IsLawful (with_read s repos free history)
new_well s repos name free history roomy is_free h fits lawful =
    let has = has_room s.repos repos roomy in
    let new = is_unused name free (find_repo name repos) is_free in
    let none : find_repo name s.repos ≡ None = ap (find_repo name) has.0 ∙ new.1 in
    subst (λ (given : List Repo). IsLawful (with_read s given free history)) has.0
    (subst (λ (n : Bytes). IsLawful (with_read s s.repos n history)) new.0
    (loaded_well s (read_repo name history) h has.1 none (record { name = fits; history = lawful; names = tt; spent = below_next history })))

-- a name that a script can spell has such bytes
pub spelled_bytes : (name : Bytes) → IsTrue (is_repo_name name) → AreNameBytes name
unfolding is_repo_name
spelled_bytes name h = (and_parts _ (list_all is_name_byte name) h).1
