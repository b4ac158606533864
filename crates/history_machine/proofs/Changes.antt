-- What an edit changes that is done, whatever it makes of the history.
use Rattle.std.proofs.Common.{◌≡◌, ℕ, List, Option, Result, Ok, Err, refl, sym, ap, subst, ◌++◌, [], ◌∷◌}
use Rattle.plain_model.specs.Files.{Files}
use Rattle.plain_model.specs.Paths.{Bytes}
use Rattle.plain_model.specs.declared.event.PlainEvent.{PlainEvent}
use Rattle.plain_model.specs.declared.fault.Fault.{Fault}
use Rattle.byte_patterns.specs.Judging.{Denial, under}
use Rattle.edit_laws.specs.Editing.{Remade, with_number}
use Rattle.event_sets.specs.Sets.{Ids}
use Rattle.script_lines.specs.Answering.{◌>>=◌}
use Rattle.script_reader.specs.declared.command.Command.TheVariants as command
use Rattle.script_reader.specs.declared.edit.Edit.{Edit}
use Rattle.selection_eval.specs.Names.{assigned}
use Rattle.history_machine.specs.Changed.{ChangesChosen}
use Rattle.history_machine.specs.Kept.{Each, KeepsHistory}
use Rattle.history_machine.specs.Machine.{Effect}
use Rattle.history_machine.specs.PathWords.{said_path}
use Rattle.history_machine.specs.Sessions.{Repo, Session, Subject, after_assign, after_edit, chosen, edited, ready, remade, unassigned, with_remade, with_repo}
use Rattle.history_machine.specs.Steps.{carried, changes, quiet, step}
use Rattle.history_machine.proofs.Steps.{each_with, found, with_its_subject}

-- ---- an edit

-- what is made of the chosen repository, and what is left then
abbrev pub IsMadeBy : (ℕ → List PlainEvent → Result Remade Fault) → Session → Session → Type 0
IsMadeBy edit s after =
    (repo : Repo) × (made : Remade) × (chosen s ≡ Ok repo) × (edit repo.next repo.history ≡ Ok made)
    × (after ≡ record s { repos = with_repo (with_remade repo made) s.repos })

pub edit_made : (s : Session) (edit : ℕ → List PlainEvent → Result Remade Fault) (t : Effect Session) → changes (after_edit s edit) ≡ Ok t → IsMadeBy edit s t.session
unfolding after_edit
edit_made s edit t h = go (chosen s) refl h
  where
    made_of : (repo : Repo) → chosen s ≡ Ok repo → (r : Result Remade Fault) → edit repo.next repo.history ≡ r
        → changes ((r >>= λ made. Ok (with_remade repo made)) >>= λ new. Ok (record s { repos = with_repo new s.repos })) ≡ Ok t → IsMadeBy edit s t.session
    made_of repo is (Err why) e h = absurd cc
    made_of repo is (Ok made) e h =
        let done : quiet (record s { repos = with_repo (with_remade repo made) s.repos }) ≡ t = cc in
        (repo, made, is, e, ap (λ (u : Effect Session). u.session) (sym done))

    go : (r : Result Repo Fault) → chosen s ≡ r → changes (r >>= λ repo. edited edit repo >>= λ new. Ok (record s { repos = with_repo new s.repos })) ≡ Ok t
        → IsMadeBy edit s t.session
    go (Err why) is h = absurd cc
    go (Ok repo) is h = made_of repo is (edit repo.next repo.history) refl h

-- an edit of selected events
pub chosen_changes : (Changes : Ids → Repo → Remade → Type 0) (denial : Option Denial) (s : Session) (files : Files) (selection : Option Bytes) (what : Edit) (t : Effect Session)
    → step denial s files (command.Edit selection what) ≡ Ok t
    → ((subject : Subject) (repo : Repo) (made : Remade) → under denial (ready s (command.Edit selection what)) ≡ Ok subject → chosen s ≡ Ok repo
    → remade what subject.ids repo.next repo.history ≡ Ok made → Changes subject.ids repo made)
    → ChangesChosen Changes denial s (command.Edit selection what) t.session
unfolding carried
chosen_changes Changes denial s files selection what t h so =
    let done = with_its_subject denial s files (command.Edit selection what) t h in
    let its = edit_made s (remade what done.0.ids) t done.1 in
    record {
      subject = done.0;
      old = its.0;
      made = its.1;
      speaks = done.2;
      is_chosen = its.2;
      changes = so done.0 its.0 its.1 done.2 its.2 its.3;
      rest = its.4;
    }

-- a history that is made, and its number
pub numbered : (next : ℕ) (r : Result (List PlainEvent) Fault) (made : Remade) → with_number next r ≡ Ok made → (r ≡ Ok made.history) × (made.next ≡ next)
numbered next (Err why) made h = absurd cc
numbered next (Ok new) made h =
    let is : ◌≡◌ {A = Remade} (record { history = new; next = next }) made = cc in
    (ap (λ (m : Remade). Ok m.history) is, ap (λ (m : Remade). m.next) (sym is))

-- an edit of a path that a word says
pub with_path : (text : Bytes) (edit : Bytes → Result Remade Fault) (made : Remade) → (said_path text >>= edit) ≡ Ok made
    → (path : Bytes) × (said_path text ≡ Ok path) × (edit path ≡ Ok made)
with_path text edit made h = go (said_path text) refl h
  where
    go : (r : Result Bytes Fault) → said_path text ≡ r → (r >>= edit) ≡ Ok made → (path : Bytes) × (said_path text ≡ Ok path) × (edit path ≡ Ok made)
    go (Ok path) is h = (path, is, h)
    go (Err why) is h = absurd cc

-- ---- an assign

kept : (repo : Repo) → KeepsHistory repo repo
kept repo = record { name = refl; next = refl; history = refl }

pub assign_keeps : (denial : Option Denial) (s : Session) (files : Files) (selection name : Bytes) (t : Effect Session) → step denial s files (command.Assign selection name) ≡ Ok t
    → Each KeepsHistory s.repos t.session.repos
unfolding carried after_assign
assign_keeps denial s files selection name t h =
    let done = with_its_subject denial s files (command.Assign selection name) t h in
    go done.0.ids (chosen s) refl done.1
  where
    named : (ids : Ids) (repo : Repo) → chosen s ≡ Ok repo → (r : Result Bytes Fault)
        → changes (r >>= λ free. Ok (record s { repos = with_repo (record repo { names = repo.names ++ (free, ids) ∷ [] }) s.repos })) ≡ Ok t
        → Each KeepsHistory s.repos t.session.repos
    named ids repo is (Err why) h = absurd cc
    named ids repo is (Ok free) h =
        let new : Repo = record repo { names = repo.names ++ (free, ids) ∷ [] } in
        let done : quiet (record s { repos = with_repo new s.repos }) ≡ t = cc in
        subst (λ (u : Effect Session). Each KeepsHistory s.repos u.session.repos) done
        (each_with KeepsHistory kept repo new (record { name = refl; next = refl; history = refl }) s.repos (found s repo is))

    go : (ids : Ids) (r : Result Repo Fault) → chosen s ≡ r
        → changes (r >>= λ repo. unassigned name (assigned name repo.names) >>= λ free. Ok (record s { repos = with_repo (record repo { names = repo.names ++ (free, ids) ∷ [] }) s.repos })) ≡ Ok t
        → Each KeepsHistory s.repos t.session.repos
    go ids (Err why) is h = absurd cc
    go ids (Ok repo) is h = named ids repo is (unassigned name (assigned name repo.names)) h
