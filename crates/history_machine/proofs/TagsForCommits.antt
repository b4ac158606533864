-- What a `tagify` keeps of each repository.
use Rattle.std.proofs.Common.{◌≡◌, ℕ, Option, Result, Ok, Err, refl, subst}
use Rattle.plain_model.specs.Files.{Files}
use Rattle.plain_model.specs.Paths.{Bytes}
use Rattle.plain_model.specs.declared.fault.Fault.{Fault}
use Rattle.plain_model.specs.Snapshots.{shown_tree}
use Rattle.plain_model.specs.Soundness.{IsCommitOf}
use Rattle.byte_patterns.specs.Judging.{Denial, under}
use Rattle.edit_laws.specs.Editing.{Remade}
use Rattle.script_lines.specs.Answering.{◌>>=◌}
use Rattle.script_reader.specs.declared.command.Command.TheVariants as command
use Rattle.script_reader.specs.declared.edit.Edit.{Edit}
use Rattle.history_machine.specs.Kept.{Each, KeepsTreesOfCommits}
use Rattle.history_machine.specs.Machine.{Effect}
use Rattle.history_machine.specs.Sessions.{Repo, Session, Subject, after_edit, chosen, edited, ready, remade, with_remade}
use Rattle.history_machine.specs.Steps.{carried, step}
use Rattle.history_machine.proofs.Steps.{edit_keeps, with_its_subject}

there_still : (repo : Repo) → KeepsTreesOfCommits repo repo
there_still repo = record { name = refl; commits = λ c there. there; trees = λ c there. refl }

-- an edit that is done, each of whose commits was there, with the tree that it has
pub commits_keep : (denial : Option Denial) (s : Session) (files : Files) (selection : Option Bytes) (what : Edit) (t : Effect Session)
    → step denial s files (command.Edit selection what) ≡ Ok t
    → ((subject : Subject) (repo : Repo) (made : Remade) → under denial (ready s (command.Edit selection what)) ≡ Ok subject → chosen s ≡ Ok repo
    → remade what subject.ids repo.next repo.history ≡ Ok made → (c : ℕ) → IsCommitOf made.history c
    → IsCommitOf repo.history c × (shown_tree made.history c ≡ shown_tree repo.history c))
    → Each KeepsTreesOfCommits s.repos t.session.repos
unfolding carried after_edit
commits_keep denial s files selection what t h keeps =
    let done = with_its_subject denial s files (command.Edit selection what) t h in
    edit_keeps KeepsTreesOfCommits there_still s (edited (remade what done.0.ids)) t (λ repo new is e. go done.0 done.2 repo new is (remade what done.0.ids repo.next repo.history) refl e) done.1
  where
    go : (subject : Subject) → under denial (ready s (command.Edit selection what)) ≡ Ok subject → (repo new : Repo) → chosen s ≡ Ok repo
        → (r : Result Remade Fault) → remade what subject.ids repo.next repo.history ≡ r → (r >>= λ made. Ok (with_remade repo made)) ≡ Ok new
        → (new.name ≡ repo.name) × KeepsTreesOfCommits repo new
    go subject speaks repo new is (Err why) made_is e = absurd cc
    go subject speaks repo new is (Ok made) made_is e =
        let same : with_remade repo made ≡ new = cc in
        let each = keeps subject repo made speaks is made_is in
        subst (λ (q : Repo). (q.name ≡ repo.name) × KeepsTreesOfCommits repo q) same
        (refl, record { name = refl; commits = λ c there. (each c there).0; trees = λ c there. (each c there).1 })
