-- What each command does to the load list that keeps trees.
use Rattle.std.proofs.Common.{◌≡◌, ℕ, ℤ, Bool, true, false, List, Option, None, Ok, refl, sym, ap, subst, ◌∙◌}
use Rattle.std.specs.Prelude.{not}
use Rattle.plain_model.specs.declared.policy.Lean.{Lean}
use Rattle.plain_model.specs.declared.policy.Policy.{Policy}
use Rattle.plain_model.specs.declared.policy.Push.{Push}
use Rattle.plain_model.specs.declared.policy.Push.TheVariants as push
use Rattle.plain_model.specs.Files.{Files}
use Rattle.plain_model.specs.Paths.{Bytes}
use Rattle.byte_patterns.specs.Judging.{Denial}
use Rattle.event_fields.specs.Shifts.{PlainZone}
use Rattle.event_fields.specs.Values.{PlainValue}
use Rattle.sample_history.specs.Sample.{sample}
use Rattle.script_reader.specs.declared.command.Command.{Command}
use Rattle.script_reader.specs.declared.command.Command.TheVariants as command
use Rattle.script_reader.specs.declared.command.FileEdit.{FileEdit}
use Rattle.script_reader.specs.declared.edit.Edit.{Edit}
use Rattle.script_reader.specs.declared.edit.Edit.TheVariants as edit
use Rattle.script_reader.specs.declared.options.Reparenting.{Reparenting}
use Rattle.history_machine.specs.Joined.{Grafts, Unites}
use Rattle.history_machine.specs.Kept.{Each, KeepsEveryTree, KeepsHistory, KeepsIdsAndTrees, KeepsTreesOfRest}
use Rattle.history_machine.specs.Lawful.{IsLawful}
use Rattle.history_machine.specs.Machine.{Effect}
use Rattle.history_machine.specs.Sessions.{Repo, Session, after_choose, after_drop, after_drop_chosen, after_read, after_sample, read_repo, repos_text, sample_name, without_repo}
use Rattle.history_machine.specs.Steps.{carried, step}
use Rattle.kept_steps.specs.Keeping.{by_its_edit, edit_keeps_commits, edit_keeps_trees, is_forward, keeps_commits, keeps_trees}
use Rattle.kept_steps.specs.Changing.{Alone, Remains, RemainsWhole}
use Rattle.kept_steps.specs.Changing.Alone.{each_left, none_changes, one_comes, one_goes}
use Rattle.kept_steps.specs.Following.{joins}
use Rattle.kept_steps.specs.Following.Joins.{nothing}
use Rattle.kept_steps.specs.Requests.{IsLoad}
use Rattle.kept_steps.proofs.Left.{Does, arriving, does_alone, each_less, every_whole, history_whole, rest_remains}
use Rattle.kept_steps.proofs.LoadLists.{none_kept}
use Rattle.kept_steps.proofs.Loading.{HasMade, HasRead, choose_does, drop_chosen_does, drop_does, of_changes, of_reports, of_subject, read_does, sample_does}

-- ---- what the laws of single commands say

pub record Laws : Type 0 where
  pub renumbers : (denial : Option Denial) (s : Session) (files : Files) (t : Effect Session) → step denial s files command.Renumber ≡ Ok t → Each KeepsIdsAndTrees s.repos t.session.repos
  pub assigns : (denial : Option Denial) (s : Session) (files : Files) (selection name : Bytes) (t : Effect Session) → step denial s files (command.Assign selection name) ≡ Ok t
      → Each KeepsHistory s.repos t.session.repos
  pub forward : (denial : Option Denial) (s : Session) (files : Files) (selection : Option Bytes) (tags : Lean) (t : Effect Session)
      → step denial s files (command.Edit selection (edit.Squash (record { push = push.Forward; tags = tags }))) ≡ Ok t → IsLawful s → Each KeepsTreesOfRest s.repos t.session.repos
  pub reparents : (denial : Option Denial) (s : Session) (files : Files) (selection : Option Bytes) (use_order : Bool) (t : Effect Session)
      → step denial s files (command.Edit selection (edit.Reparent (record { use_order = use_order; rebase = false }))) ≡ Ok t → IsLawful s → Each KeepsEveryTree s.repos t.session.repos
  pub merges : (denial : Option Denial) (s : Session) (files : Files) (selection : Option Bytes) (t : Effect Session)
      → step denial s files (command.Edit selection edit.Merge) ≡ Ok t → IsLawful s → Each KeepsEveryTree s.repos t.session.repos
  pub unmerges : (denial : Option Denial) (s : Session) (files : Files) (selection : Option Bytes) (t : Effect Session)
      → step denial s files (command.Edit selection edit.Unmerge) ≡ Ok t → IsLawful s → Each KeepsEveryTree s.repos t.session.repos
  pub coalesces : (denial : Option Denial) (s : Session) (files : Files) (selection : Option Bytes) (seconds : ℕ) (t : Effect Session)
      → step denial s files (command.Edit selection (edit.Coalesce seconds)) ≡ Ok t → IsLawful s → Each KeepsTreesOfRest s.repos t.session.repos
  pub simplifies : (denial : Option Denial) (s : Session) (files : Files) (selection : Option Bytes) (t : Effect Session)
      → step denial s files (command.Edit selection edit.Simplify) ≡ Ok t → IsLawful s → Each KeepsEveryTree s.repos t.session.repos
  pub said : (denial : Option Denial) (s : Session) (files : Files) (what : FileEdit) (file : Bytes) (t : Effect Session)
      → step denial s files (command.EditBy what file) ≡ Ok t → Each KeepsEveryTree s.repos t.session.repos
  pub offsets : (denial : Option Denial) (s : Session) (files : Files) (selection : Option Bytes) (seconds : ℤ) (zone : Option PlainZone) (t : Effect Session)
      → step denial s files (command.Edit selection (edit.TimeOffset seconds zone)) ≡ Ok t → Each KeepsEveryTree s.repos t.session.repos
  pub values : (denial : Option Denial) (s : Session) (files : Files) (selection : Option Bytes) (value : PlainValue) (t : Effect Session)
      → step denial s files (command.Edit selection (edit.SetField value)) ≡ Ok t → Each KeepsEveryTree s.repos t.session.repos
  pub grafts : (denial : Option Denial) (s : Session) (files : Files) (selection name : Bytes) (prune : Bool) (t : Effect Session)
      → step denial s files (command.Graft selection name prune) ≡ Ok t → IsLawful s → Grafts prune name s t.session
  pub unites : (denial : Option Denial) (s : Session) (files : Files) (names : List Bytes) (prune : Bool) (t : Effect Session)
      → step denial s files (command.Unite names prune) ≡ Ok t → IsLawful s → Unites prune names s t.session
  pub every_of_all : (old new : List Repo) → Each KeepsIdsAndTrees old new → Each KeepsEveryTree old new

-- what a list of repositories is after a command that keeps trees, where an edit keeps them that passes a test
abbrev pub EditKeeps : (Repo → Repo → Type 0) → (Edit → Bool) → Type 0
EditKeeps Left test =
    (denial : Option Denial) (s : Session) (files : Files) (selection : Option Bytes) (what : Edit) (t : Effect Session) → test what ≡ true → IsLawful s
    → step denial s files (command.Edit selection what) ≡ Ok t → Each Left s.repos t.session.repos

module _ (laws : Laws) where
  -- ---- edits

  whole_edit : EditKeeps RemainsWhole edit_keeps_commits
  whole_edit denial s files selection (edit.Reparent how) t keeps lawful h = go how.rebase refl keeps
    where
      go : (b : Bool) → how.rebase ≡ b → not b ≡ true → Each RemainsWhole s.repos t.session.repos
      go true is kept = absurd cc
      go false is kept =
          let same : how ≡ record { use_order = how.use_order; rebase = false } = λ i. record { use_order = how.use_order; rebase = is i } in
          let done = ap (λ (p : Reparenting). step denial s files (command.Edit selection (edit.Reparent p))) (sym same) ∙ h in
          each_less KeepsEveryTree RemainsWhole every_whole s.repos t.session.repos (laws.reparents denial s files selection how.use_order t done lawful)
  whole_edit denial s files selection edit.Merge t keeps lawful h = each_less KeepsEveryTree RemainsWhole every_whole s.repos t.session.repos (laws.merges denial s files selection t h lawful)
  whole_edit denial s files selection edit.Unmerge t keeps lawful h =
      each_less KeepsEveryTree RemainsWhole every_whole s.repos t.session.repos (laws.unmerges denial s files selection t h lawful)
  whole_edit denial s files selection edit.Simplify t keeps lawful h =
      each_less KeepsEveryTree RemainsWhole every_whole s.repos t.session.repos (laws.simplifies denial s files selection t h lawful)
  whole_edit denial s files selection (edit.TimeOffset seconds zone) t keeps lawful h =
      each_less KeepsEveryTree RemainsWhole every_whole s.repos t.session.repos (laws.offsets denial s files selection seconds zone t h)
  whole_edit denial s files selection (edit.SetField value) t keeps lawful h =
      each_less KeepsEveryTree RemainsWhole every_whole s.repos t.session.repos (laws.values denial s files selection value t h)
  whole_edit denial s files selection edit.Tagify t keeps lawful h = absurd cc
  whole_edit denial s files selection (edit.Squash how) t keeps lawful h = absurd cc
  whole_edit denial s files selection (edit.Coalesce seconds) t keeps lawful h = absurd cc
  whole_edit denial s files selection (edit.SplitAt number) t keeps lawful h = absurd cc
  whole_edit denial s files selection (edit.SplitBy path) t keeps lawful h = absurd cc
  whole_edit denial s files selection edit.Reorder t keeps lawful h = absurd cc
  whole_edit denial s files selection (edit.Add op) t keeps lawful h = absurd cc
  whole_edit denial s files selection (edit.RemoveAt number) t keeps lawful h = absurd cc
  whole_edit denial s files selection (edit.RemoveBy path) t keeps lawful h = absurd cc
  whole_edit denial s files selection (edit.PathRename source target) t keeps lawful h = absurd cc
  whole_edit denial s files selection (edit.PathsSub folder) t keeps lawful h = absurd cc
  whole_edit denial s files selection (edit.PathsSup folder) t keeps lawful h = absurd cc

  whole_rest : (s : Session) (t : Effect Session) → Each RemainsWhole s.repos t.session.repos → Each Remains s.repos t.session.repos
  whole_rest s t h = each_less RemainsWhole Remains (λ old new k. k.rest) s.repos t.session.repos h

  rest_edit : EditKeeps Remains edit_keeps_trees
  rest_edit denial s files selection (edit.Squash how) t keeps lawful h = go how.push refl keeps
    where
      go : (p : Push) → how.push ≡ p → is_forward p ≡ true → Each Remains s.repos t.session.repos
      go push.Forward is forward =
          let same : how ≡ record { push = push.Forward; tags = how.tags } = λ i. record { push = is i; tags = how.tags } in
          let done = ap (λ (p : Policy). step denial s files (command.Edit selection (edit.Squash p))) (sym same) ∙ h in
          each_less KeepsTreesOfRest Remains rest_remains s.repos t.session.repos (laws.forward denial s files selection how.tags t done lawful)
      go push.Back is forward = absurd cc
      go push.Discard is forward = absurd cc
  rest_edit denial s files selection (edit.Coalesce seconds) t keeps lawful h =
      each_less KeepsTreesOfRest Remains rest_remains s.repos t.session.repos (laws.coalesces denial s files selection seconds t h lawful)
  rest_edit denial s files selection (edit.Reparent how) t keeps lawful h = whole_rest s t (whole_edit denial s files selection (edit.Reparent how) t keeps lawful h)
  rest_edit denial s files selection edit.Merge t keeps lawful h = whole_rest s t (whole_edit denial s files selection edit.Merge t keeps lawful h)
  rest_edit denial s files selection edit.Unmerge t keeps lawful h = whole_rest s t (whole_edit denial s files selection edit.Unmerge t keeps lawful h)
  rest_edit denial s files selection edit.Simplify t keeps lawful h = whole_rest s t (whole_edit denial s files selection edit.Simplify t keeps lawful h)
  rest_edit denial s files selection (edit.TimeOffset seconds zone) t keeps lawful h = whole_rest s t (whole_edit denial s files selection (edit.TimeOffset seconds zone) t keeps lawful h)
  rest_edit denial s files selection (edit.SetField value) t keeps lawful h = whole_rest s t (whole_edit denial s files selection (edit.SetField value) t keeps lawful h)
  rest_edit denial s files selection edit.Tagify t keeps lawful h = absurd cc
  rest_edit denial s files selection (edit.SplitAt number) t keeps lawful h = absurd cc
  rest_edit denial s files selection (edit.SplitBy path) t keeps lawful h = absurd cc
  rest_edit denial s files selection edit.Reorder t keeps lawful h = absurd cc
  rest_edit denial s files selection (edit.Add op) t keeps lawful h = absurd cc
  rest_edit denial s files selection (edit.RemoveAt number) t keeps lawful h = absurd cc
  rest_edit denial s files selection (edit.RemoveBy path) t keeps lawful h = absurd cc
  rest_edit denial s files selection (edit.PathRename source target) t keeps lawful h = absurd cc
  rest_edit denial s files selection (edit.PathsSub folder) t keeps lawful h = absurd cc
  rest_edit denial s files selection (edit.PathsSup folder) t keeps lawful h = absurd cc

  -- ---- all commands

  module _ (Left : Repo → Repo → Type 0) (named : (old new : Repo) → Left old new → new.name ≡ old.name) (whole : (old new : Repo) → RemainsWhole old new → Left old new) (edits : Edit → Bool)
      (edit_keeps : EditKeeps Left edits)
    where
      alone : (s : Session) (files : Files) (what : Command) (t : Effect Session) (change : Alone Left s.repos t.session.repos)
          → IsLoad files what (arriving Left named s.repos t.session.repos change) → Does Left files what nothing s t.session
      alone s files what t = does_alone Left named files what s t.session

      every : (s : Session) (t : Effect Session) → Each KeepsEveryTree s.repos t.session.repos → Each Left s.repos t.session.repos
      every s t h = each_less KeepsEveryTree Left (λ old new k. whole old new (every_whole old new k)) s.repos t.session.repos h

      -- a command that keeps trees, and is done
      does : (denial : Option Denial) (s : Session) (files : Files) (what : Command) (t : Effect Session) → by_its_edit edits what ≡ true → IsLawful s → step denial s files what ≡ Ok t
          → Does Left files what (joins what) s t.session
      unfolding carried
      does denial s files (command.Read file name) t keeps lawful h =
          let Holds : Session → Type 0 = HasRead s files file name in
          let its = of_subject Holds denial s files (command.Read file name) t (λ subject. of_changes Holds (after_read s files file name) (read_does s files file name)) h in
          alone s files (command.Read file name) t (one_comes (read_repo name its.0) its.2 its.3) (its.0, its.1, refl)
      does denial s files (command.Sample count start) t keeps lawful h =
          let Holds : Session → Type 0 = HasMade s count start in
          let its = of_subject Holds denial s files (command.Sample count start) t (λ subject. of_changes Holds (after_sample s count start) (sample_does s count start)) h in
          alone s files (command.Sample count start) t (one_comes (read_repo sample_name (sample count start)) its.0 its.1) refl
      does denial s files (command.Drop name) t keeps lawful h =
          let Holds : Session → Type 0 = λ after. after.repos ≡ without_repo name s.repos in
          let its = of_subject Holds denial s files (command.Drop name) t (λ subject. of_changes Holds (after_drop s name) (drop_does s name)) h in
          alone s files (command.Drop name) t (one_goes name its) refl
      does denial s files command.DropChosen t keeps lawful h =
          let Holds : Session → Type 0 = λ after. (name : Bytes) × (after.repos ≡ without_repo name s.repos) in
          let its = of_subject Holds denial s files command.DropChosen t (λ subject. of_changes Holds (after_drop_chosen s) (drop_chosen_does s)) h in
          alone s files command.DropChosen t (one_goes its.0 its.1) refl
      does denial s files (command.Choose name) t keeps lawful h =
          let Holds : Session → Type 0 = λ after. after.repos ≡ s.repos in
          let its = of_subject Holds denial s files (command.Choose name) t (λ subject. of_changes Holds (after_choose s name) (choose_does s name)) h in
          alone s files (command.Choose name) t (none_changes its) refl
      does denial s files (command.Write to) t keeps lawful h =
          alone s files (command.Write to) t (none_changes (of_subject (λ after. after.repos ≡ s.repos) denial s files (command.Write to) t (λ subject. of_reports s to _) h)) refl
      does denial s files command.ShowRepos t keeps lawful h =
          alone s files command.ShowRepos t (none_changes (of_subject (λ after. after.repos ≡ s.repos) denial s files command.ShowRepos t (λ subject. of_reports s None (Ok (repos_text s))) h)) refl
      does denial s files (command.Show selection what to) t keeps lawful h =
          alone s files (command.Show selection what to) t
          (none_changes (of_subject (λ after. after.repos ≡ s.repos) denial s files (command.Show selection what to) t (λ subject. of_reports s to _) h)) refl
      does denial s files (command.Names to) t keeps lawful h =
          alone s files (command.Names to) t (none_changes (of_subject (λ after. after.repos ≡ s.repos) denial s files (command.Names to) t (λ subject. of_reports s to _) h)) refl
      does denial s files (command.Summary to) t keeps lawful h =
          alone s files (command.Summary to) t (none_changes (of_subject (λ after. after.repos ≡ s.repos) denial s files (command.Summary to) t (λ subject. of_reports s to _) h)) refl
      does denial s files command.Renumber t keeps lawful h = alone s files command.Renumber t (each_left (every s t (laws.every_of_all s.repos t.session.repos (laws.renumbers denial s files t h)))) refl
      does denial s files (command.Assign selection name) t keeps lawful h =
          alone s files (command.Assign selection name) t
          (each_left (each_less KeepsHistory Left (λ old new k. whole old new (history_whole old new k)) s.repos t.session.repos (laws.assigns denial s files selection name t h))) refl
      does denial s files (command.Edit selection what) t keeps lawful h =
          alone s files (command.Edit selection what) t (each_left (edit_keeps denial s files selection what t keeps lawful h)) refl
      does denial s files (command.EditBy what file) t keeps lawful h = alone s files (command.EditBy what file) t (each_left (every s t (laws.said denial s files what file t h))) refl
      does denial s files (command.Expunge words) t keeps lawful h = absurd cc
      does denial s files (command.Graft selection name prune) t keeps lawful h =
          (subst (λ (b : Bool). Grafts b name s t.session) keeps (laws.grafts denial s files selection name prune t h lawful), none_kept t.session.repos)
      does denial s files (command.Unite names prune) t keeps lawful h =
          (subst (λ (b : Bool). Unites b names s t.session) keeps (laws.unites denial s files names prune t h lawful), none_kept t.session.repos)
      does denial s files (command.Divide selection) t keeps lawful h = absurd cc

  pub does_trees : (denial : Option Denial) (s : Session) (files : Files) (what : Command) (t : Effect Session) → keeps_trees what ≡ true → IsLawful s → step denial s files what ≡ Ok t
      → Does Remains files what (joins what) s t.session
  does_trees = does Remains (λ old new k. k.name) (λ old new k. k.rest) edit_keeps_trees rest_edit

  pub does_commits : (denial : Option Denial) (s : Session) (files : Files) (what : Command) (t : Effect Session) → keeps_commits what ≡ true → IsLawful s → step denial s files what ≡ Ok t
      → Does RemainsWhole files what (joins what) s t.session
  does_commits = does RemainsWhole (λ old new k. k.rest.name) (λ old new k. k) edit_keeps_commits whole_edit
