-- Each command leaves a lawful session, where what other crates say of histories holds.
use Rattle.std.proofs.Common.{◌≡◌, ◌∙◌, ℕ, ◌+◌, Bool, true, false, List, [], ◌∷◌, ◌++◌, length, take, Option, Some, None, Result, Ok, Err, refl, ap, subst, nat_lt}
use Rattle.std.specs.Prelude.{IsTrue, if◌then◌else◌}
use Rattle.std.specs.FinMap.{get}
use Rattle.plain_model.specs.declared.event.PlainEvent.{PlainEvent}
use Rattle.plain_model.specs.declared.fault.Fault.{Fault}
use Rattle.plain_model.specs.declared.fault.Fault.TheVariants as fault
use Rattle.plain_model.specs.declared.limit.TheConstants.{MAX_STREAM_BYTES}
use Rattle.plain_model.specs.Files.{Files}
use Rattle.plain_model.specs.Paths.{Bytes}
use Rattle.plain_model.specs.Soundness.{IsSound}
use Rattle.line_automaton.specs.Machine.{all, begun, run}
use Rattle.stream_grammar.specs.Limits.{stream_of, stream_within}
use Rattle.edit_laws.specs.Editing.{IsEdit, IsLawfulHistory, with_number}
use Rattle.expunge_laws.specs.Matching.{Matches}
use Rattle.renumbering.specs.Renumbered.{renumbered}
use Rattle.byte_patterns.specs.Judging.{Denial, under}
use Rattle.event_sets.specs.Once.{IsOnce}
use Rattle.event_sets.specs.Sets.{Ids}
use Rattle.selection_eval.specs.Denoted.{denote}
use Rattle.selection_eval.specs.Given.{AreNamesOnce, AreTipsLive, GivesLive, GivesOnce, HaveOwnIds}
use Rattle.selection_eval.specs.Names.{Names, assigned}
use Rattle.selection_parser.specs.Plain.{PlainSelection}
use Rattle.sample_history.specs.Sample.{sample}
use Rattle.surgeon_store.specs.WholeFiles.{file_within}
use Rattle.script_lines.specs.Answering.{◌>>=◌}
use Rattle.script_reader.specs.Commands.{IsSpelledCommand, order_of}
use Rattle.script_reader.specs.Edits.{IsSpelledEdit}
use Rattle.macro_lines.specs.Macros.{called}
use Rattle.script_lines.specs.Names.{is_repo_name}
use Rattle.script_reader.specs.declared.command.Command.{Command}
use Rattle.script_reader.specs.declared.command.FileEdit.{FileEdit}
use Rattle.script_reader.specs.declared.command.Command.TheVariants as command
use Rattle.script_reader.specs.declared.command.Order.{Order}
use Rattle.script_reader.specs.declared.command.Order.TheVariants as order
use Rattle.script_reader.specs.declared.edit.Edit.{Edit}
use Rattle.script_lines.specs.declared.script.ScriptLine.{ScriptLine}
use Rattle.script_lines.specs.declared.script.ScriptLine.TheVariants.{Define, Plain}
use Rattle.history_machine.specs.Lawful.{IsLawful, IsLawfulRepo}
use Rattle.history_machine.specs.Loading.{loaded, over, read_of}
use Rattle.history_machine.specs.Machine.{Effect}
use Rattle.history_machine.specs.Sessions.{Repo, Session, Subject, after_assign, after_choose, after_drop, after_drop_chosen, after_edit, after_edit_by, after_read, after_renumber, after_sample, chosen, find_repo, ready, remade, room, said_by, sample_name, there, unassigned, unless, unused, with_repo, without_paths, without_repo}
use Rattle.history_machine.specs.Steps.{calling, carried, line_step, ordered, step}
use Rattle.history_machine.proofs.LoadList.{changed_well, chosen_well, forgotten_well}
use Rattle.history_machine.proofs.Ready.{LiveIn, chosen_lawful, ready_live, ready_once}
use Rattle.history_machine.proofs.Selections.{names_more}
use Rattle.history_machine.proofs.Lawful.{ChangesWell, GoesWell, changes_well, edit_well, is_there, new_well, no_selection, reports_well, spelled_bytes, well_after, with_read}
use Rattle.history_machine.proofs.Several.{divided_well, joined_well, united_well}
use Rattle.history_machine.specs.Several.{IsDivision, IsJoining, IsUniting, after_dividing, after_joining, after_uniting, grafted_with, halves_of, united_of}

-- ---- what the laws of other crates say

pub record Laws : Type 0 where
  pub read : (bytes : List ℕ) (events : List PlainEvent) → stream_of bytes ≡ Ok events → IsLawfulHistory events
  pub sampled : (count start : ℕ) → IsLawfulHistory (sample count start)
  pub own_ids : (events : List PlainEvent) → IsSound events → HaveOwnIds events
  pub tips : (events : List PlainEvent) → IsSound events → AreTipsLive events
  pub once : (events : List PlainEvent) → HaveOwnIds events → (names : Names) → AreNamesOnce names
      → (selection : PlainSelection) → GivesOnce (denote selection events names).value
  pub live : (events : List PlainEvent) → AreTipsLive events → (names : Names) → (selection : PlainSelection) → GivesLive events (denote selection events names).value
  pub edits : (what : Edit) → IsSpelledEdit what → IsEdit (λ set next events. remade what set next events)
  pub expunges : (matchers : List Matches) → IsEdit (λ set next events. without_paths matchers next events)
  pub renumbers : IsEdit (λ set next events. with_number next (Ok (renumbered events)))
  pub said : (what : FileEdit) (bytes : Bytes) → IsEdit (λ set next events. said_by what bytes next events)
  pub grafts : (prune : Bool) → IsJoining (grafted_with prune)
  pub unites : (prune : Bool) → IsUniting (united_of prune)
  pub divides : (ids : Ids) → IsDivision (halves_of ids)
  pub spelled : (line : Bytes) (what : Command) → order_of line ≡ Ok (order.Step what) → IsSpelledCommand what

module _ (laws : Laws) where
  -- ---- the commands

  read_lawful : (name : Bytes) (file : Option Bytes) (events : List PlainEvent) → read_of name file ≡ Ok events → IsLawfulHistory events
  read_lawful name None events h = absurd cc
  read_lawful name (Some bytes) events h = go (nat_lt MAX_STREAM_BYTES (length bytes)) h
    where
      go : (b : Bool) → (if b then Err (over name (run stream_within all (begun stream_within) (take MAX_STREAM_BYTES bytes))) else stream_of bytes) ≡ Ok events → IsLawfulHistory events
      go true h = absurd cc
      go false h = laws.read bytes events h

  loaded_lawful : (files : Files) (file : Bytes) (events : List PlainEvent) → loaded files file ≡ Ok events → IsLawfulHistory events
  unfolding loaded
  loaded_lawful files file events h = read_lawful file (get files file) events h

  read_well : (s : Session) (files : Files) (file name : Bytes) → IsLawful s → IsTrue (is_repo_name name) → ChangesWell (after_read s files file name)
  unfolding after_read
  read_well s files file name h fits =
      well_after (room s.repos) (λ repos. unused name (find_repo name repos) >>= λ free. loaded files file >>= λ history. Ok (with_read s repos free history)) (λ repos roomy.
      well_after (unused name (find_repo name repos)) (λ free. loaded files file >>= λ history. Ok (with_read s repos free history)) (λ free is_free.
      well_after (loaded files file) (λ history. Ok (with_read s repos free history)) (λ history is_read.
      new_well s repos name free history roomy is_free h (spelled_bytes name fits) (loaded_lawful files file history is_read))))

  sample_well : (s : Session) (count start : ℕ) → IsLawful s → ChangesWell (after_sample s count start)
  unfolding after_sample
  sample_well s count start h =
      well_after (room s.repos) (λ repos. unused sample_name (find_repo sample_name repos) >>= λ free. Ok (with_read s repos free (sample count start))) (λ repos roomy.
      well_after (unused sample_name (find_repo sample_name repos)) (λ free. Ok (with_read s repos free (sample count start))) (λ free is_free.
      new_well s repos sample_name free (sample count start) roomy is_free h refl (laws.sampled count start)))

  choose_well : (s : Session) (name : Bytes) → IsLawful s → ChangesWell (after_choose s name)
  unfolding after_choose
  choose_well s name h =
      well_after (there name (find_repo name s.repos)) (λ repo. Ok (record s { choice = Some name })) (λ repo is.
      chosen_well s name repo h (is_there name repo (find_repo name s.repos) is))

  drop_well : (s : Session) (name : Bytes) → IsLawful s → ChangesWell (after_drop s name)
  unfolding after_drop
  drop_well s name h =
      well_after (there name (find_repo name s.repos)) (λ repo. Ok (record s { repos = without_repo name s.repos; choice = unless name s.choice })) (λ repo is.
      forgotten_well s name h)

  drop_chosen_well : (s : Session) → IsLawful s → ChangesWell (after_drop_chosen s)
  unfolding after_drop_chosen
  drop_chosen_well s h = well_after (chosen s) (λ repo. after_drop s repo.name) (λ repo is. drop_well s repo.name h)

  abbrev with_marks : Repo → Repo
  with_marks repo = record repo { history = renumbered repo.history }

  marks_well : (repo : Repo) → IsLawfulRepo repo → IsLawfulRepo (with_marks repo)
  marks_well repo h =
      let left = laws.renumbers [] repo.next repo.history h.history h.spent (no_selection repo.history) in
      record { name = h.name; history = left.0; names = h.names; spent = left.1 }

  renumber_well : (s : Session) → IsLawful s → ChangesWell (after_renumber s)
  unfolding after_renumber
  renumber_well s h =
      well_after (chosen s) (λ repo. Ok (record s { repos = with_repo (with_marks repo) s.repos }))
      (λ repo is. changed_well s (with_marks repo) h (marks_well repo (chosen_lawful s repo is h)))

  abbrev with_name : Repo → Bytes → Ids → Repo
  with_name repo name ids = record repo { names = repo.names ++ (name, ids) ∷ [] }

  assign_well : (s : Session) (ids : Ids) (name : Bytes) → IsLawful s → IsOnce ids → ChangesWell (after_assign s ids name)
  unfolding after_assign
  assign_well s ids name h k =
      well_after (chosen s) (λ repo. unassigned name (assigned name repo.names) >>= λ free. Ok (record s { repos = with_repo (with_name repo free ids) s.repos })) (λ repo is.
      well_after (unassigned name (assigned name repo.names)) (λ free. Ok (record s { repos = with_repo (with_name repo free ids) s.repos })) (λ free is_free.
      let was = chosen_lawful s repo is h in
      changed_well s (with_name repo free ids) h (record { name = was.name; history = was.history; names = names_more repo.names free ids was.names k; spent = was.spent })))

  said_well : (s : Session) (files : Files) (what : FileEdit) (file : Bytes) (ids : Ids) → IsLawful s → IsOnce ids → LiveIn s ids → ChangesWell (after_edit_by s files what file)
  unfolding after_edit_by
  said_well s files what file ids h k lives =
      well_after (chosen s) (λ repo. file_within files file MAX_STREAM_BYTES >>= λ bytes. after_edit s (said_by what bytes)) (λ repo is.
      well_after (file_within files file MAX_STREAM_BYTES) (λ bytes. after_edit s (said_by what bytes)) (λ bytes found.
      edit_well s (λ ids. said_by what bytes) ids (laws.said what bytes) h k lives))

  carried_well : (s : Session) (files : Files) (subject : Subject) (what : Command) → IsLawful s → IsSpelledCommand what → IsOnce subject.ids → LiveIn s subject.ids → GoesWell (carried s files subject what)
  unfolding carried
  carried_well s files subject (command.Read file name) h fits k lives = changes_well (after_read s files file name) (read_well s files file name h fits)
  carried_well s files subject (command.Write to) h fits k lives = reports_well s to _ h
  carried_well s files subject (command.Choose name) h fits k lives = changes_well (after_choose s name) (choose_well s name h)
  carried_well s files subject command.ShowRepos h fits k lives = h
  carried_well s files subject (command.Drop name) h fits k lives = changes_well (after_drop s name) (drop_well s name h)
  carried_well s files subject command.DropChosen h fits k lives = changes_well (after_drop_chosen s) (drop_chosen_well s h)
  carried_well s files subject command.Renumber h fits k lives = changes_well (after_renumber s) (renumber_well s h)
  carried_well s files subject (command.Show selection what to) h fits k lives = reports_well s to _ h
  carried_well s files subject (command.Assign selection name) h fits k lives = changes_well (after_assign s subject.ids name) (assign_well s subject.ids name h k)
  carried_well s files subject (command.Edit selection what) h fits k lives =
      changes_well (after_edit s (remade what subject.ids)) (edit_well s (remade what) subject.ids (laws.edits what fits) h k lives)
  carried_well s files subject (command.Expunge words) h fits k lives =
      changes_well (after_edit s (without_paths subject.matchers)) (edit_well s (λ ids. without_paths subject.matchers) subject.ids (laws.expunges subject.matchers) h k lives)
  carried_well s files subject (command.EditBy what file) h fits k lives = changes_well (after_edit_by s files what file) (said_well s files what file subject.ids h k lives)
  carried_well s files subject (command.Graft selection name prune) h fits k lives =
      changes_well (after_joining s name (λ part. grafted_with prune part subject.ids)) (joined_well s name (grafted_with prune) subject.ids (laws.grafts prune) h k lives)
  carried_well s files subject (command.Unite names prune) h fits k lives = changes_well (after_uniting s names (united_of prune)) (united_well s names (united_of prune) (laws.unites prune) h)
  carried_well s files subject (command.Divide selection) h fits k lives =
      changes_well (after_dividing s (halves_of subject.ids)) (divided_well s (halves_of subject.ids) (laws.divides subject.ids) h)
  carried_well s files subject (command.Sample count start) h fits k lives = changes_well (after_sample s count start) (sample_well s count start h)
  carried_well s files subject (command.Names to) h fits k lives = reports_well s to _ h
  carried_well s files subject (command.Summary to) h fits k lives = reports_well s to _ h

  step_well : (denial : Option Denial) (s : Session) (files : Files) (what : Command) → IsLawful s → IsSpelledCommand what → GoesWell (step denial s files what)
  unfolding step
  step_well denial s files what h fits = go (under denial (ready s what)) refl
    where
      go : (r : Result Subject Fault) → under denial (ready s what) ≡ r → GoesWell (r >>= λ subject. carried s files subject what)
      go (Ok subject) is = carried_well s files subject what h fits (ready_once laws.own_ids laws.once denial s what subject h is) (ready_live laws.live laws.tips denial s what subject h is)
      go (Err why) is = tt

  ordered_well : (denial : Option Denial) (s : Session) (files : Files) (depth : ℕ) (what : Order) → IsLawful s
      → ((step : Command) → what ≡ order.Step step → IsSpelledCommand step) → GoesWell (ordered denial s files depth what)
  ordered_well denial s files depth (order.Step what) h fits = step_well denial s files what h (fits what refl)
  ordered_well denial s files depth (order.Do call) h fits = go (called s.macros call (depth + 1))
    where
      go : (r : Result (List Bytes) Fault) → GoesWell (r >>= λ lines. Ok (calling s lines))
      go (Ok lines) = h
      go (Err why) = tt

  line_well : (denial : Option Denial) (s : Session) (files : Files) (depth : ℕ) (what : ScriptLine) → IsLawful s → GoesWell (line_step denial s files depth what)
  unfolding line_step
  line_well denial s files depth (Define name body) h = record { repos = h.repos; names = h.names }
  line_well denial s files depth (Plain text) h = go (order_of text) refl
    where
      go : (r : Result Order Fault) → order_of text ≡ r → GoesWell (r >>= ordered denial s files depth)
      go (Ok what) is = ordered_well denial s files depth what h (λ step e. laws.spelled text step (is ∙ ap Ok e))
      go (Err why) is = tt

  pub step_keeps : (denial : Option Denial) (s : Session) (files : Files) (what : Command) (t : Effect Session) → step denial s files what ≡ Ok t → IsLawful s → IsSpelledCommand what
      → IsLawful t.session
  step_keeps denial s files what t is h fits = subst GoesWell is (step_well denial s files what h fits)

  pub line_keeps : (denial : Option Denial) (s : Session) (files : Files) (depth : ℕ) (what : ScriptLine) (t : Effect Session) → line_step denial s files depth what ≡ Ok t
      → IsLawful s → IsLawful t.session
  line_keeps denial s files depth what t is h = subst GoesWell is (line_well denial s files depth what h)
