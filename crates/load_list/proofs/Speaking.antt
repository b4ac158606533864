-- The events of which a command speaks are of the chosen repository, each once.
use Rattle.std.proofs.Common.{◌≡◌, ℕ, List, Result, Ok, Err, subst}
use Rattle.std.specs.Prelude.{IfOk}
use Rattle.std.specs.Result.{IsErrAnd}
use Rattle.plain_model.specs.Paths.{Bytes}
use Rattle.plain_model.specs.declared.event.PlainEvent.{PlainEvent}
use Rattle.plain_model.specs.declared.fault.Halt.{Halt}
use Rattle.byte_patterns.specs.Judging.{Judged, Judges, plainly}
use Rattle.byte_patterns.proofs.Judged.{one_by_one, passed_on, stopped}
use Rattle.event_sets.specs.Once.{AreLive, IsOnce}
use Rattle.event_sets.specs.Sets.{Ids}
use Rattle.selection_eval.specs.Given.{GivesLive, GivesOnce}
use Rattle.selection_parser.specs.Reading.{selection_at}
use Rattle.expunge_laws.specs.Matching.{Matches}
use Rattle.history_machine.specs.PathWords.{matches_of}
use Rattle.macro_lines.specs.Macros.{Macro}
use Rattle.history_machine.specs.Sessions.{Repo, Subject, chosen, in_scope, of_events, of_paths, said_paths, selected, stands_for}
use Rattle.load_list.specs.Lists.{LoadList, chosen_in, selected_in, session_of}

-- ---- what a selection stands for

module _ (before now : ℕ) (judged : Judged Ids) where
  pub judged_once : (r : Result Ids Halt) → Judges {X = Ids} (λ ids. ids) before now r judged → GivesOnce judged.value → IfOk r IsOnce
  judged_once (Ok ids) is once = subst GivesOnce is once
  judged_once (Err why) is once = tt

  pub judged_live : (events : List PlainEvent) (r : Result Ids Halt) → Judges {X = Ids} (λ ids. ids) before now r judged → GivesLive events judged.value → IfOk r (AreLive events)
  judged_live events (Ok ids) is lives = subst (GivesLive events) is lives
  judged_live events (Err why) is lives = tt

-- ---- what is refused

module _ (before now : ℕ) (list : LoadList) (macros : List Macro) (ended : Halt) (r : Result Subject Halt) (is : IsErrAnd r (λ e. e ≡ ended)) where
  -- a selection
  pub events_refused : (text : Bytes) → Judges {X = Ids} (λ ids. ids) before now (Err ended) (selected_in text list)
      → Judges {X = Subject} (λ subject. subject) before now r (in_scope (session_of list macros) (selected text))
  unfolding chosen
  events_refused text h =
      passed_on (λ subject. subject) before now ended r (in_scope (session_of list macros) (selected text)) is
      (subst (Judges {X = Subject} (λ subject. subject) before now (Err ended))
      (one_by_one (plainly (chosen_in list)) (λ repo. stands_for repo (selection_at text)) (λ ids. plainly (Ok (of_events ids))))
      (stopped (λ ids. ids) (λ subject. subject) before now ended (selected_in text list) (λ ids. plainly (Ok (of_events ids))) h))

  -- a word of an expunge
  pub paths_refused : (repo : Repo) (words : List Bytes) → chosen_in list ≡ Ok repo → Judges {X = List Matches} (λ matchers. matchers) before now (Err ended) (matches_of words)
      → Judges {X = Subject} (λ subject. subject) before now r (in_scope (session_of list macros) (said_paths words))
  unfolding chosen
  paths_refused repo words chosen_is h =
      passed_on (λ subject. subject) before now ended r (in_scope (session_of list macros) (said_paths words)) is
      (rw chosen_is (stopped (λ matchers. matchers) (λ subject. subject) before now ended (matches_of words) (λ matchers. plainly (Ok (of_paths matchers))) h))
