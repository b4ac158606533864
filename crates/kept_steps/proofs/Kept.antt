-- The laws of lists of commands and of runs, from those of single commands.
use Rattle.std.proofs.Common.{◌≡◌, ◌∙◌, ℕ, Bool, true, List, [], ◌∷◌, Option, Some, None, Ok, refl, sym, ap, subst, take}
use Rattle.std.proofs.lemmas.Option.{none-some}
use Rattle.std.specs.Prelude.{IfSome, IsTrue}
use Rattle.std.specs.List.{AllByRecursion}
use Rattle.plain_model.specs.Files.{Files}
use Rattle.plain_model.specs.Paths.{Bytes}
use Rattle.plain_model.specs.Snapshots.{shown_tree}
use Rattle.history_laws.proofs.Lists.{all_imply}
use Rattle.byte_patterns.specs.Judging.{Denial}
use Rattle.script_lines.specs.declared.script.ScriptItem.{ScriptItem}
use Rattle.script_lines.specs.declared.script.ScriptLine.{ScriptLine}
use Rattle.script_reader.specs.Commands.{IsSpelledCommand}
use Rattle.script_reader.specs.declared.command.Command.{Command}
use Rattle.history_machine.specs.Lawful.{IsLawful}
use Rattle.history_machine.specs.Machine.{Effect, session_after}
use Rattle.history_machine.specs.Sessions.{Repo, Session, empty_session, find_repo}
use Rattle.history_machine.specs.Steps.{line_step, step}
use Rattle.history_machine.specs.Whole.{Denials, run, run_from}
use Rattle.history_machine.proofs.Steps.{own_name}
use Rattle.kept_steps.specs.Changing.{Alone, Changes, Remains, RemainsWhole}
use Rattle.kept_steps.specs.Changing.Alone.{each_left, none_changes, one_comes, one_goes}
use Rattle.kept_steps.specs.Following.{Joins, is_nothing, joins, joins_nothing}
use Rattle.kept_steps.specs.Following.Joins.{nothing, takes_in, unites}
use Rattle.kept_steps.specs.Keeping.{keeps_commits, keeps_trees, line_passes}
use Rattle.kept_steps.specs.Origins.{IsKept, Held, IsAlone, IsWhole, KeepsOrigins, Origin, Origins, Step, held, held_after, held_by, held_from, origins, origins_after, origins_by, origins_from, own, themselves}
use Rattle.kept_steps.specs.Requests.{Request, after_requests, steps_by, steps_of}
use Rattle.kept_steps.proofs.Holding.{IsHeldIn, held_refused, held_then, itself_whole}
use Rattle.kept_steps.proofs.Left.{each_less}
use Rattle.kept_steps.proofs.LoadLists.{IsFound, for_all}
use Rattle.kept_steps.proofs.Runs.{AllPass, AreSteps, IsDone, all_lines_pass, effects_end, last, lines_any, lines_pass, part_is, requests_any, requests_are, requests_end, requests_pass, run_is, script_is}
use Rattle.kept_steps.proofs.Runs.IsDone.{command_done, not_asked, not_done}
use Rattle.kept_steps.proofs.Sources.{event, itself_at, new_self, old_same}
use Rattle.kept_steps.proofs.Traced.{AllKept, itself_kept, trees_after, trees_refused}

-- ---- what is known along some steps

-- what commands that pass do to the load list
abbrev DoEach : (Repo → Repo → Type 0) → (Command → Bool) → Type 0
DoEach Left test =
    (denial : Option Denial) (s : Session) (files : Files) (what : Command) (t : Effect Session) → step denial s files what ≡ Ok t → IsLawful s → IsTrue (test what)
    → Changes Left s (joins what) t.session

-- where all commits are left, each has its tree
alone_less : (before after : List Repo) → Alone RemainsWhole before after → Alone Remains before after
alone_less before after (one_comes new free is) = one_comes new free is
alone_less before after (one_goes name is) = one_goes name is
alone_less before after (each_left each) = each_left (each_less RemainsWhole Remains (λ old new k. k.rest) before after each)
alone_less before after (none_changes is) = none_changes is

changes_less : (s : Session) (how : Joins) (after : Session) → Changes RemainsWhole s how after → Changes Remains s how after
changes_less s nothing after change = alone_less s.repos after.repos change
changes_less s (takes_in name) after change = change
changes_less s (unites names) after change = change

module _ (test : Command → Bool) (change_of : DoEach Remains test) where
  trees_by : (so_far : Origins) (s : Session) (one : Step) → IsLawful s → IsDone test s one → AllKept so_far s.repos → AllKept (origins_by so_far s one.what one.after) one.after.repos
  trees_by so_far s one lawful (not_done same) kept = go one.what
    where
      go : (o : Option Command) → AllKept (origins_by so_far s o one.after) one.after.repos
      go (Some what) = subst (λ (t : Session). AllKept (origins_after so_far s (joins what) one.after) t.repos) (sym same) (trees_refused so_far s one.after lawful (joins what) kept)
      go None = subst (λ (t : Session). AllKept so_far t.repos) (sym same) kept
  trees_by so_far s one lawful (not_asked is same) kept =
      subst (λ (o : Option Command). AllKept (origins_by so_far s o one.after) one.after.repos) (sym is) (subst (AllKept so_far) (sym same) kept)
  trees_by so_far s one lawful (command_done c) kept =
      let change = change_of c.denial s c.files c.what c.effect c.done lawful c.passes in
      subst (λ (o : Option Command). AllKept (origins_by so_far s o one.after) one.after.repos) (sym c.is)
      (subst (λ (t : Session). AllKept (origins_after so_far s (joins c.what) t) t.repos) (sym c.after) (trees_after so_far s c.effect.session lawful (joins c.what) change kept))

  trees_along : (so_far : Origins) (s : Session) (steps : List Step) → IsLawful s → AreSteps test s steps → AllKept so_far s.repos → AllKept (origins so_far s steps) (last s steps).repos
  trees_along so_far s [] lawful are kept = kept
  trees_along so_far s (one ∷ others) lawful are kept =
      trees_along (origins_by so_far s one.what one.after) one.after others are.1 are.2 (trees_by so_far s one lawful are.0 kept)

-- what is known of one command
pub record Given : Type 0 where
  pub trees : DoEach Remains keeps_trees
  pub commits : DoEach RemainsWhole keeps_commits
  pub step_lawful : (denial : Option Denial) (s : Session) (files : Files) (what : Command) (t : Effect Session) → step denial s files what ≡ Ok t → IsLawful s → IsSpelledCommand what
      → IsLawful t.session
  pub line_lawful : (denial : Option Denial) (s : Session) (files : Files) (depth : ℕ) (what : ScriptLine) (t : Effect Session) → line_step denial s files depth what ≡ Ok t → IsLawful s
      → IsLawful t.session

module _ (laws : Given) where
  held_at : (so_far : Origins) (held_so_far : List Held) (s : Session) (one : Step) → IsLawful s → IsDone keeps_commits s one → AllByRecursion (IsHeldIn so_far s.repos) held_so_far
      → AllByRecursion (IsHeldIn (origins_by so_far s one.what one.after) one.after.repos) (held_by held_so_far s one.what one.after)
  held_at so_far held_so_far s one lawful (not_done same) h = go one.what
    where
      go : (o : Option Command) → AllByRecursion (IsHeldIn (origins_by so_far s o one.after) one.after.repos) (held_by held_so_far s o one.after)
      go (Some what) =
          subst (λ (t : Session). AllByRecursion (IsHeldIn (origins_after so_far s (joins what) t) t.repos) (held_after held_so_far s (joins what) t)) (sym same)
          (held_refused so_far s lawful (joins what) held_so_far h)
      go None = subst (λ (t : Session). AllByRecursion (IsHeldIn so_far t.repos) held_so_far) (sym same) h
  held_at so_far held_so_far s one lawful (not_asked is same) h =
      subst (λ (o : Option Command). AllByRecursion (IsHeldIn (origins_by so_far s o one.after) one.after.repos) (held_by held_so_far s o one.after)) (sym is)
      (subst (λ (repos : List Repo). AllByRecursion (IsHeldIn so_far repos) held_so_far) (sym same) h)
  held_at so_far held_so_far s one lawful (command_done c) h =
      let change = laws.commits c.denial s c.files c.what c.effect c.done lawful c.passes in
      subst (λ (o : Option Command). AllByRecursion (IsHeldIn (origins_by so_far s o one.after) one.after.repos) (held_by held_so_far s o one.after)) (sym c.is)
      (subst (λ (t : Session). AllByRecursion (IsHeldIn (origins_after so_far s (joins c.what) t) t.repos) (held_after held_so_far s (joins c.what) t)) (sym c.after)
      (held_then so_far s c.effect.session lawful (joins c.what) change held_so_far h))

  held_along : (so_far : Origins) (held_so_far : List Held) (s : Session) (steps : List Step) → IsLawful s → AreSteps keeps_commits s steps → AllByRecursion (IsHeldIn so_far s.repos) held_so_far
      → AllByRecursion (IsHeldIn (origins so_far s steps) (last s steps).repos) (held held_so_far s steps)
  held_along so_far held_so_far s [] lawful are h = h
  held_along so_far held_so_far s (one ∷ others) lawful are h =
      held_along (origins_by so_far s one.what one.after) (held_by held_so_far s one.what one.after) one.after others are.1 are.2 (held_at so_far held_so_far s one lawful are.0 h)

last_lawful : (test : Command → Bool) (s : Session) (steps : List Step) → IsLawful s → AreSteps test s steps → IsLawful (last s steps)
last_lawful test s [] lawful are = lawful
last_lawful test s (one ∷ others) lawful are = last_lawful test one.after others are.1 are.2

-- ---- names and ids

-- each event of a repository is that of one which came, by the same number
abbrev AllAlone : Origins → List Repo → Type 0
AllAlone origins_of repos = (n : Bytes) (r : Repo) → IsFound repos n r → (came : Repo) × (came.name ≡ n) × ((k : ℕ) → origins_of (event n k) ≡ record { came = came; number = k })

alone_then : (so_far : Origins) (s after : Session) → AllAlone so_far s.repos → AllAlone (origins_after so_far s nothing after) after.repos
alone_then so_far s after h n r here = go (find_repo n s.repos) refl
  where
    go : (o : Option Repo) → find_repo n s.repos ≡ o → (came : Repo) × (came.name ≡ n) × ((k : ℕ) → origins_after so_far s nothing after (event n k) ≡ record { came = came; number = k })
    go (Some old) is = let its = h n old is in (its.0, its.1, λ k. old_same so_far s after n old is k ∙ its.2 k)
    go None is = (r, sym (own_name n after.repos r here), new_self so_far s after n r is here)

is_alone : (how : Joins) → is_nothing how ≡ true → how ≡ nothing
is_alone nothing h = refl
is_alone (takes_in name) h = absurd cc
is_alone (unites names) h = absurd cc

alone_by : (so_far : Origins) (s : Session) (one : Step) → IsDone (λ what. true) s one → IfSome one.what (λ what. IsTrue (joins_nothing what)) → AllAlone so_far s.repos
    → AllAlone (origins_by so_far s one.what one.after) one.after.repos
alone_by so_far s one done passes h = go one.what refl passes
  where
    same : IsDone (λ what. true) s one → one.what ≡ None → one.after.repos ≡ s.repos
    same (not_done is) none = ap (λ (t : Session). t.repos) is
    same (not_asked unasked is) none = is
    same (command_done c) none = absurd (none-some c.what (sym none ∙ c.is))

    go : (o : Option Command) → one.what ≡ o → IfSome o (λ what. IsTrue (joins_nothing what)) → AllAlone (origins_by so_far s o one.after) one.after.repos
    go (Some what) is passes = subst (λ how. AllAlone (origins_after so_far s how one.after) one.after.repos) (sym (is_alone (joins what) passes)) (alone_then so_far s one.after h)
    go None is passes = subst (AllAlone so_far) (sym (same done is)) h

alone_along : (so_far : Origins) (s : Session) (steps : List Step) → AreSteps (λ what. true) s steps → AllPass joins_nothing steps → AllAlone so_far s.repos
    → AllAlone (origins so_far s steps) (last s steps).repos
alone_along so_far s [] are passes h = h
alone_along so_far s (one ∷ others) are passes h =
    alone_along (origins_by so_far s one.what one.after) one.after others are.2 passes.1 (alone_by so_far s one are.0 passes.0 h)

-- ---- from the beginning

abbrev KeptUnder : Origins → Bytes → Repo → Type 0
KeptUnder origins_of name r = KeepsOrigins (λ number. origins_of (event name number)) r.history

abbrev TreesKept : Session → List Step → Session → Type 0
TreesKept s steps after = AllByRecursion (IsKept (origins_from s steps)) after.repos

abbrev CommitsKept : Session → List Step → Session → Type 0
CommitsKept s steps after = AllByRecursion (IsWhole (origins_from s steps) after.repos) (held_from s steps)

abbrev NamesKept : Session → List Step → Session → Type 0
NamesKept s steps after = AllByRecursion (IsAlone (origins_from s steps)) after.repos

module _ (laws : Given) (s : Session) (steps : List Step) (after : Session) (ends : last s steps ≡ after) (lawful : IsLawful s) where
  trees_from : AreSteps keeps_trees s steps → TreesKept s steps after
  trees_from are =
      subst (TreesKept s steps) ends
      (for_all (IsKept (origins_from s steps)) (last s steps).repos (last_lawful keeps_trees s steps lawful are).names.apart (λ n r here.
      subst (λ (name : Bytes). KeptUnder (origins_from s steps) name r) (own_name n (last s steps).repos r here) (trees_along keeps_trees laws.trees (themselves s.repos) s steps lawful are (itself_kept s.repos) n r here)))

  -- each is held, and kept
  commits_from : AreSteps keeps_commits s steps → CommitsKept s steps after
  commits_from are =
      subst (CommitsKept s steps) ends
      (all_imply (IsHeldIn (origins_from s steps) (last s steps).repos) (IsWhole (origins_from s steps) (last s steps).repos) whole (held_from s steps)
      (held_along laws (themselves s.repos) (own s.repos) s steps lawful are (itself_whole s.repos lawful.names.apart)))
    where
      kept : AllKept (origins_from s steps) (last s steps).repos
      kept =
          trees_along keeps_commits (λ denial s files what t done lawful passes. changes_less s (joins what) t.session (laws.commits denial s files what t done lawful passes)) (themselves s.repos) s
          steps lawful are (itself_kept s.repos)

      whole : (one : Held) → IsHeldIn (origins_from s steps) (last s steps).repos one → IsWhole (origins_from s steps) (last s steps).repos one
      whole one h = record {
        repo = h.repo;
        found = h.found;
        commits = λ c there.
            let its = h.commits c there in
            let tree = (kept one.now h.repo h.found).trees its.0 its.1 in
            (its.0, its.1, tree ∙ ap (λ (origin : Origin). shown_tree origin.came.history origin.number) its.2, its.2);
      }

module _ (s : Session) (steps : List Step) (after : Session) (ends : last s steps ≡ after) (lawful : IsLawful s) where
  names_from : AreSteps (λ what. true) s steps → AllPass joins_nothing steps → NamesKept s steps after
  names_from are passes =
      subst (NamesKept s steps) ends
      (for_all (IsAlone (origins_from s steps)) (last s steps).repos (last_lawful (λ what. true) s steps lawful are).names.apart (λ n r here.
      let its = alone_along (themselves s.repos) s steps are passes itself_alone n r here in
      let named = own_name n (last s steps).repos r here in
      (its.0, its.1 ∙ named, λ k. ap (λ (name : Bytes). origins_from s steps (event name k)) (sym named) ∙ its.2 k)))
    where
      itself_alone : AllAlone (themselves s.repos) s.repos
      itself_alone n r here = (r, sym (own_name n s.repos r here), itself_at s.repos n r here)

-- ---- commands and runs

-- what holds after commands that pass
abbrev ByCommands : (Session → List Step → Session → Type 0) → (Command → Bool) → Type 0
ByCommands Holds test =
    (s : Session) (asked : List Request) → IsLawful s → AllByRecursion (λ one. IsSpelledCommand one.what) asked → AllByRecursion (λ one. IsTrue (test one.what)) asked
    → Holds s (steps_of s asked) (after_requests s asked)

-- after a script of lines that do
abbrev ByScripts : (Session → List Step → Session → Type 0) → (Command → Bool) → Type 0
ByScripts Holds test =
    (denials : Denials) (s : Session) (files : Files) (items : List ScriptItem) (keep_going : Bool) → IsLawful s
    → AllByRecursion (λ line. IsTrue (line_passes test line)) (run_from denials s files items keep_going).ran
    → Holds s (steps_by (run_from denials s files items keep_going).ran (run_from denials s files items keep_going).effects) (session_after s (run_from denials s files items keep_going).effects)

-- after a whole run of them
abbrev ByRuns : (Session → List Step → Session → Type 0) → (Command → Bool) → Type 0
ByRuns Holds test =
    (denials : Denials) (words : List Bytes) (files : Files) → AllByRecursion (λ line. IsTrue (line_passes test line)) (run denials words files).ran
    → Holds empty_session (steps_by (run denials words files).ran (run denials words files).effects) (session_after empty_session (run denials words files).effects)

-- after the first of its lines, where these do
abbrev ByParts : (Session → List Step → Session → Type 0) → (Command → Bool) → Type 0
ByParts Holds test =
    (denials : Denials) (words : List Bytes) (files : Files) (k : ℕ) → AllByRecursion (λ line. IsTrue (line_passes test line)) (take k (run denials words files).ran)
    → Holds empty_session (steps_by (run denials words files).ran (take k (run denials words files).effects)) (session_after empty_session (take k (run denials words files).effects))

module _ (laws : Given) where
  pub trees_by_commands : ByCommands TreesKept keeps_trees
  trees_by_commands s asked lawful spelled passes =
      trees_from laws s (steps_of s asked) (after_requests s asked) (requests_end s asked) lawful (requests_are keeps_trees laws.step_lawful laws.line_lawful s asked lawful spelled passes)

  pub trees_by_scripts : ByScripts TreesKept keeps_trees
  trees_by_scripts denials s files items keep_going lawful passes =
      let r = run_from denials s files items keep_going in
      trees_from laws s (steps_by r.ran r.effects) (session_after s r.effects) (effects_end s r.ran r.effects) lawful
      (script_is keeps_trees laws.step_lawful laws.line_lawful denials s files items keep_going lawful passes)

  pub trees_by_runs : IsLawful empty_session → ByRuns TreesKept keeps_trees
  trees_by_runs lawful denials words files passes =
      let r = run denials words files in
      trees_from laws empty_session (steps_by r.ran r.effects) (session_after empty_session r.effects) (effects_end empty_session r.ran r.effects) lawful
      (run_is keeps_trees laws.step_lawful laws.line_lawful lawful denials words files passes)

  pub trees_by_parts : IsLawful empty_session → ByParts TreesKept keeps_trees
  trees_by_parts lawful denials words files k passes =
      let r = run denials words files in
      trees_from laws empty_session (steps_by r.ran (take k r.effects)) (session_after empty_session (take k r.effects)) (effects_end empty_session r.ran (take k r.effects)) lawful
      (part_is keeps_trees laws.step_lawful laws.line_lawful lawful denials words files k passes)

  pub commits_by_commands : ByCommands CommitsKept keeps_commits
  commits_by_commands s asked lawful spelled passes =
      commits_from laws s (steps_of s asked) (after_requests s asked) (requests_end s asked) lawful (requests_are keeps_commits laws.step_lawful laws.line_lawful s asked lawful spelled passes)

  pub commits_by_scripts : ByScripts CommitsKept keeps_commits
  commits_by_scripts denials s files items keep_going lawful passes =
      let r = run_from denials s files items keep_going in
      commits_from laws s (steps_by r.ran r.effects) (session_after s r.effects) (effects_end s r.ran r.effects) lawful
      (script_is keeps_commits laws.step_lawful laws.line_lawful denials s files items keep_going lawful passes)

  pub commits_by_runs : IsLawful empty_session → ByRuns CommitsKept keeps_commits
  commits_by_runs lawful denials words files passes =
      let r = run denials words files in
      commits_from laws empty_session (steps_by r.ran r.effects) (session_after empty_session r.effects) (effects_end empty_session r.ran r.effects) lawful
      (run_is keeps_commits laws.step_lawful laws.line_lawful lawful denials words files passes)

  pub commits_by_parts : IsLawful empty_session → ByParts CommitsKept keeps_commits
  commits_by_parts lawful denials words files k passes =
      let r = run denials words files in
      commits_from laws empty_session (steps_by r.ran (take k r.effects)) (session_after empty_session (take k r.effects)) (effects_end empty_session r.ran (take k r.effects)) lawful
      (part_is keeps_commits laws.step_lawful laws.line_lawful lawful denials words files k passes)

module _
    (step_lawful : (denial : Option Denial) (s : Session) (files : Files) (what : Command) (t : Effect Session) → step denial s files what ≡ Ok t → IsLawful s → IsSpelledCommand what
    → IsLawful t.session)
    (line_lawful : (denial : Option Denial) (s : Session) (files : Files) (depth : ℕ) (what : ScriptLine) (t : Effect Session) → line_step denial s files depth what ≡ Ok t → IsLawful s
    → IsLawful t.session)
  where
    pub names_by_commands : ByCommands NamesKept joins_nothing
    names_by_commands s asked lawful spelled passes =
        names_from s (steps_of s asked) (after_requests s asked) (requests_end s asked) lawful
        (requests_are (λ what. true) step_lawful line_lawful s asked lawful spelled (requests_any asked)) (requests_pass joins_nothing s asked passes)

    pub names_by_scripts : ByScripts NamesKept joins_nothing
    names_by_scripts denials s files items keep_going lawful passes =
        let r = run_from denials s files items keep_going in
        names_from s (steps_by r.ran r.effects) (session_after s r.effects) (effects_end s r.ran r.effects) lawful
        (script_is (λ what. true) step_lawful line_lawful denials s files items keep_going lawful (lines_any r.ran)) (all_lines_pass joins_nothing r.ran r.effects passes)

    pub names_by_runs : IsLawful empty_session → ByRuns NamesKept joins_nothing
    names_by_runs lawful denials words files passes =
        let r = run denials words files in
        names_from empty_session (steps_by r.ran r.effects) (session_after empty_session r.effects) (effects_end empty_session r.ran r.effects) lawful
        (run_is (λ what. true) step_lawful line_lawful lawful denials words files (lines_any r.ran)) (all_lines_pass joins_nothing r.ran r.effects passes)

    pub names_by_parts : IsLawful empty_session → ByParts NamesKept joins_nothing
    names_by_parts lawful denials words files k passes =
        let r = run denials words files in
        names_from empty_session (steps_by r.ran (take k r.effects)) (session_after empty_session (take k r.effects)) (effects_end empty_session r.ran (take k r.effects)) lawful
        (part_is (λ what. true) step_lawful line_lawful lawful denials words files k (lines_any (take k r.ran))) (lines_pass joins_nothing k r.ran r.effects passes)
