-- Each history that a run holds is sound, and so it is shown by what is written of it.
use Rattle.std.proofs.Common.{arith, ◌≡◌, ℕ, zero, suc, ◌+◌, ◌++◌, Bool, true, false, List, [], ◌∷◌, Option, Some, None, Result, Ok, Err, refl, sym, subst}
use Rattle.std.specs.Prelude.{if◌then◌else◌, map}
use Rattle.std.specs.List.{AllByRecursion}
use Rattle.plain_model.specs.declared.event.PlainEvent.{PlainEvent}
use Rattle.plain_model.specs.declared.limit.TheConstants.{MAX_COMMANDS}
use Rattle.plain_model.specs.declared.fault.Fault.{Fault}
use Rattle.plain_model.specs.declared.status.Status.{Status}
use Rattle.plain_model.specs.declared.status.Status.TheVariants as status
use Rattle.plain_model.specs.Files.{Files}
use Rattle.plain_model.specs.Paths.{Bytes}
use Rattle.plain_model.specs.Soundness.{IsSound}
use Rattle.plain_model.specs.Text.{text}
use Rattle.shown_laws.specs.Showing.{IsShownBy}
use Rattle.byte_patterns.specs.Judging.{Denial}
use Rattle.script_reader.specs.Commands.{order_of}
use Rattle.script_reader.specs.declared.command.Order.{Order}
use Rattle.script_reader.specs.declared.command.Order.TheVariants as order
use Rattle.script_reader.specs.declared.command.Command.TheVariants as command
use Rattle.script_lines.specs.declared.script.ScriptItem.{ScriptItem}
use Rattle.script_lines.specs.declared.script.ScriptLine.{ScriptLine}
use Rattle.script_lines.specs.declared.script.ScriptLine.TheVariants.{Define, Plain}
use Rattle.history_machine.specs.declared.waiting.Waiting.{Waiting}
use Rattle.edit_laws.specs.Editing.{IsLawfulHistory}
use Rattle.history_machine.specs.Lawful.{IsLawful, IsLawfulRepo}
use Rattle.script_lines.specs.Answering.{◌>>=◌}
use Rattle.history_machine.specs.Machine.{Run, Effect, called_by, ended, files_after, first_of, goes_on, others_of, run_on, status_after, effect_of}
use Rattle.history_machine.specs.Sessions.{Repo, Session, chosen, empty_session}
use Rattle.history_machine.specs.Steps.{line_step, ordered, sends, step}
use Rattle.history_machine.specs.Whole.{Denials, run, run_asked, run_read, script_in, waiting_of}
use Rattle.history_machine.specs.Words.{Asked, asked}
use Rattle.surgeon_cli.specs.Headline.{AreShown, AreShownWrites, IsShownLine, IsShownWrite, ShowsHistories, ShowsWrites}

nothing_loaded : IsLawful empty_session
nothing_loaded = record { repos = tt; names = record { few = omega arith; apart = refl; choice = tt } }

module _
    (keeps : (denial : Option Denial) (s : Session) (files : Files) (depth : ℕ) (what : ScriptLine) (t : Effect Session) → line_step denial s files depth what ≡ Ok t → IsLawful s → IsLawful t.session)
    (shows : (events : List PlainEvent) → IsSound events → IsShownBy (text events) events)
  where
    shown : (repos : List Repo) → AllByRecursion IsLawfulRepo repos → AreShown repos
    shown [] h = tt
    shown (r ∷ repos) h = (shows r.history h.0.history.sound, shown repos h.1)

    -- the session after a line, done or refused
    effect_lawful : (denial : Option Denial) (s : Session) (files : Files) (w : Waiting) → IsLawful s → IsLawful (effect_of s w.line (line_step denial s files w.depth w.what)).session
    effect_lawful denial s files w h = go (line_step denial s files w.depth w.what) refl
      where
        go : (r : Result (Effect Session) Fault) → line_step denial s files w.depth w.what ≡ r → IsLawful (effect_of s w.line r).session
        go (Ok t) is = keeps denial s files w.depth w.what t is h
        go (Err why) is = h

    -- ---- the histories that a run holds

    abbrev Show : List (Effect Session) → Type 0
    Show effects = AllByRecursion (λ t. AreShown t.session.repos) effects

    cut_or_not : (b : Bool) (more less : Run Session) → Show more.effects → Show less.effects → Show (if b then more else less).effects
    cut_or_not true more less m l = m
    cut_or_not false more less m l = l

    lines_show : (keep : Bool) (left : ℕ) (denials : Denials) (so_far : Status) (s : Session) (files : Files) (lines : List Waiting) → IsLawful s
        → Show (run_on line_step keep left denials so_far s files lines).effects
    lines_show keep left denials so_far s files [] h = tt
    lines_show keep zero denials so_far s files (w ∷ lines) h = (shown s.repos h.repos, tt)
    lines_show keep (suc left) denials so_far s files (w ∷ lines) h =
        let done = line_step (first_of denials) s files w.depth w.what in
        let t = effect_of s w.line done in
        let lawful = effect_lawful (first_of denials) s files w h in
        let rest : List Waiting = called_by w.line (w.depth + 1) t.calls ++ lines in (
          shown t.session.repos lawful.repos,
          cut_or_not (goes_on keep done) (run_on line_step keep left (others_of denials) (status_after so_far done) t.session (files_after t.to t.bytes files) rest) (ended status.Refused)
              (lines_show keep left (others_of denials) (status_after so_far done) t.session (files_after t.to t.bytes files) rest lawful) tt,
        )

    read_show : (denials : Denials) (what : Asked) (files : Files) (script : Result (List ScriptItem) Fault) → Show (run_read denials what files script).effects
    read_show denials what files (Ok items) = lines_show what.keep_going MAX_COMMANDS denials status.Done empty_session files (map waiting_of items) nothing_loaded
    read_show denials what files (Err why) = (tt, tt)

    asked_show : (denials : Denials) (files : Files) (what : Option Asked) → Show (run_asked denials files what).effects
    asked_show denials files None = (tt, tt)
    asked_show denials files (Some what) = read_show denials what files (script_in files what.script)

    pub histories_shown : (words : List Bytes) (files : Files) → ShowsHistories words files
    unfolding run
    histories_shown words files = λ denials. asked_show denials files (asked words)

    -- ---- the lines that write

    module _
        (chosen_lawful : (s : Session) (repo : Repo) → chosen s ≡ Ok repo → IsLawful s → IsLawfulHistory repo.history)
        (sent : (denial : Option Denial) (s : Session) (files : Files) (to : Option Bytes) (t : Effect Session) → step denial s files (command.Write to) ≡ Ok t
        → (repo : Repo) × (chosen s ≡ Ok repo) × (t ≡ sends s to (text repo.history)))
        (done : (denial : Option Denial) (s : Session) (files : Files) (to : Option Bytes) (repo : Repo) → chosen s ≡ Ok repo
        → step denial s files (command.Write to) ≡ Ok (sends s to (text repo.history)))
      where
        write_shown : (denial : Option Denial) (s : Session) (files : Files) (line : ℕ) (to : Option Bytes) → IsLawful s
            → (r : Result (Effect Session) Fault) → step denial s files (command.Write to) ≡ r → IsShownWrite (Ok (order.Step (command.Write to))) (effect_of s line r)
        write_shown denial s files line to h (Ok t) is = λ repo chose.
            let by = sent denial s files to t is in
            let same : t.session ≡ s = cc in
            let one : chosen s ≡ Ok repo = subst (λ (x : Session). chosen x ≡ Ok repo) same chose in
            let its : by.0 ≡ repo = cc in
            let whole : t ≡ sends s to (text repo.history) = cc in
            subst (λ (u : Effect Session). (u.to ≡ to) × (u.bytes ≡ text repo.history) × IsShownBy u.bytes repo.history) (sym whole)
            (refl, refl, shows repo.history (chosen_lawful s repo one h).sound)
        write_shown denial s files line to h (Err why) is = λ repo chose. absurd (let it = done denial s files to repo chose in cc)

        order_shown : (denial : Option Denial) (s : Session) (files : Files) (w : Waiting) → IsLawful s → (r : Result Order Fault)
            → IsShownWrite r (effect_of s w.line (r >>= ordered denial s files w.depth))
        order_shown denial s files w h (Ok (order.Step (command.Write to))) = write_shown denial s files w.line to h (step denial s files (command.Write to)) refl
        order_shown denial s files w h (Ok (order.Step (command.Read file name))) = tt
        order_shown denial s files w h (Ok (order.Step (command.Choose name))) = tt
        order_shown denial s files w h (Ok (order.Step command.ShowRepos)) = tt
        order_shown denial s files w h (Ok (order.Step (command.Drop name))) = tt
        order_shown denial s files w h (Ok (order.Step command.DropChosen)) = tt
        order_shown denial s files w h (Ok (order.Step command.Renumber)) = tt
        order_shown denial s files w h (Ok (order.Step (command.Show selection what to))) = tt
        order_shown denial s files w h (Ok (order.Step (command.Assign selection name))) = tt
        order_shown denial s files w h (Ok (order.Step (command.Edit selection what))) = tt
        order_shown denial s files w h (Ok (order.Step (command.Expunge words))) = tt
        order_shown denial s files w h (Ok (order.Step (command.Summary to))) = tt
        order_shown denial s files w h (Ok (order.Step (command.EditBy what file))) = tt
        order_shown denial s files w h (Ok (order.Step (command.Graft selection name prune))) = tt
        order_shown denial s files w h (Ok (order.Step (command.Unite names prune))) = tt
        order_shown denial s files w h (Ok (order.Step (command.Divide selection))) = tt
        order_shown denial s files w h (Ok (order.Step (command.Sample count start))) = tt
        order_shown denial s files w h (Ok (order.Step (command.Names to))) = tt
        order_shown denial s files w h (Ok (order.Do call)) = tt
        order_shown denial s files w h (Err why) = tt

        line_shown : (denial : Option Denial) (s : Session) (files : Files) (line depth : ℕ) (what : ScriptLine) → IsLawful s
            → IsShownLine what (effect_of s line (line_step denial s files depth what))
        unfolding line_step
        line_shown denial s files line depth (Plain text) h = order_shown denial s files (record { line = line; depth = depth; what = Plain text }) h (order_of text)
        line_shown denial s files line depth (Define name body) h = tt

        lines_shown : (keep : Bool) (left : ℕ) (denials : Denials) (so_far : Status) (s : Session) (files : Files) (lines : List Waiting) → IsLawful s
            → AreShownWrites (run_on line_step keep left denials so_far s files lines).ran (run_on line_step keep left denials so_far s files lines).effects
        lines_shown keep left denials so_far s files [] h = tt
        lines_shown keep zero denials so_far s files (w ∷ lines) h = tt
        lines_shown keep (suc left) denials so_far s files (w ∷ lines) h =
            let r = line_step (first_of denials) s files w.depth w.what in
            let t = effect_of s w.line r in
            let rest : List Waiting = called_by w.line (w.depth + 1) t.calls ++ lines in (
              line_shown (first_of denials) s files w.line w.depth w.what h,
              go (goes_on keep r) (run_on line_step keep left (others_of denials) (status_after so_far r) t.session (files_after t.to t.bytes files) rest)
                  (lines_shown keep left (others_of denials) (status_after so_far r) t.session (files_after t.to t.bytes files) rest (effect_lawful (first_of denials) s files w h)),
            )
          where
            go : (b : Bool) (more : Run Session) → AreShownWrites more.ran more.effects → AreShownWrites (if b then more else ended status.Refused).ran (if b then more else ended status.Refused).effects
            go true more h = h
            go false more h = tt

        asked_shown : (denials : Denials) (files : Files) (what : Option Asked) → AreShownWrites (run_asked denials files what).ran (run_asked denials files what).effects
        asked_shown denials files None = tt
        asked_shown denials files (Some what) = go (script_in files what.script)
          where
            go : (r : Result (List ScriptItem) Fault) → AreShownWrites (run_read denials what files r).ran (run_read denials what files r).effects
            go (Ok items) = lines_shown what.keep_going MAX_COMMANDS denials status.Done empty_session files (map waiting_of items) nothing_loaded
            go (Err why) = tt

        pub writes_shown : (words : List Bytes) (files : Files) → ShowsWrites words files
        unfolding run
        writes_shown words files = λ denials. asked_shown denials files (asked words)
