-- A change of the load list, of which the outside hears nothing, as a command.
use Rattle.std.proofs.Common.{◌≡◌, List, Result, Ok, Err, refl, sym, ap, subst}
use Rattle.std.specs.Prelude.{OnErr}
use Rattle.plain_model.specs.declared.fault.Fault.{Fault}
use Rattle.plain_model.specs.declared.fault.Halt.{Halt}
use Rattle.macro_lines.specs.Macros.{Macro}
use Rattle.surgeon_store.specs.Outside.{StoreState, SinkState}
use Rattle.history_machine.specs.Sessions.{Session}
use Rattle.history_machine.specs.Steps.{changes}
use Rattle.surgeon_session.specs.Commands.{CarriesOut, no_calls}
use Rattle.surgeon_session.specs.Ends.{of_answer}
use Rattle.load_list.specs.Lists.{Changes, LoadList, session_of}
use Rattle.surgeon_session.specs.declared.halted.Halted.{Halted}
use Rattle.surgeon_session.proofs.Halting.{halted_alone, halts_after, returned}
use Rattle.surgeon_session.proofs.Readying.{done_alone}

pub list_changed : (s : StoreState) (k : SinkState) (old new : LoadList) (macros : List Macro) (reads_no_file : Type 0) (after : Session → Result Session Fault)
    (answer : Result (Unit {0}) Halt) (r : Result (Unit {0}) Halted) → r ≡ of_answer answer → Changes after old answer new → OnErr answer (new ≡ old)
    → CarriesOut no_calls s k (session_of old macros) reads_no_file (λ files. changes (after (session_of old macros))) r (session_of new macros) s k
list_changed s k old new macros reads_no_file after (Ok done) r is changed kept =
    let before = session_of old macros in
    let now = session_of new macros in
    subst (λ (x : Result (Unit {0}) Halted). CarriesOut no_calls s k before reads_no_file (λ files. changes (after before)) x now s k) (sym is)
    (done_alone no_calls s k before now reads_no_file (λ files. changes (after before)) done (λ files. ap changes (changed macros)))
list_changed s k old new macros reads_no_file after (Err why) r is changed kept =
    let before = session_of old macros in
    let now = session_of new macros in
    halted_alone no_calls s k before now reads_no_file (λ files. changes (after before)) why r (rw is refl)
    (λ files. halts_after why (after before) _ (returned {X = Unit {0}} (λ _. now) why (after before) (changed macros)))
    (ap (λ (list : LoadList). session_of list macros) kept)
