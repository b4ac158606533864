-- Commands that send a text, and change nothing in the session.
use Rattle.std.proofs.Common.{◌≡◌, Option, Result, Ok, Err, refl, sym, subst}
use Rattle.std.specs.Prelude.{OnErr}
use Rattle.plain_model.specs.Files.{Files}
use Rattle.plain_model.specs.Paths.{Bytes}
use Rattle.plain_model.specs.declared.fault.Fault.{Fault}
use Rattle.surgeon_store.specs.Outside.{SinkState, StoreState}
use Rattle.history_machine.specs.Machine.{Effect, World}
use Rattle.history_machine.specs.Sessions.{Session}
use Rattle.history_machine.specs.Steps.{reports, sends}
use Rattle.surgeon_session.specs.Calls.{Outcome, world}
use Rattle.surgeon_session.specs.Commands.{Agrees, CarriesOut, Sends, Steps, no_calls}
use Rattle.surgeon_session.specs.Ends.{status_of}
use Rattle.surgeon_session.specs.declared.halted.Halted.{Halted}
use Rattle.surgeon_session.specs.declared.halted.Halted.TheVariants as halted
use Rattle.surgeon_session.proofs.Pieces.{any_told, no_files}
use Rattle.surgeon_session.proofs.Rounds.{mapped}

module _
    (s s' : StoreState) (k k' : SinkState) (old new : Session) (to : Option Bytes) (bytes : Bytes) (reads_no_file : Type 0) (specified : Files → Result (Effect Session) Fault)
    (same : new ≡ old) (is : (files : Files) → specified files ≡ Ok (sends old to bytes))
  where
    -- what is sent is what is specified
    steps : (r : Result (Unit {0}) Halted) → ((fault : Fault) → r ≡ Err (halted.Refused fault) → ⊥) → (w now : World) → Sends r to bytes w now → Steps no_calls r old w (specified w.files) new now
    steps (Ok tt) never w now h = subst (λ (x : Result (Effect Session) Fault). Steps no_calls (Ok tt) old w x new now) (sym (is w.files)) (same, h, refl)
    steps (Err (halted.Refused fault)) never w now h = absurd h
    steps (Err halted.SourceFault) never w now h = subst (λ (x : Result (Effect Session) Fault). Steps {Y = Unit {0}} no_calls (Err halted.SourceFault) old w x new now) (sym (is w.files)) (same, h)
    steps (Err halted.SinkFault) never w now h = subst (λ (x : Result (Effect Session) Fault). Steps {Y = Unit {0}} no_calls (Err halted.SinkFault) old w x new now) (sym (is w.files)) (same, h)
    steps (Err halted.Memory) never w now h = subst (λ (x : Result (Effect Session) Fault). Steps {Y = Unit {0}} no_calls (Err halted.Memory) old w x new now) (sym (is w.files)) (same, h)

    agrees : (r : Result (Unit {0}) Halted) → ((fault : Fault) → r ≡ Err (halted.Refused fault) → ⊥) → (files : Files) → Agrees no_calls r (specified files) new
    agrees (Ok tt) never files = subst (λ (x : Result (Effect Session) Fault). Agrees no_calls (Ok tt) x new) (sym (is files)) (same, refl)
    agrees (Err (halted.Refused fault)) never files = absurd (never fault refl)
    agrees (Err halted.SourceFault) never files = tt
    agrees (Err halted.SinkFault) never files = tt
    agrees (Err halted.Memory) never files = tt

    keeps : (r : Result (Unit {0}) Halted) → OnErr r (new ≡ old)
    keeps (Ok y) = tt
    keeps (Err e) = same

    pub sends_text : (r : Result (Unit {0}) Halted) → ((fault : Fault) → r ≡ Err (halted.Refused fault) → ⊥) → Outcome (λ w now. Sends r to bytes w now) s k (status_of r) s' k'
        → CarriesOut no_calls s k old reads_no_file specified r new s' k'
    sends_text r never h = record {
      outcome = record {
        prescribed = mapped (world s k) (world s' k') (λ w now sent. steps r never w now sent) h.prescribed;
        caused = h.caused;
        later = h.later;
      };
      told = any_told s.files no_files (agrees r never);
      exact = λ _ files. agrees r never files;
      kept = keeps r;
    }

-- a text that is there
pub reports_text : (s : Session) (to : Option Bytes) (expected : Result Bytes Fault) (bytes : Bytes) → expected ≡ Ok bytes → (files : Files) → reports s to expected ≡ Ok (sends s to bytes)
reports_text s to expected bytes is files = subst (λ (r : Result Bytes Fault). reports s to r ≡ Ok (sends s to bytes)) (sym is) refl
