-- Commands that aren't done: refused, or broken off by a fault in reading or out of memory.
use Rattle.std.proofs.Common.{◌≡◌, List, [], Option, Some, None, Result, Ok, Err, refl, sym, ap, subst}
use Rattle.std.specs.Prelude.{IfSome, IsErrOf, OnErr}
use Rattle.std.specs.Result.{IsErrAnd}
use Rattle.plain_model.specs.Counts.{Rose}
use Rattle.plain_model.specs.Files.{Files}
use Rattle.plain_model.specs.Paths.{Bytes}
use Rattle.plain_model.specs.declared.fault.Fault.{Fault}
use Rattle.plain_model.specs.declared.fault.Halt.{Halt}
use Rattle.plain_model.specs.declared.fault.Halt.TheVariants as halt
use Rattle.surgeon_store.specs.Outside.{CountsNoFault, StoreState, SinkState, Reads}
use Rattle.surgeon_store.specs.WholeFiles.{IsQuiet, ReturnsOrBreaks}
use Rattle.surgeon_store.specs.declared.whole_files.ReadEnd.{ReadEnd}
use Rattle.surgeon_store.specs.declared.whole_files.ReadEnd.TheVariants as read
use Rattle.script_lines.specs.Answering.{◌>>=◌}
use Rattle.history_machine.specs.Machine.{World, Effect}
use Rattle.history_machine.specs.Sessions.{Session}
use Rattle.history_machine.specs.Steps.{changes}
use Rattle.surgeon_session.specs.Calls.{AsTold, Outcome, world, world_of}
use Rattle.surgeon_session.specs.Commands.{Agrees, Carries, CarriesOut, Leaves, PartOf, Steps, no_calls}
use Rattle.plain_model.specs.Faults.{Returns}
use Rattle.surgeon_session.specs.Ends.{of_halt, of_read_end, status_of}
use Rattle.surgeon_session.specs.declared.halted.Halted.{Halted}
use Rattle.surgeon_session.specs.declared.halted.Halted.TheVariants as halted
use Rattle.surgeon_session.proofs.Pieces.{any_told, no_files, told_then}
use Rattle.surgeon_session.proofs.Rounds.{no_part, none_failed, quiet_world, read_later, same_later, same_world}

-- ---- a call that meets nothing outside

-- a refusal is the one that is specified
abbrev pub Halts : {Y : Type 0} → Halt → Result Y Fault → Type 0
Halts (halt.Refused fault) specified = specified ≡ Err fault
Halts halt.Memory specified = Unit {0}

pub returned : {X Y : Type 0} (view : X → Y) (h : Halt) (specified : Result Y Fault) → Returns view (Err h) specified → Halts h specified
returned view (halt.Refused fault) specified r = r
returned view halt.Memory specified r = tt

-- then so does what goes on from there
pub halts_after : {A B : Type 0} (h : Halt) (r : Result A Fault) (f : A → Result B Fault) → Halts h r → Halts h (r >>= f)
halts_after (halt.Refused fault) r f is = ap (λ q. q >>= f) is
halts_after halt.Memory r f is = tt

-- ---- commands

part_none : {X : Type 0} (w : World) (specified : Result (Effect X) Fault) → PartOf w specified w
part_none w (Ok t) = no_part t.to t.bytes w
part_none w (Err fault) = refl

module _ {X Y : Type 0} (calls : Y → List Bytes) (s : StoreState) (k : SinkState) (old new : X) (specified : Files → Result (Effect X) Fault) (same : new ≡ old) where
  by_halt : (h : Halt) → ((files : Files) → Halts h (specified files))
      → Outcome (λ w now. Steps calls (Err (of_halt h)) old w (specified w.files) new now) s k (status_of {X = Y} (Err (of_halt h))) s k
  by_halt (halt.Refused fault) halts = record {
    prescribed = same_world (λ w now. Steps calls (Err (halted.Refused fault)) old w (specified w.files) new now) (world s k) (λ w. (halts w.files, same, refl));
    caused = none_failed s k;
    later = same_later s k;
  }
  by_halt halt.Memory halts = record {
    prescribed = same_world (λ w now. Steps calls (Err halted.Memory) old w (specified w.files) new now) (world s k) (λ w. (same, part_none w (specified w.files)));
    caused = tt;
    later = same_later s k;
  }

  -- nothing outside is touched
  pub halted_outcome : (h : Halt) (r : Result Y Halted) → IsErrAnd r (λ e. e ≡ of_halt h) → ((files : Files) → Halts h (specified files))
      → Outcome (λ w now. Steps calls r old w (specified w.files) new now) s k (status_of r) s k
  halted_outcome h (Ok y) is halts = absurd is
  halted_outcome h (Err e) is halts = rw is (by_halt h halts)

  agrees_halt : (h : Halt) (files : Files) → Halts h (specified files) → Agrees {Y = Y} calls (Err (of_halt h)) (specified files) new
  agrees_halt (halt.Refused fault) files halts = halts
  agrees_halt halt.Memory files halts = tt

  -- whatever is reported
  pub halted_agrees : (h : Halt) (r : Result Y Halted) → IsErrAnd r (λ e. e ≡ of_halt h) → (files : Files) → Halts h (specified files) → Agrees calls r (specified files) new
  halted_agrees h (Ok y) is files halts = absurd is
  halted_agrees h (Err e) is files halts = rw is (agrees_halt h files halts)

  pub halted_keeps : (r : Result Y Halted) → OnErr r (new ≡ old)
  halted_keeps (Ok y) = tt
  halted_keeps (Err e) = same

-- a command or a line that meets nothing outside
pub halted_alone : {Y : Type 0} (calls : Y → List Bytes) (s : StoreState) (k : SinkState) (old new : Session) (reads_no_file : Type 0) (specified : Files → Result (Effect Session) Fault) (h : Halt)
    (r : Result Y Halted) → IsErrAnd r (λ e. e ≡ of_halt h) → ((files : Files) → Halts h (specified files)) → new ≡ old
    → CarriesOut calls s k old reads_no_file specified r new s k
halted_alone calls s k old new reads_no_file specified h r is halts same = record {
  outcome = halted_outcome calls s k old new specified same h r is halts;
  told = any_told s.files no_files (λ files. halted_agrees calls s k old new specified same h r is files (halts files));
  exact = λ _ files. halted_agrees calls s k old new specified same h r is files (halts files);
  kept = halted_keeps calls s k old new specified same r;
}

-- ---- commands that read a file

module _ (s s' : StoreState) (k : SinkState) (old new : Session) (after : Files → Result Session Fault) (frame : Reads s s') where
  read_worlds : (P : World → World → Type 0) → ((f : Files) → s.files ≡ Some f → (w : World) → w.files ≡ f → P w w) → IfSome (world s k) (λ w. IfSome (world s' k) (λ now. P w now))
  read_worlds P f = rw frame.files (go s.files f k.written)
    where
      go : (files : Option Files) → ((f : Files) → files ≡ Some f → (w : World) → w.files ≡ f → P w w) → (out : Option Bytes)
          → IfSome (world_of files out) (λ w. IfSome (world_of files out) (λ now. P w now))
      go None f out = tt
      go (Some files) f None = tt
      go (Some files) f (Some out) = f files refl _ refl

  -- one that is read
  pub done_read : AsTold s.files (λ files. after files ≡ Ok new) → CountsNoFault s s'
      → CarriesOut {Y = Unit {0}} no_calls s k old ⊥ (λ files. changes (after files)) (Ok tt) new s' k
  done_read returns well = record {
    outcome = record {
      prescribed = read_worlds (λ w now. Steps {Y = Unit {0}} no_calls (Ok tt) old w (changes (after w.files)) new now)
          (λ f is w its. subst (λ (r : Result Session Fault). Carries [] w (changes r) new w) (sym (subst (λ (g : Files). after g ≡ Ok new) (sym its) (rw is at returns))) (refl, quiet_world w, refl));
      caused = record { store = well; faults = refl };
      later = read_later s s' k frame;
    };
    told = told_then s.files returns (λ f is. subst (λ (r : Result Session Fault). Leaves [] (changes r) new) (sym is) (refl, refl));
    exact = λ no. absurd no;
    kept = tt;
  }

  module _ (same : new ≡ old) where
    by_end : (e : ReadEnd) → AsTold s.files (λ files. ReturnsOrBreaks {X = Unit {0}} (λ _. new) (Err e) (after files))
        → (IsErrOf {T = Unit {0}} (Err e) read.SourceFault → Rose s.read_faults s'.read_faults) → IsQuiet {X = Unit {0}} (Err e) s s'
        → CarriesOut {Y = Unit {0}} no_calls s k old ⊥ (λ files. changes (after files)) (Err (of_read_end e)) new s' k
    by_end (read.Refused fault) returns failed well = record {
      outcome = record {
        prescribed = read_worlds (λ w now. Steps {Y = Unit {0}} no_calls (Err (halted.Refused fault)) old w (changes (after w.files)) new now)
            (λ f is w its. (ap changes (subst (λ (g : Files). after g ≡ Err fault) (sym its) (rw is at returns)), same, refl));
        caused = record { store = well; faults = refl };
        later = read_later s s' k frame;
      };
      told = told_then s.files returns (λ f is. ap changes is);
      exact = λ no. absurd no;
      kept = same;
    }
    by_end read.SourceFault returns failed well = record {
      outcome = record {
        prescribed = read_worlds (λ w now. Steps {Y = Unit {0}} no_calls (Err halted.SourceFault) old w (changes (after w.files)) new now)
            (λ f is w its. (same, part_none w (changes (after w.files))));
        caused = failed refl;
        later = read_later s s' k frame;
      };
      told = any_told s.files no_files (λ f. tt);
      exact = λ no. absurd no;
      kept = same;
    }
    by_end read.Memory returns failed well = record {
      outcome = record {
        prescribed = read_worlds (λ w now. Steps {Y = Unit {0}} no_calls (Err halted.Memory) old w (changes (after w.files)) new now)
            (λ f is w its. (same, part_none w (changes (after w.files))));
        caused = tt;
        later = read_later s s' k frame;
      };
      told = any_told s.files no_files (λ f. tt);
      exact = λ no. absurd no;
      kept = same;
    }

    -- a file that isn't read
    pub halted_read : (e : ReadEnd) (r : Result (Unit {0}) Halted) → IsErrAnd r (λ x. x ≡ of_read_end e)
        → AsTold s.files (λ files. ReturnsOrBreaks {X = Unit {0}} (λ _. new) (Err e) (after files))
        → (IsErrOf {T = Unit {0}} (Err e) read.SourceFault → Rose s.read_faults s'.read_faults) → IsQuiet {X = Unit {0}} (Err e) s s'
        → CarriesOut no_calls s k old ⊥ (λ files. changes (after files)) r new s' k
    halted_read e (Ok y) is returns failed well = absurd is
    halted_read e (Err x) is returns failed well = rw is (by_end e returns failed well)
