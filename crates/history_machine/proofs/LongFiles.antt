-- What a file over the limit is refused for.
use Rattle.std.proofs.Common.{◌≡◌, ℕ, zero, suc, ◌+◌, ◌<◌, Bool, true, false, List, [], ◌∷◌, ◌++◌, length, take, Some, Result, Ok, Err, append-nil, refl, sym, ap, subst, ◌∙◌, arith}
use Rattle.std.specs.Prelude.{bytes_eq, if◌then◌else◌, nat_lt}
use Rattle.std.proofs.lemmas.Bool.Decides.{nat_tests}
use Rattle.plain_model.specs.declared.event.PlainEvent.{PlainEvent}
use Rattle.plain_model.specs.declared.fault.Fault.{Fault}
use Rattle.plain_model.specs.declared.fault.Fault.TheVariants as fault
use Rattle.plain_model.specs.declared.fault.Which.{Which}
use Rattle.plain_model.specs.declared.fault.Why.{Why}
use Rattle.plain_model.specs.declared.limit.TheConstants.{MAX_MARK, MAX_STREAM_BYTES}
use Rattle.plain_model.specs.Paths.{Bytes}
use Rattle.line_automaton.specs.Limits.{Cause}
use Rattle.line_automaton.specs.Limits.Cause.{Defect, Exceeds}
use Rattle.line_automaton.specs.Machine.{Machine, Next, all, answered, begun, closed, feed, moved, run, verdict}
use Rattle.line_automaton.specs.Machine.Machine.{At, Stopped}
use Rattle.line_automaton.specs.Machine.Mode.{After, Ended, InBlock, InDelimited, InLine}
use Rattle.line_automaton.specs.Machine.Next.{Block, More, Over, Until}
use Rattle.line_automaton.specs.Machine.Outcome.{Misses, Reads}
use Rattle.line_automaton.proofs.Runs.{run_append, stays}
use Rattle.stream_grammar.specs.Known.{Known, history_of}
use Rattle.stream_grammar.specs.Limits.{fault_of, if_known, known_given, last_mark, stream_of, stream_within, unless_spent}
use Rattle.stream_grammar.specs.Lines.{State}
use Rattle.history_machine.specs.Loading.{over, read_of}
use Rattle.history_machine.specs.Reads.{IsLongFault, MayGoOn}
use Rattle.history_machine.proofs.ReadFiles.{part_refused}

abbrev StreamMachine : Type 0
StreamMachine = Machine State (Cause Why Which)

-- an LF ends the last line
lf_closes : (m : StreamMachine) → closed stream_within all (feed stream_within all m 10) ≡ feed stream_within all m 10
lf_closes (Stopped n why) = refl
lf_closes (At n Ended s) = refl
lf_closes (At n (After inside) s) = refl
lf_closes (At n (InBlock from zero bytes) s) = refl
lf_closes (At n (InBlock from (suc k) bytes) s) = refl
lf_closes (At n (InLine text) s) = by_step (stream_within.step true s text)
  where
    by_step : (r : Result (State × Next) (Cause Why Which)) → closed stream_within all (moved stream_within n (n + 1) (answered stream_within n text r)) ≡ moved stream_within n (n + 1) (answered stream_within n text r)
    by_step (Err why) = refl
    by_step (Ok (t, More)) = refl
    by_step (Ok (t, Block zero)) = refl
    by_step (Ok (t, Block (suc k))) = refl
    by_step (Ok (t, Until k)) = refl
    by_step (Ok (t, Over)) = refl
lf_closes (At n (InDelimited from delimiter bytes text) s) = by_line (bytes_eq text delimiter)
  where
    by_line : (b : Bool)
        → closed stream_within all (moved stream_within n (n + 1) (Ok (if b then (After false, stream_within.arrived s bytes) else (InDelimited from delimiter (bytes ++ text ++ 10 ∷ []) [], s))))
        ≡ moved stream_within n (n + 1) (Ok (if b then (After false, stream_within.arrived s bytes) else (InDelimited from delimiter (bytes ++ text ++ 10 ∷ []) [], s)))
    by_line true = refl
    by_line false = refl

-- what a machine gives that goes on
spent_goes : (k : Known) → MayGoOn (unless_spent k)
spent_goes k = go (nat_lt MAX_MARK (last_mark k))
  where
    go : (b : Bool) → MayGoOn (if b then Err fault.MarksSpent else Ok (history_of k))
    go true = tt
    go false = tt

expected_goes : (b : Bool) (n : ℕ) (s : State) → MayGoOn (if_known (known_given (if b then Misses n else Reads s)))
expected_goes true n s = refl
expected_goes false n s = spent_goes s.known

at_goes : (n : ℕ) (mode : _) (s : State) → MayGoOn (if_known (known_given (verdict stream_within (At n mode s))))
at_goes n (InLine text) s = expected_goes (stream_within.is_expected s) n s
at_goes n (InBlock from k bytes) s = refl
at_goes n (After inside) s = expected_goes (stream_within.is_expected s) (if inside then n + 1 else n) s
at_goes n (InDelimited from delimiter bytes text) s = refl
at_goes n Ended s = spent_goes s.known

-- a machine that goes on went on before
abbrev GoesOn : StreamMachine → Type 0
GoesOn (At n mode s) = Unit {0}
GoesOn (Stopped n why) = ⊥

went_on : (m : StreamMachine) (rest : Bytes) → GoesOn (run stream_within all m rest) → GoesOn m
went_on (At n mode s) rest h = tt
went_on (Stopped n why) rest h = subst GoesOn (stays stream_within all n why rest) h

goes : (m : StreamMachine) → GoesOn m → MayGoOn (if_known (known_given (verdict stream_within m)))
goes (At n mode s) h = at_goes n mode s
goes (Stopped n why) h = absurd h

-- whole lines of what it goes on after
lines_go : (front others : Bytes) → GoesOn (run stream_within all (begun stream_within) (front ++ 10 ∷ others)) → MayGoOn (stream_of (front ++ 10 ∷ []))
lines_go front others h =
    let first : StreamMachine = run stream_within all (begun stream_within) front in
    let line : StreamMachine = feed stream_within all first 10 in
    let on : GoesOn line = went_on line others (subst GoesOn (run_append stream_within all (begun stream_within) front (10 ∷ others)) h) in
    subst (λ (m : StreamMachine). MayGoOn (if_known (known_given (verdict stream_within (closed stream_within all m))))) (sym (run_append stream_within all (begun stream_within) front (10 ∷ [])))
    (subst (λ (m : StreamMachine). MayGoOn (if_known (known_given (verdict stream_within m)))) (sym (lf_closes first)) (goes line on))

cause_long : (bytes : Bytes) (n : ℕ) (cause : Cause Why Which) → stream_of (take MAX_STREAM_BYTES bytes) ≡ Err (fault_of n cause) → IsLongFault bytes (fault_of n cause)
cause_long bytes n (Defect why) e = e
cause_long bytes n (Exceeds which) e = e

over_long : (file bytes : Bytes) (m : StreamMachine) → run stream_within all (begun stream_within) (take MAX_STREAM_BYTES bytes) ≡ m → IsLongFault bytes (over file m)
over_long file bytes (At n mode s) is = λ front others cut.
    lines_go front others (subst (λ (x : Bytes). GoesOn (run stream_within all (begun stream_within) x)) cut (subst GoesOn (sym is) tt))
over_long file bytes (Stopped n cause) is =
    cause_long bytes n cause
    (subst (λ (x : Bytes). stream_of x ≡ Err (fault_of n cause)) (append-nil (take MAX_STREAM_BYTES bytes)) (part_refused (take MAX_STREAM_BYTES bytes) [] n cause is))

pub long_refused : (file bytes : Bytes) (why : Fault) → MAX_STREAM_BYTES < length bytes → read_of file (Some bytes) ≡ Err why → IsLongFault bytes why
long_refused file bytes why long is =
    subst (IsLongFault bytes) (same (sym given ∙ is)) (over_long file bytes (run stream_within all (begun stream_within) (take MAX_STREAM_BYTES bytes)) refl)
  where
    past : nat_lt MAX_STREAM_BYTES (length bytes) ≡ true
    past = grind (arith, nat_tests)

    given : read_of file (Some bytes) ≡ Err (over file (run stream_within all (begun stream_within) (take MAX_STREAM_BYTES bytes)))
    given = ap (λ b. if b then Err (over file (run stream_within all (begun stream_within) (take MAX_STREAM_BYTES bytes))) else stream_of bytes) past

    same : {x y : Fault} → ◌≡◌ {A = Result (List PlainEvent) Fault} (Err x) (Err y) → x ≡ y
    same e = cc
