-- Runs that only print, and runs that haven't begun.
use Rattle.std.proofs.Common.{◌≡◌, ℕ, ◌+◌, zero, List, [], drop, Option, Some, None, Result, Ok, Err, inr, refl, sym, subst}
use Rattle.std.specs.FinMap.{get}
use Rattle.std.proofs.lemmas.Option.{IfSome_then}
use Rattle.plain_model.specs.Counts.{Rose}
use Rattle.plain_model.specs.Paths.{Bytes}
use Rattle.plain_model.specs.declared.limit.TheConstants.{MAX_SCRIPT_BYTES}
use Rattle.plain_model.specs.declared.fault.Fault.TheVariants as fault
use Rattle.std.specs.Prelude.{IfSome}
use Rattle.plain_model.specs.Files.{Files}
use Rattle.history_machine.specs.Machine.{World, Run, EndsAs, SessionEndsAs}
use Rattle.history_machine.specs.Sessions.{empty_session}
use Rattle.script_lines.specs.declared.script.ScriptItem.{ScriptItem}
use Rattle.history_machine.specs.Words.{Asked, asked}
use Rattle.history_machine.specs.Whole.{Denials, run_from, run_read, script_in, unread, unread_status}
use Rattle.plain_model.specs.declared.fault.Fault.{Fault}
use Rattle.plain_model.specs.declared.status.Status.{Status}
use Rattle.plain_model.specs.declared.status.Status.TheVariants as status
use Rattle.history_machine.proofs.Runs.{IsBreak, ends_broken}
use Rattle.surgeon_store.specs.Outside.{CountsNoFault, StoreState, SinkState, Reads}
use Rattle.surgeon_session.specs.Calls.{Caused, world, world_of}
use Rattle.surgeon_session.specs.Ends.{IsEnd}
use Rattle.surgeon_session.specs.Pieces.{bytes_in}
use Rattle.surgeon_cli.specs.Headline.{AnswersAsked, AnswersScript, CausedByPrinting, IsUnreadEnd, IsUsageEnd, StopsAsked, StopsPastLimit}
use Rattle.surgeon_session.proofs.Rounds.{same_world}
use Rattle.surgeon_session.proofs.SessionRounds.{breaks_here}

-- how a run ends, without its session
pub session_aside : {X : Type 0} (run : Run X) (r : Status) (s s' : X) (w now : World) → SessionEndsAs run r s w s' now → EndsAs run r w now
session_aside run status.SourceFault s s' w now h = (h.0, h.2)
session_aside run status.SinkFault s s' w now h = (h.0, h.2)
session_aside run status.Memory s s' w now h = (h.0, h.2)
session_aside run status.Done s s' w now h = h.1
session_aside run status.Refused s s' w now h = h.1
session_aside run status.Usage s s' w now h = h.1
session_aside run status.NoScript s s' w now h = h.1
session_aside run status.BadScript s s' w now h = h.1

-- a run that hasn't begun
pub not_begun : {X : Type 0} (run : Run X) (r : Status) (w : World) → IsBreak r → EndsAs run r w w
not_begun run r w b = ends_broken run r w w b (zero, breaks_here run.effects w)

-- the world before a run that hasn't begun is that after it
pub not_begun_worlds : {X : Type 0} (run : World → Run X) (r : Status) (v : Option World) → IsBreak r → IfSome v (λ w. IfSome v (λ now. EndsAs (run w) r w now))
not_begun_worlds run r v b = same_world (λ w now. EndsAs (run w) r w now) v (λ w. not_begun (run w) r w b)

-- a run that hasn't begun, after the reading of a file
pub unread_worlds : {X : Type 0} (run : World → Run X) (r : Status) (s s' : StoreState) (k : SinkState) → IsBreak r → Reads s s' → IfSome (world s k) (λ w. IfSome (world s' k) (λ now. EndsAs (run w) r w now))
unread_worlds run r s s' k b frame = rw frame.files (not_begun_worlds run r (world s k) b)

unread_reported_worlds : (files : Option Files) (p q : Option (List ℕ)) (what : Asked) (why : Fault) (expected : Files → Result (List ScriptItem) Fault) (r : Status) → IfSome files (λ f. expected f ≡ Err why)
    → IfSome (world_of files p) (λ w. IfSome (world_of files q) (λ now. EndsAs (unread what.script why) r w now))
    → IfSome (world_of files p) (λ w. IfSome (world_of files q) (λ now. EndsAs (run_read [] what w.files (expected w.files)) r w now))
unread_reported_worlds None p q what why expected r refused h = tt
unread_reported_worlds (Some f) None q what why expected r refused h = tt
unread_reported_worlds (Some f) (Some x) None what why expected r refused h = tt
unread_reported_worlds (Some f) (Some x) (Some y) what why expected r refused h =
    subst (λ (d : Result (List ScriptItem) Fault). EndsAs (run_read [] what f d) r (record { files = f; printed = x }) (record { files = f; printed = y })) (sym refused) h

-- the run of a script that is not read
pub unread_reported : (what : Asked) (why : Fault) (expected : Files → Result (List ScriptItem) Fault) (s s' : StoreState) (k k' : SinkState) (r : Status) → Reads s s' → IfSome s.files (λ f. expected f ≡ Err why)
    → IfSome (world s k) (λ w. IfSome (world s k') (λ now. EndsAs (unread what.script why) r w now))
    → IfSome (world s k) (λ w. IfSome (world s' k') (λ now. EndsAs (run_read [] what w.files (expected w.files)) r w now))
unread_reported what why expected s s' k k' r frame refused h = rw frame.files (unread_reported_worlds s.files k.written k'.written what why expected r refused h)

read_worlds : (files : Option Files) (p : Option (List ℕ)) (v : Option World) (denials : Denials) (what : Asked) (script : List ScriptItem) (expected : Files → Result (List ScriptItem) Fault) (r : Status)
    → IfSome files (λ f. expected f ≡ Ok script)
    → IfSome (world_of files p) (λ w. IfSome v (λ now. EndsAs (run_from denials empty_session w.files script what.keep_going) r w now))
    → IfSome (world_of files p) (λ w. IfSome v (λ now. EndsAs (run_read denials what w.files (expected w.files)) r w now))
read_worlds None p v denials what script expected r is h = tt
read_worlds (Some f) None v denials what script expected r is h = tt
read_worlds (Some f) (Some x) None denials what script expected r is h = tt
read_worlds (Some f) (Some x) (Some now) denials what script expected r is h =
    subst (λ (d : Result (List ScriptItem) Fault). EndsAs (run_read denials what f d) r (record { files = f; printed = x }) now) (sym is) h

-- the run of a script that is read
pub read_reported : (denials : Denials) (what : Asked) (script : List ScriptItem) (expected : Files → Result (List ScriptItem) Fault) (s m t : StoreState) (k k' : SinkState) (r : Status) → Reads s m
    → IfSome s.files (λ f. expected f ≡ Ok script)
    → IfSome (world m k) (λ w. IfSome (world t k') (λ now. EndsAs (run_from denials empty_session w.files script what.keep_going) r w now))
    → IfSome (world s k) (λ w. IfSome (world t k') (λ now. EndsAs (run_read denials what w.files (expected w.files)) r w now))
read_reported denials what script expected s m t k k' r frame is h = read_worlds s.files k.written (world t k') denials what script expected r is (rw frame.files at h)

-- ---- causes

-- of the line that tells why a script isn't read
pub unread_caused : (s m : StoreState) (k l : SinkState) (why : Fault) (r : Status) → CountsNoFault s m → ((name : Bytes) → why ≡ fault.Absent name → Rose s.misses m.misses) → IsUnreadEnd why r
    → CausedByPrinting k r l → Caused s k r m l
unread_caused s m k l why status.NoScript quiet missed ends printed = (counted why missed ends, record { store = quiet; faults = printed })
  where
    counted : (f : Fault) → ((name : Bytes) → f ≡ fault.Absent name → Rose s.misses m.misses) → unread_status f ≡ status.NoScript → Rose s.misses m.misses
    counted (fault.Absent name) rose is = rose name refl
    counted other rose is = absurd cc
unread_caused s m k l why status.BadScript quiet missed ends printed = record { store = quiet; faults = printed }
unread_caused s m k l why status.SinkFault quiet missed ends printed = inr printed
unread_caused s m k l why status.Memory quiet missed ends printed = tt
unread_caused s m k l why status.Done quiet missed ends printed = absurd ends
unread_caused s m k l why status.Refused quiet missed ends printed = absurd ends
unread_caused s m k l why status.SourceFault quiet missed ends printed = absurd ends
unread_caused s m k l why status.Usage quiet missed ends printed = absurd ends

-- of the line that tells how the program is called
pub usage_caused : (s : StoreState) (k l : SinkState) (r : Status) → IsUsageEnd r → CausedByPrinting k r l → Caused s k r s l
usage_caused s k l status.Usage ends printed = record { store = record { read_faults = refl; write_faults = refl }; faults = printed }
usage_caused s k l status.SinkFault ends printed = inr printed
usage_caused s k l status.Memory ends printed = tt
usage_caused s k l status.Done ends printed = absurd ends
usage_caused s k l status.Refused ends printed = absurd ends
usage_caused s k l status.SourceFault ends printed = absurd ends
usage_caused s k l status.NoScript ends printed = absurd ends
usage_caused s k l status.BadScript ends printed = absurd ends

-- ---- what is answered of a script

run_answers : (script : List ScriptItem) (r : Status) → IsEnd r → AnswersScript (Ok script) r
run_answers script status.Done ends = tt
run_answers script status.Refused ends = tt
run_answers script status.SourceFault ends = tt
run_answers script status.SinkFault ends = tt
run_answers script status.Memory ends = tt
run_answers script status.Usage ends = absurd ends
run_answers script status.NoScript ends = absurd ends
run_answers script status.BadScript ends = absurd ends

-- it was run
pub ran_script : (files : Option Files) (expected : Files → Result (List ScriptItem) Fault) (script : List ScriptItem) (r : Status) → IfSome files (λ f. expected f ≡ Ok script) → IsEnd r
    → IfSome files (λ f. AnswersScript (expected f) r)
ran_script files expected script r is ends = IfSome_then files is (λ f e. subst (λ (x : Result (List ScriptItem) Fault). AnswersScript x r) (sym e) (run_answers script r ends))

unread_answers : (why : Fault) (r : Status) → IsUnreadEnd why r → AnswersScript (Err why) r
unread_answers why status.NoScript ends = ends
unread_answers why status.BadScript ends = ends
unread_answers why status.SinkFault ends = tt
unread_answers why status.Memory ends = tt
unread_answers why status.SourceFault ends = tt
unread_answers why status.Done ends = absurd ends
unread_answers why status.Refused ends = absurd ends
unread_answers why status.Usage ends = absurd ends

-- it isn't there, or is none
pub refused_script : (files : Option Files) (expected : Files → Result (List ScriptItem) Fault) (why : Fault) (r : Status) → IfSome files (λ f. expected f ≡ Err why) → IsUnreadEnd why r
    → IfSome files (λ f. AnswersScript (expected f) r)
refused_script files expected why r is ends = IfSome_then files is (λ f e. subst (λ (x : Result (List ScriptItem) Fault). AnswersScript x r) (sym e) (unread_answers why r ends))

broken_answers : (x : Result (List ScriptItem) Fault) (r : Status) → IsBreak r → AnswersScript x r
broken_answers (Ok script) status.SourceFault b = tt
broken_answers (Ok script) status.SinkFault b = tt
broken_answers (Ok script) status.Memory b = tt
broken_answers (Err why) status.SourceFault b = tt
broken_answers (Err why) status.SinkFault b = tt
broken_answers (Err why) status.Memory b = tt
broken_answers x status.Done b = absurd b
broken_answers x status.Refused b = absurd b
broken_answers x status.Usage b = absurd b
broken_answers x status.NoScript b = absurd b
broken_answers x status.BadScript b = absurd b

-- a fault outside, or out of memory
pub broken_script : (files : Option Files) (expected : Files → Result (List ScriptItem) Fault) (r : Status) → IsBreak r → IfSome files (λ f. AnswersScript (expected f) r)
broken_script None expected r b = tt
broken_script (Some f) expected r b = broken_answers (expected f) r b

-- before it is known what is asked for
pub broken_asked : (words : List Bytes) (files : Option Files) (r : Status) → IsBreak r → AnswersAsked words files r
broken_asked words files r b = go (asked words)
  where
    go : (o : Option Asked) → IfSome o (λ what. IfSome files (λ f. AnswersScript (script_in f what.script) r))
    go None = tt
    go (Some what) = broken_script files (λ f. script_in f what.script) r b

-- ---- how much of a script is taken

pub ran_stops : (file rest : Option Bytes) (r : Status) → IsEnd r → StopsPastLimit file r rest
ran_stops file rest status.Done ends = tt
ran_stops file rest status.Refused ends = tt
ran_stops file rest status.SourceFault ends = tt
ran_stops file rest status.SinkFault ends = tt
ran_stops file rest status.Memory ends = tt
ran_stops file rest status.Usage ends = absurd ends
ran_stops file rest status.NoScript ends = absurd ends
ran_stops file rest status.BadScript ends = absurd ends

pub refused_stops : (files : Option Files) (name : Bytes) (rest : Option Bytes) (r : Status)
    → IfSome files (λ f. IfSome (get f name) (λ bytes. rest ≡ Some (drop (MAX_SCRIPT_BYTES + 1) bytes))) → StopsPastLimit (bytes_in files name) r rest
refused_stops files name rest status.BadScript h = by_files files h
  where
    by_files : (o : Option Files) → IfSome o (λ f. IfSome (get f name) (λ bytes. rest ≡ Some (drop (MAX_SCRIPT_BYTES + 1) bytes))) → IfSome (bytes_in o name) (λ bytes. rest ≡ Some (drop (MAX_SCRIPT_BYTES + 1) bytes))
    by_files None h = tt
    by_files (Some f) h = h
refused_stops files name rest status.Done h = tt
refused_stops files name rest status.Refused h = tt
refused_stops files name rest status.SourceFault h = tt
refused_stops files name rest status.SinkFault h = tt
refused_stops files name rest status.Memory h = tt
refused_stops files name rest status.Usage h = tt
refused_stops files name rest status.NoScript h = tt

pub broken_stops : (words : List Bytes) (s s' : StoreState) (r : Status) → IsBreak r → StopsAsked words s r s'
broken_stops words s s' r b = go (asked words)
  where
    at : (file rest : Option Bytes) (q : Status) → IsBreak q → StopsPastLimit file q rest
    at file rest status.SourceFault b = tt
    at file rest status.SinkFault b = tt
    at file rest status.Memory b = tt
    at file rest status.Done b = tt
    at file rest status.Refused b = tt
    at file rest status.Usage b = tt
    at file rest status.NoScript b = tt
    at file rest status.BadScript b = absurd b

    go : (o : Option Asked) → IfSome o (λ what. StopsPastLimit (bytes_in s.files what.script) r s'.rest)
    go None = tt
    go (Some what) = at (bytes_in s.files what.script) s'.rest r b
