-- What a `read` does to the load list.
use Rattle.std.proofs.Common.{◌≡◌, ℕ, Bool, true, false, List, [], ◌∷◌, ◌++◌, length, take, Option, Some, None, Result, Ok, Err, inl, inr, refl, ap, subst}
use Rattle.std.specs.Prelude.{if◌then◌else◌, nat_lt}
use Rattle.std.specs.FinMap.{get}
use Rattle.plain_model.specs.declared.event.PlainEvent.{PlainEvent}
use Rattle.plain_model.specs.declared.fault.Fault.{Fault}
use Rattle.plain_model.specs.declared.fault.Fault.TheVariants as fault
use Rattle.plain_model.specs.declared.fault.Which.{Which}
use Rattle.plain_model.specs.declared.fault.Why.{Why}
use Rattle.plain_model.specs.declared.limit.TheConstants.{MAX_MARK, MAX_REPOSITORIES, MAX_STREAM_BYTES}
use Rattle.plain_model.specs.Files.{Files}
use Rattle.plain_model.specs.Paths.{Bytes}
use Rattle.line_automaton.specs.Limits.{Cause}
use Rattle.line_automaton.specs.Limits.Cause.{Defect, Exceeds}
use Rattle.line_automaton.specs.Machine.{Machine, all, begun, run}
use Rattle.line_automaton.specs.Machine.Machine.{At, Stopped}
use Rattle.line_automaton.specs.Machine.Outcome.{Misses, Reads, Refuses}
use Rattle.line_automaton.specs.Machine.{Outcome, outcome}
use Rattle.stream_grammar.specs.Known.{Known, history_of}
use Rattle.stream_grammar.specs.Limits.{fault_of, if_known, known_given, last_mark, stream_of, stream_within, unless_spent}
use Rattle.stream_grammar.specs.Lines.{State}
use Rattle.script_lines.specs.Answering.{◌>>=◌}
use Rattle.history_machine.specs.Loading.{IsFileFault, IsStreamFault, loaded, over, read_of}
use Rattle.history_machine.specs.Reads.{IsLoadFault, LoadsStream, may_load, with_loaded}
use Rattle.history_machine.specs.Sessions.{Repo, Session, after_read, find_repo, read_repo, unused}

-- ---- why a stream isn't read

abbrev IsOne : Result (List PlainEvent) Fault → Type 0
IsOne (Ok events) = Unit {0}
IsOne (Err why) = IsStreamFault why

cause_is : (n : ℕ) (cause : Cause Why Which) → IsStreamFault (fault_of n cause)
cause_is n (Defect why) = tt
cause_is n (Exceeds which) = tt

spent_is : (k : Known) → IsOne (unless_spent k)
spent_is k = go (nat_lt MAX_MARK (last_mark k))
  where
    go : (b : Bool) → IsOne (if b then Err fault.MarksSpent else Ok (history_of k))
    go true = tt
    go false = tt

given_is : (o : Outcome State (Cause Why Which)) → IsOne (if_known (known_given o))
given_is (Reads s) = spent_is s.known
given_is (Refuses n cause) = cause_is n cause
given_is (Misses n) = tt

stream_is : (bytes : Bytes) → IsOne (stream_of bytes)
stream_is bytes = given_is (outcome stream_within all bytes)

stream_fault : (bytes : Bytes) (why : Fault) → stream_of bytes ≡ Err why → IsStreamFault why
stream_fault bytes why is = subst IsOne is (stream_is bytes)

-- it is then one of a file
file_fault : (file : Bytes) (why : Fault) → IsStreamFault why → IsFileFault file why
file_fault file (fault.BadStream n why) is = tt
file_fault file (fault.Limit which number) is = tt
file_fault file fault.MarksSpent is = tt
file_fault file other is = absurd is

over_is : (file : Bytes) (m : Machine State (Cause Why Which)) → IsFileFault file (over file m)
over_is file (At n mode s) = (refl, refl)
over_is file (Stopped n cause) = file_fault file (fault_of n cause) (cause_is n cause)

-- ---- what a file gives

abbrev Gives : Files → Bytes → Result (List PlainEvent) Fault → Type 0
Gives files file (Ok events) = (bytes : Bytes) × (get files file ≡ Some bytes) × (stream_of bytes ≡ Ok events)
Gives files file (Err why) = IsFileFault file why

read_gives : (files : Files) (file : Bytes) (o : Option Bytes) → get files file ≡ o → Gives files file (read_of file o)
read_gives files file None is = refl
read_gives files file (Some bytes) is = go (nat_lt MAX_STREAM_BYTES (length bytes))
  where
    whole : (r : Result (List PlainEvent) Fault) → stream_of bytes ≡ r → Gives files file r
    whole (Ok events) e = (bytes, is, e)
    whole (Err why) e = file_fault file why (stream_fault bytes why e)

    go : (b : Bool) → Gives files file (if b then Err (over file (run stream_within all (begun stream_within) (take MAX_STREAM_BYTES bytes))) else stream_of bytes)
    go true = over_is file (run stream_within all (begun stream_within) (take MAX_STREAM_BYTES bytes))
    go false = whole (stream_of bytes) refl

loaded_gives : (files : Files) (file : Bytes) (r : Result (List PlainEvent) Fault) → loaded files file ≡ r → Gives files file r
unfolding loaded
loaded_gives files file r is = subst (Gives files file) is (read_gives files file (get files file) refl)

-- ---- what a `read` does

module _ (s : Session) (files : Files) (file name : Bytes) where
  abbrev Loads : Result Session Fault → Type 0
  Loads (Ok after) = LoadsStream s files file name after
  Loads (Err why) = IsLoadFault s file name why

  by_history : may_load s name ≡ Ok name → (r : Result (List PlainEvent) Fault) → loaded files file ≡ r → Loads (r >>= λ events. Ok (with_loaded s name events))
  by_history may (Ok events) is = let its = loaded_gives files file (Ok events) is in (its.0, events, its.1, its.2, may, refl)
  by_history may (Err why) is = inr (may, loaded_gives files file (Err why) is)

  by_name : (o : Option Repo) → may_load s name ≡ unused name o → Loads (unused name o >>= λ free. loaded files file >>= λ events. Ok (with_loaded s free events))
  by_name None may = by_history may (loaded files file) refl
  by_name (Some repo) may = inl may

  by_room : (b : Bool) → nat_lt (length s.repos) MAX_REPOSITORIES ≡ b
      → Loads ((if b then Ok s.repos else Err (fault.TooManyRepos MAX_REPOSITORIES)) >>= λ repos. unused name (find_repo name repos) >>= λ free. loaded files file >>= λ events.
      Ok (record s { repos = repos ++ read_repo free events ∷ []; choice = Some free }))
  by_room true is = by_name (find_repo name s.repos) (ap (λ b. (if b then Ok s.repos else Err (fault.TooManyRepos MAX_REPOSITORIES)) >>= λ repos. unused name (find_repo name repos)) is)
  by_room false is = inl (ap (λ b. (if b then Ok s.repos else Err (fault.TooManyRepos MAX_REPOSITORIES)) >>= λ repos. unused name (find_repo name repos)) is)

  all_loads : Loads (after_read s files file name)
  unfolding after_read
  all_loads = by_room (nat_lt (length s.repos) MAX_REPOSITORIES) refl

  pub read_loads : (after : Session) → after_read s files file name ≡ Ok after → LoadsStream s files file name after
  read_loads after is = subst Loads is all_loads

  pub read_refused : (why : Fault) → after_read s files file name ≡ Err why → IsLoadFault s file name why
  read_refused why is = subst Loads is all_loads
