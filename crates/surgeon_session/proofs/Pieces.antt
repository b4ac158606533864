-- What a file gives of which pieces were read.
use Rattle.std.proofs.Common.{◌≡◌, ℕ, ◌+◌, ◌-◌, ◌≤◌, ◌<◌, Bool, true, false, cond, List, [], ◌++◌, length, take, drop, ◌∷◌, zero, suc, Option, Some, None, Result, Ok, Err, refl, sym, ap, subst, ◌∙◌, inl, inr, arith, nat_lt, length-drop, length-take}
use Rattle.std.specs.Prelude.{IfSome, IsErrOf, IsSome, min, if◌then◌else◌}
use Rattle.std.specs.FinMap.{get, get-empty, get-insert, empty, insert}
use Rattle.std.specs.Result.{IsErrAnd}
use Rattle.std.proofs.lemmas.Option.{IfSome_then}
use Rattle.std.proofs.Math.Nat.{le-min, min-le_left, min-le_right}
use Rattle.std.proofs.Math.Seq.{drop-length, take-add, take-append_seam}
use Rattle.std.proofs.lemmas.Bool.{cond-true, cond-false, cases_Bool}
use Rattle.std.proofs.lemmas.Bool.Decides.{nat_tests}
use Rattle.std.proofs.lemmas.List.{take_all, take-append-le, drop-drop, length-append}
use Rattle.std.proofs.lemmas.Cmp.{eq_by_cmp_equiv}
use Rattle.std.specs.Cmp.Lexicographic.{nat_list_cmp_total}
use Rattle.plain_model.specs.Files.{Files, name_cmp}
use Rattle.plain_model.specs.Paths.{Bytes}
use Rattle.plain_model.specs.declared.event.PlainEvent.{PlainEvent}
use Rattle.plain_model.specs.declared.fault.Fault.{Fault}
use Rattle.plain_model.specs.declared.fault.Fault.TheVariants as fault
use Rattle.plain_model.specs.declared.fault.Why.{Why}
use Rattle.plain_model.specs.declared.fault.Why.TheVariants.{Truncated}
use Rattle.plain_model.specs.declared.limit.TheConstants.{MAX_STREAM_BYTES}
use Rattle.line_automaton.specs.Machine.{Machine, all, begun, closed, first_lines, run}
use Rattle.line_automaton.specs.Machine.Machine.{At, Stopped}
use Rattle.line_automaton.specs.Machine.Mode.{InLine}
use Rattle.line_automaton.proofs.LimitLaws.{run_within}
use Rattle.line_automaton.proofs.Runs.{run_append, stays}
use Rattle.stream_grammar.specs.Limits.{exceeded, stream_of, stream_within}
use Rattle.stream_grammar.specs.Lines.{IsFirstDefect, stream}
use Rattle.stream_reader.specs.Answers.{IsFaultOf}
use Rattle.stream_reader.specs.Reading.{HasCome, HasRead, HasStopped, Reading, StreamMachine, after, at_start, reported}
use Rattle.stream_reader.specs.declared.fault.ReadFault.{ReadFault}
use Rattle.stream_reader.specs.declared.fault.ReadFault.TheVariants as read
use Rattle.stream_reader.proofs.Ends.{given_fault, reads_on, reported_stops, stopped_closed, stopped_given, stopped_on}
use Rattle.surgeon_store.specs.Outside.{Reads, StoreState}
use Rattle.surgeon_store.specs.WholeFiles.{ReturnsOrBreaks}
use Rattle.surgeon_store.specs.declared.whole_files.ReadEnd.{ReadEnd}
use Rattle.surgeon_store.specs.declared.whole_files.ReadEnd.TheVariants as ended
use Rattle.history_machine.specs.Loading.{IsStreamFault, loaded, over, read_of}
use Rattle.surgeon_session.specs.Ends.{of_read_fault}
use Rattle.surgeon_session.specs.Calls.{AsTold}
use Rattle.surgeon_session.specs.Pieces.{GoesOn, IsWhole, LeavesNothing, StopsNear, Tells, read_refused}

-- ---- what is told

-- what holds of everything
pub any_told : {A : Type 0} (o : Option A) {P : A → Type 0} → A → ((x : A) → P x) → AsTold o P
any_told None some all = (some, all some)
any_told (Some x) some all = all x

-- what follows
pub told_then : {A : Type 0} (o : Option A) {P Q : A → Type 0} → AsTold o P → ((x : A) → P x → Q x) → AsTold o Q
told_then None h f = (h.0, f h.0 h.1)
told_then (Some x) h f = f x h

-- out of memory
pub memory_told : {A X Y : Type 0} (o : Option A) → A → (view : X → Y) (r : Result X ReadEnd) → IsErrAnd r (λ e. e ≡ ended.Memory) → (expected : A → Result Y Fault)
    → AsTold o (λ x. ReturnsOrBreaks view r (expected x))
memory_told o some view (Ok x) is expected = absurd is
memory_told o some view (Err e) is expected = any_told o some (λ x. subst (λ (y : ReadEnd). ReturnsOrBreaks view (Err y) (expected x)) (sym is) tt)

-- ---- machines that have stopped, and others

-- after a part of the bytes, and after more of them
after_part : (k j : ℕ) (bytes : Bytes) → after (after at_start (take k bytes)) (take j (drop k bytes)) ≡ after at_start (take (k + j) bytes)
after_part k j bytes = sym (run_append stream_within all at_start (take k bytes) (take j (drop k bytes))) ∙ ap (after at_start) (sym (take-add k j bytes))

stopped_later : (f : ReadFault) (k n : ℕ) (bytes : Bytes) → k ≤ n → HasStopped f (after at_start (take k bytes)) → HasStopped f (after at_start (take n bytes))
stopped_later f k n bytes h stopped =
    let same : k + (n - k) ≡ n = omega arith in
    subst (λ (x : ℕ). HasStopped f (after at_start (take x bytes))) same
    (subst (HasStopped f) (after_part k (n - k) bytes) (stopped_on f (after at_start (take k bytes)) (take (n - k) (drop k bytes)) stopped))

abbrev IsGoing : {S W : Type 0} → Machine S W → Type 0
IsGoing (At i mode s) = Unit {0}
IsGoing (Stopped n why) = ⊥

-- ---- what a call that reads answers

-- a refusal is what the text gives
abbrev Breaks : ReadFault → Result (List PlainEvent) Fault → Type 0
Breaks f given = ReturnsOrBreaks {X = List PlainEvent} (λ l. l) (Err (of_read_fault f)) given

given_end : (f : ReadFault) (r : Result (List PlainEvent) Fault) → IsFaultOf r f → Breaks f r
given_end (read.BadStream n why) r e = e
given_end (read.Limit which number) r e = e
given_end read.MarksSpent r e = e
given_end read.Memory r h = tt

over_end : (name : Bytes) (f : ReadFault) (m : StreamMachine) → HasStopped f m → Breaks f (Err (over name m))
over_end name (read.BadStream n why) m is = ap (λ (x : StreamMachine). Err (over name x)) is
over_end name (read.Limit which number) m (n, is, same) =
    ap (λ (x : StreamMachine). Err (over name x)) is ∙ ap (λ k. Err (fault.Limit which k)) (sym same)
over_end name read.MarksSpent m h = absurd h
over_end name read.Memory m h = tt

-- a line that is refused in the first bytes is refused in all of them
refused_whole : (f : ReadFault) (k : ℕ) (bytes : Bytes) → k ≤ length bytes → HasStopped f (after at_start (take k bytes)) → Breaks f (stream_of bytes)
refused_whole f k bytes h stopped =
    let whole = subst (λ (x : Bytes). HasStopped f (after at_start x)) (take_all (length bytes) bytes (omega arith)) (stopped_later f k (length bytes) bytes h stopped) in
    given_end f (stream_of bytes) (given_fault bytes f (stopped_given f (closed stream_within all (after at_start bytes)) (stopped_closed f (after at_start bytes) whole)))

module _ (most : ℕ) (name : Bytes) where
  abbrev read_by : Bytes → Result (List PlainEvent) Fault
  read_by bytes = if nat_lt most (length bytes) then Err (over name (after at_start (take most bytes))) else stream_of bytes

  refused_by : (f : ReadFault) (k : ℕ) (bytes : Bytes) → k ≤ most → k ≤ length bytes → HasStopped f (after at_start (take k bytes)) → Breaks f (read_by bytes)
  refused_by f k bytes h within stopped = go (nat_lt most (length bytes))
    where
      go : (t : Bool) → Breaks f (if t then Err (over name (after at_start (take most bytes))) else stream_of bytes)
      go true = over_end name f (after at_start (take most bytes)) (stopped_later f k most bytes h stopped)
      go false = refused_whole f k bytes within stopped

  whole_by : (r : Result (List PlainEvent) ReadEnd) (bytes : Bytes) → length bytes ≤ most → ReturnsOrBreaks (λ (l : List PlainEvent). l) r (stream_of bytes)
      → ReturnsOrBreaks (λ (l : List PlainEvent). l) r (read_by bytes)
  whole_by r bytes h e =
      subst (ReturnsOrBreaks (λ (l : List PlainEvent). l) r)
      (sym (cond-false (nat_lt most (length bytes)) (Err (over name (after at_start (take most bytes)))) (stream_of bytes) (grind (arith, nat_tests)))) e

  long_by : (bytes : Bytes) → most < length bytes → GoesOn (after at_start (take most bytes)) → read_by bytes ≡ Err (fault.TooLong name MAX_STREAM_BYTES)
  long_by bytes h (i, mode, s, is) =
      cond-true (nat_lt most (length bytes)) (Err (over name (after at_start (take most bytes)))) (stream_of bytes) (grind (arith, nat_tests))
      ∙ ap (λ (x : StreamMachine). Err (over name x)) is

-- ---- how far a file is read

module _ (defect : (bytes : Bytes) (n : ℕ) (why : Why) → stream_of bytes ≡ Err (fault.BadStream n why) → IsFirstDefect bytes n why) where
  -- while a machine goes on, the line that is refused hasn't come whole
  before_refusal : (bytes : Bytes) (n : ℕ) (why : Why) (come : ℕ) → (why ≡ Truncated → ⊥) → stream_of bytes ≡ Err (fault.BadStream n why)
      → GoesOn (after at_start (take come bytes)) → (others : Bytes) → bytes ≡ first_lines n bytes ++ others → come < length (first_lines n bytes)
  before_refusal bytes n why come not_end e (i, mode, s, is) others cut = by_first (defect bytes n why e)
    where
      first : Bytes
      first = first_lines n bytes

      on : run stream all (begun stream) (take come bytes) ≡ At i mode s
      on = run_within stream exceeded all (take come bytes) i mode s is

      never : run stream all (begun stream) first ≡ Stopped n why → length first ≤ come → ⊥
      never entry h =
          let same : length first + (come - length first) ≡ come = omega arith in
          let front : take (length first) bytes ≡ first = ap (take (length first)) cut ∙ take-append_seam first others in
          let parts : take come bytes ≡ first ++ take (come - length first) (drop (length first) bytes) =
          ap (λ k. take k bytes) (sym same) ∙ take-add (length first) (come - length first) bytes
          ∙ ap (λ (x : Bytes). x ++ take (come - length first) (drop (length first) bytes)) front in
          let stopped : run stream all (begun stream) (take come bytes) ≡ Stopped n why =
          ap (run stream all (begun stream)) parts
          ∙ run_append stream all (begun stream) first (take (come - length first) (drop (length first) bytes))
          ∙ ap (λ m. run stream all m (take (come - length first) (drop (length first) bytes))) entry
          ∙ stays stream all n why (take (come - length first) (drop (length first) bytes)) in
          subst IsGoing (sym on ∙ stopped) tt

      by_first : IsFirstDefect bytes n why → come < length first
      by_first (inr (early, _)) = absurd (not_end early)
      by_first (inl stops) =
          elim (cases_Bool (nat_lt come (length first))) [
            | inl below ↦ grind (arith, nat_tests)
            | inr above ↦ absurd (never stops.entry (grind (arith, nat_tests)))
          ]

  -- a refusal is answered once at most a piece has come beyond where the machine went on
  stops_near : (r : Result (List PlainEvent) ReadEnd) (bytes : Bytes) (rest : Option Bytes) (come k : ℕ) → k ≤ come + 65536 → k ≤ MAX_STREAM_BYTES → rest ≡ Some (drop k bytes)
      → GoesOn (after at_start (take come bytes)) → IfSome (read_refused r) (λ f. IsStreamFault f) → ReturnsOrBreaks (λ (l : List PlainEvent). l) r (stream_of bytes)
      → StopsNear (Some bytes) (read_refused r) rest
  stops_near (Ok l) bytes rest come k h within is on cause e = tt
  stops_near (Err ended.SourceFault) bytes rest come k h within is on cause e = tt
  stops_near (Err ended.Memory) bytes rest come k h within is on cause e = tt
  stops_near (Err (ended.Refused (fault.BadStream n why))) bytes rest come k h within is on cause e = (
    (k, within, is),
    λ not_end others cut.
        let below = before_refusal bytes n why come not_end e on others cut in
        (k, omega (arith, below, h), is),
  )
  stops_near (Err (ended.Refused (fault.Limit which number))) bytes rest come k h within is on cause e = (k, within, is)
  stops_near (Err (ended.Refused fault.MarksSpent)) bytes rest come k h within is on cause e = (k, within, is)
  stops_near (Err (ended.Refused other)) bytes rest come k h within is on cause e = absurd cause

-- why a stream isn't read is why a stream is refused
stream_cause : (X : Type 0) (f : ReadFault) → IfSome (read_refused {X = X} (Err (of_read_fault f))) (λ f. IsStreamFault f)
stream_cause X (read.BadStream n why) = tt
stream_cause X (read.Limit which number) = tt
stream_cause X read.MarksSpent = tt
stream_cause X read.Memory = tt

-- ---- a file that is read in pieces

-- the bytes that came are the first of the file, and the others are left
abbrev pub HasTaken : Option Bytes → ℕ → Bytes → Option Bytes → Type 0
HasTaken file come read now = IfSome file (λ bytes. (read ≡ take come bytes) × (come ≤ length bytes) × (now ≡ Some (drop come bytes)))

-- a call of `read` takes n bytes from the front of what is left
abbrev pub TakesMore : Option Bytes → ℕ → Bytes → Option Bytes → Type 0
TakesMore now n piece new =
    IfSome now (λ rest. (n ≤ length rest) × (take n piece ≡ take n rest) × (new ≡ Some (drop n rest)) × (n ≡ 0 → 0 < length piece → rest ≡ []))

pub none_taken : (file : Option Bytes) → HasTaken file 0 [] file
none_taken None = tt
none_taken (Some bytes) = (refl, omega arith, refl)

pub more_taken : (file now new : Option Bytes) (come n : ℕ) (read piece : Bytes) → HasTaken file come read now → TakesMore now n piece new
    → HasTaken file (come + n) (read ++ take n piece) new
more_taken None now new come n read piece taken more = tt
more_taken (Some bytes) now new come n read piece (is, within, left) more =
    let took = subst (λ (o : Option Bytes). TakesMore o n piece new) left more in
    let size = length-drop come bytes in
    let fits = took.0 in (
      ap (λ (x : Bytes). x ++ take n piece) is ∙ ap (λ (x : Bytes). take come bytes ++ x) took.1 ∙ sym (take-add come n bytes),
      omega (arith, within, size, fits),
      took.2 ∙ ap Some (drop_more come n bytes),
    )
  where
    drop_more : (a b : ℕ) (xs : Bytes) → drop b (drop a xs) ≡ drop (a + b) xs
    drop_more a b xs = drop-drop b a xs

-- more of a stream was fed
pub fed_more : (now : Reading) (read piece : Bytes) → HasCome now (after (after at_start read) piece) → HasRead now (read ++ piece)
fed_more now read piece h = subst (HasCome now) (sym (run_append stream_within all at_start read piece)) h

-- before the first byte, and after more bytes of which no line is refused
pub begins : GoesOn (after at_start [])
begins = (1, InLine [], stream_within.start, refl)

pub goes_on : (r : Reading) (read : Bytes) → Ok tt ≡ reported r.place → HasRead r read → GoesOn (after at_start read)
goes_on r read going fed = reads_on r.standing r.known r.number r.come r.place (after at_start read) going fed

pub nothing_near : (file rest : Option Bytes) → StopsNear file None rest
nothing_near None rest = tt
nothing_near (Some bytes) rest = tt

pub each_some : {A : Type 0} (o : Option A) {P : A → Type 0} → ((x : A) → P x) → IfSome o P
each_some None all = tt
each_some (Some x) all = all x

-- why a stream isn't read is no fault of the source
pub never_source : {X : Type 0} (f : ReadFault) (e : ReadEnd) → e ≡ of_read_fault f → IsErrOf {T = X} (Err e) ended.SourceFault → ⊥
never_source (read.BadStream n why) e is h = absurd cc
never_source (read.Limit which number) e is h = absurd cc
never_source read.MarksSpent e is h = absurd cc
never_source read.Memory e is h = absurd cc

pub memory_tells : (name : Bytes) (file : Option Bytes) (r : Result (Unit {0}) ReadEnd) (reader : Reading) (rest : Option Bytes)
    → IsErrAnd r (λ e. e ≡ ended.Memory) → Tells name file r reader rest
memory_tells name file (Ok done) reader rest is = absurd is
memory_tells name file (Err e) reader rest is = subst (λ (y : ReadEnd). Tells name file (Err y) reader rest) (sym is) (any_told file [] (λ bytes. tt))

pub memory_near : {X : Type 0} (r : Result X ReadEnd) → IsErrAnd r (λ e. e ≡ ended.Memory) → (file rest : Option Bytes) → StopsNear file (read_refused r) rest
memory_near (Ok x) is file rest = absurd is
memory_near {X = X} (Err e) is file rest = subst (λ (y : ReadEnd). StopsNear file (read_refused {X = X} (Err y)) rest) (sym is) (nothing_near file rest)

-- a byte was taken past the limit
pub long_near : (file now new : Option Bytes) (come n : ℕ) (read piece name : Bytes) (limit : ℕ) → come ≤ MAX_STREAM_BYTES → MAX_STREAM_BYTES ≤ come → n ≤ 1 → (n ≡ 0 → ⊥)
    → HasTaken file come read now → TakesMore now n piece new → StopsNear file (Some (fault.TooLong name limit)) new
long_near None now new come n read piece name limit within full few some taken more = tt
long_near (Some bytes) now new come n read piece name limit within full few some taken more =
    let took = more_taken (Some bytes) now new come n read piece taken more in
    let one : n ≡ 1 = single n few some in
    let same : come + n ≡ MAX_STREAM_BYTES + 1 = omega (arith, within, full, one) in
    took.2 ∙ ap (λ (k : ℕ). Some (drop k bytes)) same
  where
    single : (k : ℕ) → k ≤ 1 → (k ≡ 0 → ⊥) → k ≡ 1
    single zero h some = absurd (some refl)
    single (suc zero) h some = refl
    single (suc (suc k)) h some = absurd (omega (arith, h))

-- why a call is refused, whatever it gives else
pub same_refusal : (X Y : Type 0) (e : ReadEnd) → read_refused {X = X} (Err e) ≡ read_refused {X = Y} (Err e)
same_refusal X Y (ended.Refused why) = refl
same_refusal X Y ended.SourceFault = refl
same_refusal X Y ended.Memory = refl

-- ---- the piece of a call of `read`

-- it has room for what may still come, and no more
pub room_fits : (most come small room count : ℕ) (piece new : Bytes) → come ≤ most → room ≡ min (most - come) small → length new ≡ length (take room piece) → count ≤ length new
    → (come + count ≤ most) × (count ≤ small)
room_fits most come small room count piece new within is size bound =
    let cut = length-take room piece in
    let at_most = min-le_left room (length piece) in
    let left = min-le_left (most - come) small in
    let few = min-le_right (most - come) small in
    (omega (arith, within, is, size, bound, cut, at_most, left), omega (arith, is, size, bound, cut, at_most, few))

pub has_room : (room : ℕ) (piece new : Bytes) → 1 ≤ room → 1 ≤ length piece → length new ≡ length (take room piece) → 0 < length new
has_room room piece new some there size =
    let cut = length-take room piece in
    let both = le-min some there in
    omega (arith, size, cut, both)

-- one for a byte takes one at most
pub one_byte : (piece new : Bytes) (count : ℕ) → length new ≡ length (take 1 piece) → count ≤ length new → count ≤ 1
one_byte piece new count size bound =
    let cut = length-take 1 piece in
    let most = min-le_left 1 (length piece) in
    omega (arith, size, bound, cut, most)

-- so many bytes have come
pub piece_size : (count : ℕ) (read piece : Bytes) (come : ℕ) → count ≤ length piece → length read ≡ come → length (read ++ take count piece) ≡ come + count
piece_size count read piece come bound size =
    let parts = length-append read (take count piece) in
    let cut = length-take count piece in
    let all = min-le_same count (length piece) bound in
    omega (arith, size, parts, cut, all)
  where
    min-le_same : (a b : ℕ) → a ≤ b → min a b ≡ a
    min-le_same a b h =
        let same : a ≤ a = omega arith in
        let low = le-min same h in
        let high = min-le_left a b in
        omega (arith, low, high)

pub wanted : (most come small room : ℕ) → come < most → 1 ≤ small → room ≡ min (most - come) small → 1 ≤ room
wanted most come small room below some is =
    let left : 1 ≤ most - come = omega (arith, below) in
    let both = le-min left some in
    omega (arith, is, both)

-- what was fed is the front of it
pub fed_piece : (later : Reading) (read new tail : Bytes) (count : ℕ) → count ≤ length new → HasCome later (after (after at_start read) (take count (new ++ tail)))
    → HasRead later (read ++ take count new)
fed_piece later read new tail count bound h =
    fed_more later read (take count new) (subst (λ (x : Bytes). HasCome later (after (after at_start read) x)) (take-append-le count new tail bound) h)

pub reads_both : (a b c : StoreState) → Reads a b → Reads b c → Reads a c
reads_both a b c first later =
    let faults = first.read_faults in
    let faults_later = later.read_faults in
    let misses = first.misses in
    let misses_later = later.misses in
    record {
      files = later.files ∙ first.files;
      writing = later.writing ∙ first.writing;
      write_faults = later.write_faults ∙ first.write_faults;
      read_faults = omega (arith, faults, faults_later);
      misses = omega (arith, misses, misses_later);
    }

module _
    (defect : (bytes : Bytes) (n : ℕ) (why : Why) → stream_of bytes ≡ Err (fault.BadStream n why) → IsFirstDefect bytes n why)
    (most : ℕ) (name : Bytes) (file now new : Option Bytes) (r : Reading) (read piece : Bytes) (come : ℕ)
    (within : come ≤ most) (taken : HasTaken file come read now) (size : length read ≡ come) (fed : HasRead r read) (going : GoesOn (after at_start read))
  where
    goes : (bytes : Bytes) → read ≡ take come bytes → GoesOn (after at_start (take come bytes))
    goes bytes is = subst (λ (x : Bytes). GoesOn (after at_start x)) is going

    -- where a line is refused
    module _ (n : ℕ) (f : ReadFault) (later : Reading) (more : TakesMore now n piece new) (fits : come + n ≤ most) (small : n ≤ 65536)
        (stops : Err f ≡ reported later.place) (next : HasRead later (read ++ take n piece))
      where
        at_refusal : (bytes : Bytes) → HasTaken (Some bytes) come read now → (come + n ≤ length bytes) × (new ≡ Some (drop (come + n) bytes)) × HasStopped f (after at_start (take (come + n) bytes))
        at_refusal bytes h =
            let took = more_taken (Some bytes) now new come n read piece h more in (
              took.1,
              took.2,
              subst (λ (x : Bytes). HasStopped f (after at_start x)) took.0
                  (reported_stops later.standing later.known later.number later.come later.place f (after at_start (read ++ take n piece)) stops next),
            )

        pub refused_returns : AsTold file (λ bytes. ReturnsOrBreaks {X = List PlainEvent} (λ l. l) (Err (of_read_fault f)) (read_by most name bytes))
        refused_returns = by_file file taken
          where
            came : Bytes
            came = read ++ take n piece

            by_file : (o : Option Bytes) → HasTaken o come read now → AsTold o (λ bytes. ReturnsOrBreaks {X = List PlainEvent} (λ l. l) (Err (of_read_fault f)) (read_by most name bytes))
            by_file None h =
                let parts = length-append read (take n piece) in
                let few = length-take n piece in
                let cut = min-le_left n (length piece) in (
                  came,
                  refused_by most name f (length came) came (omega (arith, parts, few, cut, size, fits)) (omega arith)
                      (subst (λ (x : Bytes). HasStopped f (after at_start x)) (sym (take_all (length came) came (omega arith)))
                      (reported_stops later.standing later.known later.number later.come later.place f (after at_start came) stops next)),
                )
            by_file (Some bytes) h =
                let done = at_refusal bytes h in
                refused_by most name f (come + n) bytes fits done.0 done.2

        pub refused_near : come + n ≤ MAX_STREAM_BYTES → (X : Type 0) → StopsNear file (read_refused {X = X} (Err (of_read_fault f))) new
        refused_near limited X = subst (λ (o : Option Fault). StopsNear file o new) (same_refusal (List PlainEvent) X (of_read_fault f)) (by_file file taken)
          where
            by_file : (o : Option Bytes) → HasTaken o come read now → StopsNear o (read_refused {X = List PlainEvent} (Err (of_read_fault f))) new
            by_file None h = tt
            by_file (Some bytes) h =
                let done = at_refusal bytes h in
                stops_near defect (Err (of_read_fault f)) bytes new come (come + n) (omega (arith, small)) limited done.1 (goes bytes h.0) (stream_cause (List PlainEvent) f)
                (refused_whole f (come + n) bytes done.0 done.2)

    -- where a byte is past the limit
    pub long_returns : (n : ℕ) → TakesMore now n piece new → (n ≡ 0 → ⊥) → most ≤ come → AsTold file (λ bytes. read_by most name bytes ≡ Err (fault.TooLong name MAX_STREAM_BYTES))
    long_returns n more some full = by_file file taken
      where
        positive : (k : ℕ) → (k ≡ 0 → ⊥) → 1 ≤ k
        positive zero h = absurd (h refl)
        positive (suc k) h = omega arith

        full_now : come ≡ most
        full_now = omega (arith, within, full)

        by_file : (o : Option Bytes) → HasTaken o come read now → AsTold o (λ bytes. read_by most name bytes ≡ Err (fault.TooLong name MAX_STREAM_BYTES))
        by_file None h =
            let parts = length-append read (0 ∷ []) in
            let front : take most (read ++ 0 ∷ []) ≡ read = ap (λ (k : ℕ). take k (read ++ 0 ∷ [])) (sym (size ∙ full_now)) ∙ take-append_seam read (0 ∷ []) in (
              read ++ 0 ∷ [],
              long_by most name (read ++ 0 ∷ []) (omega (arith, parts, size, full_now)) (subst (λ (x : Bytes). GoesOn (after at_start x)) (sym front) going),
            )
        by_file (Some bytes) (is, before, left) =
            let took = subst (λ (o : Option Bytes). TakesMore o n piece new) left more in
            let room = length-drop come bytes in
            let there = took.0 in
            let one : 1 ≤ n = positive n some in
            long_by most name bytes (omega (arith, room, there, one, full_now, before)) (subst (λ (k : ℕ). GoesOn (after at_start (take k bytes))) full_now (goes bytes is))

-- ---- a file that was taken whole

-- a call of `read` with room for a byte took none
pub whole : (file now new : Option Bytes) (r : Reading) (read piece : Bytes) (come : ℕ) → come ≤ MAX_STREAM_BYTES → HasTaken file come read now → length read ≡ come → HasRead r read
    → GoesOn (after at_start read) → TakesMore now 0 piece new → 0 < length piece → IsWhole file r new
whole file now new r read piece come within taken size fed going more room = (read, fed, going, omega (arith, within, size), by_file file taken)
  where
    by_file : (o : Option Bytes) → HasTaken o come read now → IfSome o (λ bytes. (read ≡ bytes) × (new ≡ Some []))
    by_file None h = tt
    by_file (Some bytes) (is, before, left) =
        let took = subst (λ (o : Option Bytes). TakesMore o 0 piece new) left more in
        let none : drop come bytes ≡ [] = took.3 refl room in
        let empty : length (drop come bytes) ≡ 0 = ap length none in
        let left_of = length-drop come bytes in
        let all : length bytes ≤ come = omega (arith, empty, left_of) in
        (is ∙ take_all come bytes all, took.2 ∙ ap Some none)

module _
    (name : Bytes) (file rest : Option Bytes) (r : Reading) (result : Result (List PlainEvent) ReadEnd) (is : IsWhole file r rest)
    (gives : (bytes : Bytes) → HasRead r bytes → ReturnsOrBreaks (λ (l : List PlainEvent). l) result (stream_of bytes))
  where
    pub whole_returns : AsTold file (λ bytes. ReturnsOrBreaks (λ (l : List PlainEvent). l) result (read_of name (Some bytes)))
    whole_returns = by_file file is.4
      where
        came : ReturnsOrBreaks (λ (l : List PlainEvent). l) result (read_of name (Some is.0))
        came = whole_by MAX_STREAM_BYTES name result is.0 is.3 (gives is.0 is.1)

        by_file : (o : Option Bytes) → IfSome o (λ bytes. (is.0 ≡ bytes) × (rest ≡ Some []))
            → AsTold o (λ bytes. ReturnsOrBreaks (λ (l : List PlainEvent). l) result (read_of name (Some bytes)))
        by_file None h = (is.0, came)
        by_file (Some bytes) (same, left) = subst (λ (x : Bytes). ReturnsOrBreaks (λ (l : List PlainEvent). l) result (read_of name (Some x))) same came

    pub whole_near : ((bytes : Bytes) (n : ℕ) (why : Why) → stream_of bytes ≡ Err (fault.BadStream n why) → IsFirstDefect bytes n why)
        → IfSome (read_refused result) (λ f. IsStreamFault f) → StopsNear file (read_refused result) rest
    whole_near defect cause = by_file file is.4
      where
        by_file : (o : Option Bytes) → IfSome o (λ bytes. (is.0 ≡ bytes) × (rest ≡ Some []))
            → StopsNear o (read_refused result) rest
        by_file None h = tt
        by_file (Some bytes) (same, left) =
            let few : length bytes ≤ MAX_STREAM_BYTES = subst (λ (x : Bytes). length x ≤ MAX_STREAM_BYTES) same is.3 in
            stops_near defect result bytes rest (length bytes) (length bytes) (omega arith) few (left ∙ ap Some (sym (drop-length bytes)))
            (subst (λ (x : Bytes). GoesOn (after at_start x)) (same ∙ sym (take_all (length bytes) bytes (omega arith))) is.2) cause (gives bytes (subst (HasRead r) same is.1))

    pub whole_leaves : LeavesNothing file rest
    whole_leaves = IfSome_then file is.4 (λ bytes h. (subst (λ (x : Bytes). length x ≤ MAX_STREAM_BYTES) h.0 is.3, h.1))

-- ---- the history of a file

-- no file is there
abbrev pub no_files : Files
no_files = empty

-- one file is
abbrev pub one_file : Bytes → Bytes → Files
one_file name bytes = insert no_files name bytes

pub found_alone : (name bytes : Bytes) → get (one_file name bytes) name ≡ Some bytes
found_alone name bytes = get-insert nat_list_cmp_total no_files name bytes name ∙ ap (λ b. cond b (Some bytes) (get no_files name)) ((eq_by_cmp_equiv nat_list_cmp_total).refl name)

module _ {X : Type 0} (view : X → List PlainEvent) (name : Bytes) (files : Option Files) where
  -- a file that isn't opened is missing, or its reading breaks off
  pub not_opened : (r : Result X ReadEnd) (e : ReadEnd) → IsErrAnd r (λ x. x ≡ e)
      → ((why : Fault) → ◌≡◌ {A = Result (Unit {0}) ReadEnd} (Err e) (Err (ended.Refused why)) → (why ≡ fault.Absent name) × IfSome files (λ f. get f name ≡ None))
      → AsTold files (λ f. ReturnsOrBreaks view r (loaded f name))
  unfolding loaded
  not_opened (Ok x) e is missing = absurd is
  not_opened (Err y) e is missing = subst (λ (z : ReadEnd). AsTold files (λ f. ReturnsOrBreaks view (Err z) (loaded f name))) (sym is) (by_end e missing)
    where
      absent : (why : Fault) (o : Option Files) → why ≡ fault.Absent name → IfSome o (λ f. get f name ≡ None) → AsTold o (λ f. loaded f name ≡ Err why)
      absent why None is none = (no_files, ap (read_of name) (get-empty name_cmp name) ∙ ap Err (sym is))
      absent why (Some f) is none = ap (read_of name) none ∙ ap Err (sym is)

      by_end : (z : ReadEnd) → ((why : Fault) → ◌≡◌ {A = Result (Unit {0}) ReadEnd} (Err z) (Err (ended.Refused why)) → (why ≡ fault.Absent name) × IfSome files (λ f. get f name ≡ None))
          → AsTold files (λ f. ReturnsOrBreaks view (Err z) (loaded f name))
      by_end (ended.Refused why) missing = let found = missing why refl in absent why files found.0 found.1
      by_end ended.SourceFault missing = any_told files no_files (λ f. tt)
      by_end ended.Memory missing = any_told files no_files (λ f. tt)

  -- one that is opened gives what its bytes do
  opened : (P : Result (List PlainEvent) Fault → Type 0) (rest : Option Bytes) → IfSome files (λ f. IsSome (get f name) × (rest ≡ get f name))
      → AsTold rest (λ bytes. P (read_of name (Some bytes))) → AsTold files (λ f. P (loaded f name))
  unfolding loaded
  opened P rest there of = by_files files there
    where
      by_found : (o : Option Bytes) → IsSome o → rest ≡ o → P (read_of name o)
      by_found None some is = absurd cc
      by_found (Some bytes) some is = subst (λ (o : Option Bytes). AsTold o (λ b. P (read_of name (Some b)))) is of

      some_bytes : (o : Option Bytes) → AsTold o (λ b. P (read_of name (Some b))) → (bytes : Bytes) × P (read_of name (Some bytes))
      some_bytes None h = h
      some_bytes (Some bytes) h = (bytes, h)

      by_files : (o : Option Files) → IfSome o (λ f. IsSome (get f name) × (rest ≡ get f name)) → AsTold o (λ f. P (read_of name (get f name)))
      by_files None h =
          let its = some_bytes rest of in
          (one_file name its.0, subst (λ (o : Option Bytes). P (read_of name o)) (sym (found_alone name its.0)) its.1)
      by_files (Some f) h = by_found (get f name) h.0 h.1

  pub opened_value : (rest : Option Bytes) (list : List PlainEvent) (x : X) → view x ≡ list → IfSome files (λ f. IsSome (get f name) × (rest ≡ get f name))
      → AsTold rest (λ bytes. read_of name (Some bytes) ≡ Ok list) → AsTold files (λ f. loaded f name ≡ Ok (view x))
  opened_value rest list x is there of = told_then files (opened (λ g. g ≡ Ok list) rest there of) (λ f e. e ∙ ap Ok (sym is))

  pub opened_breaks : (rest : Option Bytes) (r : Result X ReadEnd) (e : ReadEnd) → IsErrAnd r (λ x. x ≡ e) → IfSome files (λ f. IsSome (get f name) × (rest ≡ get f name))
      → AsTold rest (λ bytes. ReturnsOrBreaks {X = List PlainEvent} (λ l. l) (Err e) (read_of name (Some bytes))) → AsTold files (λ f. ReturnsOrBreaks view r (loaded f name))
  opened_breaks rest (Ok x) e is there of = absurd is
  opened_breaks rest (Err y) e is there of =
      subst (λ (z : ReadEnd). AsTold files (λ f. ReturnsOrBreaks view (Err z) (loaded f name))) (sym is)
      (told_then files (opened (λ g. ReturnsOrBreaks {X = List PlainEvent} (λ l. l) (Err e) g) rest there of) (λ f h. by_end e (loaded f name) h))
    where
      by_end : (z : ReadEnd) (g : Result (List PlainEvent) Fault) → ReturnsOrBreaks {X = List PlainEvent} (λ l. l) (Err z) g → ReturnsOrBreaks view (Err z) g
      by_end (ended.Refused why) g h = h
      by_end ended.SourceFault g h = tt
      by_end ended.Memory g h = tt
