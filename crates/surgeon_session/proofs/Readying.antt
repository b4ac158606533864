-- Commands and lines, from what comes before a command's own part: what it speaks of is there or not, a line has an order or not.
use Rattle.std.proofs.Common.{◌≡◌, ℕ, Bool, List, [], ◌++◌, take, Option, Some, None, Result, Ok, Err, refl, sym, ap, subst, ◌∙◌}
use Rattle.std.specs.Prelude.{IfSome, IsSome}
use Rattle.std.proofs.lemmas.Option.{IfSome_then}
use Rattle.std.specs.Result.{IsErrAnd}
use Rattle.plain_model.specs.Faults.{refusal}
use Rattle.plain_model.specs.Files.{Files}
use Rattle.plain_model.specs.Paths.{Bytes}
use Rattle.plain_model.specs.declared.fault.Fault.{Fault}
use Rattle.plain_model.specs.declared.fault.Halt.{Halt}
use Rattle.plain_model.specs.declared.fault.Halt.TheVariants as halt
use Rattle.byte_patterns.specs.Judging.{Denial, Judges, plainly, under}
use Rattle.script_reader.specs.Commands.{order_of}
use Rattle.script_reader.specs.declared.command.Command.{Command}
use Rattle.script_reader.specs.declared.command.Command.TheVariants as command
use Rattle.script_reader.specs.declared.command.Order.{Order}
use Rattle.script_lines.specs.declared.script.ScriptLine.TheVariants.{Plain}
use Rattle.surgeon_store.specs.Outside.{Puts, PutsSome, StoreState, SinkState}
use Rattle.history_machine.specs.Machine.{World, Effect, PartSent, effect_of, passes_limit, sent}
use Rattle.history_machine.specs.Sessions.{Session, Subject, of_events, ready}
use Rattle.history_machine.specs.Steps.{carried, line_step, ordered, step}
use Rattle.history_machine.proofs.Steps.{nothing_built}
use Rattle.surgeon_session.specs.Calls.{world, world_of}
use Rattle.surgeon_session.specs.Commands.{Carries, CarriesOut, Leaves, LineReadsNoFile, OrderReadsNoFile, PartOf, PartOfLine, ReadsNoFile, Refuses, Steps, no_calls}
use Rattle.surgeon_session.specs.Denials.{Under}
use Rattle.surgeon_session.specs.Ends.{of_halt}
use Rattle.surgeon_session.specs.Pieces.{CountsMissOf, StopsNear, bytes_read, refused}
use Rattle.surgeon_session.specs.declared.halted.Halted.{Halted}
use Rattle.surgeon_session.specs.declared.halted.Halted.TheVariants as halted
use Rattle.surgeon_session.proofs.Halting.{halted_alone}
use Rattle.surgeon_session.proofs.Pieces.{any_told, no_files}
use Rattle.surgeon_session.proofs.Rounds.{mapped, no_part, none_failed, quiet_world, same_later, same_world}

-- that holds under no denial
pub undenied : (before now : ℕ) (P : Option Denial → Type 0) → P None → Under before now P
undenied before now P h = (None, λ sized. absurd cc, h)

-- ---- nothing is sent

-- what is done without a word to the outside
pub done_alone : {Y : Type 0} (calls : Y → List Bytes) (s : StoreState) (k : SinkState) (old new : Session) (reads_no_file : Type 0) (specified : Files → Result (Effect Session) Fault) (y : Y)
    → ((files : Files) → specified files ≡ Ok (record { session = new; to = None; bytes = []; calls = calls y })) → CarriesOut calls s k old reads_no_file specified (Ok y) new s k
done_alone calls s k old new reads_no_file specified y is =
    let done : Effect Session = record { session = new; to = None; bytes = []; calls = calls y } in
    record {
      outcome = record {
        prescribed = same_world (λ w now. Steps calls (Ok y) old w (specified w.files) new now) (world s k)
            (λ w. subst (λ (r : Result (Effect Session) Fault). Carries (calls y) w r new w) (sym (is w.files)) (refl, quiet_world w, refl));
        caused = none_failed s k;
        later = same_later s k;
      };
      told = any_told s.files no_files (λ files. subst (λ (r : Result (Effect Session) Fault). Leaves (calls y) r new) (sym (is files)) (refl, refl));
      exact = λ _ files. subst (λ (r : Result (Effect Session) Fault). Leaves (calls y) r new) (sym (is files)) (refl, refl);
      kept = tt;
    }

-- ---- what a command speaks of

without_subject : (denial : Option Denial) (s : Session) (files : Files) (what : Command) (why : Fault) → under denial (ready s what) ≡ Err why → step denial s files what ≡ Err why
unfolding step
without_subject denial s files what why is = rw is refl

with_subject : (s : Session) (files : Files) (what : Command) (subject : Subject) → (ready s what).value ≡ Ok subject → carried s files subject what ≡ step None s files what
unfolding step
with_subject s files what subject is = rw is refl

module _ (before now : ℕ) where
  -- it isn't there
  pub not_ready : (s : StoreState) (k : SinkState) (old new : Session) (what : Command) (h : Halt) (r : Result (Unit {0}) Halted) → IsErrAnd r (λ e. e ≡ of_halt h)
      → Judges {X = Subject} (λ subject. subject) before now (Err h) (ready old what) → new ≡ old
      → Under before now (λ denial. CarriesOut no_calls s k old (ReadsNoFile what) (λ files. step denial old files what) r new s k)
  not_ready s k old new what (halt.Refused why) r is judged same = (
    judged.0,
    judged.1,
    halted_alone no_calls s k old new (ReadsNoFile what) (λ files. step judged.0 old files what) (halt.Refused why) r is (λ files. without_subject judged.0 old files what why judged.2) same,
  )
  not_ready s k old new what halt.Memory r is judged same =
      undenied before now (λ denial. CarriesOut no_calls s k old (ReadsNoFile what) (λ files. step denial old files what) r new s k)
      (halted_alone no_calls s k old new (ReadsNoFile what) (λ files. step None old files what) halt.Memory r is (λ files. tt) same)

  -- it is, and with it the command is carried out
  pub is_ready : (s s' : StoreState) (k k' : SinkState) (old mid new : Session) (what : Command) (subject : Subject) (r : Result (Unit {0}) Halted) → (ready old what).value ≡ Ok subject → mid ≡ old
      → CarriesOut no_calls s k mid (ReadsNoFile what) (λ files. carried mid files subject what) r new s' k'
      → Under before now (λ denial. CarriesOut no_calls s k old (ReadsNoFile what) (λ files. step denial old files what) r new s' k')
  is_ready s s' k k' old mid new what subject r is same h =
      undenied before now (λ denial. CarriesOut no_calls s k old (ReadsNoFile what) (λ files. step denial old files what) r new s' k')
      (subst (λ (f : Files → Result (Effect Session) Fault). CarriesOut no_calls s k old (ReadsNoFile what) f r new s' k') (λ i. λ files. with_subject old files what subject is i)
      (subst (λ (x : Session). CarriesOut no_calls s k x (ReadsNoFile what) (λ files. carried x files subject what) r new s' k') same h))

  never_both : {A : Type 0} {x : A} {why : Fault} → Ok x ≡ Err why → ⊥
  never_both is = absurd cc

  -- a file is never read before it is there
  none_refused : {A : Type 0} (h : Halt) (r : Result A Halted) → IsErrAnd r (λ e. e ≡ of_halt h) → Judges {X = Subject} {Y = Subject} (λ subject. subject) before now (Err h) (plainly (Ok (of_events []))) → refused r ≡ None
  none_refused (halt.Refused why) (Ok x) is judged = absurd is
  none_refused (halt.Refused why) (Err e) is judged = absurd (never_both (sym (nothing_built judged.0 (Ok (of_events []))) ∙ judged.2))
  none_refused halt.Memory (Ok x) is judged = absurd is
  none_refused halt.Memory (Err e) is judged = ap (λ (x : Halted). refused {X = Unit {0}} (Err x)) is

  near_none : (bytes : Option Bytes) (rest : Option Bytes) → StopsNear bytes None rest
  near_none None rest = tt
  near_none (Some bytes) rest = tt

  pub not_ready_near : {A : Type 0} (files : Option Files) (rest : Option Bytes) (s : Session) (what : Command) (h : Halt) (r : Result A Halted) → IsErrAnd r (λ e. e ≡ of_halt h)
      → Judges {X = Subject} (λ subject. subject) before now (Err h) (ready s what) → StopsNear (bytes_read files what) (refused r) rest
  unfolding ready
  not_ready_near files rest s (command.Read file name) h r is judged =
      subst (λ (o : Option Fault). StopsNear (bytes_read files (command.Read file name)) o rest) (sym (none_refused h r is judged)) (near_none (bytes_read files (command.Read file name)) rest)
  not_ready_near files rest s (command.Write to) h r is judged = tt
  not_ready_near files rest s (command.Choose name) h r is judged = tt
  not_ready_near files rest s command.ShowRepos h r is judged = tt
  not_ready_near files rest s (command.Drop name) h r is judged = tt
  not_ready_near files rest s command.DropChosen h r is judged = tt
  not_ready_near files rest s command.Renumber h r is judged = tt
  not_ready_near files rest s (command.Show selection what to) h r is judged = tt
  not_ready_near files rest s (command.Assign selection name) h r is judged = tt
  not_ready_near files rest s (command.Edit selection edit) h r is judged = tt
  not_ready_near files rest s (command.Expunge words) h r is judged = tt
  not_ready_near files rest s (command.EditBy by file) h r is judged =
      subst (λ (o : Option Fault). StopsNear (bytes_read files (command.EditBy by file)) o rest) (sym (none_refused h r is judged)) (near_none (bytes_read files (command.EditBy by file)) rest)
  not_ready_near files rest s (command.Graft selection name prune) h r is judged = tt
  not_ready_near files rest s (command.Unite names prune) h r is judged = tt
  not_ready_near files rest s (command.Divide selection) h r is judged = tt
  not_ready_near files rest s (command.Sample count start) h r is judged = tt
  not_ready_near files rest s (command.Names to) h r is judged = tt
  not_ready_near files rest s (command.Summary to) h r is judged = tt

  pub not_ready_missed : {A : Type 0} (state : StoreState) (s : Session) (what : Command) (h : Halt) (r : Result A Halted) → IsErrAnd r (λ e. e ≡ of_halt h)
      → Judges {X = Subject} (λ subject. subject) before now (Err h) (ready s what) → CountsMissOf what (refused r) state state
  unfolding ready
  not_ready_missed state s (command.Read file name) h r is judged =
      subst (λ (o : Option Fault). CountsMissOf (command.Read file name) o state state) (sym (none_refused h r is judged)) tt
  not_ready_missed state s (command.Write to) h r is judged = tt
  not_ready_missed state s (command.Choose name) h r is judged = tt
  not_ready_missed state s command.ShowRepos h r is judged = tt
  not_ready_missed state s (command.Drop name) h r is judged = tt
  not_ready_missed state s command.DropChosen h r is judged = tt
  not_ready_missed state s command.Renumber h r is judged = tt
  not_ready_missed state s (command.Show selection what to) h r is judged = tt
  not_ready_missed state s (command.Assign selection name) h r is judged = tt
  not_ready_missed state s (command.Edit selection edit) h r is judged = tt
  not_ready_missed state s (command.Expunge words) h r is judged = tt
  not_ready_missed state s (command.EditBy by file) h r is judged =
      subst (λ (o : Option Fault). CountsMissOf (command.EditBy by file) o state state) (sym (none_refused h r is judged)) tt
  not_ready_missed state s (command.Graft selection name prune) h r is judged = tt
  not_ready_missed state s (command.Unite names prune) h r is judged = tt
  not_ready_missed state s (command.Divide selection) h r is judged = tt
  not_ready_missed state s (command.Sample count start) h r is judged = tt
  not_ready_missed state s (command.Names to) h r is judged = tt
  not_ready_missed state s (command.Summary to) h r is judged = tt

-- ---- the order of a line

-- a command that isn't done, as a line: nothing is run next
pub as_line : (s s' : StoreState) (k k' : SinkState) (old new : Session) (reads_no_file : Type 0) (specified : Files → Result (Effect Session) Fault) (e : Halted)
    → CarriesOut {Y = Unit {0}} no_calls s k old reads_no_file specified (Err e) new s' k'
    → CarriesOut {Y = List Bytes} (λ calls. calls) s k old reads_no_file specified (Err e) new s' k'
as_line s s' k k' old new reads_no_file specified (halted.Refused why) h =
    record { outcome = record { prescribed = h.outcome.prescribed; caused = h.outcome.caused; later = h.outcome.later }; told = h.told; exact = h.exact; kept = h.kept }
as_line s s' k k' old new reads_no_file specified halted.SourceFault h =
    record { outcome = record { prescribed = h.outcome.prescribed; caused = h.outcome.caused; later = h.outcome.later }; told = h.told; exact = h.exact; kept = h.kept }
as_line s s' k k' old new reads_no_file specified halted.SinkFault h =
    record { outcome = record { prescribed = h.outcome.prescribed; caused = h.outcome.caused; later = h.outcome.later }; told = h.told; exact = h.exact; kept = h.kept }
as_line s s' k k' old new reads_no_file specified halted.Memory h =
    record { outcome = record { prescribed = h.outcome.prescribed; caused = h.outcome.caused; later = h.outcome.later }; told = h.told; exact = h.exact; kept = h.kept }

pub as_broken_line : (s s' : StoreState) (k k' : SinkState) (old new : Session) (reads_no_file : Type 0) (specified : Files → Result (Effect Session) Fault) (e : Halted) (r : Result (List Bytes) Halted)
    → IsErrAnd r (λ x. x ≡ e) → CarriesOut {Y = Unit {0}} no_calls s k old reads_no_file specified (Err e) new s' k'
    → CarriesOut {Y = List Bytes} (λ calls. calls) s k old reads_no_file specified r new s' k'
as_broken_line s s' k k' old new reads_no_file specified e (Ok calls) is h = absurd is
as_broken_line s s' k k' old new reads_no_file specified e (Err x) is h = rw is (as_line s s' k k' old new reads_no_file specified e h)

-- a command that is done, as a line
pub as_done_line : (s s' : StoreState) (k k' : SinkState) (old new : Session) (reads_no_file : Type 0) (specified : Files → Result (Effect Session) Fault) (calls : List Bytes) → calls ≡ []
    → CarriesOut {Y = Unit {0}} no_calls s k old reads_no_file specified (Ok tt) new s' k'
    → CarriesOut {Y = List Bytes} (λ calls. calls) s k old reads_no_file specified (Ok calls) new s' k'
as_done_line s s' k k' old new reads_no_file specified calls none h =
    rw none (record { outcome = record { prescribed = h.outcome.prescribed; caused = h.outcome.caused; later = h.outcome.later }; told = h.told; exact = h.exact; kept = tt })

has_order : (denial : Option Denial) (s : Session) (files : Files) (depth : ℕ) (text : Bytes) (order : Order) → order_of text ≡ Ok order
    → ordered denial s files depth order ≡ line_step denial s files depth (Plain text)
unfolding line_step
has_order denial s files depth text order is = rw is refl

-- a line is carried out as its order is
pub of_order : {Y : Type 0} (calls : Y → List Bytes) (before now : ℕ) (s s' : StoreState) (k k' : SinkState) (old new : Session) (depth : ℕ) (text : Bytes) (order : Order) (r : Result Y Halted)
    → order_of text ≡ Ok order
    → Under before now (λ denial. CarriesOut calls s k old (OrderReadsNoFile (Ok order)) (λ files. ordered denial old files depth order) r new s' k')
    → Under before now (λ denial. CarriesOut calls s k old (LineReadsNoFile (Plain text)) (λ files. line_step denial old files depth (Plain text)) r new s' k')
of_order calls before now s s' k k' old new depth text order r is h = (
  h.0,
  h.1,
  subst (λ (o : Result Order Fault). CarriesOut calls s k old (OrderReadsNoFile o) (λ files. line_step h.0 old files depth (Plain text)) r new s' k') (sym is)
      (subst (λ (f : Files → Result (Effect Session) Fault). CarriesOut calls s k old (OrderReadsNoFile (Ok order)) f r new s' k') (λ i. λ files. has_order h.0 old files depth text order is i) h.2),
)

-- ---- a line that is broken off

broken_part : {X : Type 0} (s : X) (w now : World) (line : ℕ) (specified : Result (Effect X) Fault) → PartOf w specified now
    → PartSent (effect_of s line specified).to (effect_of s line specified).bytes w now
broken_part s w now line (Ok t) h = h
broken_part s w now line (Err why) h = subst (PartSent None (refusal line why) w) (sym h) (no_part None (refusal line why) w)

-- a part of what it sends is sent, or of the line of its refusal
pub broken_turn : {X : Type 0} (old new : X) (line : ℕ) (specified : Files → Result (Effect X) Fault) (v v' : Option World)
    → IfSome v (λ w. IfSome v' (λ now. (new ≡ old) × PartOf w (specified w.files) now))
    → IfSome v (λ w. IfSome v' (λ now. PartOfLine old w line (specified w.files) new now))
broken_turn old new line specified v v' h = mapped v v' (λ w now part. (part.0, broken_part old w now line (specified w.files) part.1)) h

-- ---- a line that is refused

module _
    {X : Type 0} (old new : X) (line : ℕ) (why : Fault) (specified : Files → Result (Effect X) Fault) (s m : StoreState) (k l o : SinkState)
    (refused : IfSome (world s k) (λ w. IfSome (world m l) (λ now. (specified w.files ≡ Err why) × (new ≡ old) × (now ≡ w))))
    (reports : IfSome (world s k) (λ w. IsSome (world m l)))
  where
    -- what is printed after it
    module _ (R : World → World → Type 0) (P : Bytes → Bytes → Type 0)
        (then_so : (w now : World) → (out : Bytes) → (specified w.files ≡ Err why) × (new ≡ old) × (now ≡ w) → P now.printed out → R w (record { files = now.files; printed = out }))
      where
        by_parts : (v : Option World) (files : Option Files) (a b : Option Bytes)
            → IfSome v (λ w. IfSome (world_of files a) (λ now. (specified w.files ≡ Err why) × (new ≡ old) × (now ≡ w)))
            → IfSome v (λ w. IsSome (world_of files a)) → IfSome a (λ before. (out : Bytes) × P before out × (b ≡ Some out))
            → IfSome v (λ w. IfSome (world_of files b) (λ now. R w now))
        by_parts None files a b h there put = tt
        by_parts (Some w) None a b h there put = tt
        by_parts (Some w) (Some f) None b h there put = absurd cc
        by_parts (Some w) (Some f) (Some x) b h there (out, p, is) =
            subst (λ (y : Option Bytes). IfSome (world_of (Some f) y) (λ now. R w now)) (sym is) (then_so w (record { files = f; printed = x }) out h p)

    refusal_is : (w now : World) → specified w.files ≡ Err why → now ≡ w → (is_last : Bool) → is_last ≡ passes_limit why
        → Refuses w line is_last (specified w.files) (record { files = now.files; printed = now.printed ++ refusal line why })
    refusal_is w now e same is_last last =
        subst (λ (r : Result (Effect X) Fault). Refuses w line is_last r (record { files = now.files; printed = now.printed ++ refusal line why })) (sym e)
        (last, ap (λ (x : World). record { files = x.files; printed = x.printed ++ refusal line why }) same)

    part_is : (w now : World) (n : ℕ) → specified w.files ≡ Err why → now ≡ w
        → PartSent (effect_of old line (specified w.files)).to (effect_of old line (specified w.files)).bytes w (record { files = now.files; printed = now.printed ++ take n (refusal line why) })
    part_is w now n e same =
        subst (λ (r : Result (Effect X) Fault). PartSent (effect_of old line r).to (effect_of old line r).bytes w (record { files = now.files; printed = now.printed ++ take n (refusal line why) })) (sym e)
        (n, ap (λ (x : World). record { files = x.files; printed = x.printed ++ take n (refusal line why) }) same)

    -- its line is printed
    pub refusal_printed : (is_last : Bool) → is_last ≡ passes_limit why → Puts l (refusal line why) o
        → IfSome (world s k) (λ w. IfSome (world m o) (λ now. (new ≡ old) × Refuses w line is_last (specified w.files) now))
    refusal_printed is_last last put =
        by_parts (λ w now. (new ≡ old) × Refuses w line is_last (specified w.files) now) (λ before out. out ≡ before ++ refusal line why)
        (λ w now out h is. subst (λ (x : Bytes). (new ≡ old) × Refuses w line is_last (specified w.files) (record { files = now.files; printed = x })) (sym is) (h.1, refusal_is w now h.0 h.2 is_last last))
        (world s k) m.files l.written o.written refused reports (IfSome_then l.written put (λ before is. (before ++ refusal line why, refl, is)))

    -- or a first part of it
    pub refusal_broken : PutsSome l (refusal line why) o → IfSome (world s k) (λ w. IfSome (world m o) (λ now. PartOfLine old w line (specified w.files) new now))
    refusal_broken put =
        by_parts (λ w now. PartOfLine old w line (specified w.files) new now) (λ before out. (n : ℕ) × (out ≡ before ++ take n (refusal line why)))
        (λ w now out h is. subst (λ (x : Bytes). PartOfLine old w line (specified w.files) new (record { files = now.files; printed = x })) (sym is.1) (h.1, part_is w now is.0 h.0 h.2))
        (world s k) m.files l.written o.written refused reports (IfSome_then l.written put (λ before is. (before ++ take is.0 (refusal line why), (is.0, refl), is.1)))
