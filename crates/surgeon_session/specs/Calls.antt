-- What calls over a store and a sink say of the outside: its causes, the world that is reported, and what they leave.
use Rattle.std.specs.Prelude.{◌≡◌, ◌⊎◌, ◌≤◌, Option, Some, None, IfSome, IsSome}
use Rattle.plain_model.specs.Counts.{Rose}
use Rattle.plain_model.specs.Files.{Files}
use Rattle.plain_model.specs.Paths.{Bytes}
use Rattle.plain_model.specs.declared.status.Status.{Status}
use Rattle.plain_model.specs.declared.status.Status.TheVariants as status
use Rattle.surgeon_store.specs.Outside.{CountsNoFault, StoreState, SinkState}
use Rattle.history_machine.specs.Machine.{World}

-- ---- what is told

-- something holds of what is told, and where nothing is told of something that might be
abbrev pub AsTold : {A : Type 0} → Option A → (A → Type 0) → Type 0
AsTold (Some x) P = P x
AsTold {A} None P = (x : A) × P x

-- ---- causes

-- no call of the store or of the sink failed
pub record NoneFailed (s : StoreState) (k : SinkState) (s' : StoreState) (k' : SinkState) : Type 0 where
  pub store : CountsNoFault s s'
  pub faults : k'.faults ≡ k.faults

-- A status that tells of a fault outside is one whose count rose. With any other, unless memory was out, no count of faults rose: what
-- was counted is reported.
abbrev pub Caused : StoreState → SinkState → Status → StoreState → SinkState → Type 0
Caused s k status.SourceFault s' k' = Rose s.read_faults s'.read_faults
Caused s k status.SinkFault s' k' = Rose s.write_faults s'.write_faults ⊎ Rose k.faults k'.faults
Caused s k status.Memory s' k' = Unit {0}
Caused s k status.NoScript s' k' = Rose s.misses s'.misses × NoneFailed s k s' k'
Caused s k status.Done s' k' = NoneFailed s k s' k'
Caused s k status.Refused s' k' = NoneFailed s k s' k'
Caused s k status.Usage s' k' = NoneFailed s k s' k'
Caused s k status.BadScript s' k' = NoneFailed s k s' k'

-- no count of faults rose
abbrev pub NoFaults : StoreState → SinkState → StoreState → SinkState → Type 0
NoFaults s k s' k' = (Rose s.read_faults s'.read_faults → ⊥) × (Rose s.write_faults s'.write_faults → ⊥) × (Rose k.faults k'.faults → ⊥)

-- ---- the world

-- the world, where its files and what was printed are reported
abbrev pub world_of : Option Files → Option Bytes → Option World
world_of (Some files) (Some printed) = Some (record { files = files; printed = printed })
world_of (Some files) None = None
world_of None printed = None

-- the world that a store and a sink report
abbrev pub world : StoreState → SinkState → Option World
world s k = world_of s.files k.written

-- ---- what a call leaves

-- no count falls, a world that was reported is reported again, and no file is left begun
pub record Later (s : StoreState) (k : SinkState) (s' : StoreState) (k' : SinkState) : Type 0 where
  pub read_faults : s.read_faults ≤ s'.read_faults
  pub write_faults : s.write_faults ≤ s'.write_faults
  pub misses : s.misses ≤ s'.misses
  pub faults : k.faults ≤ k'.faults
  pub reports : IfSome (world s k) (λ w. IsSome (world s' k'))
  pub finished : s.writing ≡ None → s'.writing ≡ None

-- What a call with this status has done: where worlds are reported, what is prescribed of the one before and the one
-- now; and what holds of every store and sink.
pub record Outcome (prescribes : World → World → Type 0) (s : StoreState) (k : SinkState) (answer : Status) (s' : StoreState) (k' : SinkState) : Type 0 where
  pub prescribed : IfSome (world s k) (λ w. IfSome (world s' k') (λ now. prescribes w now))
  pub caused : Caused s k answer s' k'
  pub later : Later s k s' k'
