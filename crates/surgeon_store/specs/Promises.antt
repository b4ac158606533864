-- What the traits promise of each call, as one fact a call, for implementations that promise more.
use Rattle.std.specs.Prelude.{◌≡◌, ℕ, ◌≤◌, ◌<◌, List, length, take, None, IfOk, OnOk, OnErr, IsErrOf, Result}
use Rattle.surgeon_store.specs.declared.outside.Failed.{Failed}
use Rattle.surgeon_store.specs.declared.outside.OpenFault.{OpenFault}
use Rattle.surgeon_store.specs.declared.outside.OpenFault.TheVariants as open_fault
use Rattle.surgeon_store.specs.declared.outside.CreateFault.{CreateFault}
use Rattle.surgeon_store.specs.declared.outside.CreateFault.TheVariants as create_fault
use Rattle.surgeon_store.specs.declared.outside.WriteFault.{WriteFault}
use Rattle.surgeon_store.specs.declared.outside.WriteFault.TheVariants as write_fault
use Rattle.plain_model.specs.Counts.{Rose}
use Rattle.surgeon_store.specs.Outside.{StoreState, SinkState, CountsNoFault, Reads, Writes, Opens, Misses, Takes, IsSpent, Begins, Appends, Puts}

pub record PromisesBeginRead (old : StoreState) (name : List ℕ) (result : Result (Unit {0}) OpenFault) (new : StoreState) : Type 0 where
  pub opens : OnOk result (Opens old name new)
  pub absent : IsErrOf result open_fault.Absent → Misses old name
  pub missed : IsErrOf result open_fault.Absent → Rose old.misses new.misses
  pub failed : IsErrOf result open_fault.Failed → Rose old.read_faults new.read_faults
  pub quiet : ¬ (IsErrOf result open_fault.Failed) → CountsNoFault old new
  pub frame : Reads old new

pub record PromisesRead (old : StoreState) (result : Result ℕ Failed) (piece : List ℕ) (new : StoreState) : Type 0 where
  pub bound : IfOk result (λ n. n ≤ length piece)
  pub takes : IfOk result (λ n. Takes old n piece new)
  pub failed : OnErr result (Rose old.read_faults new.read_faults)
  pub quiet : OnOk result (CountsNoFault old new)
  pub spent : OnErr result (IsSpent new)
  pub frame : Reads old new

pub record PromisesBeginWrite (old : StoreState) (name : List ℕ) (result : Result (Unit {0}) CreateFault) (new : StoreState) : Type 0 where
  pub begins : OnOk result (Begins old name new)
  pub refused : OnErr result ((new.files ≡ old.files) × (new.writing ≡ None))
  pub failed : IsErrOf result create_fault.Failed → Rose old.write_faults new.write_faults
  pub quiet : OnOk result (CountsNoFault old new)
  pub frame : Writes old new

pub record PromisesWrite (old : StoreState) (piece : List ℕ) (result : Result ℕ WriteFault) (new : StoreState) : Type 0 where
  pub bound : IfOk result (λ n. (n ≤ length piece) × (0 < length piece → 1 ≤ n))
  pub appends : IfOk result (λ n. Appends old (take n piece) new)
  pub writing : new.writing ≡ old.writing
  pub refused : OnErr result (new.files ≡ old.files)
  pub failed : IsErrOf result write_fault.Failed → Rose old.write_faults new.write_faults
  pub quiet : OnOk result (CountsNoFault old new)
  pub frame : Writes old new

pub record PromisesFinishWrite (old : StoreState) (result : Result (Unit {0}) Failed) (new : StoreState) : Type 0 where
  pub ends : new.writing ≡ None
  pub files : new.files ≡ old.files
  pub failed : OnErr result (Rose old.write_faults new.write_faults)
  pub quiet : OnOk result (CountsNoFault old new)
  pub frame : Writes old new

-- of a sink's `write`
pub record PromisesPut (old : SinkState) (piece : List ℕ) (result : Result ℕ WriteFault) (new : SinkState) : Type 0 where
  pub bound : IfOk result (λ n. (n ≤ length piece) × (0 < length piece → 1 ≤ n))
  pub appends : IfOk result (λ n. Puts old (take n piece) new)
  pub refused : OnErr result (new.written ≡ old.written)
  pub later : old.faults ≤ new.faults
  pub failed : IsErrOf result write_fault.Failed → Rose old.faults new.faults
  pub quiet : OnOk result (new.faults ≡ old.faults)
  pub around : new.around ≡ old.around
