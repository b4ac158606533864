-- Lines that wait to be run, and the one at which a run ends.
use Rattle.std.specs.Prelude.{◌≡◌, ℕ, ◌+◌, ◌≤◌, IsTrue, List, [], ◌∷◌, Option, Some, None}
use Rattle.std.specs.List.{AllByRecursion}
use Rattle.plain_model.specs.Faults.{refusal}
use Rattle.plain_model.specs.declared.status.Status.{Status}
use Rattle.plain_model.specs.declared.status.Status.TheVariants as status
use Rattle.script_lines.specs.declared.script.ScriptLine.{ScriptLine}
use Rattle.history_machine.specs.declared.waiting.Waiting.{Waiting}
use Rattle.history_machine.specs.Machine.{PartSent, World, sent}
use Rattle.plain_model.specs.declared.fault.Fault.{Fault}
use Rattle.script_lines.specs.Scripts.{is_long}
use Rattle.script_lines.specs.declared.script.ScriptLine.TheVariants.{Define, Plain}
use Rattle.surgeon_session.specs.declared.next_line.NextLine.{NextLine}
use Rattle.surgeon_session.specs.declared.next_line.NextLine.TheVariants as next

-- each is inside no more macros than lines were run, of which so many are left of all
abbrev pub AreWithin : ℕ → ℕ → List Waiting → Type 0
AreWithin all left lines = AllByRecursion (λ w. w.depth + left ≤ all) lines

-- how a run ends at the line that is one too many, or too long
abbrev pub IsPastEnd : Status → Type 0
IsPastEnd status.Refused = Unit {0}
IsPastEnd status.SinkFault = Unit {0}
IsPastEnd status.Memory = Unit {0}
IsPastEnd other = ⊥

-- the refusal of that line is printed, or a first part of it
abbrev pub EndsPast : ℕ → Fault → Status → World → World → Type 0
EndsPast line fault status.Refused w now = now ≡ sent None (refusal line fault) w
EndsPast line fault status.SinkFault w now = PartSent None (refusal line fault) w now
EndsPast line fault status.Memory w now = PartSent None (refusal line fault) w now
EndsPast line fault other w now = ⊥

-- a line of a macro that has more bytes than a line may have
abbrev pub IsLongLine : ScriptLine → Type 0
IsLongLine (Plain text) = IsTrue (is_long text)
IsLongLine (Define name body) = ⊥

-- the first of the lines that wait is taken out, or there was none and is none
abbrev pub IsNext : Option NextLine → List Waiting → List Waiting → Type 0
IsNext None old new = (old ≡ []) × (new ≡ [])
IsNext (Some (next.Line first)) old new = old ≡ first ∷ new
IsNext (Some (next.TooLong line)) old new = (first : Waiting) × (first.line ≡ line) × IsLongLine first.what × (old ≡ first ∷ new)
IsNext (Some next.NoMemory) old new = Unit {0}
