-- What the readers of fields answer, against what the fields spell.
use Rattle.std.specs.Prelude.{◌≡◌, Result, Ok, Err}
use Rattle.plain_model.specs.declared.fault.Why.{Why}
use Rattle.stream_fields.specs.declared.fault.FieldFault.{FieldFault}
use Rattle.stream_fields.specs.declared.fault.FieldFault.TheVariants as faults

-- what was answered, seen by a view, is what the field spells, or its defect; out of memory says nothing
abbrev pub Gives : {X Y : Type 0} → (X → Y) → Result X FieldFault → Result Y Why → Type 0
Gives view (Ok x) field = field ≡ Ok (view x)
Gives view (Err (faults.Bad why)) field = field ≡ Err why
Gives view (Err faults.Memory) field = Unit {0}
