-- Ids that were given once, and never come back. (own)
use Rattle.std.specs.Prelude.{◌≡◌, ℕ, ◌<◌, false, List, None}
use Rattle.plain_model.specs.declared.id.AnyId.{AnyId}
use Rattle.plain_model.specs.declared.event.PlainEvent.{PlainEvent}
use Rattle.plain_model.specs.Lookups.{find_event, id_number, same_id}

-- no id is there that wasn't there before
abbrev pub AddsNone : List PlainEvent → List PlainEvent → Type 0
AddsNone old new = (id : AnyId) → find_event id old ≡ None → find_event id new ≡ None

-- no id but this one is there that wasn't there before
abbrev pub AddsOnly : AnyId → List PlainEvent → List PlainEvent → Type 0
AddsOnly own old new = (id : AnyId) → same_id id own ≡ false → find_event id old ≡ None → find_event id new ≡ None

-- no id below the bound is there that wasn't there before
abbrev pub BringsNoneBack : ℕ → List PlainEvent → List PlainEvent → Type 0
BringsNoneBack bound old new = (id : AnyId) → id_number id < bound → find_event id old ≡ None → find_event id new ≡ None
