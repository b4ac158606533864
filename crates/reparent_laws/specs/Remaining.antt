-- What a change of one commit leaves as it was.
use Rattle.std.specs.Prelude.{◌≡◌, ℕ, List, Some}
use Rattle.plain_model.specs.declared.event.PlainEvent.{PlainEvent}
use Rattle.plain_model.specs.Lookups.{find_event, id_of}
use Rattle.commit_laws.specs.Rewriting.{Rewrite, rewritten}

-- the history had the event, which is as it was, but for the new parents and operations of the one commit
abbrev pub IsRewritten : ℕ → Rewrite → List PlainEvent → PlainEvent → Type 0
IsRewritten c how events e = (old : PlainEvent) × (find_event (id_of e) events ≡ Some old) × (rewritten c how old ≡ e)
