-- Names of branches and tags that are kept, each once. (own)
use Rattle.std.specs.Prelude.{◌≡◌, List, bytes_eq}
use Rattle.std.specs.List.{list_any}
use Rattle.plain_model.specs.declared.event.PlainEvent.{PlainEvent}
use Rattle.plain_model.specs.Paths.{Bytes}
use Rattle.graft_laws.specs.Names.{is_used}

-- they are those that the events use
abbrev pub AreNamesOf : List PlainEvent → List Bytes → Type 0
AreNamesOf events names = (name : Bytes) → list_any (bytes_eq name) names ≡ is_used events name
