-- Which event of a list is taken next, where these are taken.
use Rattle.std.specs.Prelude.{Bool, not, ◌&&◌, List}
use Rattle.std.specs.List.{list_all}
use Rattle.plain_model.specs.declared.id.AnyId.{AnyId}
use Rattle.plain_model.specs.declared.event.PlainEvent.{PlainEvent}
use Rattle.plain_model.specs.Lookups.{id_of, is_listed, referents_of}

-- the ids are all taken
abbrev pub are_taken : List AnyId → List AnyId → Bool
are_taken taken ids = list_all (λ id. is_listed id taken) ids

-- the event isn't taken, and all that it refers to is
abbrev pub can_be_taken : List AnyId → PlainEvent → Bool
can_be_taken taken e = not (is_listed (id_of e) taken) && are_taken taken (referents_of e)
