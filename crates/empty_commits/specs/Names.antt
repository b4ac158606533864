-- Names of new tags that tags have already.
use Rattle.std.specs.Prelude.{◌&&◌, List, Option, Some, None, if◌then◌else◌}
use Rattle.plain_model.specs.declared.id.AnyId.{AnyId}
use Rattle.plain_model.specs.declared.event.PlainEvent.{PlainEvent}
use Rattle.plain_model.specs.Paths.{Bytes}
use Rattle.tagify_laws.specs.Tagify.{becomes_tag, has_tag_named, name_for}

-- the name of the tag that an event becomes, if it becomes one, and a tag has the name
abbrev pub taken_for : List AnyId → List PlainEvent → PlainEvent → Option Bytes
taken_for selected events e = if becomes_tag selected e && has_tag_named events (name_for e) then Some (name_for e) else None
