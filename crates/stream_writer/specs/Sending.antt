-- A text on its way to a sink, part of which is sent, part gathered, and part still to come.
use Rattle.std.specs.Prelude.{◌≡◌, ℕ, List, ◌++◌, Some, IfSome, Bool, ◌||◌, codes, []}
use Rattle.std.specs.List.{list_any}
use Rattle.std.specs.Prelude.{if◌then◌else◌}
use Rattle.plain_model.specs.Paths.{Bytes}
use Rattle.plain_model.specs.Trees.{TreeOf}
use Rattle.plain_model.specs.Text.{is_feature_done, line, text_from}
use Rattle.plain_model.specs.declared.event.PlainEvent.{PlainEvent}
use Rattle.surgeon_store.specs.Outside.{SinkState, Puts}

-- the line that ends the stream, where it is promised already or by one of the events
abbrev pub closing : Bool → List PlainEvent → Bytes
closing promised rest = if promised || list_any is_feature_done rest then line (codes "done") else []

-- what is to come of the text of a history: these events, where the branches are so, and the line that ends it
abbrev pub to_come : List PlainEvent → TreeOf ℕ → Bool → List PlainEvent → Bytes
to_come whole tips promised rest = text_from whole tips rest ++ closing promised rest

-- a first part of the bytes is sent, and what is left of them is gathered
abbrev pub SendsFirst : SinkState → Bytes → SinkState → Bytes → Type 0
SendsFirst old bytes new left = (sent : Bytes) × (bytes ≡ sent ++ left) × Puts old sent new

-- of a text a first part is sent, then so much is gathered, and the rest is to come
abbrev pub IsOnItsWay : SinkState → Bytes → SinkState → Bytes → Bytes → Type 0
IsOnItsWay old text now gathered coming = IfSome old.written (λ before. (sent : Bytes) × (now.written ≡ Some (before ++ sent)) × (text ≡ sent ++ (gathered ++ coming)))
