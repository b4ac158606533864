-- The readers of the code, as plain ones.
use Rattle.std.specs.Prelude.{List, map, reverse}
use Rattle.selection_parser.specs.declared.reader.Frame.{Frame}
use Rattle.selection_parser.specs.declared.reader.Frame.TheVariants as frame
use Rattle.selection_parser.specs.declared.reader.Next.{Next}
use Rattle.selection_parser.specs.declared.reader.Next.TheVariants as next
use Rattle.selection_parser.specs.declared.reader.Parts.{Parts}
use Rattle.selection_parser.specs.declared.reader.Reader.{Reader}
use Rattle.selection_parser.specs.declared.reader.State.{State}
use Rattle.selection_parser.specs.declared.reader.State.TheVariants as state
use Rattle.selection_parser.specs.Reading.{Frame as PlainFrame, Next as PlainNext, Parts as PlainParts, Reader as PlainReader, State as PlainState}
use Rattle.selection_parser.specs.Views.{plain_of}

abbrev pub parts_of : Parts → PlainParts
parts_of p = record { unions = map plain_of p.unions.items; boths = map plain_of p.boths.items }

abbrev pub frame_of : Frame → PlainFrame
frame_of frame.Negation = PlainFrame.Negation
frame_of (frame.Opened f outer) = PlainFrame.Opened f (parts_of outer)

-- the code has the innermost last
abbrev pub frames_of : List Frame → List PlainFrame
frames_of frames = reverse (map frame_of frames)

abbrev pub state_of : State → PlainState
state_of (state.Inside place) = PlainState.Inside place
state_of (state.After times x) = PlainState.After times (plain_of x)

abbrev pub reader_of : Reader → PlainReader
reader_of r = record { state = state_of r.state; parts = parts_of r.parts; frames = frames_of r.frames.items }

abbrev pub next_of : Next → PlainNext
next_of (next.Goes r) = PlainNext.Goes (reader_of r)
next_of (next.Ends x) = PlainNext.Ends (plain_of x)
next_of next.Stops = PlainNext.Stops
