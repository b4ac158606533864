-- What a stream is: a text that spells events which have a history; and the first defect of a text that is none, by other
-- texts (git-fast-import, "Input format"; the first defect: own).
use Rattle.std.specs.Prelude.{◌≡◌, ◌⊎◌, ℕ, ◌+◌, pred, Bool, true, false, List, [], ◌∷◌, ◌++◌, Some, Result, Ok, Err, if◌then◌else◌}
use Rattle.plain_model.specs.declared.event.PlainEvent.{PlainEvent}
use Rattle.plain_model.specs.declared.fault.Fault.{Fault}
use Rattle.plain_model.specs.declared.fault.Fault.TheVariants as fault
use Rattle.plain_model.specs.declared.fault.Why.{Why}
use Rattle.plain_model.specs.declared.fault.Why.TheVariants.{LeftOut, MissingLine, Truncated, UnknownLine}
use Rattle.plain_model.specs.Fields.{block_in}
use Rattle.plain_model.specs.Parts.{line_at}
use Rattle.plain_model.specs.Paths.{Bytes}
use Rattle.line_automaton.specs.Lines.{number_after}
use Rattle.line_automaton.specs.Machine.{HaveSameLines, up_to}
use Rattle.stream_grammar.specs.declared.lines.Word.{Word}
use Rattle.stream_grammar.specs.declared.lines.Word.TheVariants as word
use Rattle.stream_grammar.specs.Known.{Known}
use Rattle.stream_grammar.specs.Lines.{is_comment, judged, nothing_known, word_of}
use Rattle.production_laws.specs.Meanings.{parts_read}
use Rattle.production_laws.specs.Productions.{AreSpelled, Form}
use Rattle.production_laws.specs.Raw.{Raw, SpellsRaw, history}
use Rattle.production_laws.specs.Texts.{HasParts, Part, is_alone, words_of}
use Rattle.production_laws.specs.Texts.Part.{Comment, DoneLine, Line, WithData}

-- the text spells events, and these have the history
abbrev pub IsStreamOf : Bytes → List PlainEvent → Type 0
IsStreamOf text events = (raws : List Raw) × SpellsRaw text raws × (history raws ≡ Some events)

-- it spells no events that have a history
abbrev pub IsNoStream : Bytes → Type 0
IsNoStream text = (events : List PlainEvent) → IsStreamOf text events → ⊥

-- ---- within the limits

-- what is given is this history, or a limit stands in its way: of what is read, or of the marks
abbrev pub IsGiven : List PlainEvent → Result (List PlainEvent) Fault → Type 0
IsGiven events (Ok list) = list ≡ events
IsGiven events (Err (fault.Limit which number)) = Unit {0}
IsGiven events (Err fault.MarksSpent) = Unit {0}
IsGiven events (Err other) = ⊥

-- ---- first lines

-- the parts up to the first whose line doesn't pass the test by its number; the text begins with line n
abbrev pub parts_while : (ℕ → Bool) → ℕ → (text : Bytes) (parts : List Part) → HasParts text parts → List Part
parts_while test n text [] h = []
parts_while test n text (Comment line ∷ parts) (rest, there, comment, are) =
    if test n then Comment line ∷ parts_while test (n + 1) rest parts are else []
parts_while test n text (Line line ∷ parts) (rest, there, plain, alone, are) =
    if test n then Line line ∷ parts_while test (n + 1) rest parts are else []
parts_while test n text (WithData line bytes ∷ parts) (block, rest, there, plain, is, held, are) =
    if test n then WithData line bytes ∷ parts_while test (number_after (n + 1) block rest) rest parts are else []
parts_while test n text (DoneLine line ∷ parts) h = if test n then DoneLine line ∷ [] else []

-- The text has the form of a stream to its end, and its lines through n mean something, one after another: no field in them
-- has a defect, whatever the fields of later lines are.
pub record IsRightThrough (n : ℕ) (text : Bytes) : Type 0 where
  pub parts : List Part
  pub there : HasParts text parts
  pub forms : List Form
  pub spelled : AreSpelled forms (words_of parts)
  pub known : Known
  pub means : parts_read false (parts_while (up_to n) 1 text parts there) nothing_known ≡ Ok known

-- ---- the first defect

-- Line n is the first with a defect: some text with the same lines before it is right through them, and none with the same
-- lines through line n is right through that.
pub record IsFirstWrong (text : Bytes) (n : ℕ) : Type 0 where
  pub before : (other : Bytes) × HaveSameLines (pred n) text other × IsRightThrough (pred n) other
  pub here : (other : Bytes) → HaveSameLines n text other → IsRightThrough n other → ⊥

-- ---- what is wrong with a text

-- the text begins with these parts, and the rest comes after them
abbrev pub BeginsWith : Bytes → List Part → Bytes → Type 0
BeginsWith text [] rest = text ≡ rest
BeginsWith text (Comment line ∷ parts) rest =
    (more : Bytes) × (line_at text ≡ Some (line, more)) × (is_comment line ≡ true) × BeginsWith more parts rest
BeginsWith text (Line line ∷ parts) rest =
    (more : Bytes) × (line_at text ≡ Some (line, more)) × (is_comment line ≡ false) × (is_alone (word_of line) ≡ true) × BeginsWith more parts rest
BeginsWith text (WithData line bytes ∷ parts) rest =
    (block more : Bytes) × (line_at text ≡ Some (line, block)) × (is_comment line ≡ false) × (word_of line ≡ word.Data)
    × (block_in line block ≡ Ok (bytes, more)) × BeginsWith more parts rest
BeginsWith text (DoneLine line ∷ parts) rest = ⊥

-- a stream can begin with lines of these words
abbrev pub CanBegin : List Word → Type 0
CanBegin words = (more : List Word) × (forms : List Form) × AreSpelled forms (words ++ more)

-- it can end after them: with `done` they are a stream
abbrev pub CanEnd : List Word → Type 0
CanEnd words = (forms : List Form) × AreSpelled forms (words ++ word.Done ∷ [])

-- a line that no stream has there: it is left out; or the event misses another line; or it begins nothing
abbrev pub IsMisplaced : List Word → Word → Why → Type 0
IsMisplaced words word.LeftOut why = why ≡ LeftOut
IsMisplaced words w why = (CanEnd words × (why ≡ UnknownLine)) ⊎ ((CanEnd words → ⊥) × (why ≡ MissingLine))

-- What is wrong after these parts, which mean what is known: the text ends, though no stream does; or its next line isn't
-- there in any stream; or it is there in some, and its block is cut off or has no length; or its field has the defect.
pub data Wrong (parts : List Part) (known : Known) (rest : Bytes) (why : Why) : Type 0 where
  Ends : rest ≡ [] → ((forms : List Form) → AreSpelled forms (words_of parts) → ⊥) → why ≡ Truncated → Wrong parts known rest why
  Misplaced : (line more : Bytes) → line_at rest ≡ Some (line, more) → is_comment line ≡ false
      → (CanBegin (words_of parts ++ word_of line ∷ []) → ⊥) → IsMisplaced (words_of parts) (word_of line) why → Wrong parts known rest why
  BadBlock : (line more : Bytes) → line_at rest ≡ Some (line, more) → is_comment line ≡ false
      → CanBegin (words_of parts ++ word_of line ∷ []) → word_of line ≡ word.Data → block_in line more ≡ Err why → Wrong parts known rest why
  BadField : (line more : Bytes) → line_at rest ≡ Some (line, more) → is_comment line ≡ false
      → CanBegin (words_of parts ++ word_of line ∷ []) → is_alone (word_of line) ≡ true → judged (word_of line) line known ≡ Err why → Wrong parts known rest why

-- The first defect of a text is in line n: a stream can begin with the parts before it, these mean something, one after
-- another, and there the text is wrong.
pub record HasDefect (text : Bytes) (n : ℕ) (why : Why) : Type 0 where
  pub parts : List Part
  pub rest : Bytes
  pub begins : BeginsWith text parts rest
  pub number : number_after 1 text rest ≡ n
  pub form : CanBegin (words_of parts)
  pub known : Known
  pub means : parts_read false parts nothing_known ≡ Ok known
  pub wrong : Wrong parts known rest why
