-- The productions of a stream: which lines each event has, and in which order (git-fast-import, "Input format"; a mark of a
-- tag, and where lines that are kept whole may stand: own).
use Rattle.std.specs.Prelude.{◌≡◌, ◌⊎◌, ℕ, zero, suc, Bool, true, false, List, [], ◌∷◌, ◌++◌}
use Rattle.std.specs.List.{list_any}
use Rattle.plain_model.specs.Paths.{Bytes}
use Rattle.stream_grammar.specs.declared.lines.Word.{Word}
use Rattle.stream_grammar.specs.declared.lines.Word.TheVariants as word
use Rattle.production_laws.specs.Texts.{Part, HasParts, words_of}

-- ---- the lines of each event

-- what stands at a place of an event: a line of this word; such a line or none; any number of them; any number of operations
pub data Item : Type 0 where
  One : Word → Item
  Perhaps : Word → Item
  Many : Word → Item
  Operations : Item

-- an event; a line that is kept whole; the line `feature done`; or an empty line, of which there may be any number
-- between events
pub data Form : Type 0 where
  ABlob : Form
  ACommit : Form
  ATag : Form
  AReset : Form
  AnAlias : Form
  APass : Form
  APromise : Form
  AnEmptyLine : Form

abbrev pub lines_of : Form → List Item
lines_of ABlob = One word.Blob ∷ Perhaps word.Mark ∷ Perhaps word.Oid ∷ One word.Data ∷ []
lines_of ACommit =
    One word.Commit ∷ Perhaps word.Mark ∷ Perhaps word.Oid ∷ Perhaps word.Author ∷ One word.Committer ∷ Perhaps word.Encoding
    ∷ One word.Data ∷ Perhaps word.From ∷ Many word.Merge ∷ Operations ∷ []
lines_of ATag =
    One word.Tag ∷ Perhaps word.Mark ∷ One word.From ∷ Perhaps word.Oid ∷ Perhaps word.Tagger ∷ One word.Data ∷ []
lines_of AReset = One word.Reset ∷ Perhaps word.From ∷ []
lines_of AnAlias = One word.Alias ∷ One word.Mark ∷ One word.To ∷ []
lines_of APass = One word.Pass ∷ []
lines_of APromise = One word.FeatureDone ∷ []
lines_of AnEmptyLine = One word.Empty ∷ []

-- ---- what fits

-- so many lines of a word
abbrev pub several : ℕ → Word → List Word
several zero w = []
several (suc n) w = w ∷ several n w

-- an operation by itself, or with the data of its `inline`
pub data Change : Type 0 where
  Alone : Change
  Inline : Change

abbrev pub operations : List Change → List Word
operations [] = []
operations (Alone ∷ changes) = word.Operation ∷ operations changes
operations (Inline ∷ changes) = word.InlineOperation ∷ word.Data ∷ operations changes

-- the words begin with those of the items, and the rest comes after them
abbrev pub Fit : List Item → List Word → List Word → Type 0
Fit [] words rest = words ≡ rest
Fit (One w ∷ items) words rest = (more : List Word) × (words ≡ w ∷ more) × Fit items more rest
Fit (Perhaps w ∷ items) words rest = Fit items words rest ⊎ ((more : List Word) × (words ≡ w ∷ more) × Fit items more rest)
Fit (Many w ∷ items) words rest = (n : ℕ) × (more : List Word) × (words ≡ several n w ++ more) × Fit items more rest
Fit (Operations ∷ items) words rest =
    (changes : List Change) × (more : List Word) × (words ≡ operations changes ++ more) × Fit items more rest

-- ---- whole streams

-- these forms, one after another, and then the rest
abbrev pub AreForms : List Form → List Word → List Word → Type 0
AreForms [] words rest = words ≡ rest
AreForms (form ∷ forms) words rest = (more : List Word) × Fit (lines_of form) words more × AreForms forms more rest

abbrev pub is_promise : Form → Bool
is_promise APromise = true
is_promise _ = false

-- a stream ends with `done`, or without it where it wasn't promised
abbrev pub IsEnd : Bool → List Word → Type 0
IsEnd promised rest = (rest ≡ word.Done ∷ []) ⊎ ((promised ≡ false) × (rest ≡ []))

abbrev pub AreSpelled : List Form → List Word → Type 0
AreSpelled forms words = (rest : List Word) × AreForms forms words rest × IsEnd (list_any is_promise forms) rest

-- the text is a stream of these forms, whatever its fields mean
abbrev pub Spells : Bytes → List Form → Type 0
Spells text forms = (parts : List Part) × HasParts text parts × AreSpelled forms (words_of parts)
