-- Lists of a history's events, a line each (reposurgeon manual, `list`, `index`, `names`; the forms of the lines: own)
use Rattle.std.specs.Prelude.{ℕ, ◌-◌, ◌==◌, List, [], ◌∷◌, ◌++◌, length, replicate, flat_map, Option, Some, None, codes, decimal, if◌then◌else◌}
use Rattle.plain_model.specs.declared.id.AnyId.{AnyId}
use Rattle.plain_model.specs.declared.person.Signed.{Signed}
use Rattle.plain_model.specs.declared.event.PlainEvent.{PlainEvent}
use Rattle.plain_model.specs.declared.event.PlainEvent.TheVariants.{Blob, Commit, Tag, Reset, Pass}
use Rattle.plain_model.specs.Lookups.{find_event, number_of}
use Rattle.plain_model.specs.Paths.{Bytes}
use Rattle.plain_model.specs.Snapshots.{commit_mark, refs}
use Rattle.plain_model.specs.Text.{line, marked}
use Rattle.plain_model.specs.Trees.{TreeOf}
use Rattle.civil_dates.specs.Dates.{date_text}

-- ---- fields

-- an event's number, right in six places
abbrev pub number_text : ℕ → Bytes
number_text n = replicate (6 - length (decimal n)) 32 ++ decimal n

-- the bytes up to the first LF
abbrev pub first_line : Bytes → Bytes
first_line [] = []
first_line (b ∷ bs) = if b == 10 then [] else b ∷ first_line bs

-- when it was tagged, or `-`
abbrev pub tagged_text : Option Signed → Bytes
tagged_text (Some tagger) = date_text tagger.when.seconds
tagged_text None = codes "-"

-- the mark of the commit to which a branch is reset, or `-`
abbrev pub target_text : List PlainEvent → Option ℕ → Bytes
target_text whole (Some c) = marked (commit_mark whole c)
target_text whole None = codes "-"

-- ---- lines of single events, with their numbers

-- a commit with the date of its committer, or a tag; other events have no line
abbrev pub list_line : ℕ → PlainEvent → Bytes
list_line n (Commit id mark branch author committer encoding comment parents ops aliases) =
    line (number_text n ++ codes " " ++ date_text committer.when.seconds ++ codes " " ++ marked mark
    ++ codes " " ++ first_line comment)
list_line n (Tag id name target tagger comment mark) =
    line (number_text n ++ codes " " ++ tagged_text tagger ++ codes " " ++ name ++ codes " " ++ first_line comment)
list_line n (Blob id mark bytes) = []
list_line n (Reset id branch target) = []
list_line n (Pass id bytes) = []

-- an event's kind and what it is known by
abbrev pub index_words : List PlainEvent → PlainEvent → Bytes
index_words whole (Blob id mark bytes) = codes "blob " ++ marked mark
index_words whole (Commit id mark branch author committer encoding comment parents ops aliases) =
    codes "commit " ++ marked mark ++ codes " " ++ branch
index_words whole (Tag id name target tagger comment mark) = codes "tag " ++ marked (commit_mark whole target) ++ codes " " ++ name
index_words whole (Reset id branch target) = codes "reset " ++ target_text whole target ++ codes " " ++ branch
index_words whole (Pass id bytes) = codes "passthrough " ++ bytes

abbrev pub index_line : List PlainEvent → ℕ → PlainEvent → Bytes
index_line whole n e = line (number_text n ++ codes " " ++ index_words whole e)

-- a tag and the mark of its target; other events have no line
abbrev pub tag_line : List PlainEvent → PlainEvent → Bytes
tag_line whole (Tag id name target tagger comment mark) = line (codes "tag " ++ name ++ codes " " ++ marked (commit_mark whole target))
tag_line whole (Blob id mark bytes) = []
tag_line whole (Commit id mark branch author committer encoding comment parents ops aliases) = []
tag_line whole (Reset id branch target) = []
tag_line whole (Pass id bytes) = []

-- ---- lines of chosen events

abbrev pub line_of : (ℕ → PlainEvent → Bytes) → Option ℕ → Option PlainEvent → Bytes
line_of text (Some n) (Some e) = text n e
line_of text (Some n) None = []
line_of text None found = []

-- the lines of the events with these ids, in the order of the ids; an id that isn't there has none
abbrev pub lines_of : (ℕ → PlainEvent → Bytes) → List PlainEvent → List AnyId → Bytes
lines_of text events ids = flat_map (λ id. line_of text (number_of id events) (find_event id events)) ids

-- ---- the lists

unfoldable pub list_text : List PlainEvent → List AnyId → Bytes
list_text events ids = lines_of list_line events ids

unfoldable pub index_text : List PlainEvent → List AnyId → Bytes
index_text events ids = lines_of (index_line events) events ids

-- branches with the marks of the commits on which they are
abbrev pub branch_lines : List PlainEvent → TreeOf ℕ → Bytes
branch_lines events tips = flat_map (λ t. line (codes "branch " ++ t.0 ++ codes " " ++ marked (commit_mark events t.1))) tips

-- each branch that has a tip at the end, in byte order; then the tags in their order
unfoldable pub names_text : List PlainEvent → Bytes
names_text events = branch_lines events (refs events) ++ flat_map (tag_line events) events
