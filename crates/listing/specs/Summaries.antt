-- A history in one line: the numbers of chosen events, and how many events there are of each kind (reposurgeon manual,
-- `resolve`; the forms of the lines: own)
use Rattle.std.specs.Prelude.{ℕ, Bool, true, false, List, [], ◌∷◌, ◌++◌, length, flat_map, option_to_list, codes, decimal}
use Rattle.std.specs.List.{count_by}
use Rattle.plain_model.specs.declared.id.AnyId.{AnyId}
use Rattle.plain_model.specs.declared.event.PlainEvent.{PlainEvent}
use Rattle.plain_model.specs.declared.event.PlainEvent.TheVariants.{Blob, Tag, Reset, Pass}
use Rattle.plain_model.specs.Lookups.{number_of}
use Rattle.plain_model.specs.Paths.{Bytes}
use Rattle.plain_model.specs.Text.{line}
use Rattle.history_laws.specs.Finding.{is_commit}

-- ---- the numbers of chosen events

-- the numbers of the events with these ids, in the order of the ids; an id that isn't there has none
abbrev pub numbers_of : List PlainEvent → List AnyId → List ℕ
numbers_of events ids = flat_map (λ id. option_to_list (number_of id events)) ids

-- numbers with one space between two
abbrev pub spaced : List ℕ → Bytes
spaced [] = []
spaced (n ∷ ns) = decimal n ++ flat_map (λ m. codes " " ++ decimal m) ns

unfoldable pub resolve_text : List PlainEvent → List AnyId → Bytes
resolve_text events ids = line (spaced (numbers_of events ids))

-- ---- events of each kind

abbrev pub is_blob : PlainEvent → Bool
is_blob (Blob id mark bytes) = true
is_blob other = false

abbrev pub is_tag : PlainEvent → Bool
is_tag (Tag id name target tagger comment mark) = true
is_tag other = false

abbrev pub is_reset : PlainEvent → Bool
is_reset (Reset id branch target) = true
is_reset other = false

abbrev pub is_pass : PlainEvent → Bool
is_pass (Pass id bytes) = true
is_pass other = false

-- so many blobs, commits, tags, resets and passed lines
abbrev pub kinds_text : ℕ → ℕ → ℕ → ℕ → ℕ → Bytes
kinds_text blobs commits tags resets passes =
    decimal blobs ++ codes " blobs, " ++ decimal commits ++ codes " commits, " ++ decimal tags ++ codes " tags, "
    ++ decimal resets ++ codes " resets, " ++ decimal passes ++ codes " passthroughs"

unfoldable pub summary_text : Bytes → List PlainEvent → Bytes
summary_text name events =
    line (name ++ codes ": " ++ decimal (length events) ++ codes " events, "
    ++ kinds_text (count_by is_blob events) (count_by is_commit events) (count_by is_tag events)
    (count_by is_reset events) (count_by is_pass events))
