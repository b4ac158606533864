-- The box that is written of chosen events: a message for each commit and each tag (reposurgeon manual, `msgout`; the form: own).
use Rattle.std.specs.Prelude.{ℕ, List, [], ◌∷◌, ◌++◌, map, flat_map, length, take, nat_lt, Option, Some, None, codes, decimal, if◌then◌else◌}
use Rattle.plain_model.specs.declared.id.AnyId.{AnyId}
use Rattle.plain_model.specs.declared.person.Person.{Person}
use Rattle.plain_model.specs.declared.person.Signed.{Signed}
use Rattle.plain_model.specs.declared.person.When.{When}
use Rattle.plain_model.specs.declared.event.PlainEvent.{PlainEvent}
use Rattle.plain_model.specs.declared.event.PlainEvent.TheVariants.{Blob, Commit, Tag, Reset, Pass}
use Rattle.plain_model.specs.Paths.{Bytes}
use Rattle.plain_model.specs.Snapshots.{commit_mark}
use Rattle.plain_model.specs.Text.{line, marked, zone}
use Rattle.event_arena.specs.declared.field.Role.{Role}
use Rattle.event_arena.specs.declared.field.Role.TheVariants.{Author, Committer, Tagger}
use Rattle.listing.specs.Listings.{first_line, lines_of}
use Rattle.mailbox_laws.specs.Boxes.{lines_in, quoted, rule}

-- ---- fields

-- a name and a space, if there is a name, and an email
abbrev pub identity_text : Person → Bytes
identity_text who = who.name ++ (if nat_lt 0 (length who.name) then codes " " else []) ++ codes "<" ++ who.email ++ codes ">"

-- seconds, a sign and four digits
abbrev pub moment_text : When → Bytes
moment_text at = decimal at.seconds ++ codes " " ++ (if at.minus then codes "-" else codes "+") ++ zone at.offset

-- the beginning of the first line of a comment, by which its event is checked
abbrev pub check_text : Bytes → Bytes
check_text comment = take 64 (first_line comment)

-- marks with one space between two
abbrev pub marks_text : List ℕ → Bytes
marks_text [] = []
marks_text (m ∷ ms) = marked m ++ flat_map (λ n. codes " " ++ marked n) ms

-- ---- headers

-- a name and a value
abbrev pub Header : Type 0
Header = Bytes × Bytes

abbrev pub header_text : Header → Bytes
header_text h = h.0 ++ codes ": " ++ h.1

-- the header that says who did something
abbrev pub role_name : Role → Bytes
role_name Author = codes "Author"
role_name Committer = codes "Committer"
role_name Tagger = codes "Tagger"

-- the header that says when
abbrev pub date_name : Role → Bytes
date_name Author = codes "Author-Date"
date_name Committer = codes "Committer-Date"
date_name Tagger = codes "Tagger-Date"

-- who did something, and when
abbrev pub signed_headers : Role → Signed → List Header
signed_headers role who = (role_name role, identity_text who.person) ∷ (date_name role, moment_text who.when) ∷ []

abbrev pub tagger_headers : Option Signed → List Header
tagger_headers None = []
tagger_headers (Some who) = signed_headers Tagger who

abbrev pub parents_headers : List PlainEvent → List ℕ → List Header
parents_headers whole [] = []
parents_headers whole (p ∷ ps) = (codes "Parents", marks_text (map (commit_mark whole) (p ∷ ps))) ∷ []

abbrev pub encoding_headers : Option Bytes → List Header
encoding_headers None = []
encoding_headers (Some encoding) = (codes "Encoding", encoding) ∷ []

abbrev pub check_headers : Bytes → List Header
check_headers comment = (codes "Check-Text", check_text comment) ∷ []

-- ---- messages

-- what is written of an event: headers and a comment
pub record Letter : Type 0 where
  pub headers : List Header
  pub comment : Bytes

-- of the commit with the number
abbrev pub commit_letter : List PlainEvent → ℕ → ℕ → Bytes → Signed → Signed → Option Bytes → Bytes → List ℕ → Letter
commit_letter whole n mark branch author committer encoding comment parents = record {
  headers = (codes "Event-Number", decimal n) ∷ (codes "Event-Mark", marked mark) ∷ (codes "Branch", branch) ∷ []
      ++ parents_headers whole parents ++ signed_headers Author author ++ signed_headers Committer committer
      ++ encoding_headers encoding ++ check_headers comment;
  comment = comment;
}

-- of the tag with the number
abbrev pub tag_letter : List PlainEvent → ℕ → Bytes → ℕ → Option Signed → Bytes → Letter
tag_letter whole n name target tagger comment = record {
  headers = (codes "Event-Number", decimal n) ∷ (codes "Tag-Name", name) ∷ (codes "Target", marked (commit_mark whole target)) ∷ []
      ++ tagger_headers tagger ++ check_headers comment;
  comment = comment;
}

-- of an event: nothing but of commits and tags
abbrev pub letters : List PlainEvent → ℕ → PlainEvent → List Letter
letters whole n (Commit id mark branch author committer encoding comment parents ops aliases) =
    commit_letter whole n mark branch author committer encoding comment parents ∷ []
letters whole n (Tag id name target tagger comment mark) = tag_letter whole n name target tagger comment ∷ []
letters whole n (Blob id mark bytes) = []
letters whole n (Reset id branch target) = []
letters whole n (Pass id bytes) = []

-- the body: the comment and one LF
abbrev pub body_text : Bytes → Bytes
body_text comment = flat_map (λ l. line (quoted l)) (lines_in (line comment))

-- a line of hyphens, the headers, an empty line, the body
abbrev pub letter_text : Letter → Bytes
letter_text l = line rule ++ flat_map (λ h. line (header_text h)) l.headers ++ line [] ++ body_text l.comment

abbrev pub message_text : List PlainEvent → ℕ → PlainEvent → Bytes
message_text whole n e = flat_map letter_text (letters whole n e)

-- the messages of the events with these ids, in the order of the ids; an id that isn't there has none
unfoldable pub box_of : List PlainEvent → List AnyId → Bytes
box_of events ids = lines_of (message_text events) events ids
