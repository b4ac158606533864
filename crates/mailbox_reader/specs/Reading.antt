-- What is kept of header lines and bodies while they are read.
use Rattle.std.specs.Prelude.{◌≡◌, ℕ, ◌+◌, ◌≤◌, List, ◌++◌, length, take, drop, Option, Some, None, option_map, codes}
use Rattle.std.specs.Borrow.{Bor}
use Rattle.plain_model.specs.declared.fault.Fault.{Fault}
use Rattle.plain_model.specs.Paths.{Bytes}
use Rattle.mailbox_laws.specs.Boxes.{InBody, InHeaders, Rest, at_end, lines_in, rest_from}
use Rattle.mailbox_laws.specs.Headers.{or_else, value_if, value_in}
use Rattle.mailbox_laws.specs.Landing.{line_faults, lowest}
use Rattle.mailbox_reader.specs.Lower.{lower}
use Rattle.mailbox_reader.specs.declared.reading.Header.{Header}
use Rattle.mailbox_reader.specs.declared.reading.Said.{Said}

-- a value with the number of its line
abbrev pub value_of : Option Header → Option (ℕ × Bytes)
value_of h = option_map (λ h. (h.line, h.value.now)) h

-- What is said, with the lines to come, is what all lines say.
pub record Say (later all : List (ℕ × Bytes)) (s : Said) : Type 0 where
  pub mark : or_else (value_in (codes "Event-Mark") later) (value_of s.mark) ≡ value_in (codes "Event-Mark") all
  pub name : or_else (value_in (codes "Tag-Name") later) (value_of s.name) ≡ value_in (codes "Tag-Name") all
  pub author : or_else (value_in (codes "Author") later) (value_of s.author) ≡ value_in (codes "Author") all
  pub author_date : or_else (value_in (codes "Author-Date") later) (value_of s.author_date) ≡ value_in (codes "Author-Date") all
  pub committer : or_else (value_in (codes "Committer") later) (value_of s.committer) ≡ value_in (codes "Committer") all
  pub committer_date : or_else (value_in (codes "Committer-Date") later) (value_of s.committer_date) ≡ value_in (codes "Committer-Date") all
  pub tagger : or_else (value_in (codes "Tagger") later) (value_of s.tagger) ≡ value_in (codes "Tagger") all
  pub tagger_date : or_else (value_in (codes "Tagger-Date") later) (value_of s.tagger_date) ≡ value_in (codes "Tagger-Date") all
  pub check : or_else (value_in (codes "Check-Text") later) (value_of s.check) ≡ value_in (codes "Check-Text") all

-- a header of a line, where it has the name, before what was said
abbrev pub said_with : ℕ → Bytes × Bytes → Bytes → Option Header → Option (ℕ × Bytes)
said_with line h name old = or_else (option_map (λ v. (line, v)) (value_if name h)) (value_of old)

-- What is said with the header of a line.
pub record Noted (line : ℕ) (h : Bytes × Bytes) (old new : Said) : Type 0 where
  pub mark : value_of new.mark ≡ said_with line h (codes "Event-Mark") old.mark
  pub name : value_of new.name ≡ said_with line h (codes "Tag-Name") old.name
  pub author : value_of new.author ≡ said_with line h (codes "Author") old.author
  pub author_date : value_of new.author_date ≡ said_with line h (codes "Author-Date") old.author_date
  pub committer : value_of new.committer ≡ said_with line h (codes "Committer") old.committer
  pub committer_date : value_of new.committer_date ≡ said_with line h (codes "Committer-Date") old.committer_date
  pub tagger : value_of new.tagger ≡ said_with line h (codes "Tagger") old.tagger
  pub tagger_date : value_of new.tagger_date ≡ said_with line h (codes "Tagger-Date") old.tagger_date
  pub check : value_of new.check ≡ said_with line h (codes "Check-Text") old.check

-- what is after header lines: the empty line with the number and what follows it, or nothing
abbrev pub rest_after : ℕ → Option (Bor Bytes) → Rest
rest_after end None = at_end InHeaders
rest_after end (Some rest) = rest_from InBody (end + 1) (lines_in rest.now)

abbrev pub size_after : Option (Bor Bytes) → ℕ
size_after None = 0
size_after (Some rest) = 1 + length rest.now

-- Header lines are read up to some lines, with the number of the first of these: of which rest, and what is kept.
pub record Reads (lines : List Bytes) (next : ℕ) (all : Rest) (first : ℕ) (s : Said) (found : Option Fault) : Type 0 where
  pub says : Say (rest_from InHeaders next lines).headers all.headers s
  pub bad : lower found (lowest (line_faults (rest_from InHeaders next lines).headers)) ≡ lowest (line_faults all.headers)
  pub end : next + length (rest_from InHeaders next lines).headers ≡ first + length all.headers
  pub body : all.body ≡ (rest_from InHeaders next lines).body
  pub later : all.later ≡ (rest_from InHeaders next lines).later

-- So many lines of a body are read, of these lines.
pub record Goes (lines : List Bytes) (next count : ℕ) (whole : List Bytes) (first : ℕ) : Type 0 where
  pub left : drop count whole ≡ lines
  pub within : count ≤ length whole
  pub body : (rest_from InBody first whole).body ≡ option_map (λ ls. take count whole ++ ls) (rest_from InBody next lines).body
  pub later : (rest_from InBody first whole).later ≡ (rest_from InBody next lines).later
