-- The command words. (reposurgeon manual)
use Rattle.std.specs.Prelude.{Option, Some, None, bytes_eq, codes, if◌then◌else◌}
use Rattle.plain_model.specs.Paths.{Bytes}
use Rattle.script_reader.specs.Edits.{edit_word, word_of}
use Rattle.script_reader.specs.declared.command.Listing.{Listing}
use Rattle.script_reader.specs.declared.command.Listing.TheVariants as listing
use Rattle.script_reader.specs.declared.edit.EditWord.{EditWord}
use Rattle.script_reader.specs.declared.keyword.Keyword.{Keyword}
use Rattle.script_reader.specs.declared.keyword.Keyword.TheVariants as keyword
use Rattle.script_reader.specs.declared.keyword.PlainWord.{PlainWord}
use Rattle.script_reader.specs.declared.keyword.PlainWord.TheVariants as plain

-- the command word without a selection that bytes are
unfoldable pub plain_word_of : Bytes → Option PlainWord
plain_word_of text =
    if bytes_eq text (codes "read") then Some plain.Read else
    if bytes_eq text (codes "write") then Some plain.Write else
    if bytes_eq text (codes "choose") then Some plain.Choose else
    if bytes_eq text (codes "drop") then Some plain.Drop else
    if bytes_eq text (codes "renumber") then Some plain.Renumber else
    if bytes_eq text (codes "names") then Some plain.Names else
    if bytes_eq text (codes "summary") then Some plain.Summary else
    if bytes_eq text (codes "sample") then Some plain.Sample else
    if bytes_eq text (codes "expunge") then Some plain.Expunge else
    if bytes_eq text (codes "msgin") then Some plain.Land else
    if bytes_eq text (codes "authors") then Some plain.Authors else
    if bytes_eq text (codes "unite") then Some plain.Unite else None

-- the command word of a text of events that bytes are
unfoldable pub listing_of : Bytes → Option Listing
listing_of text =
    if bytes_eq text (codes "list") then Some listing.List else
    if bytes_eq text (codes "index") then Some listing.Index else
    if bytes_eq text (codes "stamp") then Some listing.Stamp else
    if bytes_eq text (codes "resolve") then Some listing.Resolve else
    if bytes_eq text (codes "manifest") then Some listing.Manifest else
    if bytes_eq text (codes "msgout") then Some listing.Messages else None

-- each other command word
unfoldable pub other_of : Bytes → Option Keyword
other_of text =
    if bytes_eq text (codes "assign") then Some keyword.Assign else
    if bytes_eq text (codes "graft") then Some keyword.Graft else
    if bytes_eq text (codes "divide") then Some keyword.Divide else
    if bytes_eq text (codes "do") then Some keyword.Do else
    if bytes_eq text (codes "define") then Some keyword.Define else None

-- the first of these that is one
abbrev pub among : Option PlainWord → Option EditWord → Option Listing → Option Keyword → Option Keyword
among (Some word) edit what other = Some (keyword.Plain word)
among None (Some edit) what other = Some (keyword.Edit edit)
among None None (Some what) other = Some (keyword.Show what)
among None None None other = other

-- the command word that bytes are; case counts
abbrev pub keyword_of : Bytes → Option Keyword
keyword_of text = among (plain_word_of text) (word_of text) (listing_of text) (other_of text)

-- ---- the words as they are written

-- the command word of a text of events
abbrev pub listing_word : Listing → Bytes
listing_word listing.List = codes "list"
listing_word listing.Index = codes "index"
listing_word listing.Stamp = codes "stamp"
listing_word listing.Resolve = codes "resolve"
listing_word listing.Manifest = codes "manifest"
listing_word listing.Messages = codes "msgout"

-- a command word that takes no selection
abbrev pub plain_word : PlainWord → Bytes
plain_word plain.Read = codes "read"
plain_word plain.Write = codes "write"
plain_word plain.Choose = codes "choose"
plain_word plain.Drop = codes "drop"
plain_word plain.Renumber = codes "renumber"
plain_word plain.Names = codes "names"
plain_word plain.Summary = codes "summary"
plain_word plain.Sample = codes "sample"
plain_word plain.Expunge = codes "expunge"
plain_word plain.Land = codes "msgin"
plain_word plain.Authors = codes "authors"
plain_word plain.Unite = codes "unite"

-- each command word
abbrev pub command_word : Keyword → Bytes
command_word (keyword.Plain word) = plain_word word
command_word (keyword.Edit word) = edit_word word
command_word (keyword.Show what) = listing_word what
command_word keyword.Assign = codes "assign"
command_word keyword.Graft = codes "graft"
command_word keyword.Divide = codes "divide"
command_word keyword.Do = codes "do"
command_word keyword.Define = codes "define"
