-- Edits of the chosen history: the command word of each, whether a selection has to be before it, and what the words after it say. (reposurgeon
-- manual, of each command word its section; what is at fault: own)
use Rattle.std.specs.Prelude.{◌≡◌, ◌≤◌, Bool, true, false, IfSome, IsTrue, List, [], ◌∷◌, Option, Some, None, option_and_then, Result, Ok, Err, bytes_eq, codes, if◌then◌else◌}
use Rattle.std.specs.Option.{option_map_or}
use Rattle.plain_model.specs.Numbers.{decimal_of}
use Rattle.plain_model.specs.Paths.{Bytes}
use Rattle.plain_model.specs.Policies.{delete_how}
use Rattle.plain_model.specs.declared.fault.Fault.{Fault}
use Rattle.plain_model.specs.declared.fault.Fault.TheVariants as fault
use Rattle.plain_model.specs.declared.raw.RawOp.{RawOp}
use Rattle.event_fields.specs.Shifts.{IsShift, IsZone, shift_text}
use Rattle.event_fields.specs.Values.{field_word, is_value}
use Rattle.script_lines.specs.Answering.{◌>>=◌}
use Rattle.script_lines.specs.Texts.{at_fault, or_at_fault, text_before, whole_in}
use Rattle.script_lines.specs.declared.word.Word.{Word}
use Rattle.script_reader.specs.Cuts.{cut_of}
use Rattle.script_reader.specs.FieldWords.{setfield_words, timeoffset_words, zone_texts}
use Rattle.script_reader.specs.Forms.{alone}
use Rattle.script_reader.specs.Numbers.{index_in, seconds_in}
use Rattle.script_reader.specs.Options.{IsSaidPolicy, asked_more, how_texts, nothing_asked, policy_of, policy_texts, reparenting, reparenting_more, squash_option}
use Rattle.script_reader.specs.Spelled.{IsSpelled, op_more, op_texts, whole_op}
use Rattle.script_reader.specs.Ways.{way_of}
use Rattle.script_reader.specs.declared.cut.Cut.{Cut}
use Rattle.script_reader.specs.declared.cut.Cut.TheVariants as cut
use Rattle.script_reader.specs.declared.edit.Edit.{Edit}
use Rattle.script_reader.specs.declared.edit.Edit.TheVariants as edit
use Rattle.script_reader.specs.declared.edit.EditWord.{EditWord}
use Rattle.script_reader.specs.declared.edit.EditWord.TheVariants as word
use Rattle.script_reader.specs.declared.number.TheConstants.{MAX_COALESCE_SECONDS, MAX_INDEX, USUAL_SECONDS}
use Rattle.script_reader.specs.declared.options.Asked.{Asked}
use Rattle.script_reader.specs.declared.options.Reparenting.{Reparenting}
use Rattle.script_reader.specs.declared.options.SquashOption.{SquashOption}
use Rattle.script_reader.specs.declared.spelled.SaidOp.{SaidOp}
use Rattle.script_reader.specs.declared.spelled.SaidOp.TheVariants.{Nothing}
use Rattle.script_reader.specs.declared.way.Way.{Way}
use Rattle.script_reader.specs.declared.way.Way.TheVariants as way

-- ---- the command words

-- the command word of an edit that bytes are
unfoldable pub word_of : Bytes → Option EditWord
word_of text =
    if bytes_eq text (codes "squash") then Some word.Squash else
    if bytes_eq text (codes "delete") then Some word.Delete else
    if bytes_eq text (codes "split") then Some word.Split else
    if bytes_eq text (codes "reorder") then Some word.Reorder else
    if bytes_eq text (codes "reparent") then Some word.Reparent else
    if bytes_eq text (codes "merge") then Some word.Merge else
    if bytes_eq text (codes "unmerge") then Some word.Unmerge else
    if bytes_eq text (codes "add") then Some word.Add else
    if bytes_eq text (codes "remove") then Some word.Remove else
    if bytes_eq text (codes "coalesce") then Some word.Coalesce else
    if bytes_eq text (codes "simplify") then Some word.Simplify else
    if bytes_eq text (codes "path") then Some word.Path else
    if bytes_eq text (codes "paths") then Some word.Paths else
    if bytes_eq text (codes "timeoffset") then Some word.TimeOffset else
    if bytes_eq text (codes "setfield") then Some word.SetField else
    if bytes_eq text (codes "tagify") then Some word.Tagify else None

-- the same as it is written
abbrev pub edit_word : EditWord → Bytes
edit_word word.Squash = codes "squash"
edit_word word.Delete = codes "delete"
edit_word word.Split = codes "split"
edit_word word.Reorder = codes "reorder"
edit_word word.Reparent = codes "reparent"
edit_word word.Merge = codes "merge"
edit_word word.Unmerge = codes "unmerge"
edit_word word.Add = codes "add"
edit_word word.Remove = codes "remove"
edit_word word.Coalesce = codes "coalesce"
edit_word word.Simplify = codes "simplify"
edit_word word.Path = codes "path"
edit_word word.Paths = codes "paths"
edit_word word.TimeOffset = codes "timeoffset"
edit_word word.SetField = codes "setfield"
edit_word word.Tagify = codes "tagify"

-- a selection has to be before it
abbrev pub needs_selection : EditWord → Bool
needs_selection word.Squash = true
needs_selection word.Delete = true
needs_selection word.Split = true
needs_selection word.Reorder = true
needs_selection word.Reparent = true
needs_selection word.Merge = true
needs_selection word.Unmerge = true
needs_selection word.Add = true
needs_selection word.Remove = true
needs_selection word.Coalesce = false
needs_selection word.Simplify = false
needs_selection word.Path = false
needs_selection word.Paths = false
needs_selection word.TimeOffset = true
needs_selection word.SetField = true
needs_selection word.Tagify = false

-- a selection may be before it
abbrev pub may_select : EditWord → Bool
may_select word.Path = false
may_select word.Paths = false
may_select other = true

-- ---- the words after them

-- the option of `squash` that a word is
abbrev pub option_in : Word → Option SquashOption
option_in word = option_and_then squash_option (whole_in word)

-- what the options ask for that follow some
abbrev pub asked_by : Asked → List Word → Result Asked Fault
asked_by asked [] = Ok asked
asked_by asked (word ∷ words) =
    or_at_fault word (option_and_then (asked_more asked) (option_in word)) >>= λ more. asked_by more words

-- `squash [--pushforward | --pushback | --delete] [--tagforward | --tagback]`
unfoldable pub squash_words : List Word → Result Edit Fault
squash_words words = asked_by nothing_asked words >>= λ asked. Ok (edit.Squash (policy_of asked))

-- what is after `at`, or after `by`
abbrev pub cut_form : Cut → List Word → Result Edit Fault
cut_form place [] = Err (fault.BadWords (codes "split"))
cut_form cut.At (word ∷ words) = or_at_fault word (option_and_then index_in (whole_in word)) >>= λ number. alone (edit.SplitAt number) words
cut_form cut.By (word ∷ words) = or_at_fault word (text_before words word) >>= λ path. alone (edit.SplitBy path) words

-- `split at NUMBER`, `split by PATH`
unfoldable pub split_words : List Word → Result Edit Fault
split_words [] = Err (fault.BadWords (codes "split"))
split_words (word ∷ words) = or_at_fault word (option_and_then cut_of (whole_in word)) >>= λ cut. cut_form cut words

-- what the options of `reparent` say that follow some
abbrev pub reparenting_by : Reparenting → List Word → Result Reparenting Fault
reparenting_by how [] = Ok how
reparenting_by how (word ∷ words) =
    or_at_fault word (option_and_then (reparenting_more how) (whole_in word)) >>= λ more. reparenting_by more words

-- `reparent [--use-order] [--rebase]`
unfoldable pub reparent_words : List Word → Result Edit Fault
reparent_words words = reparenting_by reparenting words >>= λ how. Ok (edit.Reparent how)

-- what the words of an operation say that follow some
abbrev pub op_by : SaidOp → List Word → Result SaidOp Fault
op_by said [] = Ok said
op_by said (word ∷ words) = or_at_fault word (option_and_then (op_more said) (text_before words word)) >>= λ more. op_by more words

-- the operation that is added, if no word is missing
abbrev pub added : Option RawOp → Result Edit Fault
added None = Err (fault.BadWords (codes "add"))
added (Some op) = Ok (edit.Add op)

-- `add OPERATION`
unfoldable pub add_words : List Word → Result Edit Fault
add_words words = op_by Nothing words >>= λ said. added (whole_op said)

-- digits are the number of an operation, and all else is a path
abbrev pub removal_of : Bytes → Edit
removal_of text = elim (index_in text) [ Some number ↦ edit.RemoveAt number | None ↦ edit.RemoveBy text ]

-- `remove NUMBER`, `remove PATH`
unfoldable pub remove_words : List Word → Result Edit Fault
remove_words [] = Err (fault.BadWords (codes "remove"))
remove_words (word ∷ words) = or_at_fault word (text_before words word) >>= λ text. alone (removal_of text) words

-- `coalesce [SECONDS]`
unfoldable pub coalesce_words : List Word → Result Edit Fault
coalesce_words [] = Ok (edit.Coalesce USUAL_SECONDS)
coalesce_words (word ∷ words) = or_at_fault word (option_and_then seconds_in (whole_in word)) >>= λ seconds. alone (edit.Coalesce seconds) words

-- the word is `rename`
abbrev pub says_rename : Word → Bool
says_rename word = option_map_or (λ name. bytes_eq name (codes "rename")) (whole_in word) false

-- `path rename SOURCE TARGET`, after SOURCE
abbrev pub path_to : Bytes → List Word → Result Edit Fault
path_to source [] = Err (fault.BadWords (codes "path"))
path_to source (word ∷ words) = or_at_fault word (text_before words word) >>= λ target. alone (edit.PathRename source target) words

-- the same after `rename`
abbrev pub path_from : List Word → Result Edit Fault
path_from [] = Err (fault.BadWords (codes "path"))
path_from (word ∷ words) = or_at_fault word (text_before words word) >>= λ source. path_to source words

-- `path rename SOURCE TARGET`
unfoldable pub path_words : List Word → Result Edit Fault
path_words [] = Err (fault.BadWords (codes "path"))
path_words (word ∷ words) = if says_rename word then path_from words else at_fault word

-- to below a folder, or out of it
abbrev pub moved_by : Way → Bytes → Edit
moved_by way.Sub folder = edit.PathsSub folder
moved_by way.Sup folder = edit.PathsSup folder

-- what is after `sub`, or after `sup`
abbrev pub paths_by : Way → List Word → Result Edit Fault
paths_by how [] = Err (fault.BadWords (codes "paths"))
paths_by how (word ∷ words) = or_at_fault word (text_before words word) >>= λ folder. alone (moved_by how folder) words

-- `paths sub DIR`, `paths sup DIR`
unfoldable pub paths_words : List Word → Result Edit Fault
paths_words [] = Err (fault.BadWords (codes "paths"))
paths_words (word ∷ words) = or_at_fault word (option_and_then way_of (whole_in word)) >>= λ how. paths_by how words

-- the edit that the words after its command word say
abbrev pub said_of : EditWord → List Word → Result Edit Fault
said_of word.Squash words = squash_words words
said_of word.Delete words = alone (edit.Squash delete_how) words
said_of word.Split words = split_words words
said_of word.Reorder words = alone edit.Reorder words
said_of word.Reparent words = reparent_words words
said_of word.Merge words = alone edit.Merge words
said_of word.Unmerge words = alone edit.Unmerge words
said_of word.Add words = add_words words
said_of word.Remove words = remove_words words
said_of word.Coalesce words = coalesce_words words
said_of word.Simplify words = alone edit.Simplify words
said_of word.Path words = path_words words
said_of word.Paths words = paths_words words
said_of word.TimeOffset words = timeoffset_words words
said_of word.SetField words = setfield_words words
said_of word.Tagify words = alone edit.Tagify words

-- ---- what is spelled

-- an operation that an edit adds is spelled, a zone has four digits, and a text may be the value of its field
abbrev pub IsSpelledEdit : Edit → Type 0
IsSpelledEdit (edit.Squash how) = Unit {0}
IsSpelledEdit (edit.SplitAt number) = Unit {0}
IsSpelledEdit (edit.SplitBy text) = Unit {0}
IsSpelledEdit edit.Reorder = Unit {0}
IsSpelledEdit (edit.Reparent how) = Unit {0}
IsSpelledEdit edit.Merge = Unit {0}
IsSpelledEdit edit.Unmerge = Unit {0}
IsSpelledEdit (edit.Add op) = IsSpelled op
IsSpelledEdit (edit.RemoveAt number) = Unit {0}
IsSpelledEdit (edit.RemoveBy text) = Unit {0}
IsSpelledEdit (edit.Coalesce seconds) = Unit {0}
IsSpelledEdit edit.Simplify = Unit {0}
IsSpelledEdit (edit.PathRename source target) = Unit {0}
IsSpelledEdit (edit.PathsSub folder) = Unit {0}
IsSpelledEdit (edit.PathsSup folder) = Unit {0}
IsSpelledEdit (edit.TimeOffset seconds zone) = IfSome zone IsZone
IsSpelledEdit (edit.SetField value) = IsTrue (is_value value.field value.text)
IsSpelledEdit edit.Tagify = Unit {0}

-- ---- edits as they are written

-- the command word of an edit
abbrev pub own_word : Edit → EditWord
own_word (edit.Squash how) = word.Squash
own_word (edit.SplitAt number) = word.Split
own_word (edit.SplitBy text) = word.Split
own_word edit.Reorder = word.Reorder
own_word (edit.Reparent how) = word.Reparent
own_word edit.Merge = word.Merge
own_word edit.Unmerge = word.Unmerge
own_word (edit.Add op) = word.Add
own_word (edit.RemoveAt number) = word.Remove
own_word (edit.RemoveBy text) = word.Remove
own_word (edit.Coalesce seconds) = word.Coalesce
own_word edit.Simplify = word.Simplify
own_word (edit.PathRename source target) = word.Path
own_word (edit.PathsSub folder) = word.Paths
own_word (edit.PathsSup folder) = word.Paths
own_word (edit.TimeOffset seconds place) = word.TimeOffset
own_word (edit.SetField value) = word.SetField
own_word edit.Tagify = word.Tagify

-- the texts after it
abbrev pub edit_texts : Edit → List Bytes
edit_texts (edit.Squash how) = policy_texts how
edit_texts (edit.SplitAt number) = codes "at" ∷ decimal_of number ∷ []
edit_texts (edit.SplitBy text) = codes "by" ∷ text ∷ []
edit_texts edit.Reorder = []
edit_texts (edit.Reparent how) = how_texts how
edit_texts edit.Merge = []
edit_texts edit.Unmerge = []
edit_texts (edit.Add op) = op_texts op
edit_texts (edit.RemoveAt number) = decimal_of number ∷ []
edit_texts (edit.RemoveBy text) = text ∷ []
edit_texts (edit.Coalesce seconds) = decimal_of seconds ∷ []
edit_texts edit.Simplify = []
edit_texts (edit.PathRename source target) = codes "rename" ∷ source ∷ target ∷ []
edit_texts (edit.PathsSub folder) = codes "sub" ∷ folder ∷ []
edit_texts (edit.PathsSup folder) = codes "sup" ∷ folder ∷ []
edit_texts (edit.TimeOffset seconds zone) = shift_text seconds ∷ zone_texts zone
edit_texts (edit.SetField value) = field_word value.field ∷ value.text ∷ []
edit_texts edit.Tagify = []

-- texts can say it: numbers are within bounds, what is removed by its path isn't a number, and a text may be the value of its field
abbrev pub CanBeSaid : Edit → Type 0
CanBeSaid (edit.Squash how) = IsSaidPolicy how
CanBeSaid (edit.SplitAt number) = number ≤ MAX_INDEX
CanBeSaid (edit.SplitBy text) = Unit {0}
CanBeSaid edit.Reorder = Unit {0}
CanBeSaid (edit.Reparent how) = Unit {0}
CanBeSaid edit.Merge = Unit {0}
CanBeSaid edit.Unmerge = Unit {0}
CanBeSaid (edit.Add op) = IsSpelled op
CanBeSaid (edit.RemoveAt number) = number ≤ MAX_INDEX
CanBeSaid (edit.RemoveBy text) = index_in text ≡ None
CanBeSaid (edit.Coalesce seconds) = seconds ≤ MAX_COALESCE_SECONDS
CanBeSaid edit.Simplify = Unit {0}
CanBeSaid (edit.PathRename source target) = Unit {0}
CanBeSaid (edit.PathsSub folder) = Unit {0}
CanBeSaid (edit.PathsSup folder) = Unit {0}
CanBeSaid (edit.TimeOffset seconds zone) = IsShift seconds × IfSome zone IsZone
CanBeSaid (edit.SetField value) = IsTrue (is_value value.field value.text)
CanBeSaid edit.Tagify = Unit {0}
