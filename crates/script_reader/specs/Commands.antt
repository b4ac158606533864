-- What a line orders: a command, or that a macro is run. (reposurgeon manual, of each command word its section; what is at fault: own)
use Rattle.std.specs.Prelude.{ℕ, Bool, true, false, IsTrue, List, [], ◌∷◌, ◌++◌, Option, Some, None, Result, Ok, Err, bytes_eq, codes, if◌then◌else◌}
use Rattle.std.specs.List.{list_any}
use Rattle.std.specs.Option.{option_map_or}
use Rattle.plain_model.specs.Paths.{Bytes}
use Rattle.plain_model.specs.declared.fault.Fault.{Fault}
use Rattle.plain_model.specs.declared.fault.Fault.TheVariants as fault
use Rattle.plain_model.specs.declared.limit.TheConstants.{MAX_SAMPLE_COMMITS}
use Rattle.script_lines.specs.Answering.{◌>>=◌}
use Rattle.script_lines.specs.Names.{repo_name, is_given_name, is_repo_name}
use Rattle.script_lines.specs.Redirections.{redirected}
use Rattle.script_lines.specs.Scripts.{is_long, too_long}
use Rattle.script_lines.specs.Texts.{at_fault, or_at_fault, text_before, texts_in, whole_in}
use Rattle.script_lines.specs.Words.{head_of, after_head, words_of}
use Rattle.script_lines.specs.declared.redirection.Direction.TheVariants.{Input}
use Rattle.script_lines.specs.declared.word.Word.{Word}
use Rattle.script_reader.specs.Edits.{IsSpelledEdit, edit_word, needs_selection, said_of}
use Rattle.script_reader.specs.Forms.{alone, input_in, name_within, output_in}
use Rattle.script_reader.specs.Keywords.{keyword_of}
use Rattle.script_reader.specs.Numbers.{said_between}
use Rattle.script_reader.specs.Selecting.{Front, front_of, is_superfluous}
use Rattle.script_reader.specs.declared.command.Command.{Command}
use Rattle.script_reader.specs.declared.command.Command.TheVariants as command
use Rattle.script_reader.specs.declared.command.FileEdit.TheVariants as by
use Rattle.script_reader.specs.declared.command.Call.{Call}
use Rattle.script_reader.specs.declared.command.Listing.{Listing}
use Rattle.script_reader.specs.declared.command.Order.{Order}
use Rattle.script_reader.specs.declared.command.Order.TheVariants as order
use Rattle.script_reader.specs.declared.number.TheConstants.{MAX_START}
use Rattle.script_reader.specs.declared.edit.EditWord.{EditWord}
use Rattle.script_reader.specs.declared.keyword.Keyword.{Keyword}
use Rattle.script_reader.specs.declared.keyword.Keyword.TheVariants as keyword
use Rattle.script_reader.specs.declared.keyword.PlainWord.{PlainWord}
use Rattle.script_reader.specs.declared.keyword.PlainWord.TheVariants as plain

-- ---- the forms, one for each command word

-- a file with the name of its repository, if it gives one
abbrev pub read_of : Option Bytes → Option Command
read_of None = None
read_of (Some file) = if is_repo_name (repo_name file) then Some (command.Read file (repo_name file)) else None

-- `read <FILE`
unfoldable pub read_form : List Word → Result Command Fault
read_form [] = Err (fault.BadWords (codes "read"))
read_form (word ∷ []) = or_at_fault word (read_of (redirected Input word))
read_form (word ∷ next ∷ words) = at_fault word

-- `write [>FILE]`
unfoldable pub write_form : List Word → Result Command Fault
write_form words = output_in words >>= λ to. Ok (command.Write to)

-- `choose NAME`, or `choose` alone
abbrev pub choose_of : Option Bytes → Command
choose_of None = command.ShowRepos
choose_of (Some name) = command.Choose name

-- `choose [NAME]`
unfoldable pub choose_form : List Word → Result Command Fault
choose_form words = name_within words >>= λ name. Ok (choose_of name)

-- `drop NAME`, or `drop` alone
abbrev pub drop_of : Option Bytes → Command
drop_of None = command.DropChosen
drop_of (Some name) = command.Drop name

-- `drop [NAME]`
unfoldable pub drop_form : List Word → Result Command Fault
drop_form words = name_within words >>= λ name. Ok (drop_of name)

-- `renumber`
unfoldable pub renumber_form : List Word → Result Command Fault
renumber_form words = alone command.Renumber words

-- a text of some events: `[sel] list [>FILE]`, and so on
unfoldable pub show_form : Option Bytes → Listing → List Word → Result Command Fault
show_form selection what words = output_in words >>= λ to. Ok (command.Show selection what to)

-- a name that a script gives
abbrev pub if_given : Option Bytes → Option Bytes
if_given None = None
if_given (Some text) = if is_given_name text then Some text else None

-- NAME, the name of a selection
abbrev pub last_name : List Word → Result Bytes Fault
last_name [] = Err (fault.BadWords (codes "assign"))
last_name (word ∷ words) = or_at_fault word (if_given (whole_in word)) >>= λ name. alone name words

-- `sel assign NAME`
abbrev pub assign_form : Option Bytes → List Word → Result Command Fault
assign_form None words = Err (fault.BadWords (codes "assign"))
assign_form (Some selection) words = last_name words >>= λ name. Ok (command.Assign selection name)

-- `names [>FILE]`
unfoldable pub names_form : List Word → Result Command Fault
names_form words = output_in words >>= λ to. Ok (command.Names to)

-- `summary [>FILE]`
unfoldable pub summary_form : List Word → Result Command Fault
summary_form words = output_in words >>= λ to. Ok (command.Summary to)

-- `sample COUNT START`, after COUNT
abbrev pub sample_start : ℕ → List Word → Result Command Fault
sample_start count [] = Err (fault.BadWords (codes "sample"))
sample_start count (word ∷ words) =
    or_at_fault word (said_between 0 MAX_START (whole_in word)) >>= λ start. alone (command.Sample count start) words

-- `sample COUNT START`
unfoldable pub sample_form : List Word → Result Command Fault
sample_form [] = Err (fault.BadWords (codes "sample"))
sample_form (word ∷ words) = or_at_fault word (said_between 1 MAX_SAMPLE_COMMITS (whole_in word)) >>= λ count. sample_start count words

-- `expunge WORD [WORD ..]`
unfoldable pub expunge_form : List Word → Result Command Fault
expunge_form [] = Err (fault.BadWords (codes "expunge"))
expunge_form (word ∷ words) = texts_in (word ∷ words) >>= λ texts. Ok (command.Expunge texts)

-- `msgin <FILE`
unfoldable pub land_form : List Word → Result Command Fault
land_form words = input_in (codes "msgin") words >>= λ file. Ok (command.EditBy by.Messages file)

-- the word is `read`
abbrev pub says_read : Word → Bool
says_read word = option_map_or (λ text. bytes_eq text (codes "read")) (whole_in word) false

-- `authors read <FILE`, after `read`
abbrev pub authors_from : List Word → Result Command Fault
authors_from words = input_in (codes "authors") words >>= λ file. Ok (command.EditBy by.Authors file)

-- `authors read <FILE`
unfoldable pub authors_form : List Word → Result Command Fault
authors_form [] = Err (fault.BadWords (codes "authors"))
authors_form (word ∷ words) = if says_read word then authors_from words else at_fault word

-- `--prune`
abbrev pub is_prune : Bytes → Bool
is_prune text = bytes_eq text (codes "--prune")

-- a word is the option, or it doesn't fit
abbrev pub if_prune : Option Bytes → Option Bool
if_prune None = None
if_prune (Some text) = if is_prune text then Some true else None

-- `[--prune]`, as the last word
abbrev pub prune_within : List Word → Result Bool Fault
prune_within [] = Ok false
prune_within (word ∷ words) = or_at_fault word (if_prune (whole_in word)) >>= λ prune. alone prune words

-- `sel graft NAME [--prune]`
abbrev pub graft_form : Option Bytes → List Word → Result Command Fault
graft_form None words = Err (fault.BadWords (codes "graft"))
graft_form (Some selection) [] = Err (fault.BadWords (codes "graft"))
graft_form (Some selection) (word ∷ words) =
    or_at_fault word (text_before words word) >>= λ name. prune_within words >>= λ prune. Ok (command.Graft selection name prune)

-- the option as the last word, before such others
abbrev pub ends_names : List Word → Bytes → Bool
ends_names [] text = is_prune text
ends_names (next ∷ words) text = false

-- Names behind such others. The last word may be `--prune`, which is no name then; one that is there already is at fault.
abbrev pub united_with : List Bytes → List Word → Result Command Fault
united_with names [] = Ok (command.Unite names false)
united_with names (word ∷ words) =
    or_at_fault word (text_before words word) >>= λ name.
    if ends_names words name then Ok (command.Unite names true) else
    if list_any (bytes_eq name) names then at_fault word else united_with (names ++ name ∷ []) words

-- `unite [NAME ..] [--prune]`
unfoldable pub unite_form : List Word → Result Command Fault
unite_form words = united_with [] words

-- `sel divide`
abbrev pub divide_form : Option Bytes → List Word → Result Command Fault
divide_form None words = Err (fault.BadWords (codes "divide"))
divide_form (Some selection) words = alone (command.Divide selection) words

-- `[sel] do NAME [WORD ..]`
unfoldable pub do_form : Option Bytes → List Word → Result Call Fault
do_form selection [] = Err (fault.BadWords (codes "do"))
do_form selection (word ∷ words) =
    or_at_fault word (text_before words word) >>= λ name. texts_in words >>= λ texts.
    Ok (record { selection = selection; name = name; words = texts })

-- an edit of selected events, or of all where none has to be selected
abbrev pub edit_form : EditWord → Option Bytes → List Word → Result Command Fault
edit_form word None words = if needs_selection word then Err (fault.BadWords (edit_word word)) else (said_of word words >>= λ what. Ok (command.Edit None what))
edit_form word (Some selection) words = said_of word words >>= λ what. Ok (command.Edit (Some selection) what)

abbrev pub steps : Result Command Fault → Result Order Fault
steps command = command >>= λ what. Ok (order.Step what)

-- the command of a word that takes no selection
abbrev pub plain_form : PlainWord → List Word → Result Command Fault
plain_form plain.Read words = read_form words
plain_form plain.Write words = write_form words
plain_form plain.Choose words = choose_form words
plain_form plain.Drop words = drop_form words
plain_form plain.Renumber words = renumber_form words
plain_form plain.Names words = names_form words
plain_form plain.Summary words = summary_form words
plain_form plain.Sample words = sample_form words
plain_form plain.Expunge words = expunge_form words
plain_form plain.Land words = land_form words
plain_form plain.Authors words = authors_form words
plain_form plain.Unite words = unite_form words

-- the order of a command word with the selection before it and the words after it; a `define` that is run is no definition
abbrev pub form_of : Option Bytes → Keyword → List Word → Result Order Fault
form_of selection (keyword.Plain word) words = steps (plain_form word words)
form_of selection (keyword.Show what) words = steps (show_form selection what words)
form_of selection (keyword.Edit word) words = steps (edit_form word selection words)
form_of selection keyword.Assign words = steps (assign_form selection words)
form_of selection keyword.Graft words = steps (graft_form selection words)
form_of selection keyword.Divide words = steps (divide_form selection words)
form_of selection keyword.Do words = do_form selection words >>= λ call. Ok (order.Do call)
form_of selection keyword.Define words = Err (fault.BadWords (codes "define"))

-- ---- a line

-- the order of a command word, if it is one; a selection that it doesn't take is at fault before its words
abbrev pub order_in : Option Bytes → Bytes → Option Keyword → List Word → Result Order Fault
order_in selection head None words = Err (fault.UnknownCommand head)
order_in selection head (Some word) words =
    if is_superfluous selection word then Err (fault.BadWords head) else form_of selection word words

-- the order that is after a line's selection: its command word goes up to the first blank
abbrev pub order_after : Front → Result Order Fault
order_after front =
    order_in front.selection (head_of front.rest) (keyword_of (head_of front.rest)) (words_of (after_head front.rest))

-- the order of a line that was trimmed, if it isn't too long
unfoldable pub order_of : Bytes → Result Order Fault
order_of line = if is_long line then Err too_long else front_of line >>= order_after

-- ---- what is spelled

-- what a script can spell of a command: an operation that is added is spelled, and a file is read under a name that one can have
abbrev pub IsSpelledCommand : Command → Type 0
IsSpelledCommand (command.Read file name) = IsTrue (is_repo_name name)
IsSpelledCommand (command.Edit selection what) = IsSpelledEdit what
IsSpelledCommand other = Unit {0}
