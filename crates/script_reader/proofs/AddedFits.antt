-- An operation that a line of a script adds is such as one of a stream is.
use Rattle.std.proofs.Common.{◌≡◌, ℕ, Bool, true, false, cond, List, [], ◌∷◌, ◌++◌, Option, Some, None, Result, Ok, Err, refl, subst}
use Rattle.std.specs.List.{list_any}
use Rattle.std.specs.Prelude.{bytes_eq, codes, if◌then◌else◌}
use Rattle.plain_model.specs.declared.fault.Fault.{Fault}
use Rattle.plain_model.specs.declared.fault.Fault.TheVariants as fault
use Rattle.plain_model.specs.Paths.{Bytes}
use Rattle.plain_model.specs.declared.limit.TheConstants.{MAX_SAMPLE_COMMITS}
use Rattle.script_lines.specs.Answering.{◌>>=◌}
use Rattle.script_lines.specs.Names.{is_repo_name, repo_name}
use Rattle.script_lines.specs.Redirections.{redirected}
use Rattle.script_lines.specs.Scripts.{is_long, too_long}
use Rattle.script_lines.specs.Texts.{at_fault, or_at_fault, text_before, texts_in, whole_in}
use Rattle.script_lines.specs.Words.{after_head, head_of, words_of}
use Rattle.script_lines.specs.declared.redirection.Direction.TheVariants.{Input}
use Rattle.script_lines.specs.declared.word.Word.{Word}
use Rattle.script_reader.specs.Commands.{IsSpelledCommand, assign_form, authors_form, authors_from, choose_form, choose_of, divide_form, do_form, drop_form, drop_of, edit_form, ends_names, expunge_form, form_of, graft_form, land_form, last_name, names_form, order_after, order_in, order_of, plain_form, prune_within, read_form, read_of, renumber_form, sample_form, sample_start, says_read, show_form, steps, summary_form, unite_form, united_with, write_form}
use Rattle.script_reader.specs.Edits.{IsSpelledEdit, edit_word, needs_selection, said_of}
use Rattle.script_reader.specs.Forms.{alone, input_in, name_within, output_in}
use Rattle.script_reader.specs.Keywords.{keyword_of}
use Rattle.script_reader.specs.Numbers.{said_between}
use Rattle.script_reader.specs.Selecting.{front_of, is_superfluous}
use Rattle.script_reader.specs.declared.command.Command.{Command}
use Rattle.script_reader.specs.declared.command.Command.TheVariants as command
use Rattle.script_reader.specs.declared.command.FileEdit.TheVariants as by
use Rattle.script_reader.specs.declared.command.Listing.{Listing}
use Rattle.script_reader.specs.declared.command.Order.{Order}
use Rattle.script_reader.specs.declared.command.Order.TheVariants as order
use Rattle.script_reader.specs.declared.edit.Edit.{Edit}
use Rattle.script_reader.specs.declared.edit.EditWord.{EditWord}
use Rattle.script_reader.specs.declared.keyword.Keyword.{Keyword}
use Rattle.script_reader.specs.declared.keyword.Keyword.TheVariants as keyword
use Rattle.script_reader.specs.declared.keyword.PlainWord.{PlainWord}
use Rattle.script_reader.specs.declared.keyword.PlainWord.TheVariants as plain
use Rattle.script_reader.specs.declared.number.TheConstants.{MAX_START}
use Rattle.script_reader.proofs.Answered.{IfAnswered, bound, found, lone}
use Rattle.script_reader.proofs.SaidEdits.{said_fits}

-- ---- what is claimed of an edit, a command, an order

abbrev OrderFits : Order → Type 0
OrderFits (order.Step what) = IsSpelledCommand what
OrderFits (order.Do call) = Unit {0}

-- ---- edits

made_fits : (selection : Option Bytes) (said : Result Edit Fault) → IfAnswered IsSpelledEdit said → IfAnswered IsSpelledCommand (said >>= λ what. Ok (command.Edit selection what))
made_fits selection (Ok what) h = h
made_fits selection (Err why) h = tt

edit_fits : (word : EditWord) (selection : Option Bytes) (words : List Word) → IfAnswered IsSpelledCommand (edit_form word selection words)
edit_fits word (Some selection) words = made_fits (Some selection) (said_of word words) (said_fits word words)
edit_fits word None words = go (needs_selection word) (made_fits None (said_of word words) (said_fits word words))
  where
    go : (b : Bool) → IfAnswered IsSpelledCommand (said_of word words >>= λ what. Ok (command.Edit None what)) → IfAnswered IsSpelledCommand (cond b (Err (fault.BadWords (edit_word word))) (said_of word words >>= λ what. Ok (command.Edit None what)))
    go true h = tt
    go false h = h

-- ---- the other commands

file_fits : (b : Bool) (file name : Bytes) (what : Command) → is_repo_name name ≡ b → cond b (Some (command.Read file name)) None ≡ Some what → IsSpelledCommand what
file_fits true file name what fits is = let same : command.Read file name ≡ what = cc in subst IsSpelledCommand same fits
file_fits false file name what fits is = absurd cc

read_of_fits : (file : Option Bytes) (what : Command) → read_of file ≡ Some what → IsSpelledCommand what
read_of_fits None what is = absurd cc
read_of_fits (Some file) what is = file_fits (is_repo_name (repo_name file)) file (repo_name file) what refl is

read_fits : (words : List Word) → IfAnswered IsSpelledCommand (read_form words)
unfolding read_form
read_fits [] = tt
read_fits (word ∷ []) = found IsSpelledCommand word (read_of (redirected Input word)) (λ what is. read_of_fits (redirected Input word) what is)
read_fits (word ∷ next ∷ words) = tt

write_fits : (words : List Word) → IfAnswered IsSpelledCommand (write_form words)
unfolding write_form
write_fits words = bound IsSpelledCommand (output_in words) (λ to. Ok (command.Write to)) (λ to is. tt)

choose_fits : (words : List Word) → IfAnswered IsSpelledCommand (choose_form words)
unfolding choose_form
choose_fits words = bound IsSpelledCommand (name_within words) (λ name. Ok (choose_of name)) (λ name is. go name)
  where
    go : (name : Option Bytes) → IsSpelledCommand (choose_of name)
    go None = tt
    go (Some name) = tt

drop_fits : (words : List Word) → IfAnswered IsSpelledCommand (drop_form words)
unfolding drop_form
drop_fits words = bound IsSpelledCommand (name_within words) (λ name. Ok (drop_of name)) (λ name is. go name)
  where
    go : (name : Option Bytes) → IsSpelledCommand (drop_of name)
    go None = tt
    go (Some name) = tt

renumber_fits : (words : List Word) → IfAnswered IsSpelledCommand (renumber_form words)
unfolding renumber_form
renumber_fits words = lone IsSpelledCommand command.Renumber words tt

show_fits : (selection : Option Bytes) (what : Listing) (words : List Word) → IfAnswered IsSpelledCommand (show_form selection what words)
unfolding show_form
show_fits selection what words = bound IsSpelledCommand (output_in words) (λ to. Ok (command.Show selection what to)) (λ to is. tt)

assign_fits : (selection : Option Bytes) (words : List Word) → IfAnswered IsSpelledCommand (assign_form selection words)
assign_fits None words = tt
assign_fits (Some selection) words = bound IsSpelledCommand (last_name words) (λ name. Ok (command.Assign selection name)) (λ name is. tt)

names_fits : (words : List Word) → IfAnswered IsSpelledCommand (names_form words)
unfolding names_form
names_fits words = bound IsSpelledCommand (output_in words) (λ to. Ok (command.Names to)) (λ to is. tt)

summary_fits : (words : List Word) → IfAnswered IsSpelledCommand (summary_form words)
unfolding summary_form
summary_fits words = bound IsSpelledCommand (output_in words) (λ to. Ok (command.Summary to)) (λ to is. tt)

start_fits : (count : ℕ) (words : List Word) → IfAnswered IsSpelledCommand (sample_start count words)
start_fits count [] = tt
start_fits count (word ∷ words) =
    bound IsSpelledCommand (or_at_fault word (said_between 0 MAX_START (whole_in word))) (λ start. alone (command.Sample count start) words) (λ start is. lone IsSpelledCommand (command.Sample count start) words tt)

sample_fits : (words : List Word) → IfAnswered IsSpelledCommand (sample_form words)
unfolding sample_form
sample_fits [] = tt
sample_fits (word ∷ words) =
    bound IsSpelledCommand (or_at_fault word (said_between 1 MAX_SAMPLE_COMMITS (whole_in word))) (λ count. sample_start count words) (λ count is. start_fits count words)

expunge_fits : (words : List Word) → IfAnswered IsSpelledCommand (expunge_form words)
unfolding expunge_form
expunge_fits [] = tt
expunge_fits (word ∷ words) = bound IsSpelledCommand (texts_in (word ∷ words)) (λ texts. Ok (command.Expunge texts)) (λ texts is. tt)

land_fits : (words : List Word) → IfAnswered IsSpelledCommand (land_form words)
unfolding land_form
land_fits words = bound IsSpelledCommand (input_in (codes "msgin") words) (λ file. Ok (command.EditBy by.Messages file)) (λ file is. tt)

authors_fits : (words : List Word) → IfAnswered IsSpelledCommand (authors_form words)
unfolding authors_form
authors_fits [] = tt
authors_fits (word ∷ words) =
    go (says_read word) (bound IsSpelledCommand (input_in (codes "authors") words) (λ file. Ok (command.EditBy by.Authors file)) (λ file is. tt))
  where
    go : (b : Bool) → IfAnswered IsSpelledCommand (authors_from words) → IfAnswered IsSpelledCommand (cond b (authors_from words) (at_fault word))
    go true h = h
    go false h = tt

graft_fits : (selection : Option Bytes) (words : List Word) → IfAnswered IsSpelledCommand (graft_form selection words)
graft_fits None words = tt
graft_fits (Some selection) [] = tt
graft_fits (Some selection) (word ∷ words) =
    bound IsSpelledCommand (or_at_fault word (text_before words word)) (λ name. prune_within words >>= λ prune. Ok (command.Graft selection name prune))
    (λ name is. bound IsSpelledCommand (prune_within words) (λ prune. Ok (command.Graft selection name prune)) (λ prune is. tt))

united_fits : (names : List Bytes) (words : List Word) → IfAnswered IsSpelledCommand (united_with names words)
united_fits names [] = tt
united_fits names (word ∷ words) =
    bound IsSpelledCommand (or_at_fault word (text_before words word))
    (λ name. if ends_names words name then Ok (command.Unite names true) else if list_any (bytes_eq name) names then at_fault word else united_with (names ++ name ∷ []) words)
    (λ name is. go name (ends_names words name) (list_any (bytes_eq name) names) (united_fits (names ++ name ∷ []) words))
  where
    go : (name : Bytes) (ends again : Bool) → IfAnswered IsSpelledCommand (united_with (names ++ name ∷ []) words)
        → IfAnswered IsSpelledCommand (if ends then Ok (command.Unite names true) else if again then at_fault word else united_with (names ++ name ∷ []) words)
    go name true again h = tt
    go name false true h = tt
    go name false false h = h

unite_fits : (words : List Word) → IfAnswered IsSpelledCommand (unite_form words)
unfolding unite_form
unite_fits words = united_fits [] words

divide_fits : (selection : Option Bytes) (words : List Word) → IfAnswered IsSpelledCommand (divide_form selection words)
divide_fits None words = tt
divide_fits (Some selection) words = lone IsSpelledCommand (command.Divide selection) words tt

-- ---- lines

stepped : (r : Result Command Fault) → IfAnswered IsSpelledCommand r → IfAnswered OrderFits (steps r)
stepped (Ok what) h = h
stepped (Err why) h = tt

plain_fits : (word : PlainWord) (words : List Word) → IfAnswered IsSpelledCommand (plain_form word words)
plain_fits plain.Read words = read_fits words
plain_fits plain.Write words = write_fits words
plain_fits plain.Choose words = choose_fits words
plain_fits plain.Drop words = drop_fits words
plain_fits plain.Renumber words = renumber_fits words
plain_fits plain.Names words = names_fits words
plain_fits plain.Summary words = summary_fits words
plain_fits plain.Sample words = sample_fits words
plain_fits plain.Expunge words = expunge_fits words
plain_fits plain.Land words = land_fits words
plain_fits plain.Authors words = authors_fits words
plain_fits plain.Unite words = unite_fits words

form_fits : (selection : Option Bytes) (word : Keyword) (words : List Word) → IfAnswered OrderFits (form_of selection word words)
form_fits selection (keyword.Plain word) words = stepped (plain_form word words) (plain_fits word words)
form_fits selection (keyword.Show what) words = stepped (show_form selection what words) (show_fits selection what words)
form_fits selection (keyword.Edit word) words = stepped (edit_form word selection words) (edit_fits word selection words)
form_fits selection keyword.Assign words = stepped (assign_form selection words) (assign_fits selection words)
form_fits selection keyword.Graft words = stepped (graft_form selection words) (graft_fits selection words)
form_fits selection keyword.Divide words = stepped (divide_form selection words) (divide_fits selection words)
form_fits selection keyword.Do words = bound OrderFits (do_form selection words) (λ call. Ok (order.Do call)) (λ call is. tt)
form_fits selection keyword.Define words = tt

in_fits : (selection : Option Bytes) (head : Bytes) (word : Option Keyword) (words : List Word) → IfAnswered OrderFits (order_in selection head word words)
in_fits selection head None words = tt
in_fits selection head (Some word) words = go (is_superfluous selection word) (form_fits selection word words)
  where
    go : (b : Bool) → IfAnswered OrderFits (form_of selection word words) → IfAnswered OrderFits (cond b (Err (fault.BadWords head)) (form_of selection word words))
    go true h = tt
    go false h = h

line_fits : (line : Bytes) → IfAnswered OrderFits (order_of line)
unfolding order_of
line_fits line = go (is_long line)
  where
    go : (b : Bool) → IfAnswered OrderFits (cond b (Err too_long) (front_of line >>= order_after))
    go true = tt
    go false =
        bound OrderFits (front_of line) order_after
        (λ front is. in_fits front.selection (head_of front.rest) (keyword_of (head_of front.rest)) (words_of (after_head front.rest)))

-- the operation that a line adds
pub line_adds : (line : Bytes) (what : Command) → order_of line ≡ Ok (order.Step what) → IsSpelledCommand what
line_adds line what is = subst (IfAnswered OrderFits) is (line_fits line)
