-- An order that can be written is read as it is written.
use Rattle.std.proofs.Common.{◌≡◌, ℕ, ◌≤◌, Bool, true, false, cond, not, List, [], ◌∷◌, ◌++◌, map, codes, Option, Some, None, Result, Ok, Err, refl, ap, ◌∙◌, arith}
use Rattle.std.proofs.lemmas.Bool.{not-true}
use Rattle.plain_model.specs.Numbers.{decimal_of}
use Rattle.plain_model.specs.Paths.{Bytes}
use Rattle.plain_model.specs.declared.fault.Fault.{Fault}
use Rattle.plain_model.specs.declared.fault.Fault.TheVariants as fault
use Rattle.plain_model.specs.declared.limit.TheConstants.{MAX_SAMPLE_COMMITS}
use Rattle.selection_parser.specs.Reading.{IsRightAnswer, selection_at}
use Rattle.script_lines.specs.Answering.{◌>>=◌}
use Rattle.script_lines.specs.Names.{is_given_name, is_repo_name, repo_name}
use Rattle.script_lines.specs.Redirections.{is_target}
use Rattle.script_lines.specs.Scripts.{too_long}
use Rattle.script_lines.specs.Words.{words_of}
use Rattle.script_lines.specs.declared.word.Word.{Word}
use Rattle.script_reader.specs.Commands.{assign_form, authors_form, choose_form, do_form, drop_form, edit_form, expunge_form, form_of, graft_form, land_form, names_form, order_after, order_in, order_of, read_form, renumber_form, sample_form, show_form, steps, summary_form, unite_form, write_form}
use Rattle.script_reader.specs.Edits.{CanBeSaid, edit_texts, needs_selection, own_word}
use Rattle.script_reader.specs.Forms.{output_in}
use Rattle.script_reader.specs.Keywords.{command_word, keyword_of}
use Rattle.script_reader.specs.Selecting.{front_of, is_superfluous, takes_selection}
use Rattle.script_reader.specs.Written.{CanBeWritten, IsSayable, IsSayableOrder, IsTarget, Parts, command_parts, line_with, parts_of, prune_words, source_word, spaced, target_words, word_for}
use Rattle.script_reader.specs.declared.command.Call.{Call}
use Rattle.script_reader.specs.declared.command.Command.{Command}
use Rattle.script_reader.specs.declared.command.Command.TheVariants as command
use Rattle.script_reader.specs.declared.command.FileEdit.TheVariants as by
use Rattle.script_reader.specs.declared.command.Listing.{Listing}
use Rattle.script_reader.specs.declared.command.Listing.TheVariants as listing
use Rattle.script_reader.specs.declared.command.Order.{Order}
use Rattle.script_reader.specs.declared.command.Order.TheVariants as order
use Rattle.script_reader.specs.declared.edit.Edit.{Edit}
use Rattle.script_reader.specs.declared.keyword.Keyword.{Keyword}
use Rattle.script_reader.specs.declared.keyword.Keyword.TheVariants as keyword
use Rattle.script_reader.specs.declared.keyword.PlainWord.TheVariants as plain
use Rattle.script_reader.specs.declared.number.TheConstants.{MAX_START}
use Rattle.script_reader.proofs.SaidEdits.{edit_again, edit_word_text}
use Rattle.script_reader.proofs.UnitedNames.{prune_again, united_again, united_pruned_again}
use Rattle.script_reader.proofs.WordsAgain.{keyword_again}
use Rattle.script_reader.proofs.WrittenLines.{IsWordText, front_again, head_again, words_again}
use Rattle.script_reader.proofs.WrittenTexts.{before_again, name_again, number_again, texts_again, whole_again}

-- ---- the forms

output_again : (to : Option Bytes) → IsTarget to → output_in (target_words to) ≡ Ok to
output_again None h = refl
output_again (Some file) h = rw h refl

read_again : (file : Bytes) → is_target file ≡ true → is_repo_name (repo_name file) ≡ true
    → read_form (source_word file ∷ []) ≡ Ok (command.Read file (repo_name file))
unfolding read_form
read_again file h k = rw (h, k) refl

write_again : (to : Option Bytes) → IsTarget to → write_form (target_words to) ≡ Ok (command.Write to)
unfolding write_form
write_again to h = rw (output_again to h) refl

land_again : (file : Bytes) → is_target file ≡ true → land_form (source_word file ∷ []) ≡ Ok (command.EditBy by.Messages file)
unfolding land_form
land_again file h = rw h refl

authors_again : (file : Bytes) → is_target file ≡ true → authors_form (word_for (codes "read") ∷ source_word file ∷ []) ≡ Ok (command.EditBy by.Authors file)
unfolding authors_form
authors_again file h = rw h refl

names_again : (to : Option Bytes) → IsTarget to → names_form (target_words to) ≡ Ok (command.Names to)
unfolding names_form
names_again to h = rw (output_again to h) refl

summary_again : (to : Option Bytes) → IsTarget to → summary_form (target_words to) ≡ Ok (command.Summary to)
unfolding summary_form
summary_again to h = rw (output_again to h) refl

show_again : (selection : Option Bytes) (what : Listing) (to : Option Bytes) → IsTarget to
    → show_form selection what (target_words to) ≡ Ok (command.Show selection what to)
unfolding show_form
show_again selection what to h = rw (output_again to h) refl

choose_again : (name : Bytes) → choose_form (word_for name ∷ []) ≡ Ok (command.Choose name)
unfolding choose_form
choose_again name = rw (name_again name) refl

choose_alone : choose_form [] ≡ Ok command.ShowRepos
unfolding choose_form
choose_alone = refl

drop_again : (name : Bytes) → drop_form (word_for name ∷ []) ≡ Ok (command.Drop name)
unfolding drop_form
drop_again name = rw (name_again name) refl

drop_alone : drop_form [] ≡ Ok command.DropChosen
unfolding drop_form
drop_alone = refl

renumber_again : renumber_form [] ≡ Ok command.Renumber
unfolding renumber_form
renumber_again = refl

assign_again : (selection name : Bytes) → is_given_name name ≡ true → assign_form (Some selection) (word_for name ∷ []) ≡ Ok (command.Assign selection name)
assign_again selection name h = rw (whole_again name, h) refl

expunge_again : (text : Bytes) (texts : List Bytes) → expunge_form (map word_for (text ∷ texts)) ≡ Ok (command.Expunge (text ∷ texts))
unfolding expunge_form
expunge_again text texts = rw (texts_again (text ∷ texts)) refl

sample_again : (count start : ℕ) → 1 ≤ count → count ≤ MAX_SAMPLE_COMMITS → start ≤ MAX_START
    → sample_form (word_for (decimal_of count) ∷ word_for (decimal_of start) ∷ []) ≡ Ok (command.Sample count start)
unfolding sample_form
sample_again count start some many most =
    rw (
      whole_again (decimal_of count),
      number_again 1 MAX_SAMPLE_COMMITS count some many,
      whole_again (decimal_of start),
      number_again 0 MAX_START start (omega arith) most,
    ) refl

edit_of_all : (what : Edit) → not (needs_selection (own_word what)) ≡ true → CanBeSaid what
    → edit_form (own_word what) None (map word_for (edit_texts what)) ≡ Ok (command.Edit None what)
edit_of_all what h k = rw (not-true (needs_selection (own_word what)) h, edit_again what k) refl

edit_of_some : (selection : Bytes) (what : Edit) → CanBeSaid what
    → edit_form (own_word what) (Some selection) (map word_for (edit_texts what)) ≡ Ok (command.Edit (Some selection) what)
edit_of_some selection what k = rw (edit_again what k) refl

graft_again : (selection name : Bytes) (prune : Bool) → graft_form (Some selection) (word_for name ∷ prune_words prune) ≡ Ok (command.Graft selection name prune)
graft_again selection name prune = rw (before_again (prune_words prune) name, prune_again prune) refl

unite_again : (names : List Bytes) (prune : Bool) → IsSayable (command.Unite names prune) → unite_form (map word_for names ++ prune_words prune) ≡ Ok (command.Unite names prune)
unfolding unite_form
unite_again names true apart = united_pruned_again names apart
unite_again names false (apart, ends) = united_again names apart ends

do_again : (call : Call) → do_form call.selection (word_for call.name ∷ map word_for call.words) ≡ Ok call
unfolding do_form
do_again call = rw (before_again (map word_for call.words) call.name, texts_again call.words) refl

-- ---- an order, by its parts

abbrev read_by : Parts → Result Order Fault
read_by parts = form_of parts.selection parts.word parts.words

command_again : (what : Command) → IsSayable what → read_by (command_parts what) ≡ Ok (order.Step what)
command_again (command.Read file name) (h, same, k) =
    ap steps (read_again file h (ap is_repo_name same ∙ k)) ∙ ap (λ (name : Bytes). Ok (order.Step (command.Read file name))) same
command_again (command.Write to) h = ap steps (write_again to h)
command_again (command.Choose name) h = ap steps (choose_again name)
command_again command.ShowRepos h = ap steps choose_alone
command_again (command.Drop name) h = ap steps (drop_again name)
command_again command.DropChosen h = ap steps drop_alone
command_again command.Renumber h = ap steps renumber_again
command_again (command.Show selection what to) h = ap steps (show_again selection what to h)
command_again (command.Assign selection name) h = ap steps (assign_again selection name h)
command_again (command.Edit None what) (h, k) = ap steps (edit_of_all what h k)
command_again (command.Edit (Some selection) what) (may, h) = ap steps (edit_of_some selection what h)
command_again (command.Expunge []) h = absurd h
command_again (command.Expunge (text ∷ texts)) h = ap steps (expunge_again text texts)
command_again (command.EditBy by.Messages file) h = ap steps (land_again file h)
command_again (command.EditBy by.Authors file) h = ap steps (authors_again file h)
command_again (command.Names to) h = ap steps (names_again to h)
command_again (command.Summary to) h = ap steps (summary_again to h)
command_again (command.Graft selection name prune) h = ap steps (graft_again selection name prune)
command_again (command.Unite names prune) h = ap steps (unite_again names prune h)
command_again (command.Divide selection) h = refl
command_again (command.Sample count start) (some, many, most) = ap steps (sample_again count start some many most)

parts_again : (what : Order) → IsSayableOrder what → read_by (parts_of what) ≡ Ok what
parts_again (order.Step what) h = command_again what h
parts_again (order.Do call) h = ap (λ (r : Result Call Fault). r >>= λ call. Ok (order.Do call)) (do_again call)

-- a command word that takes a selection has none that it doesn't take
taken : (selection : Option Bytes) (word : Keyword) → takes_selection word ≡ true → is_superfluous selection word ≡ false
taken None word h = refl
taken (Some selection) word h = ap (λ b. cond b false true) h

not_superfluous : (what : Order) → IsSayableOrder what → is_superfluous (parts_of what).selection (parts_of what).word ≡ false
not_superfluous (order.Do call) h = taken call.selection keyword.Do refl
not_superfluous (order.Step (command.Show selection what to)) h = taken selection (keyword.Show what) refl
not_superfluous (order.Step (command.Assign selection name)) h = refl
not_superfluous (order.Step (command.Edit None what)) h = refl
not_superfluous (order.Step (command.Edit (Some selection) what)) (may, h) = taken (Some selection) (keyword.Edit (own_word what)) may
not_superfluous (order.Step (command.Read file name)) h = refl
not_superfluous (order.Step (command.Write to)) h = refl
not_superfluous (order.Step (command.Choose name)) h = refl
not_superfluous (order.Step command.ShowRepos) h = refl
not_superfluous (order.Step (command.Drop name)) h = refl
not_superfluous (order.Step command.DropChosen) h = refl
not_superfluous (order.Step command.Renumber) h = refl
not_superfluous (order.Step (command.Expunge texts)) h = refl
not_superfluous (order.Step (command.EditBy by.Messages file)) h = refl
not_superfluous (order.Step (command.EditBy by.Authors file)) h = refl
not_superfluous (order.Step (command.Names to)) h = refl
not_superfluous (order.Step (command.Summary to)) h = refl
not_superfluous (order.Step (command.Sample count start)) h = refl
not_superfluous (order.Step (command.Graft selection name prune)) h = refl
not_superfluous (order.Step (command.Unite names prune)) h = refl
not_superfluous (order.Step (command.Divide selection)) h = refl

-- ---- a line

word_text : (word : Keyword) → IsWordText (command_word word)
word_text (keyword.Plain plain.Read) = refl
word_text (keyword.Plain plain.Write) = refl
word_text (keyword.Plain plain.Choose) = refl
word_text (keyword.Plain plain.Drop) = refl
word_text (keyword.Plain plain.Renumber) = refl
word_text (keyword.Plain plain.Names) = refl
word_text (keyword.Plain plain.Summary) = refl
word_text (keyword.Plain plain.Sample) = refl
word_text (keyword.Plain plain.Expunge) = refl
word_text (keyword.Plain plain.Land) = refl
word_text (keyword.Plain plain.Authors) = refl
word_text (keyword.Plain plain.Unite) = refl
word_text (keyword.Edit word) = edit_word_text word
word_text (keyword.Show listing.List) = refl
word_text (keyword.Show listing.Index) = refl
word_text (keyword.Show listing.Stamp) = refl
word_text (keyword.Show listing.Resolve) = refl
word_text (keyword.Show listing.Manifest) = refl
word_text (keyword.Show listing.Messages) = refl
word_text keyword.Assign = refl
word_text keyword.Graft = refl
word_text keyword.Divide = refl
word_text keyword.Do = refl
word_text keyword.Define = refl

-- what is after the selection of a line is read as the parts of which it is made
after_again : (parts : Parts) → is_superfluous parts.selection parts.word ≡ false → (words : List Word) → words_of (spaced parts.words) ≡ words
    → order_after (record { selection = parts.selection; rest = command_word parts.word ++ spaced parts.words }) ≡ form_of parts.selection parts.word words
after_again parts taken words are =
    let cut = head_again (command_word parts.word) parts.words (word_text parts.word) in
    (λ i. order_in parts.selection (cut.0 i) (keyword_of (cut.0 i)) (words_of (cut.1 i)))
    ∙ (λ i. order_in parts.selection (command_word parts.word) (keyword_again parts.word i) (are i))
    ∙ ap (λ (b : Bool). cond b (Err (fault.BadWords (command_word parts.word))) (form_of parts.selection parts.word words)) taken

pub order_again : ((text : Bytes) → IsRightAnswer text (selection_at text)) → (what : Order) → CanBeWritten what → order_of (line_with (parts_of what)) ≡ Ok what
unfolding order_of
order_again right what can =
    let parts = parts_of what in
    ap (λ (b : Bool). cond b (Err too_long) (front_of (line_with parts) >>= order_after)) can.short
    ∙ ap (λ r. r >>= order_after) (front_again right parts.selection (command_word parts.word) (spaced parts.words) can.selected (word_text parts.word))
    ∙ after_again parts (not_superfluous what can.said) parts.words (words_again parts.words can.whole)
    ∙ parts_again what can.said
