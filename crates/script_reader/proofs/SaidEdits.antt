-- What the words of each edit say.
use Rattle.std.proofs.Common.{◌≡◌, ℕ, ℤ, ◌≤◌, Bool, true, false, cond, List, [], ◌∷◌, map, codes, length, Option, Some, None, Ok, refl, ap, subst, ◌∙◌}
use Rattle.std.specs.Prelude.{◌==◌, ◌&&◌, ◌||◌, IfSome, IsTrue, option_and_then, option_map}
use Rattle.plain_model.specs.declared.raw.RawOp.{RawOp}
use Rattle.plain_model.specs.Numbers.{decimal_of}
use Rattle.plain_model.specs.Parts.{number_within}
use Rattle.plain_model.specs.Paths.{Bytes}
use Rattle.plain_model.specs.Policies.{delete_how}
use Rattle.plain_model.specs.declared.policy.Lean.{Lean}
use Rattle.plain_model.specs.declared.policy.Lean.TheVariants as lean
use Rattle.plain_model.specs.declared.policy.Push.{Push}
use Rattle.plain_model.specs.declared.policy.Push.TheVariants as push
use Rattle.field_laws.proofs.Numerals.{within_is}
use Rattle.event_fields.specs.Shifts.{IsShift, IsZone, PlainZone, shift_in, shift_text, zone_in, zone_text}
use Rattle.event_fields.specs.Values.{PlainValue, field_of, field_word, is_value, value_of}
use Rattle.event_fields.specs.declared.field.Field.{Field}
use Rattle.event_fields.specs.declared.field.Field.TheVariants as field
use Rattle.script_lines.specs.Answering.{◌>>=◌}
use Rattle.script_lines.specs.Texts.{at_fault, or_at_fault, text_before, whole_in}
use Rattle.script_lines.specs.declared.word.Word.{Word}
use Rattle.script_reader.specs.Cuts.{cut_of}
use Rattle.script_reader.specs.Edits.{CanBeSaid, IsSpelledEdit, add_words, added, asked_by, coalesce_words, cut_form, edit_texts, edit_word, moved_by, op_by, own_word, path_from, path_to, path_words, paths_by, paths_words, remove_words, removal_of, reparent_words, reparenting_by, said_of, says_rename, split_words, squash_words, word_of}
use Rattle.script_reader.specs.FieldWords.{setfield_words, timeoffset_words, value_within, zone_texts, zone_within}
use Rattle.script_reader.specs.Forms.{alone}
use Rattle.script_reader.specs.Keywords.{plain_word_of}
use Rattle.script_reader.specs.Numbers.{index_in, seconds_in}
use Rattle.script_reader.specs.Options.{IsSaidPolicy, how_texts, nothing_asked, policy_of, policy_texts, reparenting}
use Rattle.script_reader.specs.Spelled.{IsSpelled, op_texts, whole_op}
use Rattle.script_reader.specs.Ways.{way_of}
use Rattle.script_reader.specs.Written.{word_for}
use Rattle.script_reader.specs.declared.cut.Cut.{Cut}
use Rattle.script_reader.specs.declared.cut.Cut.TheVariants as cut
use Rattle.script_reader.specs.declared.edit.Edit.{Edit}
use Rattle.script_reader.specs.declared.edit.Edit.TheVariants as edit
use Rattle.script_reader.specs.declared.edit.EditWord.{EditWord}
use Rattle.script_reader.specs.declared.edit.EditWord.TheVariants as word
use Rattle.script_reader.specs.declared.number.TheConstants.{MAX_COALESCE_SECONDS, MAX_INDEX}
use Rattle.script_reader.specs.declared.spelled.SaidOp.TheVariants.{Nothing}
use Rattle.script_reader.specs.declared.way.Way.{Way}
use Rattle.script_reader.specs.declared.way.Way.TheVariants as way
use Rattle.script_reader.proofs.Answered.{IfAnswered, bound, lone}
use Rattle.script_reader.proofs.OpWords.{says_add, texts_say}
use Rattle.script_reader.proofs.SpelledFits.{spelled_fits}
use Rattle.script_reader.proofs.WrittenLines.{IsWordText}
use Rattle.script_reader.proofs.WrittenTexts.{index_again, name_again, seconds_again, shift_again, texts_again, whole_again, zone_again}

-- ---- command words

-- the word is read as it is written
pub word_again : (it : EditWord) → word_of (edit_word it) ≡ Some it
unfolding word_of
word_again word.Squash = refl
word_again word.Delete = refl
word_again word.Split = refl
word_again word.Reorder = refl
word_again word.Reparent = refl
word_again word.Merge = refl
word_again word.Unmerge = refl
word_again word.Add = refl
word_again word.Remove = refl
word_again word.Coalesce = refl
word_again word.Simplify = refl
word_again word.Path = refl
word_again word.Paths = refl
word_again word.TimeOffset = refl
word_again word.SetField = refl
word_again word.Tagify = refl

-- no word of an edit is one that takes no selection
pub no_plain_word : (it : EditWord) → plain_word_of (edit_word it) ≡ None
unfolding plain_word_of
no_plain_word word.Squash = refl
no_plain_word word.Delete = refl
no_plain_word word.Split = refl
no_plain_word word.Reorder = refl
no_plain_word word.Reparent = refl
no_plain_word word.Merge = refl
no_plain_word word.Unmerge = refl
no_plain_word word.Add = refl
no_plain_word word.Remove = refl
no_plain_word word.Coalesce = refl
no_plain_word word.Simplify = refl
no_plain_word word.Path = refl
no_plain_word word.Paths = refl
no_plain_word word.TimeOffset = refl
no_plain_word word.SetField = refl
no_plain_word word.Tagify = refl

-- each begins with a letter and has no blank
pub edit_word_text : (it : EditWord) → IsWordText (edit_word it)
edit_word_text word.Squash = refl
edit_word_text word.Delete = refl
edit_word_text word.Split = refl
edit_word_text word.Reorder = refl
edit_word_text word.Reparent = refl
edit_word_text word.Merge = refl
edit_word_text word.Unmerge = refl
edit_word_text word.Add = refl
edit_word_text word.Remove = refl
edit_word_text word.Coalesce = refl
edit_word_text word.Simplify = refl
edit_word_text word.Path = refl
edit_word_text word.Paths = refl
edit_word_text word.TimeOffset = refl
edit_word_text word.SetField = refl
edit_word_text word.Tagify = refl

-- ---- what is spelled

squash_fits : (words : List Word) → IfAnswered IsSpelledEdit (squash_words words)
unfolding squash_words
squash_fits words = bound IsSpelledEdit (asked_by nothing_asked words) (λ asked. Ok (edit.Squash (policy_of asked))) (λ asked is. tt)

cut_fits : (place : Cut) (words : List Word) → IfAnswered IsSpelledEdit (cut_form place words)
cut_fits place [] = tt
cut_fits cut.At (word ∷ words) =
    bound IsSpelledEdit (or_at_fault word (option_and_then index_in (whole_in word))) (λ number. alone (edit.SplitAt number) words)
    (λ number is. lone IsSpelledEdit (edit.SplitAt number) words tt)
cut_fits cut.By (word ∷ words) =
    bound IsSpelledEdit (or_at_fault word (text_before words word)) (λ path. alone (edit.SplitBy path) words)
    (λ path is. lone IsSpelledEdit (edit.SplitBy path) words tt)

split_fits : (words : List Word) → IfAnswered IsSpelledEdit (split_words words)
unfolding split_words
split_fits [] = tt
split_fits (word ∷ words) = bound IsSpelledEdit (or_at_fault word (option_and_then cut_of (whole_in word))) (λ place. cut_form place words)
    (λ place is. cut_fits place words)

reparent_fits : (words : List Word) → IfAnswered IsSpelledEdit (reparent_words words)
unfolding reparent_words
reparent_fits words = bound IsSpelledEdit (reparenting_by reparenting words) (λ how. Ok (edit.Reparent how)) (λ how is. tt)

add_fits : (words : List Word) → IfAnswered IsSpelledEdit (add_words words)
unfolding add_words
add_fits words = bound IsSpelledEdit (op_by Nothing words) (λ said. added (whole_op said)) (λ said is. go (whole_op said) (λ op e. spelled_fits words said op is e))
  where
    go : (o : Option RawOp) → ((op : RawOp) → o ≡ Some op → IsSpelled op) → IfAnswered IsSpelledEdit (added o)
    go (Some op) h = h op refl
    go None h = tt

remove_fits : (words : List Word) → IfAnswered IsSpelledEdit (remove_words words)
unfolding remove_words
remove_fits [] = tt
remove_fits (word ∷ words) = bound IsSpelledEdit (or_at_fault word (text_before words word)) (λ text. alone (removal_of text) words)
    (λ text is. lone IsSpelledEdit (removal_of text) words (go text (index_in text)))
  where
    go : (text : Bytes) (number : Option ℕ) → IsSpelledEdit (elim number [ Some n ↦ edit.RemoveAt n | None ↦ edit.RemoveBy text ])
    go text (Some n) = tt
    go text None = tt

coalesce_fits : (words : List Word) → IfAnswered IsSpelledEdit (coalesce_words words)
unfolding coalesce_words
coalesce_fits [] = tt
coalesce_fits (word ∷ words) =
    bound IsSpelledEdit (or_at_fault word (option_and_then seconds_in (whole_in word))) (λ seconds. alone (edit.Coalesce seconds) words)
    (λ seconds is. lone IsSpelledEdit (edit.Coalesce seconds) words tt)

to_fits : (source : Bytes) (words : List Word) → IfAnswered IsSpelledEdit (path_to source words)
to_fits source [] = tt
to_fits source (word ∷ words) =
    bound IsSpelledEdit (or_at_fault word (text_before words word)) (λ target. alone (edit.PathRename source target) words)
    (λ target is. lone IsSpelledEdit (edit.PathRename source target) words tt)

from_fits : (words : List Word) → IfAnswered IsSpelledEdit (path_from words)
from_fits [] = tt
from_fits (word ∷ words) = bound IsSpelledEdit (or_at_fault word (text_before words word)) (λ source. path_to source words) (λ source is. to_fits source words)

path_fits : (words : List Word) → IfAnswered IsSpelledEdit (path_words words)
unfolding path_words
path_fits [] = tt
path_fits (word ∷ words) = go (says_rename word) (from_fits words)
  where
    go : (b : Bool) → IfAnswered IsSpelledEdit (path_from words) → IfAnswered IsSpelledEdit (cond b (path_from words) (at_fault word))
    go true fits = fits
    go false fits = tt

moved_fits : (how : Way) (folder : Bytes) → IsSpelledEdit (moved_by how folder)
moved_fits way.Sub folder = tt
moved_fits way.Sup folder = tt

by_fits : (how : Way) (words : List Word) → IfAnswered IsSpelledEdit (paths_by how words)
by_fits how [] = tt
by_fits how (word ∷ words) =
    bound IsSpelledEdit (or_at_fault word (text_before words word)) (λ folder. alone (moved_by how folder) words)
    (λ folder is. lone IsSpelledEdit (moved_by how folder) words (moved_fits how folder))

paths_fits : (words : List Word) → IfAnswered IsSpelledEdit (paths_words words)
unfolding paths_words
paths_fits [] = tt
paths_fits (word ∷ words) = bound IsSpelledEdit (or_at_fault word (option_and_then way_of (whole_in word))) (λ how. paths_by how words)
    (λ how is. by_fits how words)

-- four digits, if they are said
abbrev IsZoneOrNone : Option PlainZone → Type 0
IsZoneOrNone zone = IfSome zone IsZone

-- what is read, where a word isn't at fault
answered : {A : Type 0} (word : Word) (o : Option A) (x : A) → or_at_fault word o ≡ Ok x → o ≡ Some x
answered word None x is = absurd cc
answered word (Some y) x is = cc

abbrev zone_with : Bool → ℕ → PlainZone
zone_with minus offset = record { minus = minus; offset = offset }

zone_in_is : (text : Bytes) (at : PlainZone) → zone_in text ≡ Some at → IsZone at
zone_in_is [] at is = absurd cc
zone_in_is (sign ∷ digits) at is = go ((sign == 43 || sign == 45) && (length digits == 4)) (number_within 9999 digits) refl is
  where
    go : (fits : Bool) (said : Option ℕ) → number_within 9999 digits ≡ said → cond fits (option_map (zone_with (sign == 45)) said) None ≡ Some at → IsZone at
    go false said e is = absurd cc
    go true None e is = absurd cc
    go true (Some n) e is = let same : zone_with (sign == 45) n ≡ at = cc in subst IsZone same (within_is 9999 digits n e).1

said_zone : (text : Option Bytes) (at : PlainZone) → option_and_then zone_in text ≡ Some at → IsZone at
said_zone None at is = absurd cc
said_zone (Some text) at is = zone_in_is text at is

zone_fits : (words : List Word) → IfAnswered IsZoneOrNone (zone_within words)
zone_fits [] = tt
zone_fits (word ∷ words) =
    let said = option_and_then zone_in (whole_in word) in
    bound IsZoneOrNone (or_at_fault word said) (λ at. alone (Some at) words) (λ at is. lone IsZoneOrNone (Some at) words (said_zone (whole_in word) at (answered word said at is)))

said_value : (field : Field) (text : Option Bytes) (value : PlainValue) → option_and_then (value_of field) text ≡ Some value → IsTrue (is_value value.field value.text)
said_value field None value is = absurd cc
said_value field (Some text) value is = go (is_value field text) refl is
  where
    value_there : PlainValue
    value_there = record { field = field; text = text }

    go : (fits : Bool) → is_value field text ≡ fits → cond fits (Some value_there) None ≡ Some value → IsTrue (is_value value.field value.text)
    go false e is = absurd cc
    go true e is = let same : value_there ≡ value = cc in subst (λ (value : PlainValue). IsTrue (is_value value.field value.text)) same e

offset_fits : (words : List Word) → IfAnswered IsSpelledEdit (timeoffset_words words)
unfolding timeoffset_words
offset_fits [] = tt
offset_fits (word ∷ words) =
    bound IsSpelledEdit (or_at_fault word (option_and_then shift_in (whole_in word))) (λ seconds. zone_within words >>= λ zone. Ok (edit.TimeOffset seconds zone))
    (λ seconds is. bound IsSpelledEdit (zone_within words) (λ zone. Ok (edit.TimeOffset seconds zone)) (λ zone is. subst (IfAnswered IsZoneOrNone) is (zone_fits words)))

value_fits : (field : Field) (words : List Word) → IfAnswered IsSpelledEdit (value_within field words)
value_fits field [] = tt
value_fits field (word ∷ words) =
    bound IsSpelledEdit (or_at_fault word (option_and_then (value_of field) (text_before words word))) (λ value. alone (edit.SetField value) words)
    (λ value is. lone IsSpelledEdit (edit.SetField value) words
    (said_value field (text_before words word) value (answered word (option_and_then (value_of field) (text_before words word)) value is)))

field_fits : (words : List Word) → IfAnswered IsSpelledEdit (setfield_words words)
unfolding setfield_words
field_fits [] = tt
field_fits (word ∷ words) = bound IsSpelledEdit (or_at_fault word (option_and_then field_of (whole_in word))) (λ field. value_within field words)
    (λ field is. value_fits field words)

-- what the words of an edit say is spelled
pub said_fits : (word : EditWord) (words : List Word) → IfAnswered IsSpelledEdit (said_of word words)
said_fits word.Squash words = squash_fits words
said_fits word.Delete words = lone IsSpelledEdit (edit.Squash delete_how) words tt
said_fits word.Split words = split_fits words
said_fits word.Reorder words = lone IsSpelledEdit edit.Reorder words tt
said_fits word.Reparent words = reparent_fits words
said_fits word.Merge words = lone IsSpelledEdit edit.Merge words tt
said_fits word.Unmerge words = lone IsSpelledEdit edit.Unmerge words tt
said_fits word.Add words = add_fits words
said_fits word.Remove words = remove_fits words
said_fits word.Coalesce words = coalesce_fits words
said_fits word.Simplify words = lone IsSpelledEdit edit.Simplify words tt
said_fits word.Path words = path_fits words
said_fits word.Paths words = paths_fits words
said_fits word.TimeOffset words = offset_fits words
said_fits word.SetField words = field_fits words
said_fits word.Tagify words = lone IsSpelledEdit edit.Tagify words tt

-- ---- edits as they are written

-- `delete` and `squash --delete`
pub delete_again : (it : Word) → whole_in it ≡ Some (codes "--delete") → said_of word.Squash (it ∷ []) ≡ said_of word.Delete []
unfolding squash_words
delete_again it h = rw h refl

squash_again : (push : Push) (tags : Lean) → IsSaidPolicy (record { push = push; tags = tags })
    → squash_words (map word_for (policy_texts (record { push = push; tags = tags })))
    ≡ Ok (edit.Squash (record { push = push; tags = tags }))
unfolding squash_words
squash_again push.Forward lean.Forward h = refl
squash_again push.Forward lean.Back h = refl
squash_again push.Back lean.Forward h = refl
squash_again push.Back lean.Back h = refl
squash_again push.Discard lean.Forward h = refl
squash_again push.Discard lean.Back h = let other : lean.Back ≡ lean.Forward = h refl in absurd cc

reparent_again : (use_order rebase : Bool) → reparent_words (map word_for (how_texts (record { use_order = use_order; rebase = rebase })))
    ≡ Ok (edit.Reparent (record { use_order = use_order; rebase = rebase }))
unfolding reparent_words
reparent_again true true = refl
reparent_again true false = refl
reparent_again false true = refl
reparent_again false false = refl

split_at_again : (number : ℕ) → number ≤ MAX_INDEX → split_words (map word_for (codes "at" ∷ decimal_of number ∷ [])) ≡ Ok (edit.SplitAt number)
unfolding split_words
split_at_again number h = rw (whole_again (decimal_of number), index_again number h) refl

split_by_again : (text : Bytes) → split_words (map word_for (codes "by" ∷ text ∷ [])) ≡ Ok (edit.SplitBy text)
unfolding split_words
split_by_again text = rw (name_again text) refl

remove_again : (text : Bytes) → remove_words (map word_for (text ∷ [])) ≡ Ok (removal_of text)
unfolding remove_words
remove_again text = rw (name_again text) refl

coalesce_again : (seconds : ℕ) → seconds ≤ MAX_COALESCE_SECONDS → coalesce_words (map word_for (decimal_of seconds ∷ [])) ≡ Ok (edit.Coalesce seconds)
unfolding coalesce_words
coalesce_again seconds h = rw (whole_again (decimal_of seconds), seconds_again seconds h) refl

path_again : (source target : Bytes) → path_words (map word_for (codes "rename" ∷ source ∷ target ∷ [])) ≡ Ok (edit.PathRename source target)
unfolding path_words
path_again source target = rw (whole_again source, name_again target) refl

sub_again : (folder : Bytes) → paths_words (map word_for (codes "sub" ∷ folder ∷ [])) ≡ Ok (edit.PathsSub folder)
unfolding paths_words
sub_again folder = rw (name_again folder) refl

sup_again : (folder : Bytes) → paths_words (map word_for (codes "sup" ∷ folder ∷ [])) ≡ Ok (edit.PathsSup folder)
unfolding paths_words
sup_again folder = rw (name_again folder) refl

offset_again : (seconds : ℤ) (zone : Option PlainZone) → IsShift seconds → IfSome zone IsZone
    → timeoffset_words (map word_for (shift_text seconds ∷ zone_texts zone)) ≡ Ok (edit.TimeOffset seconds zone)
unfolding timeoffset_words
offset_again seconds None h k = rw (whole_again (shift_text seconds), shift_again seconds h) refl
offset_again seconds (Some zone) h k = rw (whole_again (shift_text seconds), shift_again seconds h, whole_again (zone_text zone), zone_again zone k) refl

field_again : (field : Field) → field_of (field_word field) ≡ Some field
field_again field.Comment = refl
field_again field.Branch = refl
field_again field.Name = refl

value_again : (field : Field) (text : Bytes) → is_value field text ≡ true
    → setfield_words (map word_for (field_word field ∷ text ∷ [])) ≡ Ok (edit.SetField (record { field = field; text = text }))
unfolding setfield_words
value_again field text h = rw (whole_again (field_word field), field_again field, name_again text, h) refl

-- what removes an operation, by what its text says
removed : (text : Bytes) (number : Option ℕ) → index_in text ≡ number → removal_of text ≡ elim number [ Some n ↦ edit.RemoveAt n | None ↦ edit.RemoveBy text ]
removed text number is = ap (λ (number : Option ℕ). elim number [ Some n ↦ edit.RemoveAt n | None ↦ edit.RemoveBy text ]) is

-- an edit is read as it is written
pub edit_again : (what : Edit) → CanBeSaid what → said_of (own_word what) (map word_for (edit_texts what)) ≡ Ok what
edit_again (edit.Squash how) h = squash_again how.push how.tags h
edit_again (edit.SplitAt number) h = split_at_again number h
edit_again (edit.SplitBy text) h = split_by_again text
edit_again edit.Reorder h = refl
edit_again (edit.Reparent how) h = reparent_again how.use_order how.rebase
edit_again edit.Merge h = refl
edit_again edit.Unmerge h = refl
edit_again (edit.Add op) h = says_add (map word_for (op_texts op)) op (op_texts op, texts_again (op_texts op), texts_say op h)
edit_again (edit.RemoveAt number) h = remove_again (decimal_of number) ∙ ap (λ (it : Edit). Ok it) (removed (decimal_of number) (Some number) (index_again number h))
edit_again (edit.RemoveBy text) h = remove_again text ∙ ap (λ (it : Edit). Ok it) (removed text None h)
edit_again (edit.Coalesce seconds) h = coalesce_again seconds h
edit_again edit.Simplify h = refl
edit_again (edit.PathRename source target) h = path_again source target
edit_again (edit.PathsSub folder) h = sub_again folder
edit_again (edit.PathsSup folder) h = sup_again folder
edit_again (edit.TimeOffset seconds zone) (h, k) = offset_again seconds zone h k
edit_again (edit.SetField value) h = value_again value.field value.text h
edit_again edit.Tagify h = refl
