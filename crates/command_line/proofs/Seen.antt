-- The kinds of words of a command line.
use Rattle.std.proofs.Common.{◌≡◌, true, false, inl, inr, sym, codes}
use Rattle.std.specs.Cmp.Lexicographic.{same_text}
use Rattle.std.proofs.lemmas.Bool.{cases_Bool}
use Rattle.plain_model.specs.Paths.{Bytes}
use Rattle.history_machine.specs.Words.{is_dashes, is_flag, is_option}
use Rattle.command_line.specs.WordByWord.{Kind, kind_of}
use Rattle.command_line.specs.WordByWord.Kind.{Dashes, Flag, Fault, Name}

-- what is known of a word of each kind
pub data Seen (word : Bytes) : Kind → Type 0 where
  seen_dashes : word ≡ codes "--" → Seen word Dashes
  seen_flag : word ≡ codes "--keep-going" → Seen word Flag
  seen_fault : is_dashes word ≡ false → is_flag word ≡ false → is_option word ≡ true → Seen word Fault
  seen_name : is_dashes word ≡ false → is_option word ≡ false → Seen word Name

pub seen : (word : Bytes) → Seen word (kind_of word)
seen word =
    elim (cases_Bool (is_dashes word)) [
      | inl yes_it ↦ rw yes_it (seen_dashes (same_text word (codes "--") (sym yes_it)))
      | inr not_dashes ↦
          elim (cases_Bool (is_flag word)) [
            | inl yes_it ↦ rw (not_dashes, yes_it) (seen_flag (same_text word (codes "--keep-going") (sym yes_it)))
            | inr not_flag ↦
                elim (cases_Bool (is_option word)) [
                  | inl yes_it ↦ rw (not_dashes, not_flag, yes_it) (seen_fault not_dashes not_flag yes_it)
                  | inr no_it ↦ rw (not_dashes, not_flag, no_it) (seen_name not_dashes no_it)
                ]
          ]
    ]
